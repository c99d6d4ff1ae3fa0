-- What a change of the tree's structure holds when it has come to the key's path, whichever pages it took beside it.
use Rattle.std.specs.List.{All}
use Rattle.std.specs.Prelude.{◌==◌, ◌||◌, ◌↔◌}
use Rattle.std.proofs.Common.{◌≡◌, inl, inr, ℕ, suc, ◌+◌, ◌<◌, ◌≤◌, Bool, true, false, List, [], ◌∷◌, length, map, refl, sym, ap, subst, ◌∙◌, arith, eq-eqb}
use Rattle.std.proofs.lemmas.Bool.{cases_lt}
use Rattle.std.proofs.lemmas.List.{length-map}
use Rattle.std.proofs.lemmas.List.Elements.{All-nil, All-cons}
use Rattle.ib_map.specs.Keys.{MapKey}
use Rattle.ib_map.specs.Space.{has_pages}
use Rattle.ib_levels.specs.declared.level.Level.TheVariants.{TreeNode}
use Rattle.ib_levels.specs.declared.level.Mode.TheVariants.{X}
use Rattle.ib_layout.specs.Geometry.{Sizes}
use Rattle.ib_page.specs.Work.{WorkPage}
use Rattle.ib_logrec.specs.Log.{memory_after, by_place}
use Rattle.ib_walk.specs.Pages.{Free, PageMemory, Tree}
use Rattle.ib_walk.specs.Trees.{height_of}
use Rattle.ib_walk.specs.Words.{bits_of}
use Rattle.ib_plans.specs.Agreement.{Agrees, IsThere, last_of, memory_in}
use Rattle.ib_split.proofs.OnPathLaws.{path-length}
use Rattle.ib_tree.specs.PageLists.{is_listed}
use Rattle.ib_tree.specs.TreeLog.{opening}
use Rattle.ib_planned_log.specs.Kept.{IsKeptLog}
use Rattle.ib_planned_log.specs.LeafChange.{kept_pages}
use Rattle.ib_rule.specs.Pass.{PassState}
use Rattle.ib_rule.specs.Views.{is_watched}
use Rattle.ib_cursor.specs.Claims.{HasClaimed, IsAsRead, claim_grant}
use Rattle.ib_cursor.specs.Grants.{HasGrants, page_grant}
use Rattle.ib_cursor.specs.Shapes.{is_claimed}
use Rattle.ib_cursor.specs.Takings.{IsHeldPage, is_loaded}
use Rattle.ib_cursor.proofs.EndLaws.{loaded_some}
use Rattle.ib_cursor.proofs.LogLaws.{bit_inside}
use Rattle.ib_cursor.proofs.TakeLaws.{all-both}
use Rattle.ib_index.specs.Grows.{IsGrowing, HoldsPath, held_grant, pages_held, tree_pages}
use Rattle.ib_index.proofs.AgreeLaws.{agrees-now}
use Rattle.ib_index.proofs.HeldLaws.{IsPageOfTree, each-among, held-last, held-trees}
use Rattle.ib_mtr.proofs.Lists.{or_true}

pub bools-same : (a b : Bool) → ((a ≡ true) ↔ (b ≡ true)) → a ≡ b
bools-same true b h = sym (h.0 refl)
bools-same false true h = h.1 refl
bools-same false false h = refl

pub loaded-each : (P : ℕ → Type 0) (ws : List WorkPage) → ((n : ℕ) → is_loaded n ws ≡ true → P n) → All (λ w. P w.page) ws
loaded-each P [] f = All-nil (λ w. P w.page)
loaded-each P (w ∷ ws) f =
    All-cons (λ w. P w.page) w ws (f w.page (ap (λ b. b || is_loaded w.page ws) (eq-eqb w.page w.page refl)))
    (loaded-each P ws (λ n there. f n (or_true (w.page == n) (is_loaded n ws) there)))

pub grants-same : (held : List ℕ) → map (λ page. page_grant page X) held ≡ map held_grant (tree_pages held)
grants-same [] = refl
grants-same (x ∷ xs) = ap (λ gs. page_grant x X ∷ gs) (grants-same xs)

pub pages-same : (held : List ℕ) → pages_held (tree_pages held) ≡ held
pages-same [] = refl
pages-same (x ∷ xs) = ap (λ ns. x ∷ ns) (pages-same xs)

module _ (sizes : Sizes) (fits : has_pages sizes.pages ≡ true) (key : MapKey) (path held : List ℕ) (p q : PassState)
    (c : HasClaimed sizes (IsKeptLog sizes.pages) (by_place opening sizes.pages) 1 key path held p q) (claims : is_claimed q.view.memory.since ≡ true) where
  abbrev start : ℕ → ℕ
  start = by_place opening sizes.pages

  abbrev m : PageMemory
  m = kept_pages sizes.pages q.view.memory.seen

  abbrev pub path_bits : ℕ → ℕ
  path_bits = bits_of sizes.pages (memory_after start q.view.memory.seen)

  loaded-is : (n : ℕ) → is_loaded n q.work ≡ is_listed held n
  loaded-is n = bools-same (is_loaded n q.work) (is_listed held n) ((λ l. (c.there n).0 ((loaded_some n q.work).1 l)), (λ a. (loaded_some n q.work).0 ((c.there n).1 a)))

  pub standing : HoldsPath sizes key path q
  standing = record {
    claimed = claims;
    read = all-both (IsAsRead start q.view.memory.seen) (λ w. is_watched (w.page + 2) q.view.memory.since ≡ true) (IsHeldPage start q) q.work (λ w a b. record { read = a; watched = b }) c.read
        (loaded-each (λ n. is_watched (n + 2) q.view.memory.since ≡ true) q.work (λ n there. each-among (λ n. is_watched (n + 2) q.view.memory.since ≡ true) held n c.watched (sym (loaded-is n) ∙ there)));
    on_path = c.on_path;
    known = c.known;
  }

  pub agreed : Agrees sizes.pages 1 1 key path q.work m path_bits
  agreed = agrees-now sizes fits key path q standing

  pub path-low : height_of m 1 ≤ 7
  path-low = (agreed.lawful.trees 1 (omega arith) (omega arith)).1

  pub path-long : length path ≡ suc (height_of m 1)
  path-long = path-length sizes.pages 1 1 key path q.work m path_bits agreed

  -- a page of the trees is one of the space
  inside : (n : ℕ) → (m n).kind ≡ Tree → n < sizes.pages
  inside n kind = elim (cases_lt 0 (path_bits n)) [
    | inl some ↦ bit_inside sizes.pages (memory_after start q.view.memory.seen) n some
    | inr none ↦ absurd (let bad : Tree ≡ Free = sym kind ∙ agreed.lawful.unmet n (omega (arith, none)) in cc)
  ]

  module _ (ways : (n : ℕ) → is_listed path n ≡ true → is_listed held n ≡ true) (each : (n : ℕ) → is_listed held n ≡ true → IsPageOfTree m n) where
    -- what is held is there, as it is in the tree
    pub held-there : (n : ℕ) → is_listed held n ≡ true → IsThere q.work n
    held-there n among = (c.there n).1 among

    pub held-kinds : (n : ℕ) → IsThere q.work n → (memory_in q.work n).kind ≡ Tree
    held-kinds n there = let k = each n ((c.there n).0 there) in ap (λ s. s.kind) (agreed.same n k.1 there) ∙ k.0

    pub growing : IsGrowing sizes key path (tree_pages held) q
    growing = record {
      at = standing;
      grants = subst (λ gs. HasGrants (claim_grant ∷ gs) q) (grants-same held) c.grants;
      loaded = λ n. loaded-is n ∙ ap (λ ns. is_listed ns n) (sym (pages-same held));
      count = c.count ∙ sym (length-map held (λ page. (page, TreeNode)));
      within = loaded-each (λ n. n < sizes.pages) q.work (λ n there. inside n (each n (sym (loaded-is n) ∙ there)).0);
      trees = held-trees sizes.pages 1 1 key path q.work m path_bits agreed held ways held-there;
      leaf = held-there (last_of path) (held-last sizes.pages 1 1 key path q.work m path_bits agreed held ways held-there);
    }
