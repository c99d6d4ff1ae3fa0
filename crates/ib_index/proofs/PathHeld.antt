-- The pages of a key's path and the leaves beside its leaf, where they are held.
use Rattle.std.specs.Prelude.{◌==◌, ◌||◌}
use Rattle.std.proofs.Common.{◌≡◌, ◌≢◌, ◌⊎◌, inl, inr, ℕ, ◌+◌, ◌≤◌, Bool, true, false, List, [], ◌∷◌, ◌++◌, length, refl, sym, ap, subst, ◌∙◌, arith, length-append}
use Rattle.ib_map.specs.Keys.{MapKey}
use Rattle.ib_walk.specs.Pages.{PageMemory}
use Rattle.ib_walk.specs.Trees.{height_of}
use Rattle.ib_plans.specs.Agreement.{Agrees, IsThere, last_of, memory_in}
use Rattle.ib_split.proofs.OnPathLaws.{path-last, path-length}
use Rattle.ib_page.specs.Work.{WorkPage}
use Rattle.ib_merge.specs.Deletes.{HasNext}
use Rattle.ib_tree.specs.PageLists.{is_listed}
use Rattle.ib_cursor.specs.Claims.{IsPathWithLeaves, beside}
use Rattle.ib_cursor.specs.OnPath.{IsOnPath}
use Rattle.ib_cursor.proofs.TakeLaws.{beside_few}
use Rattle.ib_index.proofs.HeldLaws.{IsPageOfTree, among-beside, among-both, beside-own, held-last, held-same, last-of, path-kind}
use Rattle.ib_mtr.proofs.Lists.{or_true}

-- lists of pages
or-path : (a x b y : Bool) → (a || (b || false)) ≡ true → (a || (x || (b || y))) ≡ true
or-path true x b y h = refl
or-path false true b y h = refl
or-path false false true y h = refl
or-path false false false y h = cc

or-next : (a x b y : Bool) → y ≡ true → (a || (x || (b || y))) ≡ true
or-next true x b y h = refl
or-next false true b y h = refl
or-next false false true y h = refl
or-next false false false y h = h

or-cases : (a x b y : Bool) → (a || (x || (b || y))) ≡ true → (a ≡ true) ⊎ ((x ≡ true) ⊎ ((b ≡ true) ⊎ (y ≡ true)))
or-cases true x b y h = inl refl
or-cases false true b y h = inr (inl refl)
or-cases false false true y h = inr (inr (inl refl))
or-cases false false false y h = inr (inr (inr h))

module _ (pages roots root : ℕ) (key : MapKey) (path held : List ℕ) (work : List WorkPage) (m : PageMemory) (bits : ℕ → ℕ) (a : Agrees pages roots root key path work m bits) (w : IsPathWithLeaves m path held) where
  held-is : (n : ℕ) → is_listed held n ≡ (is_listed w.front n || (is_listed (beside (m w.leaf).prev) n || ((w.leaf == n) || is_listed (beside (m w.leaf).next) n)))
  held-is n =
      ap (λ ns. is_listed ns n) w.are ∙ (among-both w.front (beside (m w.leaf).prev ++ w.leaf ∷ beside (m w.leaf).next) n
      ∙ ap (λ b. is_listed w.front n || b) (among-both (beside (m w.leaf).prev) (w.leaf ∷ beside (m w.leaf).next) n))

  pub path-held : (n : ℕ) → is_listed path n ≡ true → is_listed held n ≡ true
  path-held n among =
      let two = sym (ap (λ ns. is_listed ns n) w.ends ∙ among-both w.front (w.leaf ∷ []) n) ∙ among in
      held-is n ∙ or-path (is_listed w.front n) (is_listed (beside (m w.leaf).prev) n) (w.leaf == n) (is_listed (beside (m w.leaf).next) n) two

  next-held : (m w.leaf).next ≢ 0 → is_listed held (m w.leaf).next ≡ true
  next-held ne =
      held-is (m w.leaf).next ∙ or-next (is_listed w.front (m w.leaf).next) (is_listed (beside (m w.leaf).prev) (m w.leaf).next) (w.leaf == (m w.leaf).next) (is_listed (beside (m w.leaf).next) (m w.leaf).next) (beside-own (m w.leaf).next ne)

  last-is : last_of path ≡ w.leaf
  last-is = ap last_of w.ends ∙ last-of w.front w.leaf

  pub leaf-on : IsOnPath m root key w.leaf 0
  leaf-on = record { depth = height_of m root; height = omega arith; below = sym (path-last pages roots root key path work m bits a) ∙ last-is }

  -- what holds of the pages of the path, and of those beside the leaf, holds of each that is held
  pub held-each : (P : ℕ → Type 0) → ((n : ℕ) → IsPageOfTree m n → P n) → ((m w.leaf).prev ≢ 0 → P (m w.leaf).prev) → ((m w.leaf).next ≢ 0 → P (m w.leaf).next) → (n : ℕ) → is_listed held n ≡ true → P n
  held-each P own left right n among = elim (or-cases (is_listed w.front n) (is_listed (beside (m w.leaf).prev) n) (w.leaf == n) (is_listed (beside (m w.leaf).next) n) (sym (held-is n) ∙ among)) [
    | inl front ↦ own n (on-path (ap (λ b. b || ((w.leaf == n) || false)) front))
    | inr (inl prev) ↦ let b = among-beside (m w.leaf).prev n prev in subst P b.0 (left b.1)
    | inr (inr (inl leaf)) ↦ own n (on-path (or_true (is_listed w.front n) ((w.leaf == n) || false) (ap (λ b. b || false) leaf)))
    | inr (inr (inr next)) ↦ let b = among-beside (m w.leaf).next n next in subst P b.0 (right b.1)
  ]
    where
      on-path : (is_listed w.front n || ((w.leaf == n) || false)) ≡ true → IsPageOfTree m n
      on-path is = path-kind pages roots root key path work m bits a n (ap (λ ns. is_listed ns n) w.ends ∙ (among-both w.front (w.leaf ∷ []) n ∙ is))

  -- none of them is page 0
  pub held-some : (n : ℕ) → is_listed held n ≡ true → n ≢ 0
  held-some = held-each (λ n. n ≢ 0) (λ n kind. kind.1) (λ ne. ne) (λ ne. ne)

  -- the path, and two pages more
  pub held-long : length held ≤ height_of m root + 3
  held-long =
      let e = ap length w.are in let b = length-append w.front (beside (m w.leaf).prev ++ w.leaf ∷ beside (m w.leaf).next) in
      let d = length-append (beside (m w.leaf).prev) (w.leaf ∷ beside (m w.leaf).next) in let f = beside_few (m w.leaf).prev in let g = beside_few (m w.leaf).next in
      let h = ap length w.ends in let i = length-append w.front (w.leaf ∷ []) in let l = path-length pages roots root key path work m bits a in omega arith

  -- the leaf behind the path's is there, where there is one
  pub next-there : ((n : ℕ) → is_listed held n ≡ true → IsThere work n) → HasNext work (last_of path)
  next-there there =
      let same = held-same pages roots root key path work m bits a held path-held there held-some (last_of path) (held-last pages roots root key path work m bits a held path-held there) in
      let link : (memory_in work (last_of path)).next ≡ (m w.leaf).next = ap (λ s. s.next) same ∙ ap (λ n. (m n).next) last-is in
      λ ne. subst (IsThere work) (sym link) (there (m w.leaf).next (next-held (λ z. ne (link ∙ z))))
