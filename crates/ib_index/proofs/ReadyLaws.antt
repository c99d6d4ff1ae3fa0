-- All pages are held that the insert reads and writes, or too few are free.
use Rattle.std.specs.Prelude.{IsSome}
use Rattle.std.proofs.Common.{◌≡◌, ℕ, ◌<◌, ◌≤◌, true, false, List, [], ◌∷◌, ◌++◌, Option, Some, None, length, refl, sym, ap, subst, ◌∙◌, arith}
use Rattle.std.proofs.lemmas.Bool.Decides.{nat_tests}
use Rattle.std.proofs.lemmas.List.Elements.{All-nil}
use Rattle.ib_map.specs.Keys.{MapKey}
use Rattle.ib_map.specs.Space.{has_pages}
use Rattle.ib_levels.specs.declared.level.Level.TheVariants.{Space}
use Rattle.ib_layout.specs.Geometry.{Sizes}
use Rattle.ib_page.specs.Work.{WorkPage, changed_of}
use Rattle.ib_walk.specs.Full.{chosen, free_of, is_root_full, is_too_high, need_of}
use Rattle.ib_walk.specs.Pages.{PageMemory}
use Rattle.ib_walk.specs.Trees.{height_of, most_height}
use Rattle.ib_plans.specs.Agreement.{Agrees, IsThere, bits_in, state_or_free}
use Rattle.ib_split.specs.Inserts.{HasFresh}
use Rattle.ib_tree.specs.PageLists.{AreOnce, is_listed}
use Rattle.ib_planned_log.proofs.LeadLaws.{low-enough}
use Rattle.ib_rule.specs.declared.looks.Grants.{Grants}
use Rattle.ib_rule.specs.Pass.{PassState}
use Rattle.ib_cursor.proofs.EndLaws.{loaded_some}
use Rattle.ib_cursor.proofs.LatchingLaws.{went_both, went_none}
use Rattle.ib_index.specs.Grows.{HasClaimedPath, HasGrown, HasTakenNew, HoldsAllPages, IsShort, NeedsPages, new_pages, space_pages, tree_pages}
use Rattle.ib_index.proofs.AgreeLaws.{agrees-now}
use Rattle.ib_index.proofs.FreshLaws.{agrees-less, bits-same, follow-log, follow-tree, fresh-once, length-all}
use Rattle.ib_index.proofs.GrowLaws.{among-tree, length-tree}

some-image : (o : Option (List ℕ)) → IsSome o → (image : List ℕ) × (o ≡ Some image)
some-image None there = cc
some-image (Some image) there = (image, refl)

-- the chosen pages are those that the insert takes
has-fresh : (pages : ℕ) (key : MapKey) (path fresh : List ℕ) (work : List WorkPage) (memory : PageMemory) (bits : ℕ → ℕ) → Agrees pages 1 1 key path work memory bits → is_too_high 1 memory key 1 ≡ false
    → fresh ≡ chosen bits pages (need_of memory key 1) → need_of memory key 1 ≤ free_of bits pages → HasFresh pages 1 1 key fresh memory bits
has-fresh pages key path fresh work memory bits a low are enough = record {
  chosen_are = are;
  enough = enough;
  low = low-enough (is_root_full memory key 1) (height_of memory 1) (most_height 1) low (a.lawful.trees 1 (omega arith) (omega arith)).1;
}

pub some-pages : (n : ℕ) → has_pages n ≡ true → 0 < n
some-pages n has = grind (arith, nat_tests, has)

module _ (sizes : Sizes) (key : MapKey) (path : List ℕ) (need : ℕ) (p q : PassState) (reached : HasClaimedPath sizes key path p q) (needs : NeedsPages sizes.pages key path need q.work) where
  -- no fresh page is needed
  pub ready-none : need ≡ 0 → HoldsAllPages sizes key path [] q q
  ready-none none = record {
    held = tree_pages reached.held;
    growing = reached.growing;
    short = let f = reached.few in let l = length-tree reached.held in omega arith;
    follow = (refl, follow-tree reached.held);
    went = went_none q;
    claims = refl;
    grants = omega arith;
    fresh_are = λ memory bits a.
        let n = needs memory bits a in
        let zero : need_of memory key 1 ≡ 0 = sym n.1 ∙ none in
        (n.0, has-fresh sizes.pages key path [] q.work memory bits a n.0 (sym (ap (chosen bits sizes.pages) zero)) (omega arith));
    there = All-nil (IsThere q.work);
    space = λ some. absurd (omega arith);
    same = λ n there. refl;
  }

module _ (sizes : Sizes) (fits : has_pages sizes.pages ≡ true) (key : MapKey) (path : List ℕ) (need : ℕ) (p q s : PassState) (reached : HasClaimedPath sizes key path p q) (g : HasGrown sizes key path (tree_pages reached.held) 0 Space q s) where
  pub image : List ℕ
  image = (some-image (changed_of 0 s.work) g.there).0

  pub image-there : changed_of 0 s.work ≡ Some image
  unfolding image
  image-there = (some-image (changed_of 0 s.work) g.there).1

  tree-there : (n : ℕ) → is_listed reached.held n ≡ true → IsThere q.work n
  tree-there n among = (loaded_some n q.work).1 (reached.growing.loaded n ∙ (among-tree reached.held n ∙ among))

  pub space-once : (fresh : List ℕ) → fresh ≡ chosen (bits_in sizes.pages image) sizes.pages need → AreOnce (reached.held ++ 0 ∷ fresh) sizes.pages
  space-once fresh are =
      let a = agrees-now sizes fits key path s g.growing.at in
      let bits = bits-same sizes.pages key path s.work _ _ image a image-there in
      subst (λ xs. AreOnce (reached.held ++ 0 ∷ xs) sizes.pages) (sym (are ∙ ap (λ b. chosen b sizes.pages need) bits))
      (fresh-once sizes.pages key path reached.held s.work _ _ a need (some-pages sizes.pages fits) reached.once reached.zero (λ n among.
      let there = tree-there n among in
      (subst IsSome (sym (g.same n there)) there, ap (λ o. (state_or_free o).kind) (g.same n there) ∙ reached.kinds n there, (λ z. let bad : true ≡ false = sym among ∙ (ap (is_listed reached.held) z ∙ reached.zero) in cc))))

  module _ (needs : NeedsPages sizes.pages key path need q.work) where
    -- they were taken
    pub ready-some : (fresh : List ℕ) (t : PassState) → fresh ≡ chosen (bits_in sizes.pages image) sizes.pages need → need ≤ free_of (bits_in sizes.pages image) sizes.pages → length fresh ≤ 9
        → HasTakenNew sizes key path (space_pages reached.held) fresh s t → HoldsAllPages sizes key path fresh q t
    ready-some fresh t are enough few taken =
        let later : (n : ℕ) → IsThere q.work n → changed_of n t.work ≡ changed_of n q.work = λ n there. taken.same n (subst IsSome (sym (g.same n there)) there) ∙ g.same n there in
        record {
          held = space_pages reached.held ++ new_pages fresh;
          growing = taken.growing;
          short = let l = length-all reached.held fresh in let f = reached.few in omega arith;
          follow = (refl, follow-log reached.held fresh);
          went = went_both q s t g.went taken.went;
          claims = taken.claims ∙ ap (λ (v : Grants). v.sx) g.grants;
          grants = let a = taken.grants in let x = ap (λ (v : Grants). v.x) g.grants in let y = ap (λ (v : Grants). v.s) g.grants in let z = ap (λ (v : Grants). v.sx) g.grants in omega arith;
          fresh_are = λ memory bits a.
              let b = agrees-less sizes.pages key path s.work t.work memory bits taken.same a in
              let n = needs memory bits (agrees-less sizes.pages key path q.work t.work memory bits later a) in
              let same = bits-same sizes.pages key path s.work memory bits image b image-there in (
                n.0,
                has-fresh sizes.pages key path fresh t.work memory bits a n.0
                    (are ∙ (ap (λ b. chosen b sizes.pages need) same ∙ ap (chosen bits sizes.pages) n.1))
                    (let e = ap (λ (b : ℕ → ℕ). free_of b sizes.pages) same in let m = n.1 in omega arith),
              );
          there = taken.there;
          space = λ some. subst IsSome (sym (taken.same 0 g.there)) g.there;
          same = later;
        }

    -- too few are free
    pub short-some : (free : ℕ) → free ≡ free_of (bits_in sizes.pages image) sizes.pages → free_of (bits_in sizes.pages image) sizes.pages < need → IsShort sizes key path free need q s
    short-some free is-free less = record {
      held = space_pages reached.held;
      growing = g.growing;
      went = g.went;
      claims = ap (λ (v : Grants). v.sx) g.grants;
      grants = let x = ap (λ (v : Grants). v.x) g.grants in let y = ap (λ (v : Grants). v.s) g.grants in let z = ap (λ (v : Grants). v.sx) g.grants in omega arith;
      lacks = λ memory bits a.
          let n = needs memory bits (agrees-less sizes.pages key path q.work s.work memory bits g.same a) in
          let same = bits-same sizes.pages key path s.work memory bits image a image-there in
          (n.0, is-free ∙ ap (λ (b : ℕ → ℕ). free_of b sizes.pages) same, n.1, (let e = is-free in omega arith));
      same = g.same;
    }
