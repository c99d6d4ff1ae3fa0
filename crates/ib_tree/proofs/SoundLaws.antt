-- The test of a patch is sound: where no step of it fails, the new visits of the written pages balance the old ones, and they are good.
use Rattle.std.specs.List.{AllByRecursion}
use Rattle.std.proofs.Common.{◌≡◌, ℕ, zero, suc, ◌+◌, ◌<◌, ◌≤◌, inl, inr, Bool, true, false, cond, List, [], ◌∷◌, ◌++◌, Option, Some, None, refl, sym, ap, subst, ◌∙◌, arith, eqb, leb, ltb, ◌≢◌}
use Rattle.std.specs.Prelude.{◌&&◌}
use Rattle.std.proofs.lemmas.Bool.{cases_lt, cases_eq}
use Rattle.std.proofs.lemmas.Bool.Decides.{nat_tests}
use Rattle.ib_map.specs.Keys.{end_rank}
use Rattle.ib_walk.specs.Pages.{PageMemory}
use Rattle.ib_walk.specs.Walk.{Visit}
use Rattle.ib_walk.specs.Trees.{height_of, top_of, weight_of, IsLawful}
use Rattle.ib_validate.specs.Patch.{LevelVisit, over, on_written, off_written, old_visits, children_weight, top, IsGoodAt, IsBalanced}
use Rattle.ib_walk.specs.Walk.{counts_visit}
use Rattle.ib_validate.specs.PatchTest.{Position, Positions, visit_of, at_page, positions_over, is_none, detach_pages, root_at, set_roots, all_back, list_over, visit_in, fresh_of, visited, IsListed, IsKeptBeside}
use Rattle.ib_walk.proofs.ChoiceLaws.{Some-same, cond-eq, cond-ne}
use Rattle.ib_validate.proofs.RestLaws.{detach_pages-each}
use Rattle.ib_tree.proofs.DetachLaws.{DetachedPages-detach, detach_pages-unwritten}
use Rattle.ib_tree.proofs.PatchLaws.{counts_visit-height, counts_visit-own}
use Rattle.ib_tree.proofs.PatchedLaws.{most_height-lt, written-cases}
use Rattle.ib_tree.proofs.PositionLaws.{Stands-counted, counted-Stands}
use Rattle.ib_tree.proofs.RootLaws.{AreRoots, positions_over-set_roots, set_roots-cases, set_roots-unwritten}
use Rattle.ib_tree.proofs.VisitedLaws.{IsPageIn, VisitedLevels, VisitedLevels-visit, upto}
use Rattle.ib_tree.proofs.WeightLaws.{over-append, over-written_below, weight_along-split, weight_along-step, weight_along-zero}

pub over-fresh_of : (f : ℕ → Visit → ℕ) (root : ℕ) (ps : List ℕ) (t : Positions) → over f (fresh_of ps t root) ≡ list_over f root ps t
over-fresh_of f root [] t = refl
over-fresh_of f root (p ∷ ps) t =
    let r = over-fresh_of f root ps t in let a = over-append f (visit_in root p (t p)) (fresh_of ps t root) in let b = one (t p) in omega arith
  where
    one : (o : Option Position) → over f (visit_in root p o) ≡ at_page f root p o
    one None = refl
    one (Some d) = elim (eqb d.tree root) as (λ c. over f (cond c (record { height = d.height; visit = visit_of p d } ∷ []) []) ≡ cond c (f d.height (visit_of p d)) 0) [ true ↦ omega arith | false ↦ refl ]

-- what holds of each position of a listed page in the tree of a root
pub AllByRecursion-fresh_of : (P : ℕ → Visit → Type 0) (root : ℕ) (ps : List ℕ) (t : Positions) → ((p : ℕ) → IsPageIn p ps → (e : Position) → t p ≡ Some e → e.tree ≡ root → P e.height (visit_of p e))
    → AllByRecursion (λ (s : LevelVisit). P s.height s.visit) (fresh_of ps t root)
AllByRecursion-fresh_of P root [] t h = tt
AllByRecursion-fresh_of P root (p ∷ ps) t h = one (t p) refl (AllByRecursion-fresh_of P root ps t (λ q i. h q (inr i)))
  where
    one : (o : Option Position) → t p ≡ o → AllByRecursion (λ (s : LevelVisit). P s.height s.visit) (fresh_of ps t root) → AllByRecursion (λ (s : LevelVisit). P s.height s.visit) (visit_in root p o ++ fresh_of ps t root)
    one None e r = r
    one (Some d) e r = elim (cases_eq d.tree root) [
      | inl s ↦ let z = cond-eq {X = List LevelVisit} d.tree root (record { height = d.height; visit = visit_of p d } ∷ []) [] s in
          subst (λ (q : List LevelVisit). AllByRecursion (λ (s : LevelVisit). P s.height s.visit) (q ++ fresh_of ps t root)) (sym z) (h p (inl refl) d e s, r)
      | inr ne ↦ let z = cond-ne {X = List LevelVisit} d.tree root (record { height = d.height; visit = visit_of p d } ∷ []) [] ne in
          subst (λ (q : List LevelVisit). AllByRecursion (λ (s : LevelVisit). P s.height s.visit) (q ++ fresh_of ps t root)) (sym z) r
    ]

pub written-listed : (written : ℕ → Bool) (ps : List ℕ) → AllByRecursion (λ p. written p ≡ true) ps → (p : ℕ) → IsPageIn p ps → written p ≡ true
written-listed written [] m p i = absurd i
written-listed written (x ∷ xs) m p i = elim i [ inl e ↦ ap written (sym e) ∙ m.0 | inr j ↦ written-listed written xs m.1 p j ]

pub positions_over-split : (written : ℕ → Bool) (f : ℕ → Visit → ℕ) (root : ℕ) (t : Positions) (n : ℕ) → positions_over f root t n ≡ positions_over (on_written written f) root t n + positions_over (off_written written f) root t n
positions_over-split written f root t zero = refl
positions_over-split written f root t (suc n) =
    let r = positions_over-split written f root t n in let a = one (t n) in omega arith
  where
    one : (o : Option Position) → at_page f root n o ≡ at_page (on_written written f) root n o + at_page (off_written written f) root n o
    one None = refl
    one (Some d) = elim (eqb d.tree root) as (λ c. cond c (f d.height (visit_of n d)) 0 ≡ cond c (on_written written f d.height (visit_of n d)) 0 + cond c (off_written written f d.height (visit_of n d)) 0) [
      | true ↦ elim (written n) as (λ c. f d.height (visit_of n d) ≡ cond c (f d.height (visit_of n d)) 0 + cond c 0 (f d.height (visit_of n d))) [ true ↦ omega arith | false ↦ omega arith ]
      | false ↦ refl
    ]

-- positions that agree on unwritten pages weigh the same there
pub positions_over-off_written : (written : ℕ → Bool) (f : ℕ → Visit → ℕ) (root : ℕ) (a b : Positions) (n : ℕ) → ((p : ℕ) → p < n → written p ≡ false → a p ≡ b p) → positions_over (off_written written f) root a n ≡ positions_over (off_written written f) root b n
positions_over-off_written written f root a b zero e = refl
positions_over-off_written written f root a b (suc n) e =
    let r = positions_over-off_written written f root a b n (λ p l w. e p (omega arith) w) in
    let x : at_page (off_written written f) root n (a n) ≡ at_page (off_written written f) root n (b n) =
    written-cases written n (at_page (off_written written f) root n (a n) ≡ at_page (off_written written f) root n (b n)) (λ w. none w (a n) ∙ sym (none w (b n))) (λ w. ap (at_page (off_written written f) root n) (e n (omega arith) w)) in
    omega arith
  where
    none : written n ≡ true → (o : Option Position) → at_page (off_written written f) root n o ≡ 0
    none w None = refl
    none w (Some d) = rw w (elim (eqb d.tree root) as (λ c. cond {A = ℕ} c 0 0 ≡ 0) [ true ↦ refl | false ↦ refl ])

pub list_over-none : (f : ℕ → Visit → ℕ) (root : ℕ) (ps : List ℕ) (t : Positions) → ((p : ℕ) (e : Position) → t p ≡ Some e → e.tree ≢ root) → list_over f root ps t ≡ 0
list_over-none f root [] t h = refl
list_over-none f root (p ∷ ps) t h = let r = list_over-none f root ps t h in let a = one (t p) refl in omega arith
  where
    one : (o : Option Position) → t p ≡ o → at_page f root p o ≡ 0
    one None e = refl
    one (Some d) e = cond-ne {X = ℕ} d.tree root (f d.height (visit_of p d)) 0 (h p d e)

module _ (written : ℕ → Bool) (m new : PageMemory) (same : (p : ℕ) → written p ≡ false → new p ≡ m p) (bits : ℕ → ℕ) (roots : ℕ) (law : IsLawful m bits roots)
    (n : ℕ) (few : (p : ℕ) → written p ≡ true → p < n) (old : Positions) (kept : IsKeptBeside m roots n old) (ps : List ℕ) (listed : IsListed written ps n)
    (good : ℕ → Visit → Bool) where
  abbrev pub top_weight : (ℕ → Visit → ℕ) → ℕ → ℕ
  top_weight f root = cond (ltb 0 root && leb root roots) (f (m root).level (top root)) 0

  pub weight_of-split : (f : ℕ → Visit → ℕ) (root : ℕ) → weight_of f m root ≡ f (m root).level (top root) + (weight_of (on_written written (children_weight m f)) m root + weight_of (off_written written (children_weight m f)) m root)
  weight_of-split f root = let a = weight_along-step f m (height_of m root) (top_of root) in let b = weight_along-split written (children_weight m f) m (height_of m root) (top_of root) in omega arith

  pub weight_of-on_written : (f : ℕ → Visit → ℕ) (root : ℕ) → 0 < root → root ≤ roots → weight_of (on_written written f) m root ≡ list_over f root ps old
  weight_of-on_written f root s l = kept.table root s l (on_written written f) ∙ listed.all f root old

  pub within-old : (f : ℕ → Visit → ℕ) (root : ℕ) → list_over (children_weight m f) root ps old + top_weight f root ≤ positions_over f root old n
  within-old f root =
      elim (cases_lt 0 root) [
        | inl s ↦ elim (cases_lt roots root) [
          | inr l ↦
              let a = kept.table root s l f in let b = weight_of-split f root in let c = weight_of-on_written (children_weight m f) root s l in
              let d = valid root s l (f (m root).level (top root)) in omega arith
          | inl g ↦ let a = list_over-none (children_weight m f) root ps old (λ p e at z. let x = (kept.trees p e at).1 in omega arith) in
              let d = high root g (f (m root).level (top root)) in omega arith
        ]
        | inr z ↦ let a = list_over-none (children_weight m f) root ps old (λ p e at q. let x = (kept.trees p e at).0 in omega arith) in
            let d = low root z (f (m root).level (top root)) in omega arith
      ]
    where
      valid : (root : ℕ) → 0 < root → root ≤ roots → (x : ℕ) → cond (ltb 0 root && leb root roots) x 0 ≡ x
      valid root s l x = grind (arith, nat_tests)

      high : (root : ℕ) → roots < root → (x : ℕ) → cond (ltb 0 root && leb root roots) x 0 ≡ 0
      high root g x = grind (arith, nat_tests)

      low : (root : ℕ) → root ≤ 0 → (x : ℕ) → cond (ltb 0 root && leb root roots) x 0 ≡ 0
      low root z x = grind (arith, nat_tests)

  pub top_weight-root : (root : ℕ) → 0 < root → root ≤ roots → (f : ℕ → Visit → ℕ) → top_weight f root ≡ f (m root).level (top root)
  top_weight-root root s l f = valid root s l (f (m root).level (top root))
    where
      valid : (root : ℕ) → 0 < root → root ≤ roots → (x : ℕ) → cond (ltb 0 root && leb root roots) x 0 ≡ x
      valid root s l x = grind (arith, nat_tests)

  pub AreRoots-detached : AreRoots written new end_rank n m same few roots (detach_pages m old ps old)
  AreRoots-detached r s l =
      let a = (DetachedPages-detach m old n top_weight ps old within-old).rest (counts_visit (m r).level (top r)) r in
      let b = top_weight-root r s l (counts_visit (m r).level (top r)) in
      let c = counts_visit-own (m r).level (top r) in
      (Stands-counted r (m r).level (top r) (detach_pages m old ps old) n (omega arith)).is

  -- before the heights are visited
  pub positions_over-before_levels : (f : ℕ → Visit → ℕ) (root : ℕ) → 0 < root → root ≤ roots
      → positions_over f root (set_roots written new end_rank roots (detach_pages m old ps old)) n + list_over (children_weight m f) root ps old + f (m root).level (top root)
      ≡ positions_over f root old n + f (new root).level (top root)
  positions_over-before_levels f root s l =
      let a = (DetachedPages-detach m old n top_weight ps old within-old).weighs f root in
      let b = (positions_over-set_roots written new end_rank n m same few roots (detach_pages m old ps old) AreRoots-detached f root s).0 l in
      omega arith

  module _ (levels : (r : ℕ) → 0 < r → r ≤ roots → (new r).level < 8) (after : Positions) (yes' : visited written m new good end_rank roots ps old ≡ Some after) (back : all_back written m old ps after ≡ true) where
    pub levels-visited : VisitedLevels written old n few kept.few new good 7 ps (set_roots written new end_rank roots (detach_pages m old ps old)) after
    levels-visited = VisitedLevels-visit written old n few kept.few new good 7 ps (set_roots written new end_rank roots (detach_pages m old ps old)) after yes'

    -- unwritten pages stand where they stood
    pub unwritten-stands : (p : ℕ) → written p ≡ false → after p ≡ old p
    unwritten-stands p w =
        elim (levels-visited.moved.kept p w) [
          | inr o ↦ o
          | inl s ↦
              let a = s ∙ set_roots-unwritten written new end_rank n roots (detach_pages m old ps old) p w in
              elim (detach_pages-unwritten written m old ps old after p w back) [
                | inl e ↦ a ∙ e
                | inr met ↦ elim (detach_pages-each m old ps old p) [
                  | inl e ↦ a ∙ e
                  | inr z ↦ absurd (let x = ap is_none (a ∙ z) in let y = sym met ∙ x in cc)
                ]
              ]
        ]

    height-lt : (p : ℕ) (e : Position) → after p ≡ Some e → e.height < 8
    height-lt p e at =
        elim (levels-visited.moved.each p) [
          | inr q ↦ let x = ap (λ (d : Position). d.height) (Some-same q.1.0 e (sym q.1.1 ∙ at)) in let y = q.1.2 in omega arith
          | inl s ↦ elim (set_roots-cases written new end_rank roots (detach_pages m old ps old) p) [
            | inr q ↦ let x = ap (λ (d : Position). d.height) (Some-same (root_at new p end_rank) e (sym q.2 ∙ (sym s ∙ at))) in let y = levels p q.0 q.1 in omega arith
            | inl t ↦ elim (detach_pages-each m old ps old p) [
              | inr z ↦ absurd (let x = sym z ∙ (sym t ∙ (sym s ∙ at)) in cc)
              | inl u ↦ old-height p e (sym u ∙ (sym t ∙ (sym s ∙ at)))
            ]
          ]
        ]
      where
        old-height : (p : ℕ) (e : Position) → old p ≡ Some e → e.height < 8
        old-height p e at =
            let t = kept.trees p e at in
            let s = counted-Stands e.tree e.height (visit_of p e) old n (record { within = within p e at; is = at }) in
            let a = kept.table e.tree t.0 t.1 (counts_visit e.height (visit_of p e)) in
            elim (cases_lt (m e.tree).level e.height) [
              | inr le ↦ let b = (law.trees e.tree t.0 t.1).1 in let c = most_height-lt roots in omega arith
              | inl g ↦ absurd (let z = weight_along-zero (counts_visit e.height (visit_of p e)) m (height_of m e.tree) (top_of e.tree) (λ k v l. counts_visit-height e.height (visit_of p e) k v (λ same. omega arith)) in omega arith)
            ]
          where
            within : (p : ℕ) (e : Position) → old p ≡ Some e → p < n
            within p e at = elim (cases_lt p n) [ inl lt ↦ lt | inr ge ↦ absurd (let x = sym (kept.few p ge) ∙ at in cc) ]

    whole : (g : ℕ → Visit → ℕ) (root : ℕ) (qs : List ℕ) → list_over (upto 7 g) root qs after ≡ list_over g root qs after
    whole g root [] = refl
    whole g root (p ∷ qs) = let r = whole g root qs in let a = one p (after p) refl in omega arith
      where
        one : (p : ℕ) (o : Option Position) → after p ≡ o → at_page (upto 7 g) root p o ≡ at_page g root p o
        one p None e = refl
        one p (Some d) e =
            let h = height-lt p d e in
            let z : cond (leb d.height 7) (g d.height (visit_of p d)) 0 ≡ g d.height (visit_of p d) = grind (arith, nat_tests) in
            ap (λ x. cond (eqb d.tree root) x 0) z

    -- the new visits balance
    pub IsBalanced-visited : (root : ℕ) → 0 < root → root ≤ roots → IsBalanced m new root (old_visits written m root) (fresh_of ps after root)
    IsBalanced-visited root s l f =
        let a = positions_over-before_levels f root s l in
        let b = levels-visited.weighs f root in
        let c = whole (children_weight new f) root ps in
        let d = kept.table root s l f in
        let e = weight_along-split written f m (height_of m root) (top_of root) in
        let g = over-written_below written f m (height_of m root) (top_of root) in
        let h = weight_of-on_written (children_weight m f) root s l in
        let i = over-written_below written (children_weight m f) m (height_of m root) (top_of root) in
        let j = positions_over-split written f root after n in
        let k = listed.all f root after in
        let o = over-fresh_of f root ps after in
        let p = over-fresh_of (children_weight new f) root ps after in
        let q = positions_over-off_written written f root after old n (λ p l w. unwritten-stands p w) in
        let r = kept.table root s l (off_written written f) in
        omega arith

    pub written-visited : (root : ℕ) → AllByRecursion (λ (s : LevelVisit). written s.visit.page ≡ true) (fresh_of ps after root)
    written-visited root = AllByRecursion-fresh_of (λ h v. written v.page ≡ true) root ps after (λ p i e at own. written-listed written ps listed.mine p i)

    pub IsGoodAt-visited : ((h : ℕ) (v : Visit) → good h v ≡ true → IsGoodAt new h v) → (root : ℕ) → AllByRecursion (λ (s : LevelVisit). IsGoodAt new s.height s.visit) (fresh_of ps after root)
    IsGoodAt-visited is root = AllByRecursion-fresh_of (IsGoodAt new) root ps after (λ p i e at own. is e.height (visit_of p e) (levels-visited.good_there p i e at (let x = height-lt p e at in omega arith)))

    pub height-visited : (root : ℕ) → AllByRecursion (λ (s : LevelVisit). s.height < 8) (fresh_of ps after root)
    height-visited root = AllByRecursion-fresh_of (λ h v. h < 8) root ps after (λ p i e at own. height-lt p e at)
