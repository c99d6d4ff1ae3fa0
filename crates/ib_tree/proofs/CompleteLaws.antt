-- The test of a patch is complete: where the new trees are lawful and the other pages keep their visits, no step of it fails.
use Rattle.std.proofs.Common.{◌≡◌, ℕ, zero, suc, ◌+◌, ◌<◌, ◌≤◌, inl, inr, Bool, true, false, cond, List, [], ◌∷◌, Option, Some, None, refl, sym, ap, ◌∙◌, arith, eqb, leb, ltb}
use Rattle.std.specs.Prelude.{◌&&◌, ◌||◌, not}
use Rattle.std.proofs.lemmas.Bool.{cases_lt, cases_eq, eq-eqb, lt-ltb, le-ltb}
use Rattle.std.proofs.lemmas.Bool.Decides.{nat_tests}
use Rattle.ib_map.specs.Keys.{end_rank}
use Rattle.ib_heap.specs.declared.TheConstants.{MOST_RECORDS}
use Rattle.ib_walk.specs.Pages.{PageMemory}
use Rattle.ib_walk.specs.Walk.{Visit, sum_of, counts_page}
use Rattle.ib_walk.specs.Trees.{height_of, top_of, weight_of, IsLawful}
use Rattle.ib_validate.specs.Patch.{on_written, off_written, children_weight, top, IsGoodAt}
use Rattle.ib_walk.specs.Walk.{counts_visit}
use Rattle.ib_validate.specs.PatchTest.{Position, Positions, visit_of, at_page, positions_over, set_at, position_of, same_position, is_none, attach, children_at, height_below, detach_pages, root_at, set_roots, visit_at, then_do, visit_level, visit_levels, are_back, back_at, all_back, list_over, visited, IsListed, IsKeptBeside}
use Rattle.ib_walk.proofs.ChoiceLaws.{Some-same, cond-eq, cond-ne}
use Rattle.ib_walk.proofs.MeetLaws.{counts_page-own}
use Rattle.ib_walk.proofs.TreeLaws.{times_met-le, weight_of-le, weight_of-two_le}
use Rattle.ib_validate.proofs.RestLaws.{detach_pages-each}
use Rattle.ib_tree.proofs.DetachLaws.{in_tree, in_tree-own, in_tree-plus, sum_of-children_at}
use Rattle.ib_tree.proofs.PatchLaws.{IsGoodAt-tree, counts_visit-own, weight_along-off_other}
use Rattle.ib_tree.proofs.PatchedLaws.{AreKept, most_height-lt, written-cases}
use Rattle.ib_tree.proofs.PositionLaws.{Stands, Stands-counted, at_page-le, counted-Stands, is_none-None, list_over-plus, list_over-same, list_over-weights, positions_over-set_at}
use Rattle.ib_tree.proofs.RootLaws.{set_roots-cases}
use Rattle.ib_tree.proofs.SoundLaws.{positions_over-before_levels, weight_of-on_written, weight_of-split}
use Rattle.ib_tree.proofs.VisitedLaws.{Moved, VisitedLevel, VisitedLevel-visit, VisitedPage-visit, exactly}
use Rattle.ib_tree.proofs.WeightLaws.{children_weight-zero, off_written-children_weight, weight_along-le, weight_along-same, weight_along-split, weight_along-step, weight_along-zero}

-- a weight above a height
abbrev pub higher : ℕ → (ℕ → Visit → ℕ) → ℕ → Visit → ℕ
higher h g k v = cond (ltb h k) (g k v) 0

module _ (written : ℕ → Bool) (m new : PageMemory) (same : (p : ℕ) → written p ≡ false → new p ≡ m p) (bits : ℕ → ℕ) (roots : ℕ) (law : IsLawful m bits roots)
    (n : ℕ) (few : (p : ℕ) → written p ≡ true → p < n) (old : Positions) (kept : IsKeptBeside m roots n old) (ps : List ℕ) (listed : IsListed written ps n)
    (good : ℕ → Visit → Bool) (bits-after : ℕ → ℕ) (new-law : IsLawful new bits-after roots) (stay : AreKept written m new roots)
    (good-is : (h : ℕ) (v : Visit) → IsGoodAt new h v → good h v ≡ true) where
  -- the positions before the heights are visited
  abbrev at-roots : Positions
  at-roots = set_roots written new end_rank roots (detach_pages m old ps old)

  -- the new visits are those before the heights are visited, and the children of written pages
  whole : (f : ℕ → Visit → ℕ) (root : ℕ) → 0 < root → root ≤ roots → weight_of f new root ≡ positions_over f root at-roots n + weight_of (on_written written (children_weight new f)) new root
  whole f root s l =
      let a = positions_over-before_levels written m new same bits roots law n few old kept ps listed good f root s l in
      let b = weight_of-split written m new same bits roots law n few old kept ps listed good f root in
      let c = weight_of-on_written written m new same bits roots law n few old kept ps listed good (children_weight m f) root s l in
      let d = weight_along-step f new (height_of new root) (top_of root) in
      let e = weight_along-split written (children_weight new f) new (height_of new root) (top_of root) in
      let g = stay root s l (children_weight new f) in
      let h = weight_along-same (off_written written (children_weight new f)) (off_written written (children_weight m f)) m (height_of m root) (top_of root) (off_written-children_weight written m new same f) in
      let i = kept.table root s l f in
      omega arith

  pub record Valid (now : Positions) : Type 0 where
    pub trees : (p : ℕ) (e : Position) → now p ≡ Some e → (0 < e.tree) × (e.tree ≤ roots)
    pub within : (p : ℕ) (e : Position) → now p ≡ Some e → p < n

  -- an unwritten page that the new trees meet stood there before
  Stands-before : (root h : ℕ) (v : Visit) → 0 < root → root ≤ roots → written v.page ≡ false → 0 < weight_of (counts_visit h v) new root → Stands root h v old n
  Stands-before root h v s l w pos =
      let a = stay root s l (counts_visit h v) in
      let b = weight_along-off_other written new (height_of new root) (top_of root) h v w in
      let c = weight_along-off_other written m (height_of m root) (top_of root) h v w in
      let d = kept.table root s l (counts_visit h v) in
      Stands-counted root h v old n (omega arith)

  in-table : (now : Positions) (p : ℕ) (d : Position) → now p ≡ Some d → p < n → 1 ≤ positions_over (counts_page p) d.tree now n
  in-table now p d e lt =
      let a = at_page-le (counts_page p) d.tree now n p lt in
      let b = ap (at_page (counts_page p) d.tree p) e in
      let c = cond-eq {X = ℕ} d.tree d.tree (counts_page p d.height (visit_of p d)) 0 refl in
      let g = counts_page-own p d.height (visit_of p d) refl in omega arith

  -- the children find their places
  pub attach-some : (tree h : ℕ) → 0 < tree → tree ≤ roots → (Rest : (ℕ → Visit → ℕ) → ℕ → ℕ) (ks : List Visit) (now : Positions) → Valid now
      → ((f : ℕ → Visit → ℕ) (root : ℕ) → 0 < root → root ≤ roots → positions_over f root now n + in_tree tree root (sum_of (f h) ks) + Rest f root ≤ weight_of f new root)
      → (after : Positions) × (attach written old tree h ks now ≡ Some after) × Valid after
  attach-some tree h s l Rest [] now v all = (now, refl, v)
  attach-some tree h s l Rest (k ∷ ks) now v all =
      let e : (is_none (now k.page) && (written k.page || same_position (old k.page) (position_of tree h k))) ≡ true = both (is_none (now k.page)) (written k.page || same_position (old k.page) (position_of tree h k)) free placed in
      let was = is_none-None (now k.page) free in
      let r = attach-some tree h s l Rest ks (set_at now k.page (Some (position_of tree h k)))
      (record {
        trees = λ p d at. elim (cases_eq p k.page) [
          | inl z ↦ let x = Some-same (position_of tree h k) d (sym (cond-eq p k.page (Some (position_of tree h k)) (now p) z) ∙ at) in let y = ap (λ (q : Position). q.tree) x in (omega arith, omega arith)
          | inr ne ↦ v.trees p d (sym (cond-ne p k.page (Some (position_of tree h k)) (now p) ne) ∙ at)
        ];
        within = λ p d at. elim (cases_eq p k.page) [
          | inl z ↦ let x = within in omega arith
          | inr ne ↦ v.within p d (sym (cond-ne p k.page (Some (position_of tree h k)) (now p) ne) ∙ at)
        ];
      })
      (λ f root s' l'. let a = all f root s' l' in let b = positions_over-set_at f root now n k.page (Some (position_of tree h k)) within in let c = ap (at_page f root k.page) was in
      let d = in_tree-plus tree root (f h k) (sum_of (f h) ks) in omega arith) in
      (r.0, go (is_none (now k.page) && (written k.page || same_position (old k.page) (position_of tree h k))) (attach written old tree h ks (set_at now k.page (Some (position_of tree h k)))) r.0 e r.1, r.2)
    where
      go : (b : Bool) (x : Option Positions) (y : Positions) → b ≡ true → x ≡ Some y → cond b x None ≡ Some y
      go true x y e q = q
      go false x y e q = absurd (let z = e in cc)

      both : (a b : Bool) → a ≡ true → b ≡ true → (a && b) ≡ true
      both true b e f = f
      both false b e f = e

      here : 1 ≤ weight_of (counts_visit h k) new tree
      here = let a = all (counts_visit h k) tree s l in let b = in_tree-own tree (counts_visit h k h k + sum_of (counts_visit h k h) ks) in let c = counts_visit-own h k in omega arith

      page-two : 1 + positions_over (counts_page k.page) tree now n ≤ weight_of (counts_page k.page) new tree
      page-two = let a = all (counts_page k.page) tree s l in let b = in_tree-own tree (counts_page k.page h k + sum_of (counts_page k.page h) ks) in let c = counts_page-own k.page h k refl in omega arith

      within : k.page < n
      within = written-cases written k.page (k.page < n) (λ w. few k.page w) (λ w. (Stands-before tree h k s l w (let a = here in omega arith)).within)

      none-there : (d : Position) → now k.page ≡ Some d → ⊥
      none-there d e =
          let t = v.trees k.page d e in
          let a = in-table now k.page d e within in
          let b = page-two in
          let c = times_met-le (λ q. MOST_RECORDS) new bits-after roots k.page new-law in
          let x = weight_of-le (counts_page k.page) new tree roots s l in
          elim (cases_eq d.tree tree) [
            | inl z ↦ let y = ap (λ q. positions_over (counts_page k.page) q now n) z in omega arith
            | inr ne ↦
                let y = weight_of-two_le (counts_page k.page) new d.tree tree roots t.0 t.1 s l ne in
                let w = all (counts_page k.page) d.tree t.0 t.1 in omega arith
          ]

      free : is_none (now k.page) ≡ true
      free = by (now k.page) refl
        where
          by : (o : Option Position) → now k.page ≡ o → is_none o ≡ true
          by None e = refl
          by (Some d) e = absurd (none-there d e)

      placed : (written k.page || same_position (old k.page) (position_of tree h k)) ≡ true
      placed = written-cases written k.page ((written k.page || same_position (old k.page) (position_of tree h k)) ≡ true) (λ w. left (written k.page) (same_position (old k.page) (position_of tree h k)) w)
          (λ w. right (written k.page) (same_position (old k.page) (position_of tree h k)) (ap (λ o. same_position o (position_of tree h k)) (Stands-before tree h k s l w (let a = here in omega arith)).is ∙ same-self (position_of tree h k)))
        where
          left : (a b : Bool) → a ≡ true → (a || b) ≡ true
          left true b e = refl
          left false b e = absurd (let x = e in cc)

          right : (a b : Bool) → b ≡ true → (a || b) ≡ true
          right true b e = refl
          right false b e = e

          same-self : (d : Position) → same_position (Some d) d ≡ true
          same-self d = let a = eq-eqb d.tree d.tree refl in let b = eq-eqb d.height d.height refl in let c = eq-eqb d.low d.low refl in let e = eq-eqb d.high d.high refl in rw (a, b, c, e) refl

  good-at : (h p : ℕ) (e : Position) (now : Positions) → Valid now → now p ≡ Some e → e.height ≡ h
      → ((f : ℕ → Visit → ℕ) (root : ℕ) → 0 < root → root ≤ roots → positions_over f root now n ≤ weight_of f new root) → good h (visit_of p e) ≡ true
  good-at h p e now v at s le =
      let t = v.trees p e at in
      let r : h ≡ e.height = sym s in
      let same-height : position_of e.tree h (visit_of p e) ≡ e = λ i. record { tree = e.tree; height = r i; low = e.low; high = e.high } in
      let a = counted-Stands e.tree h (visit_of p e) now n (record { within = v.within p e at; is = at ∙ ap Some (sym same-height) }) in
      let b = le (counts_visit h (visit_of p e)) e.tree t.0 t.1 in
      good-is h (visit_of p e) (IsGoodAt-tree new (height_of new e.tree) (top_of e.tree) (new-law.trees e.tree t.0 t.1).0.tree h (visit_of p e) (omega arith))

  -- a weight of these heights and above doesn't see what is met below
  at_page-higher : (h : ℕ) (now mid : Positions) → Moved written old n few kept.few new good h now mid → (g : ℕ → Visit → ℕ) → ((k : ℕ) (v : Visit) → k < h → g k v ≡ 0) → (root p : ℕ)
      → at_page g root p (mid p) ≡ at_page g root p (now p)
  at_page-higher h now mid mv g none root p = elim (mv.each p) [
    | inl e ↦ ap (at_page g root p) e
    | inr q ↦ ap (at_page g root p) q.1.1 ∙ (zero q.1.0 q.1.2 ∙ ap (at_page g root p) (sym q.0))
  ]
    where
      zero : (e : Position) → e.height < h → at_page g root p (Some e) ≡ 0
      zero e lt = let z = none e.height (visit_of p e) lt in elim (eqb e.tree root) as (λ b. cond b (g e.height (visit_of p e)) 0 ≡ 0) [ true ↦ z | false ↦ refl ]

  visit_at-some : (h p : ℕ) (o : Option Position) (now : Positions) → now p ≡ o → Valid now → (qs : List ℕ)
      → ((f : ℕ → Visit → ℕ) (root : ℕ) → 0 < root → root ≤ roots → positions_over f root now n + at_page (exactly h (children_weight new f)) root p o + list_over (exactly h (children_weight new f)) root qs now ≤ weight_of f new root)
      → (mid : Positions) × (visit_at written old new good h p o now ≡ Some mid) × Valid mid
  visit_at-some h p None now at v qs all = (now, refl, v)
  visit_at-some h p (Some e) now at v qs all =
      elim (cases_eq e.height h) [
        | inr ne ↦ (now, cond-ne e.height h (cond (good h (visit_of p e)) (attach written old e.tree (height_below h) (children_at new h (visit_of p e)) now) None) (Some now) ne, v)
        | inl s ↦
            let t = v.trees p e at in
            let g = good-at h p e now v at s (λ f root s' l. let a = all f root s' l in omega arith) in
            let r = attach-some e.tree (height_below h) t.0 t.1 (λ f root. list_over (exactly h (children_weight new f)) root qs now) (children_at new h (visit_of p e)) now v
            (λ f root s' l. let a = all f root s' l in let b = children-are f root s in omega arith) in (
              r.0,
              cond-eq e.height h (cond (good h (visit_of p e)) (attach written old e.tree (height_below h) (children_at new h (visit_of p e)) now) None) (Some now) s
                  ∙ (at-true (good h (visit_of p e)) (attach written old e.tree (height_below h) (children_at new h (visit_of p e)) now) g ∙ r.1),
              r.2,
            )
      ]
    where
      at-true : (b : Bool) (x : Option Positions) → b ≡ true → cond b x None ≡ x
      at-true b x e = rw e refl

      children-are : (f : ℕ → Visit → ℕ) (root : ℕ) → e.height ≡ h → at_page (exactly h (children_weight new f)) root p (Some e) ≡ in_tree e.tree root (sum_of (f (height_below h)) (children_at new h (visit_of p e)))
      children-are f root s =
          let z : cond (eqb e.height h) (children_weight new f e.height (visit_of p e)) 0 ≡ children_weight new f h (visit_of p e) = cond-eq {X = ℕ} e.height h (children_weight new f e.height (visit_of p e)) 0 s ∙ ap (λ k. children_weight new f k (visit_of p e)) s in
          ap (λ x. cond (eqb e.tree root) x 0) (z ∙ sym (sum_of-children_at f new h (visit_of p e)))

  visit_level-some : (h : ℕ) (qs : List ℕ) (now : Positions) → Valid now
      → ((f : ℕ → Visit → ℕ) (root : ℕ) → 0 < root → root ≤ roots → positions_over f root now n + list_over (exactly h (children_weight new f)) root qs now ≤ weight_of f new root)
      → (mid : Positions) × (visit_level written old new good h qs now ≡ Some mid) × Valid mid
  visit_level-some h [] now v all = (now, refl, v)
  visit_level-some h (q ∷ qs) now v all =
      let a = visit_at-some h q (now q) now refl v qs (λ f root s l. let x = all f root s l in omega arith) in
      let w = VisitedPage-visit written old n few kept.few new good h q (now q) now a.0 refl a.1 in
      let b = visit_level-some h qs a.0 a.2 (λ f root s l. let x = all f root s l in let y = w.weighs f root in
      let z = list_over-same (exactly h (children_weight new f)) root qs a.0 now (λ p. at_page-higher h now a.0 w.moved (exactly h (children_weight new f)) (λ k v lt. cond-ne {X = ℕ} k h (children_weight new f k v) 0 (λ i. omega arith)) root p) in omega arith) in
      (b.0, ap (λ o. then_do o (visit_level written old new good h qs)) a.1 ∙ b.1, b.2)

  -- the positions are those of all visits of these heights and above
  pub record Reached (h : ℕ) (now : Positions) : Type 0 where
    pub valid : Valid now
    pub all : (f : ℕ → Visit → ℕ) → ((k : ℕ) (v : Visit) → k < h → f k v ≡ 0) → (root : ℕ) → 0 < root → root ≤ roots → positions_over f root now n ≡ weight_of f new root
    pub sum : (f : ℕ → Visit → ℕ) (root : ℕ) → 0 < root → root ≤ roots → positions_over f root now n ≡ positions_over f root at-roots n + list_over (higher h (children_weight new f)) root ps now

  on_written-high : (g : ℕ → Visit → ℕ) (h : ℕ) → ((k : ℕ) (v : Visit) → k < h → g k v ≡ 0) → (k : ℕ) (v : Visit) → k < h → on_written written g k v ≡ 0
  on_written-high g h none k v lt = let z = none k v lt in elim (written v.page) as (λ b. cond b (g k v) 0 ≡ 0) [ true ↦ z | false ↦ refl ]

  -- what visits of written pages weigh, by the positions
  weight_of-children_listed : (h : ℕ) (now : Positions) → Reached h now → (g : ℕ → Visit → ℕ) → ((k : ℕ) (v : Visit) → k < h → g k v ≡ 0) → (root : ℕ) → 0 < root → root ≤ roots
      → weight_of (on_written written g) new root ≡ list_over g root ps now
  weight_of-children_listed h now r g none root s l = sym (r.all (on_written written g) (on_written-high g h none) root s l) ∙ listed.all g root now

  ready : (h : ℕ) (now : Positions) → Reached h now → (f : ℕ → Visit → ℕ) (root : ℕ) → 0 < root → root ≤ roots
      → positions_over f root now n + list_over (exactly h (children_weight new f)) root ps now ≤ weight_of f new root
  ready h now r f root s l =
      let a = whole f root s l in
      let b = r.sum f root s l in
      let c = weight_of-children_listed h now r (λ k v. cond (leb h k) (children_weight new f k v) 0) (λ k v lt. under k v lt) root s l in
      let d = list_over-plus (λ k v. cond (leb h k) (children_weight new f k v) 0) (higher h (children_weight new f)) (exactly h (children_weight new f)) root ps now (λ k v. parts k (children_weight new f k v)) in
      let e = weight_along-le (on_written written (λ k v. cond (leb h k) (children_weight new f k v) 0)) (on_written written (children_weight new f)) new (height_of new root) (top_of root) (λ k v. less k v) in
      omega arith
    where
      under : (k : ℕ) (v : Visit) → k < h → cond (leb h k) (children_weight new f k v) 0 ≡ 0
      under k v lt = grind (arith, nat_tests)

      parts : (k x : ℕ) → cond (leb h k) x 0 ≡ cond (ltb h k) x 0 + cond (eqb k h) x 0
      parts k x = grind (arith, nat_tests)

      less : (k : ℕ) (v : Visit) → on_written written (λ k v. cond (leb h k) (children_weight new f k v) 0) k v ≤ on_written written (children_weight new f) k v
      less k v = elim (written v.page) as (λ b. cond b (cond (leb h k) (children_weight new f k v) 0) 0 ≤ cond b (children_weight new f k v) 0) [
        | true ↦ elim (leb h k) as (λ c. cond c (children_weight new f k v) 0 ≤ children_weight new f k v) [ true ↦ omega arith | false ↦ omega arith ]
        | false ↦ omega arith
      ]

  -- a height that is visited reaches one height less
  Reached-next : (h : ℕ) (now mid : Positions) → Reached (suc h) now → Valid mid → VisitedLevel written old n few kept.few new good (suc h) ps now mid → Reached h mid
  Reached-next h now mid r v w = record { valid = v; all = all; sum = sum }
    where
      high : (g : ℕ → Visit → ℕ) → ((k : ℕ) (v : Visit) → k < suc h → g k v ≡ 0) → (root : ℕ) → list_over g root ps mid ≡ list_over g root ps now
      high g none root = list_over-same g root ps mid now (λ p. at_page-higher (suc h) now mid w.moved g none root p)

      up : (g : ℕ → Visit → ℕ) (k : ℕ) (v : Visit) → k < suc h → higher (suc h) g k v ≡ 0
      up g k v lt = at-up k (g k v) lt
        where
          at-up : (k x : ℕ) → k < suc h → cond (ltb (suc h) k) x 0 ≡ 0
          at-up k x lt = grind (arith, nat_tests)

      parts : (k x : ℕ) → cond (ltb h k) x 0 ≡ cond (ltb (suc h) k) x 0 + cond (eqb k (suc h)) x 0
      parts k x = grind (arith, nat_tests)

      sum : (f : ℕ → Visit → ℕ) (root : ℕ) → 0 < root → root ≤ roots → positions_over f root mid n ≡ positions_over f root at-roots n + list_over (higher h (children_weight new f)) root ps mid
      sum f root s l =
          let a = w.weighs f root in
          let b = r.sum f root s l in
          let c = high (higher (suc h) (children_weight new f)) (up (children_weight new f)) root in
          let d = list_over-plus (higher h (children_weight new f)) (higher (suc h) (children_weight new f)) (exactly (suc h) (children_weight new f)) root ps mid (λ k v. parts k (children_weight new f k v)) in
          omega arith

      all : (f : ℕ → Visit → ℕ) → ((k : ℕ) (v : Visit) → k < h → f k v ≡ 0) → (root : ℕ) → 0 < root → root ≤ roots → positions_over f root mid n ≡ weight_of f new root
      all f none root s l =
          let none' : (k : ℕ) (v : Visit) → k < suc h → children_weight new f k v ≡ 0 = λ k v lt. children_weight-zero new f k h v (λ j u e. none j u (omega arith)) in
          let a = sum f root s l in
          let b = whole f root s l in
          let c = weight_of-children_listed (suc h) now r (children_weight new f) none' root s l in
          let d = high (children_weight new f) none' root in
          let e = list_over-weights (higher h (children_weight new f)) (children_weight new f) root ps mid (λ k v. upper k v (none' k v)) in
          omega arith
        where
          upper : (k : ℕ) (v : Visit) → (k < suc h → children_weight new f k v ≡ 0) → cond (ltb h k) (children_weight new f k v) 0 ≡ children_weight new f k v
          upper k v z = elim (cases_lt h k) [
            | inl lt ↦ let t = lt-ltb h k lt in rw t refl
            | inr ge ↦ let x = z (omega arith) in let t = le-ltb h k ge in rw (t, x) refl
          ]

  visit_levels-some : (h : ℕ) (now : Positions) → Reached h now → (after : Positions) × (visit_levels written old new good h ps now ≡ Some after) × Reached 0 after
  visit_levels-some zero now r =
      let a = visit_level-some 0 ps now r.valid (ready 0 now r) in
      let w = VisitedLevel-visit written old n few kept.few new good 0 ps now a.0 a.1 in (
        a.0,
        a.1,
        record {
          valid = a.2;
          all = λ f none root s l. let x = w.weighs f root in let y = r.all f none root s l in let z = low-none f root a.0 in omega arith;
          sum = λ f root s l. let x = w.weighs f root in let y = r.sum f root s l in let z = low-none f root a.0 in
              let q = list_over-same (higher 0 (children_weight new f)) root ps a.0 now (λ p. at_page-higher 0 now a.0 w.moved (higher 0 (children_weight new f)) (λ k v lt. absurd (omega arith)) root p) in omega arith;
        },
      )
    where
      low-none : (f : ℕ → Visit → ℕ) (root : ℕ) (t : Positions) → list_over (exactly 0 (children_weight new f)) root ps t ≡ 0
      low-none f root t = zero ps
        where
          exact : (k : ℕ) (v : Visit) → exactly 0 (children_weight new f) k v ≡ 0
          exact zero v = refl
          exact (suc k) v = cond-ne {X = ℕ} (suc k) 0 (children_weight new f (suc k) v) 0 (λ e. omega arith)

          one : (p : ℕ) (o : Option Position) → at_page (exactly 0 (children_weight new f)) root p o ≡ 0
          one p None = refl
          one p (Some d) = let x = exact d.height (visit_of p d) in elim (eqb d.tree root) as (λ c. cond c (exactly 0 (children_weight new f) d.height (visit_of p d)) 0 ≡ 0) [ true ↦ x | false ↦ refl ]

          zero : (qs : List ℕ) → list_over (exactly 0 (children_weight new f)) root qs t ≡ 0
          zero [] = refl
          zero (p ∷ qs) = let x = one p (t p) in let y = zero qs in omega arith
  visit_levels-some (suc h) now r =
      let a = visit_level-some (suc h) ps now r.valid (ready (suc h) now r) in
      let w = VisitedLevel-visit written old n few kept.few new good (suc h) ps now a.0 a.1 in
      let b = visit_levels-some h a.0 (Reached-next h now a.0 r a.2 w) in
      (b.0, ap (λ o. then_do o (visit_levels written old new good h ps)) a.1 ∙ b.1, b.2)

  -- before the heights are visited
  Reached-first : Reached 7 at-roots
  Reached-first = record { valid = valid; all = all; sum = λ f root s l. let z = none-high f root s l in omega arith }
    where
      valid : Valid at-roots
      valid = record {
        trees = λ p e at. elim (set_roots-cases written new end_rank roots (detach_pages m old ps old) p) [
          | inr q ↦ let x = ap (λ (d : Position). d.tree) (Some-same (root_at new p end_rank) e (sym q.2 ∙ at)) in let y = q.0 in let z = q.1 in (omega arith, omega arith)
          | inl s ↦ elim (detach_pages-each m old ps old p) [
            | inl t ↦ kept.trees p e (sym t ∙ (sym s ∙ at))
            | inr z ↦ absurd (let x = sym z ∙ (sym s ∙ at) in cc)
          ]
        ];
        within = λ p e at. elim (set_roots-cases written new end_rank roots (detach_pages m old ps old) p) [
          | inr q ↦ written-cases written p (p < n) (few p) (λ w. root-in p q.0 q.1)
          | inl s ↦ elim (detach_pages-each m old ps old p) [
            | inl t ↦ old-in p e (sym t ∙ (sym s ∙ at))
            | inr z ↦ absurd (let x = sym z ∙ (sym s ∙ at) in cc)
          ]
        ];
      }
        where
          old-in : (p : ℕ) (e : Position) → old p ≡ Some e → p < n
          old-in p e at = elim (cases_lt p n) [ inl lt ↦ lt | inr ge ↦ absurd (let x = sym (kept.few p ge) ∙ at in cc) ]

          root-in : (p : ℕ) → 0 < p → p ≤ roots → p < n
          root-in p s l =
              let a = kept.table p s l (counts_visit (m p).level (top p)) in
              let b = weight_along-step (counts_visit (m p).level (top p)) m (height_of m p) (top_of p) in
              let c = counts_visit-own (m p).level (top p) in
              (Stands-counted p (m p).level (top p) old n (omega arith)).within

      all : (f : ℕ → Visit → ℕ) → ((k : ℕ) (v : Visit) → k < 7 → f k v ≡ 0) → (root : ℕ) → 0 < root → root ≤ roots → positions_over f root at-roots n ≡ weight_of f new root
      all f none root s l =
          let a = whole f root s l in
          let b = (new-law.trees root s l).1 in let c = most_height-lt roots in
          let z = weight_along-zero (on_written written (children_weight new f)) new (height_of new root) (top_of root) (λ k v le. on_written-high (children_weight new f) 8 (λ k v lt. children_weight-zero new f k 7 v (λ j u e. none j u (omega arith))) k v (omega arith)) in
          omega arith

      none-high : (f : ℕ → Visit → ℕ) (root : ℕ) → 0 < root → root ≤ roots → list_over (higher 7 (children_weight new f)) root ps at-roots ≡ 0
      none-high f root s l =
          let hi : (k : ℕ) (v : Visit) → k < 7 → on_written written (higher 7 (children_weight new f)) k v ≡ 0 = λ k v lt. on_written-high (higher 7 (children_weight new f)) 7 (λ k v lt. low k (children_weight new f k v) lt) k v lt in
          let a = all (on_written written (higher 7 (children_weight new f))) hi root s l in
          let b = listed.all (higher 7 (children_weight new f)) root at-roots in
          let c = (new-law.trees root s l).1 in let d = most_height-lt roots in
          let z = weight_along-zero (on_written written (higher 7 (children_weight new f))) new (height_of new root) (top_of root) (λ k v le. on_written-high (higher 7 (children_weight new f)) 8 (λ k v lt. low' k (children_weight new f k v) lt) k v (omega arith)) in
          omega arith
        where
          low : (k x : ℕ) → k < 7 → cond (ltb 7 k) x 0 ≡ 0
          low k x lt = grind (arith, nat_tests)

          low' : (k x : ℕ) → k < 8 → cond (ltb 7 k) x 0 ≡ 0
          low' k x lt = grind (arith, nat_tests)

  -- no step of the test fails, and its positions are those of the new trees
  pub visited-some : (after : Positions) × (visited written m new good end_rank roots ps old ≡ Some after) × Reached 0 after
  visited-some = visit_levels-some 7 at-roots Reached-first

  are_back-reached : (tree h : ℕ) → 0 < tree → tree ≤ roots → (ks : List Visit) (after : Positions) → Reached 0 after
      → ((f : ℕ → Visit → ℕ) → sum_of (f h) ks ≤ weight_of f m tree) → are_back written ks after ≡ true
  are_back-reached tree h s l [] after r le = refl
  are_back-reached tree h s l (k ∷ ks) after r le =
      both (written k.page || not (is_none (after k.page))) (are_back written ks after)
      (written-cases written k.page ((written k.page || not (is_none (after k.page))) ≡ true) (λ w. left (written k.page) (not (is_none (after k.page))) w) (λ w. there w))
      (are_back-reached tree h s l ks after r (λ f. let a = le f in omega arith))
    where
      both : (a b : Bool) → a ≡ true → b ≡ true → (a && b) ≡ true
      both true b e f = f
      both false b e f = e

      left : (a b : Bool) → a ≡ true → (a || b) ≡ true
      left true b e = refl
      left false b e = absurd (let x = e in cc)

      right : (a : Bool) (o : Option Position) (e : Position) → o ≡ Some e → (a || not (is_none o)) ≡ true
      right true o e at = refl
      right false None e at = absurd (let x = at in cc)
      right false (Some d) e at = refl

      there : written k.page ≡ false → (written k.page || not (is_none (after k.page))) ≡ true
      there w =
          let a = le (counts_visit h k) in
          let b = counts_visit-own h k in
          let c = stay tree s l (counts_visit h k) in
          let d = weight_along-off_other written new (height_of new tree) (top_of tree) h k w in
          let e = weight_along-off_other written m (height_of m tree) (top_of tree) h k w in
          let f = r.all (counts_visit h k) (λ j u lt. absurd (omega arith)) tree s l in
          right (written k.page) (after k.page) (position_of tree h k) (Stands-counted tree h k after n (omega arith)).is

  pub all_back-reached : (after : Positions) → Reached 0 after → all_back written m old ps after ≡ true
  all_back-reached after r = by ps (λ f root s l. let a = weight_of-split written m new same bits roots law n few old kept ps listed good f root in
      let b = weight_of-on_written written m new same bits roots law n few old kept ps listed good (children_weight m f) root s l in omega arith)
    where
      both : (a b : Bool) → a ≡ true → b ≡ true → (a && b) ≡ true
      both true b e f = f
      both false b e f = e

      one : (p : ℕ) (o : Option Position) → old p ≡ o → ((f : ℕ → Visit → ℕ) (root : ℕ) → 0 < root → root ≤ roots → at_page (children_weight m f) root p o ≤ weight_of f m root) → back_at written m p o after ≡ true
      one p None at le = refl
      one p (Some e) at le =
          let t = kept.trees p e at in
          are_back-reached e.tree (height_below e.height) t.0 t.1 (children_at m e.height (visit_of p e)) after r (λ f.
          let a = le f e.tree t.0 t.1 in let b = sum_of-children_at f m e.height (visit_of p e) in let c = cond-eq {X = ℕ} e.tree e.tree (children_weight m f e.height (visit_of p e)) 0 refl in omega arith)

      by : (qs : List ℕ) → ((f : ℕ → Visit → ℕ) (root : ℕ) → 0 < root → root ≤ roots → list_over (children_weight m f) root qs old ≤ weight_of f m root) → all_back written m old qs after ≡ true
      by [] le = refl
      by (q ∷ qs) le = both (back_at written m q (old q) after) (all_back written m old qs after)
          (one q (old q) refl (λ f root s l. let a = le f root s l in omega arith))
          (by qs (λ f root s l. let a = le f root s l in omega arith))
