-- The heights are visited, one below the other: what that leaves of the sums over the positions.
use Rattle.std.proofs.Common.{◌≡◌, ℕ, zero, suc, ◌+◌, ◌<◌, ◌≤◌, ◌⊎◌, inl, inr, Bool, true, false, cond, List, [], ◌∷◌, Option, Some, None, refl, sym, ap, subst, ◌∙◌, arith, eqb, leb, ◌≢◌}
use Rattle.std.proofs.lemmas.Bool.{cases_eq}
use Rattle.std.proofs.lemmas.Bool.Decides.{nat_tests}
use Rattle.ib_walk.specs.Pages.{PageMemory}
use Rattle.ib_walk.specs.Walk.{Visit}
use Rattle.ib_validate.specs.Patch.{children_weight}
use Rattle.ib_validate.specs.PatchTest.{Position, Positions, visit_of, at_page, positions_over, attach, children_at, height_below, visit_at, then_do, visit_level, visit_levels, list_over}
use Rattle.ib_walk.proofs.ChoiceLaws.{Some-same, cond-eq, cond-ne}
use Rattle.ib_tree.proofs.AttachLaws.{Attached, Attached-attach}
use Rattle.ib_tree.proofs.DetachLaws.{in_tree}
use Rattle.ib_tree.proofs.PositionLaws.{list_over-plus, list_over-same, list_over-weights}

-- weights by height
abbrev pub exactly : ℕ → (ℕ → Visit → ℕ) → ℕ → Visit → ℕ
exactly h g k v = cond (eqb k h) (g k v) 0

abbrev pub upto : ℕ → (ℕ → Visit → ℕ) → ℕ → Visit → ℕ
upto h g k v = cond (leb k h) (g k v) 0

pub at_page-exactly : (h : ℕ) (g : ℕ → Visit → ℕ) (root p : ℕ) (e : Position) → e.height ≢ h → at_page (exactly h g) root p (Some e) ≡ 0
at_page-exactly h g root p e ne = let z = cond-ne {X = ℕ} e.height h (g e.height (visit_of p e)) 0 ne in elim (eqb e.tree root) as (λ b. cond b (cond (eqb e.height h) (g e.height (visit_of p e)) 0) 0 ≡ 0) [ true ↦ z | false ↦ refl ]

abbrev pub IsPageIn : ℕ → List ℕ → Type 0
IsPageIn p [] = ⊥
IsPageIn p (x ∷ xs) = (x ≡ p) ⊎ IsPageIn p xs

module _ (written : ℕ → Bool) (old : Positions) (n : ℕ) (few : (p : ℕ) → written p ≡ true → p < n) (old_few : (p : ℕ) → n ≤ p → old p ≡ None)
    (new : PageMemory) (good : ℕ → Visit → Bool) where
  -- what is left where a height, or some pages of it, were visited
  pub record Moved (h : ℕ) (now after : Positions) : Type 0 where
    pub each : (p : ℕ) → (after p ≡ now p) ⊎ ((now p ≡ None) × ((e : Position) × (after p ≡ Some e) × (e.height < h)))
    pub trees : (p : ℕ) (e : Position) → after p ≡ Some e → (q : ℕ) × (d : Position) × (now q ≡ Some d) × (d.tree ≡ e.tree)
    pub kept : (p : ℕ) → written p ≡ false → (after p ≡ now p) ⊎ (after p ≡ old p)

  pub Moved-none : (h : ℕ) (now : Positions) → Moved h now now
  Moved-none h now = record { each = λ p. inl refl; trees = λ p e at. (p, e, at, refl); kept = λ p w. inl refl }

  pub Moved-then : (h k : ℕ) (a b c : Positions) → k ≤ h → Moved h a b → Moved k b c → Moved h a c
  Moved-then h k a b c le x y = record {
    trees = λ p e at. let u = y.trees p e at in let v = x.trees u.0 u.1 u.2 in (v.0, v.1, v.2, v.3 ∙ u.3);
    each = λ p. elim (y.each p) [
      | inl same ↦ elim (x.each p) [
        | inl s ↦ inl (same ∙ s)
        | inr q ↦ inr (q.0, (q.1.0, same ∙ q.1.1, q.1.2))
      ]
      | inr q ↦ elim (x.each p) [
        | inl s ↦ inr (sym s ∙ q.0, (q.1.0, q.1.1, let z = q.1.2 in omega arith))
        | inr r ↦ absurd (let z = sym q.0 ∙ r.1.1 in cc)
      ]
    ];
    kept = λ p w. elim (y.kept p w) [ inr o ↦ inr o | inl same ↦ elim (x.kept p w) [ inl s ↦ inl (same ∙ s) | inr o ↦ inr (same ∙ o) ] ];
  }

  -- a page that is met at this height or above stays
  pub at_page-Moved : (h : ℕ) (now after : Positions) → Moved h now after → (g : ℕ → Visit → ℕ) (j root p : ℕ) → h ≤ j → at_page (exactly j g) root p (after p) ≡ at_page (exactly j g) root p (now p)
  at_page-Moved h now after m g j root p le = elim (m.each p) [
    | inl same ↦ ap (at_page (exactly j g) root p) same
    | inr q ↦ ap (at_page (exactly j g) root p) q.1.1 ∙ (at_page-exactly j g root p q.1.0 (λ z. let x = q.1.2 in omega arith) ∙ ap (at_page (exactly j g) root p) (sym q.0))
  ]

  pub record VisitedPage (h p : ℕ) (now after : Positions) : Type 0 where
    pub moved : Moved h now after
    pub weighs : (f : ℕ → Visit → ℕ) (root : ℕ) → positions_over f root after n ≡ positions_over f root now n + at_page (exactly h (children_weight new f)) root p (now p)
    pub good_there : (e : Position) → now p ≡ Some e → e.height ≡ h → good h (visit_of p e) ≡ true

  children-none : (f : ℕ → Visit → ℕ) (h root p : ℕ) (e : Position) → e.height ≡ h → at_page (exactly h (children_weight new f)) root p (Some e) ≡ in_tree e.tree root (children_weight new f h (visit_of p e))
  children-none f h root p e s =
      let z : cond (eqb e.height h) (children_weight new f e.height (visit_of p e)) 0 ≡ children_weight new f h (visit_of p e) = cond-eq {X = ℕ} e.height h (children_weight new f e.height (visit_of p e)) 0 s ∙ ap (λ k. children_weight new f k (visit_of p e)) s in
      ap (λ x. cond (eqb e.tree root) x 0) z

  pub VisitedPage-visit : (h p : ℕ) (o : Option Position) (now after : Positions) → now p ≡ o → visit_at written old new good h p o now ≡ Some after → VisitedPage h p now after
  VisitedPage-visit h p None now after at e =
      let same : now ≡ after = Some-same now after e in record {
        moved = subst (Moved h now) same (Moved-none h now);
        weighs = λ f root. let x = ap (λ t. positions_over f root t n) same in let y = ap (at_page (exactly h (children_weight new f)) root p) at in omega arith;
        good_there = λ d q s. absurd (let x = sym at ∙ q in cc);
      }
  VisitedPage-visit h p (Some d) now after at e =
      elim (cases_eq d.height h) [
        | inr ne ↦
            let q = sym (cond-ne d.height h (cond (good h (visit_of p d)) (attach written old d.tree (height_below h) (children_at new h (visit_of p d)) now) None) (Some now) ne) ∙ e in
            let same : now ≡ after = Some-same now after q in record {
              moved = subst (Moved h now) same (Moved-none h now);
              weighs = λ f root. let x = ap (λ t. positions_over f root t n) same in let y = ap (at_page (exactly h (children_weight new f)) root p) at in let z = at_page-exactly h (children_weight new f) root p d ne in omega arith;
              good_there = λ c r s. absurd (ne (let x : Some d ≡ Some c = sym at ∙ r in ap (λ (m : Position). m.height) (Some-same d c x) ∙ s));
            }
        | inl s ↦
            let q = sym (cond-eq d.height h (cond (good h (visit_of p d)) (attach written old d.tree (height_below h) (children_at new h (visit_of p d)) now) None) (Some now) s) ∙ e in
            elim (good h (visit_of p d)) as (λ b. good h (visit_of p d) ≡ b → cond b (attach written old d.tree (height_below h) (children_at new h (visit_of p d)) now) None ≡ Some after → VisitedPage h p now after) [
              | false ↦ λ t r. absurd (let x = r in cc)
              | true ↦ λ t r. does h s t now after at r (Attached-attach written old n few old_few d.tree (height_below h) (children_at new h (visit_of p d)) now after r)
            ] refl q
      ]
    where
      lower-cases : (h : ℕ) (now after : Positions) → (p : ℕ) → (after p ≡ now p) ⊎ ((now p ≡ None) × ((e : Position) × (after p ≡ Some e) × (e.height ≡ height_below h) × (e.tree ≡ d.tree))) → 0 < h
          → (after p ≡ now p) ⊎ ((now p ≡ None) × ((e : Position) × (after p ≡ Some e) × (e.height < h)))
      lower-cases zero now after p x pos = absurd (omega arith)
      lower-cases (suc h) now after p x pos = elim x [ inl a ↦ inl a | inr b ↦ inr (b.0, (b.1.0, b.1.1, let y = b.1.2 in omega arith)) ]

      does : (h : ℕ) → d.height ≡ h → good h (visit_of p d) ≡ true → (now after : Positions) → now p ≡ Some d
          → attach written old d.tree (height_below h) (children_at new h (visit_of p d)) now ≡ Some after
          → Attached written old n few old_few d.tree (height_below h) (children_at new h (visit_of p d)) now after → VisitedPage h p now after
      does zero s t now after at r a =
          let same : now ≡ after = Some-same now after r in record {
            moved = subst (Moved 0 now) same (Moved-none 0 now);
            weighs = λ f root. let x = a.weighs f root in let y = ap (at_page (exactly 0 (children_weight new f)) root p) at in let z = children-none f 0 root p d s in omega arith;
            good_there = λ c q u. let x : Some d ≡ Some c = sym at ∙ q in subst (λ m. good 0 (visit_of p m) ≡ true) (Some-same d c x) t;
          }
      does (suc h) s t now after at r a = record {
        moved = record {
          each = λ p. lower-cases (suc h) now after p (a.each p) (omega arith);
          kept = a.kept;
          trees = λ q c there. elim (a.each q) [
            | inl same ↦ (q, c, sym same ∙ there, refl)
            | inr x ↦ let y : c.tree ≡ d.tree = ap (λ (m : Position). m.tree) (Some-same c x.1.0 (sym there ∙ x.1.1)) ∙ x.1.3 in (p, d, at, sym y)
          ];
        };
        weighs = λ f root. let x = a.weighs f root in let y = ap (at_page (exactly (suc h) (children_weight new f)) root p) at in let z = children-none f (suc h) root p d s in omega arith;
        good_there = λ c q u. let x : Some d ≡ Some c = sym at ∙ q in subst (λ m. good (suc h) (visit_of p m) ≡ true) (Some-same d c x) t;
      }

  pub record VisitedLevel (h : ℕ) (ps : List ℕ) (now after : Positions) : Type 0 where
    pub moved : Moved h now after
    pub weighs : (f : ℕ → Visit → ℕ) (root : ℕ) → positions_over f root after n ≡ positions_over f root now n + list_over (exactly h (children_weight new f)) root ps after
    pub good_there : (p : ℕ) → IsPageIn p ps → (e : Position) → after p ≡ Some e → e.height ≡ h → good h (visit_of p e) ≡ true

  bind-some : (o : Option Positions) (f : Positions → Option Positions) (after : Positions) → then_do o f ≡ Some after → (mid : Positions) × (o ≡ Some mid) × (f mid ≡ Some after)
  bind-some None f after e = absurd (let x = e in cc)
  bind-some (Some mid) f after e = (mid, refl, e)

  pub VisitedLevel-visit : (h : ℕ) (ps : List ℕ) (now after : Positions) → visit_level written old new good h ps now ≡ Some after → VisitedLevel h ps now after
  VisitedLevel-visit h [] now after e =
      let same : now ≡ after = Some-same now after e in record {
        moved = subst (Moved h now) same (Moved-none h now);
        weighs = λ f root. let x = ap (λ t. positions_over f root t n) same in omega arith;
        good_there = λ p i. absurd i;
      }
  VisitedLevel-visit h (p ∷ ps) now after e =
      let b = bind-some (visit_at written old new good h p (now p) now) (visit_level written old new good h ps) after e in
      let mid = b.0 in
      let v = VisitedPage-visit h p (now p) now b.0 refl b.1 in
      let r = VisitedLevel-visit h ps b.0 after b.2 in
      let m = Moved-then h h now b.0 after (omega arith) v.moved r.moved in
      record {
        moved = m;
        weighs = λ f root. let x = v.weighs f root in let y = r.weighs f root in let z = at_page-Moved h now after m (children_weight new f) h root p (omega arith) in omega arith;
        good_there = λ q i c at s. elim i [
          | inr j ↦ r.good_there q j c at s
          | inl is ↦ subst (λ k. good h (visit_of k c) ≡ true) is (v.good_there c (first c (subst (λ k. after k ≡ Some c) (sym is) at) s m) s)
        ];
      }
    where
      first : (c : Position) → after p ≡ Some c → c.height ≡ h → Moved h now after → now p ≡ Some c
      first c at s m = elim (m.each p) [
        | inl same ↦ sym same ∙ at
        | inr q ↦ absurd (let x : Some q.1.0 ≡ Some c = sym q.1.1 ∙ at in let y = ap (λ (k : Position). k.height) (Some-same q.1.0 c x) in let z = q.1.2 in omega arith)
      ]

  upto-zero : (g : ℕ → Visit → ℕ) (k : ℕ) (v : Visit) → upto 0 g k v ≡ exactly 0 g k v
  upto-zero g k v = grind (arith, nat_tests)

  upto-suc : (h : ℕ) (g : ℕ → Visit → ℕ) (k : ℕ) (v : Visit) → upto (suc h) g k v ≡ exactly (suc h) g k v + upto h g k v
  upto-suc h g k v = grind (arith, nat_tests)

  before-high : (h p : ℕ) (c : Position) (mid after : Positions) → Moved h mid after → after p ≡ Some c → c.height ≡ suc h → mid p ≡ Some c
  before-high h p c mid after m at s = elim (m.each p) [
    | inl same ↦ sym same ∙ at
    | inr q ↦ absurd (let x : Some q.1.0 ≡ Some c = sym q.1.1 ∙ at in let y = ap (λ (k : Position). k.height) (Some-same q.1.0 c x) in let z = q.1.2 in omega arith)
  ]

  pub record VisitedLevels (h : ℕ) (ps : List ℕ) (now after : Positions) : Type 0 where
    pub moved : Moved h now after
    pub weighs : (f : ℕ → Visit → ℕ) (root : ℕ) → positions_over f root after n ≡ positions_over f root now n + list_over (upto h (children_weight new f)) root ps after
    pub good_there : (p : ℕ) → IsPageIn p ps → (e : Position) → after p ≡ Some e → e.height ≤ h → good e.height (visit_of p e) ≡ true

  pub VisitedLevels-visit : (h : ℕ) (ps : List ℕ) (now after : Positions) → visit_levels written old new good h ps now ≡ Some after → VisitedLevels h ps now after
  VisitedLevels-visit zero ps now after e =
      let r = VisitedLevel-visit 0 ps now after e in record {
        moved = r.moved;
        weighs = λ f root. let x = r.weighs f root in let y = list_over-weights (upto 0 (children_weight new f)) (exactly 0 (children_weight new f)) root ps after (upto-zero (children_weight new f)) in omega arith;
        good_there = λ p i c at le. let z : c.height ≡ 0 = omega arith in subst (λ k. good k (visit_of p c) ≡ true) (sym z) (r.good_there p i c at z);
      }
  VisitedLevels-visit (suc h) ps now after e =
      let b = bind-some (visit_level written old new good (suc h) ps now) (visit_levels written old new good h ps) after e in
      let r = VisitedLevel-visit (suc h) ps now b.0 b.1 in
      let s = VisitedLevels-visit h ps b.0 after b.2 in
      record {
        moved = Moved-then (suc h) h now b.0 after (omega arith) r.moved s.moved;
        weighs = λ f root. let x = r.weighs f root in let y = s.weighs f root in
            let z = list_over-plus (upto (suc h) (children_weight new f)) (exactly (suc h) (children_weight new f)) (upto h (children_weight new f)) root ps after (upto-suc h (children_weight new f)) in
            let w = list_over-same (exactly (suc h) (children_weight new f)) root ps after b.0 (λ p. at_page-Moved h b.0 after s.moved (children_weight new f) (suc h) root p (omega arith)) in omega arith;
        good_there = λ p i c at le. elim (cases_eq c.height (suc h)) [
          | inr ne ↦ s.good_there p i c at (omega (arith, ne))
          | inl z ↦ subst (λ k. good k (visit_of p c) ≡ true) (sym z) (r.good_there p i c (before-high h p c b.0 after s.moved at z) z)
        ];
      }
