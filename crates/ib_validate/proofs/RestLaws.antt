-- Where the test of the visits passes, a page that is not written is met where it was.
use Rattle.std.proofs.Common.{◌≡◌, ◌⊎◌, ℕ, zero, suc, inl, inr, Bool, true, false, cond, List, [], ◌∷◌, Option, Some, None, refl, sym, ap, ◌∙◌, eqb}
use Rattle.std.specs.Prelude.{◌&&◌, ◌||◌, not}
use Rattle.std.proofs.lemmas.Bool.{cases_eq, cases_Bool, eqb-true, and_parts, cond-true, cond-false}
use Rattle.ib_walk.specs.Pages.{PageMemory}
use Rattle.ib_walk.specs.Walk.{Visit}
use Rattle.ib_validate.specs.PatchTest.{Position, Positions, visit_of, set_at, position_of, same_position, is_none, detach, attach, children_at, height_below, detach_at, detach_pages, root_at, set_roots, visit_at, then_do, visit_level, visit_levels, are_back, back_at, all_back, visited}
use Rattle.ib_walk.proofs.ChoiceLaws.{Some-same, cond-eq, cond-ne}

-- the same position, tested
pub same_position-is : (o : Option Position) (e : Position) → same_position o e ≡ true → o ≡ Some e
same_position-is None e t = absurd (let x = t in cc)
same_position-is (Some d) e t =
    let a = and_parts ((eqb d.tree e.tree && eqb d.height e.height) && eqb d.low e.low) (eqb d.high e.high) t in
    let b = and_parts (eqb d.tree e.tree && eqb d.height e.height) (eqb d.low e.low) a.0 in
    let c = and_parts (eqb d.tree e.tree) (eqb d.height e.height) b.0 in
    let p = eqb-true d.tree e.tree c.0 in let q = eqb-true d.height e.height c.1 in let r = eqb-true d.low e.low b.1 in let s = eqb-true d.high e.high a.1 in
    ap Some (λ i. record { tree = p i; height = q i; low = r i; high = s i })

or-right : (a b : Bool) → a ≡ false → (a || b) ≡ true → b ≡ true
or-right true b e t = absurd (let x = e in cc)
or-right false b e t = t

not-true : (b : Bool) → not b ≡ true → b ≡ false
not-true true e = absurd (let x = e in cc)
not-true false e = refl

-- a page that is detached is met no more
pub detach-each : (ks : List Visit) (now : Positions) (p : ℕ) → (detach ks now p ≡ now p) ⊎ (detach ks now p ≡ None)
detach-each [] now p = inl refl
detach-each (k ∷ ks) now p = elim (detach-each ks (set_at now k.page None) p) [
  | inr z ↦ inr z
  | inl s ↦ elim (cases_eq p k.page) [
    | inl e ↦ inr (s ∙ cond-eq p k.page None (now p) e)
    | inr ne ↦ inl (s ∙ cond-ne p k.page None (now p) ne)
  ]
]

detach_at-each : (m : PageMemory) (q : ℕ) (o : Option Position) (now : Positions) (p : ℕ) → (detach_at m q o now p ≡ now p) ⊎ (detach_at m q o now p ≡ None)
detach_at-each m q None now p = inl refl
detach_at-each m q (Some d) now p = detach-each (children_at m d.height (visit_of q d)) now p

pub detach_pages-each : (m : PageMemory) (old : Positions) (ps : List ℕ) (now : Positions) (p : ℕ) → (detach_pages m old ps now p ≡ now p) ⊎ (detach_pages m old ps now p ≡ None)
detach_pages-each m old [] now p = inl refl
detach_pages-each m old (q ∷ ps) now p = elim (detach_pages-each m old ps (detach_at m q (old q) now) p) [
  | inr z ↦ inr z
  | inl s ↦ elim (detach_at-each m q (old q) now p) [ inl e ↦ inl (s ∙ e) | inr z ↦ inr (s ∙ z) ]
]

module _ (written : ℕ → Bool) (p : ℕ) (unwritten : written p ≡ false) where
  -- a page that is detached must be met in the end
  detach-back : (ks : List Visit) (now end : Positions) → are_back written ks end ≡ true → (detach ks now p ≡ now p) ⊎ (is_none (end p) ≡ false)
  detach-back [] now end b = inl refl
  detach-back (k ∷ ks) now end b =
      let parts = and_parts (written k.page || not (is_none (end k.page))) (are_back written ks end) b in
      elim (detach-back ks (set_at now k.page None) end parts.1) [
        | inr r ↦ inr r
        | inl e ↦ elim (cases_eq p k.page) [
          | inl s ↦ inr (ap (λ q. is_none (end q)) s ∙ not-true (is_none (end k.page)) (or-right (written k.page) _ (ap written (sym s) ∙ unwritten) parts.0))
          | inr ne ↦ inl (e ∙ cond-ne p k.page None (now p) ne)
        ]
      ]

  detach_at-back : (m : PageMemory) (q : ℕ) (o : Option Position) (now end : Positions) → back_at written m q o end ≡ true → (detach_at m q o now p ≡ now p) ⊎ (is_none (end p) ≡ false)
  detach_at-back m q None now end b = inl refl
  detach_at-back m q (Some d) now end b = detach-back (children_at m d.height (visit_of q d)) now end b

  detach_pages-back : (m : PageMemory) (old : Positions) (ps : List ℕ) (now end : Positions) → all_back written m old ps end ≡ true → (detach_pages m old ps now p ≡ now p) ⊎ (is_none (end p) ≡ false)
  detach_pages-back m old [] now end b = inl refl
  detach_pages-back m old (q ∷ ps) now end b =
      let parts = and_parts (back_at written m q (old q) end) (all_back written m old ps end) b in
      elim (detach_pages-back m old ps (detach_at m q (old q) now) end parts.1) [
        | inr r ↦ inr r
        | inl s ↦ elim (detach_at-back m q (old q) now end parts.0) [ inl e ↦ inl (s ∙ e) | inr r ↦ inr r ]
      ]

  set_roots-rest : (new : PageMemory) (end k : ℕ) (now : Positions) → set_roots written new end k now p ≡ now p
  set_roots-rest new end zero now = refl
  set_roots-rest new end (suc k) now = set_roots-rest new end k (cond (written (suc k)) (set_at now (suc k) (Some (root_at new (suc k) end))) now) ∙ one (cases_Bool (written (suc k)))
    where
      one : (written (suc k) ≡ true) ⊎ (written (suc k) ≡ false) → cond (written (suc k)) (set_at now (suc k) (Some (root_at new (suc k) end))) now p ≡ now p
      one (inr fails) = ap (λ (t : Positions). t p) (cond-false (written (suc k)) _ now fails)
      one (inl holds) = ap (λ (t : Positions). t p) (cond-true (written (suc k)) (set_at now (suc k) (Some (root_at new (suc k) end))) now holds)
          ∙ cond-ne p (suc k) (Some (root_at new (suc k) end)) (now p) (λ e. let x = sym holds ∙ (ap written (sym e) ∙ unwritten) in cc)

  -- a page that is attached is met where it was
  attach-rest : (old : Positions) (tree h : ℕ) (ks : List Visit) (now after : Positions) → attach written old tree h ks now ≡ Some after → (after p ≡ now p) ⊎ (after p ≡ old p)
  attach-rest old tree h [] now after e = inl (ap (λ (t : Positions). t p) (sym (Some-same now after e)))
  attach-rest old tree h (k ∷ ks) now after e =
      elim (cases_Bool (is_none (now k.page) && (written k.page || same_position (old k.page) (position_of tree h k)))) [
        | inr fails ↦ absurd (let x = sym (cond-false _ (attach written old tree h ks (set_at now k.page (Some (position_of tree h k)))) None fails) ∙ e in cc)
        | inl holds ↦
            let may = and_parts (is_none (now k.page)) _ holds in
            elim (attach-rest old tree h ks (set_at now k.page (Some (position_of tree h k))) after
            (sym (cond-true _ (attach written old tree h ks (set_at now k.page (Some (position_of tree h k)))) None holds) ∙ e)) [
              | inr o ↦ inr o
              | inl same ↦ elim (cases_eq p k.page) [
                | inr ne ↦ inl (same ∙ cond-ne p k.page (Some (position_of tree h k)) (now p) ne)
                | inl s ↦ inr (same ∙ (cond-eq p k.page (Some (position_of tree h k)) (now p) s
                    ∙ sym (ap old s ∙ same_position-is (old k.page) (position_of tree h k) (or-right (written k.page) _ (ap written (sym s) ∙ unwritten) may.1))))
              ]
            ]
      ]

  module _ (old : Positions) (new : PageMemory) (good : ℕ → Visit → Bool) where
    then-rest : (a b c : Positions) → (b p ≡ a p) ⊎ (b p ≡ old p) → (c p ≡ b p) ⊎ (c p ≡ old p) → (c p ≡ a p) ⊎ (c p ≡ old p)
    then-rest a b c x y = elim y [ inr o ↦ inr o | inl s ↦ elim x [ inr o ↦ inr (s ∙ o) | inl e ↦ inl (s ∙ e) ] ]

    visit_at-rest : (h q : ℕ) (o : Option Position) (now after : Positions) → visit_at written old new good h q o now ≡ Some after → (after p ≡ now p) ⊎ (after p ≡ old p)
    visit_at-rest h q None now after e = inl (ap (λ (t : Positions). t p) (sym (Some-same now after e)))
    visit_at-rest h q (Some d) now after e = elim (cases_eq d.height h) [
      | inr ne ↦ inl (ap (λ (t : Positions). t p) (sym (Some-same now after (sym (cond-ne d.height h _ (Some now) ne) ∙ e))))
      | inl s ↦ elim (cases_Bool (good h (visit_of q d))) [
        | inr fails ↦ absurd (let x = sym (cond-eq d.height h _ (Some now) s ∙ cond-false (good h (visit_of q d)) _ None fails) ∙ e in cc)
        | inl holds ↦ attach-rest old d.tree (height_below h) (children_at new h (visit_of q d)) now after (sym (cond-eq d.height h _ (Some now) s ∙ cond-true (good h (visit_of q d)) _ None holds) ∙ e)
      ]
    ]

    then_do-parts : (o : Option Positions) (f : Positions → Option Positions) (after : Positions) → then_do o f ≡ Some after → (mid : Positions) × (o ≡ Some mid) × (f mid ≡ Some after)
    then_do-parts None f after e = absurd (let x = e in cc)
    then_do-parts (Some mid) f after e = (mid, refl, e)

    visit_level-rest : (h : ℕ) (ps : List ℕ) (now after : Positions) → visit_level written old new good h ps now ≡ Some after → (after p ≡ now p) ⊎ (after p ≡ old p)
    visit_level-rest h [] now after e = inl (ap (λ (t : Positions). t p) (sym (Some-same now after e)))
    visit_level-rest h (q ∷ ps) now after e =
        let parts = then_do-parts (visit_at written old new good h q (now q) now) (visit_level written old new good h ps) after e in
        then-rest now parts.0 after (visit_at-rest h q (now q) now parts.0 parts.1) (visit_level-rest h ps parts.0 after parts.2)

    visit_levels-rest : (h : ℕ) (ps : List ℕ) (now after : Positions) → visit_levels written old new good h ps now ≡ Some after → (after p ≡ now p) ⊎ (after p ≡ old p)
    visit_levels-rest zero ps now after e = visit_level-rest 0 ps now after e
    visit_levels-rest (suc h) ps now after e =
        let parts = then_do-parts (visit_level written old new good (suc h) ps now) (visit_levels written old new good h ps) after e in
        then-rest now parts.0 after (visit_level-rest (suc h) ps now parts.0 parts.1) (visit_levels-rest h ps parts.0 after parts.2)

    -- the page is met where it was
    pub visited-rest : (m : PageMemory) (end roots : ℕ) (ps : List ℕ) (after : Positions) → visited written m new good end roots ps old ≡ Some after → all_back written m old ps after ≡ true → after p ≡ old p
    visited-rest m end roots ps after went back =
        elim (visit_levels-rest 7 ps (set_roots written new end roots (detach_pages m old ps old)) after went) [
          | inr o ↦ o
          | inl s ↦
              let start = s ∙ set_roots-rest new end roots (detach_pages m old ps old) in
              elim (detach_pages-back m old ps old after back) [
                | inl e ↦ start ∙ e
                | inr met ↦ elim (detach_pages-each m old ps old p) [
                  | inl e ↦ start ∙ e
                  | inr z ↦ absurd (let x = ap is_none (start ∙ z) in let y = sym met ∙ x in cc)
                ]
              ]
        ]
