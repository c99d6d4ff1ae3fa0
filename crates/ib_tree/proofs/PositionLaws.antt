-- Sums over positions.
use Rattle.std.proofs.Common.{◌≡◌, ℕ, zero, suc, ◌+◌, ◌<◌, ◌≤◌, inl, inr, true, false, cond, List, [], ◌∷◌, Option, Some, None, refl, sym, ap, subst, ◌∙◌, arith, eqb, ◌≢◌}
use Rattle.std.proofs.lemmas.Bool.{cases_lt, cases_eq}
use Rattle.ib_walk.specs.Walk.{Visit, counts_page}
use Rattle.ib_walk.specs.Walk.{counts_visit}
use Rattle.ib_validate.specs.PatchTest.{Position, Positions, visit_of, at_page, positions_over, set_at, position_of, list_over, is_none}
use Rattle.ib_walk.proofs.ChoiceLaws.{cond-eq, cond-ne}
use Rattle.ib_tree.proofs.PatchLaws.{counts_visit-own, counts_visit-same}

pub positions_over-same : (f : ℕ → Visit → ℕ) (root : ℕ) (a b : Positions) (n : ℕ) → ((p : ℕ) → p < n → a p ≡ b p) → positions_over f root a n ≡ positions_over f root b n
positions_over-same f root a b zero e = refl
positions_over-same f root a b (suc n) e = let x = ap (at_page f root n) (e n (omega arith)) in let r = positions_over-same f root a b n (λ p l. e p (omega arith)) in omega arith

pub positions_over-set_at : (f : ℕ → Visit → ℕ) (root : ℕ) (table : Positions) (n page : ℕ) (met : Option Position) → page < n
    → positions_over f root (set_at table page met) n + at_page f root page (table page) ≡ positions_over f root table n + at_page f root page met
positions_over-set_at f root table zero page met lt = absurd (omega arith)
positions_over-set_at f root table (suc n) page met lt =
    elim (cases_eq n page) [
      | inl e ↦
          let a = ap (at_page f root n) (cond-eq n page met (table n) e) in
          let b = positions_over-same f root (set_at table page met) table n (λ p l. cond-ne p page met (table p) (λ z. omega arith)) in
          let c = ap (λ q. at_page f root q (table q)) e in
          let d = ap (λ q. at_page f root q met) e in omega arith
      | inr ne ↦
          let a = ap (at_page f root n) (cond-ne n page met (table n) ne) in
          let r = positions_over-set_at f root table n page met (omega (arith, ne)) in omega arith
    ]

pub positions_over-beyond : (f : ℕ → Visit → ℕ) (root : ℕ) (table : Positions) (n page : ℕ) (met : Option Position) → n ≤ page → positions_over f root (set_at table page met) n ≡ positions_over f root table n
positions_over-beyond f root table n page met le = positions_over-same f root (set_at table page met) table n (λ p l. cond-ne p page met (table p) (λ z. omega arith))

pub at_page-le : (f : ℕ → Visit → ℕ) (root : ℕ) (table : Positions) (n page : ℕ) → page < n → at_page f root page (table page) ≤ positions_over f root table n
at_page-le f root table zero page lt = absurd (omega arith)
at_page-le f root table (suc n) page lt =
    elim (cases_eq n page) [
      | inl e ↦ let c = ap (λ q. at_page f root q (table q)) e in omega arith
      | inr ne ↦ let r = at_page-le f root table n page (omega (arith, ne)) in omega arith
    ]

-- what weighs something among the positions stands there
pub record Stands (root h : ℕ) (v : Visit) (table : Positions) (n : ℕ) : Type 0 where
  pub within : v.page < n
  pub is : table v.page ≡ Some (position_of root h v)

pub Stands-counted : (root h : ℕ) (v : Visit) (table : Positions) (n : ℕ) → 0 < positions_over (counts_visit h v) root table n → Stands root h v table n
Stands-counted root h v table zero some = absurd (omega arith)
Stands-counted root h v table (suc n) some =
    elim (cases_lt 0 (positions_over (counts_visit h v) root table n)) [
      | inl pos ↦ let r = Stands-counted root h v table n pos in record { within = let x = r.within in omega arith; is = r.is }
      | inr non ↦ here (table n) refl (omega arith)
    ]
  where
    here : (o : Option Position) → table n ≡ o → 0 < at_page (counts_visit h v) root n o → Stands root h v table (suc n)
    here None e pos = absurd (omega arith)
    here (Some d) e pos =
        elim (cases_eq d.tree root) [
          | inr ne ↦ absurd (let z = cond-ne {X = ℕ} d.tree root (counts_visit h v d.height (visit_of n d)) 0 ne in omega arith)
          | inl t ↦
              let z = cond-eq {X = ℕ} d.tree root (counts_visit h v d.height (visit_of n d)) 0 t in
              let s = counts_visit-same h v d.height (visit_of n d) (omega arith) in
              let p : n ≡ v.page = ap (λ (u : Visit). u.page) s.1 in
              let lo : d.low ≡ v.low = ap (λ (u : Visit). u.low) s.1 in
              let hi : d.high ≡ v.high = ap (λ (u : Visit). u.high) s.1 in
              let same : d ≡ position_of root h v = λ i. record { tree = t i; height = s.0 i; low = lo i; high = hi i } in
              record { within = omega arith; is = subst (λ q. table q ≡ Some (position_of root h v)) p (e ∙ ap Some same) }
        ]

pub counted-Stands : (root h : ℕ) (v : Visit) (table : Positions) (n : ℕ) → Stands root h v table n → 0 < positions_over (counts_visit h v) root table n
counted-Stands root h v table n s =
    let a = at_page-le (counts_visit h v) root table n v.page s.within in
    let b = ap (at_page (counts_visit h v) root v.page) s.is in
    let c = cond-eq {X = ℕ} root root (counts_visit h v h v) 0 refl in
    let d = counts_visit-own h v in
    omega arith

-- a page that stands weighs at most once
pub positions_over-none : (root page : ℕ) (table : Positions) (n : ℕ) → table page ≡ None → positions_over (counts_page page) root table n ≡ 0
positions_over-none root page table zero none = refl
positions_over-none root page table (suc n) none =
    let r = positions_over-none root page table n none in
    elim (cases_eq n page) [
      | inl e ↦ let a = ap (at_page (counts_page page) root n) (subst (λ q. table q ≡ None) (sym e) none) in omega arith
      | inr ne ↦ let a = other (table n) ne in omega arith
    ]
  where
    other : (o : Option Position) → n ≢ page → at_page (counts_page page) root n o ≡ 0
    other None ne = refl
    other (Some d) ne = let z : cond {A = ℕ} (eqb n page) 1 0 ≡ 0 = cond-ne {X = ℕ} n page 1 0 ne in elim (eqb d.tree root) as (λ b. cond {A = ℕ} b (cond {A = ℕ} (eqb n page) 1 0) 0 ≡ 0) [ true ↦ z | false ↦ refl ]

-- sums over a list of pages
pub list_over-same : (f : ℕ → Visit → ℕ) (root : ℕ) (ps : List ℕ) (a b : Positions) → ((p : ℕ) → at_page f root p (a p) ≡ at_page f root p (b p)) → list_over f root ps a ≡ list_over f root ps b
list_over-same f root [] a b e = refl
list_over-same f root (p ∷ ps) a b e = let x = e p in let r = list_over-same f root ps a b e in omega arith

pub list_over-plus : (f a b : ℕ → Visit → ℕ) (root : ℕ) (ps : List ℕ) (t : Positions) → ((k : ℕ) (v : Visit) → f k v ≡ a k v + b k v) → list_over f root ps t ≡ list_over a root ps t + list_over b root ps t
list_over-plus f a b root [] t e = refl
list_over-plus f a b root (p ∷ ps) t e =
    let r = list_over-plus f a b root ps t e in let x = one (t p) in omega arith
  where
    one : (o : Option Position) → at_page f root p o ≡ at_page a root p o + at_page b root p o
    one None = refl
    one (Some d) = let x = e d.height (visit_of p d) in elim (eqb d.tree root) as (λ c. cond c (f d.height (visit_of p d)) 0 ≡ cond c (a d.height (visit_of p d)) 0 + cond c (b d.height (visit_of p d)) 0) [ true ↦ x | false ↦ refl ]

pub list_over-weights : (f g : ℕ → Visit → ℕ) (root : ℕ) (ps : List ℕ) (t : Positions) → ((k : ℕ) (v : Visit) → f k v ≡ g k v) → list_over f root ps t ≡ list_over g root ps t
list_over-weights f g root [] t e = refl
list_over-weights f g root (p ∷ ps) t e = let r = list_over-weights f g root ps t e in let x = one (t p) in omega arith
  where
    one : (o : Option Position) → at_page f root p o ≡ at_page g root p o
    one None = refl
    one (Some d) = let x = e d.height (visit_of p d) in elim (eqb d.tree root) as (λ c. cond c (f d.height (visit_of p d)) 0 ≡ cond c (g d.height (visit_of p d)) 0) [ true ↦ x | false ↦ refl ]

-- what the test of a position says
pub is_none-None : (o : Option Position) → is_none o ≡ true → o ≡ None
is_none-None None e = refl
is_none-None (Some d) e = absurd (let x = e in cc)
