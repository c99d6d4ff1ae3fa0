-- What holds of the listed pages where they are met, and what holds of their new visits.
use Rattle.std.proofs.Common.{◌≡◌, ◌≢◌, ◌⊎◌, ℕ, zero, suc, ◌<◌, cond, List, [], ◌∷◌, ◌++◌, Option, Some, None, refl, sym, subst, arith, eqb, inl, inr, All}
use Rattle.std.specs.List.{AllByRecursion, Any}
use Rattle.std.proofs.lemmas.Bool.{cases_eq, eq-eqb}
use Rattle.ib_map.specs.Pairs.{Pairs}
use Rattle.ib_walk.specs.Pages.{PageMemory}
use Rattle.ib_walk.specs.Walk.{Visit, counts_visit}
use Rattle.ib_validate.specs.Patch.{LevelVisit, over}
use Rattle.ib_validate.specs.PatchTest.{Position, Positions, visit_of, visit_in, fresh_of}
use Rattle.ib_validate.specs.Contents.{HasItsContent, HasSlice, IsLeafOf, HasLeafOf}
use Rattle.ib_walk.proofs.ChoiceLaws.{cond-eq, cond-ne}

abbrev level_visit : ℕ → Position → LevelVisit
level_visit p e = record { height = e.height; visit = visit_of p e }

-- the new visit of a page in the tree, or none
visit_in-here : (p : ℕ) (e : Position) → e.tree ≡ 1 → visit_in 1 p (Some e) ≡ level_visit p e ∷ []
visit_in-here p e t = cond-eq e.tree 1 (level_visit p e ∷ []) [] t

visit_in-other : (p : ℕ) (e : Position) → e.tree ≢ 1 → visit_in 1 p (Some e) ≡ []
visit_in-other p e t = cond-ne e.tree 1 (level_visit p e ∷ []) [] t

module _ (new : PageMemory) (target : Pairs) where
  has-more : (p : ℕ) (o : Option Position) (rest : List LevelVisit) → HasItsContent new target p o → AllByRecursion (HasSlice new target) rest → AllByRecursion (HasSlice new target) (visit_in 1 p o ++ rest)
  has-more p None rest h r = r
  has-more p (Some e) rest h r = elim (cases_eq e.tree 1) [
    | inl t ↦ subst (λ xs. AllByRecursion (HasSlice new target) (xs ++ rest)) (sym (visit_in-here p e t)) (h t, r)
    | inr ne ↦ subst (λ xs. AllByRecursion (HasSlice new target) (xs ++ rest)) (sym (visit_in-other p e ne)) r
  ]

  has-parts : (p : ℕ) (o : Option Position) (rest : List LevelVisit) → AllByRecursion (HasSlice new target) (visit_in 1 p o ++ rest) → HasItsContent new target p o × AllByRecursion (HasSlice new target) rest
  has-parts p None rest h = (tt, h)
  has-parts p (Some e) rest h = elim (cases_eq e.tree 1) [
    | inl t ↦ let r = subst (λ xs. AllByRecursion (HasSlice new target) (xs ++ rest)) (visit_in-here p e t) h in (λ s. r.0, r.1)
    | inr ne ↦ (λ t. absurd (ne t), subst (λ xs. AllByRecursion (HasSlice new target) (xs ++ rest)) (visit_in-other p e ne) h)
  ]

  pub fresh-content : (ps : List ℕ) (t : Positions) → All (λ p. HasItsContent new target p (t p)) ps → AllByRecursion (HasSlice new target) (fresh_of ps t 1)
  fresh-content [] t h = tt
  fresh-content (p ∷ ps) t h = has-more p (t p) (fresh_of ps t 1) (h 0 p (omega arith)) (fresh-content ps t (λ k d lt. h (suc k) d (omega arith)))

  pub content-fresh : (ps : List ℕ) (t : Positions) → AllByRecursion (HasSlice new target) (fresh_of ps t 1) → All (λ p. HasItsContent new target p (t p)) ps
  content-fresh [] t h k d lt = absurd (omega arith)
  content-fresh (p ∷ ps) t h zero d lt = (has-parts p (t p) (fresh_of ps t 1) h).0
  content-fresh (p ∷ ps) t h (suc k) d lt = content-fresh ps t (has-parts p (t p) (fresh_of ps t 1) h).1 k d (omega arith)

-- a visit counts once for itself, and for no other
counts_visit-same : (h k : ℕ) (v : Visit) → k ≡ h → counts_visit h v k v ≡ 1
counts_visit-same h k v e = rw (eq-eqb k h e, eq-eqb v.page v.page refl, eq-eqb v.low v.low refl, eq-eqb v.high v.high refl) refl

counts_visit-only : (h k : ℕ) (v u : Visit) → 0 < counts_visit h v k u → (k ≡ h) × (u.low ≡ v.low) × (u.high ≡ v.high)
counts_visit-only h k v u some = elim (cases_eq k h) [
  | inr ne ↦ absurd (let z = cond-ne {X = ℕ} k h (cond (eqb u.page v.page) (cond (eqb u.low v.low) (cond (eqb u.high v.high) 1 0) 0) 0) 0 ne in omega arith)
  | inl e ↦
      let a = cond-eq {X = ℕ} k h (cond (eqb u.page v.page) (cond (eqb u.low v.low) (cond (eqb u.high v.high) 1 0) 0) 0) 0 e in
      elim (cases_eq u.page v.page) [
        | inr ne ↦ absurd (let z = cond-ne {X = ℕ} u.page v.page (cond (eqb u.low v.low) (cond (eqb u.high v.high) 1 0) 0) 0 ne in omega arith)
        | inl p ↦
            let b = cond-eq {X = ℕ} u.page v.page (cond (eqb u.low v.low) (cond (eqb u.high v.high) 1 0) 0) 0 p in
            elim (cases_eq u.low v.low) [
              | inr ne ↦ absurd (let z = cond-ne {X = ℕ} u.low v.low (cond (eqb u.high v.high) 1 0) 0 ne in omega arith)
              | inl l ↦
                  let c = cond-eq {X = ℕ} u.low v.low (cond (eqb u.high v.high) 1 0) 0 l in
                  elim (cases_eq u.high v.high) [
                    | inr ne ↦ absurd (let z = cond-ne {X = ℕ} u.high v.high 1 0 ne in omega arith)
                    | inl q ↦ (e, l, q)
                  ]
            ]
      ]
]

module _ (key : ℕ) where
  leaf-here : (p : ℕ) (o : Option Position) (rest : List LevelVisit) → IsLeafOf key o → HasLeafOf key (visit_in 1 p o ++ rest)
  leaf-here p None rest h = absurd h
  leaf-here p (Some e) rest h =
      let one = counts_visit-same 0 e.height (visit_of p e) h.1 in
      let there : 0 < over (counts_visit 0 (visit_of p e)) (level_visit p e ∷ rest) = omega arith in
      (visit_of p e, subst (λ xs. 0 < over (counts_visit 0 (visit_of p e)) (xs ++ rest)) (sym (visit_in-here p e h.0)) there, h.2, h.3)

  leaf-later : (p : ℕ) (o : Option Position) (rest : List LevelVisit) → HasLeafOf key rest → HasLeafOf key (visit_in 1 p o ++ rest)
  leaf-later p None rest h = h
  leaf-later p (Some e) rest h = elim (cases_eq e.tree 1) [
    | inl t ↦ let more : 0 < over (counts_visit 0 h.0) (level_visit p e ∷ rest) = let x = h.1 in omega arith in
        (h.0, subst (λ xs. 0 < over (counts_visit 0 h.0) (xs ++ rest)) (sym (visit_in-here p e t)) more, h.2, h.3)
    | inr ne ↦ subst (λ xs. HasLeafOf key (xs ++ rest)) (sym (visit_in-other p e ne)) h
  ]

  leaf-parts : (p : ℕ) (o : Option Position) (rest : List LevelVisit) → HasLeafOf key (visit_in 1 p o ++ rest) → IsLeafOf key o ⊎ HasLeafOf key rest
  leaf-parts p None rest h = inr h
  leaf-parts p (Some e) rest h = elim (cases_eq e.tree 1) [
    | inr ne ↦ inr (subst (λ xs. HasLeafOf key (xs ++ rest)) (visit_in-other p e ne) h)
    | inl t ↦ split t (subst (λ xs. HasLeafOf key (xs ++ rest)) (visit_in-here p e t) h)
  ]
    where
      split : e.tree ≡ 1 → HasLeafOf key (level_visit p e ∷ rest) → IsLeafOf key (Some e) ⊎ HasLeafOf key rest
      split t w = elim (cases_eq (counts_visit 0 w.0 e.height (visit_of p e)) 0) [
        | inl z ↦ inr (w.0, let x = w.1 in omega arith, w.2, w.3)
        | inr nz ↦ inl (let only = counts_visit-only 0 e.height w.0 (visit_of p e) (omega (arith, nz)) in
            let low = only.1 in let high = only.2 in let above = w.2 in let below = w.3 in (t, only.0, omega arith, omega arith))
      ]

  pub fresh-leaf : (ps : List ℕ) (t : Positions) → Any (λ p. IsLeafOf key (t p)) ps → HasLeafOf key (fresh_of ps t 1)
  fresh-leaf [] t (k, x, lt, at, h) = absurd (omega arith)
  fresh-leaf (p ∷ ps) t (zero, x, lt, at, h) = leaf-here p (t p) (fresh_of ps t 1) (subst (λ q. IsLeafOf key (t q)) (sym at) h)
  fresh-leaf (p ∷ ps) t (suc k, x, lt, at, h) = leaf-later p (t p) (fresh_of ps t 1) (fresh-leaf ps t (k, x, omega arith, at, h))

  pub leaf-fresh : (ps : List ℕ) (t : Positions) → HasLeafOf key (fresh_of ps t 1) → Any (λ p. IsLeafOf key (t p)) ps
  leaf-fresh [] t h = absurd (let x = h.1 in omega arith)
  leaf-fresh (p ∷ ps) t h = elim (leaf-parts p (t p) (fresh_of ps t 1) h) [
    | inl here ↦ (0, p, omega arith, refl, here)
    | inr later ↦ let r = leaf-fresh ps t later in (suc r.0, r.1, let x = r.2 in omega arith, r.3, r.4)
  ]
