-- A leaf is linked with a neighbour by what stands at the page that its link names.
use Rattle.std.proofs.Common.{◌≡◌, ◌≢◌, ◌↔◌, ℕ, Bool, false, IsTrue, Some, None, sym, ap, subst, ◌∙◌, nat_eq}
use Rattle.std.proofs.lemmas.Bool.{eq-eqb, eqb-true}
use Rattle.ib_walk.specs.Pages.{PageMemory}
use Rattle.ib_validate.specs.PatchTest.{Position, Positions}
use Rattle.ib_validate.specs.PageTests.{IsLeafBefore, IsLeafBehind, IsLinkedLeft, IsLinkedRight}

module _ (new : PageMemory) (table : Positions) (page : ℕ) (e : Position) (link : ℕ) where
  pub linked-first : (new page).prev ≡ link → e.low ≡ 0 → IsTrue (nat_eq link 0) ↔ IsLinkedLeft new table page e
  linked-first at low = (
    λ t. record { first = λ z. at ∙ eqb-true link 0 t; left = λ ne. absurd (ne low) },
    λ h. eq-eqb link 0 (sym at ∙ h.first low),
  )

  pub linked-left-none : (new page).prev ≡ link → e.low ≢ 0 → table link ≡ None → IsTrue false ↔ IsLinkedLeft new table page e
  linked-left-none at low none = (λ t. absurd (let x = t in cc), λ h. let found = h.left low in absurd (let x = sym (ap table at ∙ none) ∙ found.1 in cc))

  pub linked-left-some : (d : Position) → (new page).prev ≡ link → e.low ≢ 0 → table link ≡ Some d → (IsLeafBefore d e × ((new link).next ≡ page)) ↔ IsLinkedLeft new table page e
  linked-left-some d at low some = (
    λ h. record { first = λ z. absurd (low z); left = λ ne. (d, ap table at ∙ some, h.0, ap (λ (n : ℕ). (new n).next) at ∙ h.1) },
    λ h. let found = h.left low in
        let same : found.0 ≡ d = let x : Some found.0 ≡ Some d = sym found.1 ∙ (ap table at ∙ some) in cc in
        (subst (λ q. IsLeafBefore q e) same found.2, ap (λ (n : ℕ). (new n).next) (sym at) ∙ found.3),
  )

module _ (new : PageMemory) (end : ℕ) (table : Positions) (page : ℕ) (e : Position) (link : ℕ) where
  pub linked-last : (new page).next ≡ link → e.high ≡ end → IsTrue (nat_eq link 0) ↔ IsLinkedRight new end table page e
  linked-last at high = (
    λ t. record { last = λ z. at ∙ eqb-true link 0 t; right = λ ne. absurd (ne high) },
    λ h. eq-eqb link 0 (sym at ∙ h.last high),
  )

  pub linked-right-none : (new page).next ≡ link → e.high ≢ end → table link ≡ None → IsTrue false ↔ IsLinkedRight new end table page e
  linked-right-none at high none = (λ t. absurd (let x = t in cc), λ h. let found = h.right high in absurd (let x = sym (ap table at ∙ none) ∙ found.1 in cc))

  pub linked-right-some : (d : Position) → (new page).next ≡ link → e.high ≢ end → table link ≡ Some d → (IsLeafBehind d e × ((new link).prev ≡ page)) ↔ IsLinkedRight new end table page e
  linked-right-some d at high some = (
    λ h. record { last = λ z. absurd (high z); right = λ ne. (d, ap table at ∙ some, h.0, ap (λ (n : ℕ). (new n).prev) at ∙ h.1) },
    λ h. let found = h.right high in
        let same : found.0 ≡ d = let x : Some found.0 ≡ Some d = sym found.1 ∙ (ap table at ∙ some) in cc in
        (subst (λ q. IsLeafBehind q e) same found.2, ap (λ (n : ℕ). (new n).prev) (sym at) ∙ found.3),
  )

-- a test of two parts, of which one was made
pub both-where : (b : Bool) (P Q R : Type 0) → (P × Q) ↔ R → P → (IsTrue b ↔ Q) → IsTrue b ↔ R
both-where b P Q R whole p q = (λ t. whole.0 (p, q.0 t), λ r. q.1 (whole.1 r).1)

pub both-fails : (b : Bool) (P Q R : Type 0) → (P × Q) ↔ R → (IsTrue b ↔ P) → b ≡ false → IsTrue b ↔ R
both-fails b P Q R whole p fails = (λ t. absurd (let x = t in cc), λ r. p.1 (whole.1 r).0)
