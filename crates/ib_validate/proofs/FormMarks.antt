-- Marks of which images can be read: one is set anew.
use Rattle.std.proofs.Common.{◌≡◌, ◌≢◌, ◌||◌, ℕ, ◌<◌, Bool, true, false, List, length, set, sym, subst, inl, inr}
use Rattle.std.specs.Prelude.{◌↔◌}
use Rattle.std.proofs.lemmas.Bool.{cases_eq}
use Rattle.ib_page.specs.Image.{IsFormed}
use Rattle.ib_page.specs.Memory.{image_at}
use Rattle.ib_validate.specs.Positions.{marks_of}
use Rattle.ib_validate.proofs.PositionLaws.{marks_of-set_same, marks_of-set_other}

-- where it is right there, and another page's was, it is right at each page
pub set-right : (images : List (List ℕ)) (forms : List Bool) (at page : ℕ) (b : Bool) → at < length forms → (b ≡ true) ↔ IsFormed (image_at images at)
    → (page ≢ at → (marks_of forms page ≡ true) ↔ IsFormed (image_at images page)) → (marks_of (set forms at b) page ≡ true) ↔ IsFormed (image_at images page)
set-right images forms at page b lt here other = elim (cases_eq page at) [
  | inl e ↦ subst (λ (p : ℕ). (marks_of (set forms at b) p ≡ true) ↔ IsFormed (image_at images p)) (sym e)
      (subst (λ (m : Bool). (m ≡ true) ↔ IsFormed (image_at images at)) (sym (marks_of-set_same forms at b lt)) here)
  | inr ne ↦ subst (λ (m : Bool). (m ≡ true) ↔ IsFormed (image_at images page)) (sym (marks_of-set_other forms at b page ne)) (other ne)
]

-- it is right still where image and mark are the same
pub still-right : (images others : List (List ℕ)) (forms marks : List Bool) (page : ℕ) → image_at others page ≡ image_at images page → marks ≡ forms
    → (marks_of forms page ≡ true) ↔ IsFormed (image_at images page) → (marks_of marks page ≡ true) ↔ IsFormed (image_at others page)
still-right images others forms marks page image mark right =
    subst (λ (ws : List ℕ). (marks_of marks page ≡ true) ↔ IsFormed ws) (sym image)
    (subst (λ (ms : List Bool). (marks_of ms page ≡ true) ↔ IsFormed (image_at images page)) (sym mark) right)

-- where neither holds the second does not
pub second-false : (a b : Bool) → (a || b) ≡ false → b ≡ false
second-false true b e = absurd (let x = e in cc)
second-false false b e = e
