-- As a page of a tree page 0 has no clock: its bit of page 1 is set.
use Rattle.std.specs.Prelude.{nat_lt}
use Rattle.std.proofs.Common.{◌≡◌, ◌≢◌, ℕ, true, false, inl, inr, refl, ◌∙◌, arith, List}
use Rattle.std.proofs.lemmas.Bool.{cases_Bool}
use Rattle.ib_page.specs.Page.{PageValue, HoldsPage}
use Rattle.ib_page.specs.Page.PageValue.{Malformed as MalformedValue, Free as FreeValue, Tree as TreeValue}
use Rattle.ib_page.specs.Form.{page_of}
use Rattle.ib_page.specs.Space.{is_taken}
use Rattle.ib_heap.proofs.FormLaws.{kind_read}
use Rattle.ib_page.proofs.SpaceLaws.{bit_in_word}
use Rattle.ib_walk.specs.Words.{state_of}
use Rattle.ib_plans.specs.Agreement.{bits_in}

-- an image that is no page has no clock
no-clock : (v : PageValue) → (HoldsPage v → ⊥) → (state_of v).clock ≡ 0
no-clock (TreeValue p) none = absurd (none tt)
no-clock (FreeValue clock) none = absurd (none tt)
no-clock MalformedValue none = refl

-- an image with bit 1 set is no page: the first word of a page is 0 or 1
pub no-page : (image : List ℕ) → is_taken image 1 ≡ true → HoldsPage (page_of image) → ⊥
no-page image taken holds =
    let at = bit_in_word image 0 1 (omega arith) in
    elim (kind_read image holds) [
      | inl one ↦ let e : is_taken image 1 ≡ false = at ∙ rw one.1 refl in cc
      | inr zero ↦ let e : is_taken image 1 ≡ false = at ∙ rw zero.1 refl in cc
    ]

pub bit-taken : (pages : ℕ) (image : List ℕ) → bits_in pages image 1 ≢ 0 → is_taken image 1 ≡ true
bit-taken pages image some = elim (cases_Bool (is_taken image 1)) [
  | inl set ↦ set
  | inr none ↦ absurd (some (elim (cases_Bool (nat_lt 1 pages)) [
    | inl in_space ↦ rw in_space (rw none refl)
    | inr out ↦ rw out refl
  ]))
]

pub zero-no_clock : (pages : ℕ) (image : List ℕ) → bits_in pages image 1 ≢ 0 → (state_of (page_of image)).clock ≡ 0
zero-no_clock pages image some = no-clock (page_of image) (no-page image (bit-taken pages image some))
