-- The bits of pages that are taken one after the other.
use Rattle.ib_plans.specs.Agreement.{taken_bits, with_bits}
use Rattle.std.proofs.Common.{◌≡◌, ◌∙◌, ℕ, ◌<◌, true, cond, List, [], ◌∷◌, refl, sym, ap, inl, inr, eqb}
use Rattle.std.proofs.lemmas.Bool.{cases_eq, eq-eqb, ne_eqb}
use Rattle.ib_page.specs.declared.space.TheConstants.{MAPPED_PAGES}
use Rattle.ib_page.specs.Space.{is_taken, SetsBit}
use Rattle.ib_plans.specs.Marks.{with_bit}
use Rattle.ib_plans.specs.Insert.{AreFresh}

-- of bits below the last page alone
abbrev pub SameBits : (ℕ → ℕ) → (ℕ → ℕ) → Type 0
SameBits a b = (page : ℕ) → page < MAPPED_PAGES → a page ≡ b page

with_bit-same : (x : ℕ) (a b : ℕ → ℕ) → SameBits a b → SameBits (with_bit x 1 a) (with_bit x 1 b)
with_bit-same x a b same page lt = ap (λ n. cond (eqb page x) 1 n) (same page lt)

pub with_bits-same : (xs : List ℕ) (a b : ℕ → ℕ) → SameBits a b → SameBits (with_bits xs 1 a) (with_bits xs 1 b)
with_bits-same [] a b same = same
with_bits-same (x ∷ xs) a b same = with_bits-same xs (with_bit x 1 a) (with_bit x 1 b) (with_bit-same x a b same)

pub AreFresh-same : (xs : List ℕ) (a b : ℕ → ℕ) → SameBits a b → AreFresh a xs → AreFresh b xs
AreFresh-same [] a b same free = tt
AreFresh-same (x ∷ xs) a b same free =
    (sym (same x free.1) ∙ free.0, free.1, AreFresh-same xs (with_bit x 1 a) (with_bit x 1 b) (with_bit-same x a b same) free.2)

-- a page is taken
pub taken_bits-set : (page : ℕ) (old new : List ℕ) → SetsBit old new page true → SameBits (with_bit page 1 (taken_bits old)) (taken_bits new)
taken_bits-set page old new sets other lt = elim (cases_eq other page) [
  | inl e ↦ let same = eq-eqb other page e in let here : is_taken new other ≡ true = ap (is_taken new) e ∙ sets.here in rw (same, here) refl
  | inr ne ↦ let no = ne_eqb other page ne in let there = sets.elsewhere other lt ne in rw (no, there) refl
]

-- .. the first of those that are left
pub take-first : (x : ℕ) (xs : List ℕ) (old new : List ℕ) (whole : ℕ → ℕ) → SetsBit old new x true → AreFresh (taken_bits old) (x ∷ xs)
    → SameBits (with_bits (x ∷ xs) 1 (taken_bits old)) whole → AreFresh (taken_bits new) xs × SameBits (with_bits xs 1 (taken_bits new)) whole
take-first x xs old new whole sets free same =
    let set = taken_bits-set x old new sets in (
      AreFresh-same xs (with_bit x 1 (taken_bits old)) (taken_bits new) set free.2,
      λ page lt. sym (with_bits-same xs (with_bit x 1 (taken_bits old)) (taken_bits new) set page lt) ∙ same page lt,
    )
