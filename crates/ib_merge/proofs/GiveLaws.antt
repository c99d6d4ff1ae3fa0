-- The bits of pages that are given back one after the other.
use Rattle.std.proofs.Common.{◌≡◌, ◌≢◌, ◌∙◌, ℕ, ◌<◌, true, false, cond, List, [], ◌∷◌, ◌++◌, refl, sym, ap, inl, inr, eqb}
use Rattle.std.proofs.lemmas.Bool.{cases_eq, cases_Bool, eq-eqb, ne_eqb}
use Rattle.ib_page.specs.declared.space.TheConstants.{MAPPED_PAGES}
use Rattle.ib_page.specs.Space.{is_taken, SetsBit}
use Rattle.ib_plans.specs.Marks.{with_bit}
use Rattle.ib_plans.specs.Agreement.{taken_bits, with_bits}
use Rattle.ib_merge.specs.Deletes.{AreTaken}

-- of bits below the last page alone
abbrev pub SameBits : (ℕ → ℕ) → (ℕ → ℕ) → Type 0
SameBits a b = (page : ℕ) → page < MAPPED_PAGES → a page ≡ b page

with_bit-same : (x : ℕ) (a b : ℕ → ℕ) → SameBits a b → SameBits (with_bit x 0 a) (with_bit x 0 b)
with_bit-same x a b same page lt = ap (λ n. cond (eqb page x) 0 n) (same page lt)

pub with_bits-same : (xs : List ℕ) (a b : ℕ → ℕ) → SameBits a b → SameBits (with_bits xs 0 a) (with_bits xs 0 b)
with_bits-same [] a b same = same
with_bits-same (x ∷ xs) a b same = with_bits-same xs (with_bit x 0 a) (with_bit x 0 b) (with_bit-same x a b same)

-- pages whose bits are set here are set where more are
pub AreTaken-more : (xs : List ℕ) (a b : ℕ → ℕ) → ((page : ℕ) → page < MAPPED_PAGES → a page ≢ 0 → b page ≢ 0) → AreTaken a xs → AreTaken b xs
AreTaken-more [] a b more taken = tt
AreTaken-more (x ∷ xs) a b more taken =
    (more x taken.1 taken.0, taken.1, AreTaken-more xs (with_bit x 0 a) (with_bit x 0 b) (λ page lt set. still page lt set) taken.2)
  where
    still : (page : ℕ) → page < MAPPED_PAGES → with_bit x 0 a page ≢ 0 → with_bit x 0 b page ≢ 0
    still page lt set = elim (cases_eq page x) [
      | inl e ↦ let same = eq-eqb page x e in let z : with_bit x 0 a page ≡ 0 = rw same refl in absurd (set z)
      | inr ne ↦ let no = ne_eqb page x ne in let here : with_bit x 0 a page ≡ a page = rw no refl in let there : with_bit x 0 b page ≡ b page = rw no refl in
          λ z. more page lt (λ y. set (here ∙ y)) (sym there ∙ z)
    ]

-- the bit of a page that is taken
pub taken-set : (image : List ℕ) (page : ℕ) → taken_bits image page ≢ 0 → is_taken image page ≡ true
taken-set image page some = elim (cases_Bool (is_taken image page)) [
  | inl set ↦ set
  | inr clear ↦ let z : taken_bits image page ≡ 0 = rw clear refl in absurd (some z)
]

-- a page is given back
pub taken_bits-cleared : (page : ℕ) (old new : List ℕ) → SetsBit old new page false → SameBits (with_bit page 0 (taken_bits old)) (taken_bits new)
taken_bits-cleared page old new sets other lt = elim (cases_eq other page) [
  | inl e ↦ let same = eq-eqb other page e in let here : is_taken new other ≡ false = ap (is_taken new) e ∙ sets.here in rw (same, here) refl
  | inr ne ↦ let no = ne_eqb other page ne in let there = sets.elsewhere other lt ne in rw (no, there) refl
]

-- .. the first of those that are left
pub give-first : (x : ℕ) (xs : List ℕ) (old new : List ℕ) (whole : ℕ → ℕ) → SetsBit old new x false → AreTaken (taken_bits old) (x ∷ xs)
    → SameBits (with_bits (x ∷ xs) 0 (taken_bits old)) whole → AreTaken (taken_bits new) xs × SameBits (with_bits xs 0 (taken_bits new)) whole
give-first x xs old new whole sets taken same =
    let set = taken_bits-cleared x old new sets in (
      AreTaken-more xs (with_bit x 0 (taken_bits old)) (taken_bits new) (λ page lt some z. some (set page lt ∙ z)) taken.2,
      λ page lt. sym (with_bits-same xs (with_bit x 0 (taken_bits old)) (taken_bits new) set page lt) ∙ same page lt,
    )

-- one page more, given back at last
pub with_bits-last : (xs : List ℕ) (x : ℕ) (a : ℕ → ℕ) → with_bits (xs ++ x ∷ []) 0 a ≡ with_bit x 0 (with_bits xs 0 a)
with_bits-last [] x a = refl
with_bits-last (y ∷ ys) x a = with_bits-last ys x (with_bit y 0 a)

pub AreTaken-last : (xs : List ℕ) (x : ℕ) (a : ℕ → ℕ) → AreTaken a xs → with_bits xs 0 a x ≢ 0 → x < MAPPED_PAGES → AreTaken a (xs ++ x ∷ [])
AreTaken-last [] x a taken some lt = (some, lt, tt)
AreTaken-last (y ∷ ys) x a taken some lt = (taken.0, taken.1, AreTaken-last ys x (with_bit y 0 a) taken.2 some lt)

-- a bit that is clear stays so
pub with_bits-clear : (xs : List ℕ) (a : ℕ → ℕ) (page : ℕ) → a page ≡ 0 → with_bits xs 0 a page ≡ 0
with_bits-clear [] a page clear = clear
with_bits-clear (x ∷ xs) a page clear = with_bits-clear xs (with_bit x 0 a) page (elim (cases_eq page x) [
  | inl e ↦ let same = eq-eqb page x e in rw same refl
  | inr ne ↦ let no = ne_eqb page x ne in rw no clear
])
