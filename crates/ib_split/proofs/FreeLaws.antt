-- The free pages of a space, in order, as the space page has them.
use Rattle.std.proofs.Common.{◌≡◌, ◌≢◌, ◌∙◌, ℕ, zero, suc, ◌+◌, ◌<◌, ◌≤◌, true, false, cond, List, [], ◌∷◌, length, refl, sym, ap, inl, inr, arith, eqb}
use Rattle.std.proofs.lemmas.Bool.{cases_eq, cases_Bool, eq-eqb, ne_eqb, lt-ltb}
use Rattle.ib_page.specs.declared.space.TheConstants.{MAPPED_PAGES}
use Rattle.ib_page.specs.Space.{is_taken, free_below, SetsBit}
use Rattle.ib_walk.specs.Full.{free_pages_from, free_of}
use Rattle.ib_plans.specs.Marks.{with_bit}
use Rattle.ib_plans.specs.Agreement.{bits_in}

-- the free pages are a matter of the bits there alone
pub free_pages_from-same : (a b : ℕ → ℕ) (start n : ℕ) → ((q : ℕ) → start ≤ q → q < start + n → a q ≡ b q) → free_pages_from a start n ≡ free_pages_from b start n
free_pages_from-same a b start zero same = refl
free_pages_from-same a b start (suc n) same =
    let here = same start (omega arith) (omega arith) in
    let rest = free_pages_from-same a b (start + 1) n (λ q le lt. same q (omega arith) (omega arith)) in
    ap (λ k. cond (eqb k 0) (start ∷ free_pages_from a (start + 1) n) (free_pages_from a (start + 1) n)) here
    ∙ ap (λ xs. cond (eqb (b start) 0) (start ∷ xs) xs) rest

-- none is free where all are taken
pub free_pages_from-none : (a : ℕ → ℕ) (start n : ℕ) → ((q : ℕ) → start ≤ q → q < start + n → a q ≢ 0) → free_pages_from a start n ≡ []
free_pages_from-none a start zero taken = refl
free_pages_from-none a start (suc n) taken =
    let here = ne_eqb (a start) 0 (taken start (omega arith) (omega arith)) in
    rw here (free_pages_from-none a (start + 1) n (λ q le lt. taken q (omega arith) (omega arith)))

-- the lowest free page is the first one, and the others are those that are free once it is taken
pub free_pages_from-lowest : (a : ℕ → ℕ) (page start n : ℕ) → start ≤ page → page < start + n → a page ≡ 0 → ((q : ℕ) → start ≤ q → q < page → a q ≢ 0)
    → free_pages_from a start n ≡ page ∷ free_pages_from (with_bit page 1 a) start n
free_pages_from-lowest a page start zero le lt free lower = absurd (omega arith)
free_pages_from-lowest a page start (suc n) le lt free lower = elim (cases_eq start page) [
  | inl e ↦
      let yes' : eqb (a start) 0 ≡ true = eq-eqb (a start) 0 (ap a e ∙ free) in
      let here : with_bit page 1 a start ≡ 1 = (let same = eq-eqb start page e in rw same refl) in
      let no' : eqb (with_bit page 1 a start) 0 ≡ false = ne_eqb (with_bit page 1 a start) 0 (λ z. omega arith) in
      let rest = free_pages_from-same a (with_bit page 1 a) (start + 1) n (λ q ge lq. let other = ne_eqb q page (λ z. omega arith) in rw other refl) in
      ap (λ b. cond b (start ∷ free_pages_from a (start + 1) n) (free_pages_from a (start + 1) n)) yes'
      ∙ (ap (λ xs. start ∷ xs) rest ∙ (ap (λ s. s ∷ free_pages_from (with_bit page 1 a) (start + 1) n) e
      ∙ ap (λ b. page ∷ cond b (start ∷ free_pages_from (with_bit page 1 a) (start + 1) n) (free_pages_from (with_bit page 1 a) (start + 1) n)) (sym no')))
  | inr ne ↦
      let skip : eqb (a start) 0 ≡ false = ne_eqb (a start) 0 (lower start (omega arith) (omega (arith, ne))) in
      let same : with_bit page 1 a start ≡ a start = (let other = ne_eqb start page ne in rw other refl) in
      let skip' : eqb (with_bit page 1 a start) 0 ≡ false = ap (λ k. eqb k 0) same ∙ skip in
      let rest = free_pages_from-lowest a page (start + 1) n (omega (arith, ne)) (omega arith) free (λ q ge lq. lower q (omega arith) lq) in
      ap (λ b. cond b (start ∷ free_pages_from a (start + 1) n) (free_pages_from a (start + 1) n)) skip
      ∙ (rest ∙ ap (λ b. page ∷ cond b (start ∷ free_pages_from (with_bit page 1 a) (start + 1) n) (free_pages_from (with_bit page 1 a) (start + 1) n)) (sym skip'))
]

-- a bit of the space page
pub bits_in-free : (pages : ℕ) (image : List ℕ) (page : ℕ) → page < pages → is_taken image page ≡ false → bits_in pages image page ≡ 0
bits_in-free pages image page lt free = let below = lt-ltb page pages lt in rw (below, free) refl

pub bits_in-taken : (pages : ℕ) (image : List ℕ) (page : ℕ) → page < pages → is_taken image page ≡ true → bits_in pages image page ≢ 0
bits_in-taken pages image page lt taken z = let below = lt-ltb page pages lt in let one : bits_in pages image page ≡ 1 = rw (below, taken) refl in omega arith

-- the lowest free page is taken
pub free-taken : (pages : ℕ) (old new : List ℕ) (page : ℕ) → pages ≤ MAPPED_PAGES → page < pages → is_taken old page ≡ false
    → ((lower : ℕ) → lower < page → is_taken old lower ≡ true) → SetsBit old new page true
    → free_pages_from (bits_in pages old) 0 pages ≡ page ∷ free_pages_from (bits_in pages new) 0 pages
free-taken pages old new page few lt free lower sets =
    free_pages_from-lowest (bits_in pages old) page 0 pages (omega arith) (omega arith) (bits_in-free pages old page lt free) (λ q ge lq. bits_in-taken pages old q (omega arith) (lower q lq))
    ∙ ap (λ xs. page ∷ xs) (free_pages_from-same (with_bit page 1 (bits_in pages old)) (bits_in pages new) 0 pages (λ q ge lq. set q (omega arith)))
  where
    set : (q : ℕ) → q < pages → with_bit page 1 (bits_in pages old) q ≡ bits_in pages new q
    set q lq = elim (cases_eq q page) [
      | inl e ↦ let same = eq-eqb q page e in let below = lt-ltb q pages lq in let here : is_taken new q ≡ true = ap (is_taken new) e ∙ sets.here in rw (same, below, here) refl
      | inr ne ↦ let other = ne_eqb q page ne in let there = sets.elsewhere q (omega arith) ne in let below = lt-ltb q pages lq in rw (other, below, there) refl
    ]

-- how many are free
pub free_below-length : (pages : ℕ) (image : List ℕ) (start n : ℕ) → start + n ≤ pages → length (free_pages_from (bits_in pages image) start n) + free_below image start ≡ free_below image (start + n)
free_below-length pages image start zero le = let e : start + 0 ≡ start = omega arith in let z = ap (free_below image) e in omega arith
free_below-length pages image start (suc n) le =
    let r = free_below-length pages image (start + 1) n (omega arith) in
    let at : free_below image (start + 1 + n) ≡ free_below image (start + suc n) = (let e : start + 1 + n ≡ start + suc n = omega arith in ap (free_below image) e) in
    let one : free_below image (start + 1) ≡ free_below image start + cond (is_taken image start) 0 1 = (let e : start + 1 ≡ suc start = omega arith in ap (free_below image) e) in
    elim (cases_Bool (is_taken image start)) [
      | inl taken ↦
          let skip = ne_eqb (bits_in pages image start) 0 (bits_in-taken pages image start (omega arith) taken) in
          let e : free_pages_from (bits_in pages image) start (suc n) ≡ free_pages_from (bits_in pages image) (start + 1) n = ap (λ b. cond b (start ∷ free_pages_from (bits_in pages image) (start + 1) n) (free_pages_from (bits_in pages image) (start + 1) n)) skip in
          let l : length (free_pages_from (bits_in pages image) start (suc n)) ≡ length (free_pages_from (bits_in pages image) (start + 1) n) = ap length e in
          let z : cond {A = ℕ} (is_taken image start) 0 1 ≡ 0 = ap (λ b. cond {A = ℕ} b 0 1) taken in omega (arith, l, z, one, r, at)
      | inr free ↦
          let here = eq-eqb (bits_in pages image start) 0 (bits_in-free pages image start (omega arith) free) in
          let e : free_pages_from (bits_in pages image) start (suc n) ≡ start ∷ free_pages_from (bits_in pages image) (start + 1) n = ap (λ b. cond b (start ∷ free_pages_from (bits_in pages image) (start + 1) n) (free_pages_from (bits_in pages image) (start + 1) n)) here in
          let l : length (free_pages_from (bits_in pages image) start (suc n)) ≡ suc (length (free_pages_from (bits_in pages image) (start + 1) n)) = ap length e in let z : cond {A = ℕ} (is_taken image start) 0 1 ≡ 1 = ap (λ b. cond {A = ℕ} b 0 1) free in omega (arith, l, z, one, r, at)
    ]

pub free_below-of : (pages : ℕ) (image : List ℕ) → free_below image pages ≡ free_of (bits_in pages image) pages
free_below-of pages image = let r = free_below-length pages image 0 pages (omega arith) in let e : 0 + pages ≡ pages = omega arith in let z = ap (free_below image) e in omega arith
