-- Which pages are free once an insert has taken its fresh pages.
use Rattle.std.proofs.Common.{◌≡◌, ◌≢◌, ℕ, ◌+◌, ◌<◌, ◌≤◌, ◌∙◌, [], ◌∷◌, ◌++◌, zero, suc, inl, inr, List, length, take, drop, refl, sym, ap, subst, arith}
use Rattle.std.proofs.lemmas.Bool.{cases_eq}
use Rattle.std.proofs.lemmas.List.{length-drop}
use Rattle.ib_walk.specs.Full.{chosen, free_of, free_pages_from}
use Rattle.ib_walk.proofs.ChoiceLaws.{cond-eq, cond-ne}
use Rattle.ib_plans.specs.Agreement.{with_bits}
use Rattle.ib_plans.specs.Marks.{with_bit}
use Rattle.ib_plans.proofs.PageLaws.{with_bit-other, with_bit-own}
use Rattle.ib_split.proofs.FreeLaws.{free_pages_from-same}

-- each is above a page
abbrev IsAbove : ℕ → List ℕ → Type 0
IsAbove n [] = Unit {0}
IsAbove n (x ∷ xs) = (n < x) × IsAbove n xs

-- the bit of a page below those that are turned
with_bits-below : (xs : List ℕ) (bit : ℕ) (bits : ℕ → ℕ) (n : ℕ) → IsAbove n xs → with_bits xs bit bits n ≡ bits n
with_bits-below [] bit bits n h = refl
with_bits-below (x ∷ xs) bit bits n h = with_bits-below xs bit (with_bit x bit bits) n h.1 ∙ cond-ne n x bit (bits n) (λ e. let l = h.0 in omega arith)

free-above : (bits : ℕ → ℕ) (n page count k : ℕ) → n < page → IsAbove n (take k (free_pages_from bits page count))
free-above bits n page zero zero lt = tt
free-above bits n page zero (suc k) lt = tt
free-above bits n page (suc count) zero lt = tt
free-above bits n page (suc count) (suc k) lt = elim (cases_eq (bits page) 0) [
  | inl z ↦
      subst (λ xs. IsAbove n (take (suc k) xs)) (sym (cond-eq (bits page) 0 (page ∷ free_pages_from bits (page + 1) count) (free_pages_from bits (page + 1) count) z))
      (lt, free-above bits n (page + 1) count k (omega arith))
  | inr ne ↦
      subst (λ xs. IsAbove n (take (suc k) xs)) (sym (cond-ne (bits page) 0 (page ∷ free_pages_from bits (page + 1) count) (free_pages_from bits (page + 1) count) ne))
      (free-above bits n (page + 1) count (suc k) (omega arith))
]

free-here : (bits : ℕ → ℕ) (page count : ℕ) → bits page ≡ 0 → free_pages_from bits page (suc count) ≡ page ∷ free_pages_from bits (page + 1) count
free-here bits page count z = cond-eq (bits page) 0 (page ∷ free_pages_from bits (page + 1) count) (free_pages_from bits (page + 1) count) z

free-next : (bits : ℕ → ℕ) (page count : ℕ) → bits page ≢ 0 → free_pages_from bits page (suc count) ≡ free_pages_from bits (page + 1) count
free-next bits page count ne = cond-ne (bits page) 0 (page ∷ free_pages_from bits (page + 1) count) (free_pages_from bits (page + 1) count) ne

-- once the lowest free pages are taken, those behind them are free
free-left : (bits : ℕ → ℕ) (page count k : ℕ) → free_pages_from (with_bits (take k (free_pages_from bits page count)) 1 bits) page count ≡ drop k (free_pages_from bits page count)
free-left bits page zero zero = refl
free-left bits page zero (suc k) = refl
free-left bits page (suc count) zero = refl
free-left bits page (suc count) (suc k) = elim (cases_eq (bits page) 0) [
  | inl z ↦
      let one : ℕ → ℕ = with_bit page 1 bits in
      let same : free_pages_from one (page + 1) count ≡ free_pages_from bits (page + 1) count =
      free_pages_from-same one bits (page + 1) count (λ q l h. with_bit-other page 1 bits q (λ e. absurd (omega arith))) in
      let now : ℕ → ℕ = with_bits (take k (free_pages_from bits (page + 1) count)) 1 one in
      let taken : now page ≡ 1 = with_bits-below (take k (free_pages_from bits (page + 1) count)) 1 one page (free-above bits page (page + 1) count k (omega arith)) ∙ with_bit-own page 1 bits in
      let rest : free_pages_from now (page + 1) count ≡ drop k (free_pages_from bits (page + 1) count) =
      subst (λ xs. free_pages_from (with_bits (take k xs) 1 one) (page + 1) count ≡ drop k xs) same (free-left one (page + 1) count k) in
      let here = free-here bits page count z in
      subst (λ xs. free_pages_from (with_bits (take (suc k) xs) 1 bits) page (suc count) ≡ drop (suc k) xs) (sym here) (free-next now page count (λ e. omega arith) ∙ rest)
  | inr ne ↦
      let now : ℕ → ℕ = with_bits (take (suc k) (free_pages_from bits (page + 1) count)) 1 bits in
      let kept : now page ≡ bits page = with_bits-below (take (suc k) (free_pages_from bits (page + 1) count)) 1 bits page (free-above bits page (page + 1) count (suc k) (omega arith)) in
      subst (λ xs. free_pages_from (with_bits (take (suc k) xs) 1 bits) page (suc count) ≡ drop (suc k) xs) (sym (free-next bits page count ne))
      (free-next now page count (λ e. ne (sym kept ∙ e)) ∙ free-left bits (page + 1) count (suc k))
]

pub chosen-left : (bits : ℕ → ℕ) (pages need : ℕ) → free_pages_from (with_bits (chosen bits pages need) 1 bits) 0 pages ≡ drop need (free_pages_from bits 0 pages)
chosen-left bits pages need = free-left bits 0 pages need

-- so many fewer are free
pub free_of-left : (bits : ℕ → ℕ) (pages need : ℕ) → need ≤ free_of bits pages → free_of (with_bits (chosen bits pages need) 1 bits) pages + need ≡ free_of bits pages
free_of-left bits pages need le = let a = ap length (chosen-left bits pages need) in let b = length-drop need (free_pages_from bits 0 pages) in omega arith

-- the lowest free pages for two changes are those of the first, and those that the second takes after it
take-none : (b : ℕ) → take {A = ℕ} b [] ≡ []
take-none zero = refl
take-none (suc b) = refl

take-sum : (a b : ℕ) (xs : List ℕ) → take (a + b) xs ≡ take a xs ++ take b (drop a xs)
take-sum zero b xs = ap (λ k. take k xs) (let e : 0 + b ≡ b = omega arith in e)
take-sum (suc a) b [] = ap (λ k. take k []) (let e : suc a + b ≡ suc (a + b) = omega arith in e) ∙ sym (take-none b)
take-sum (suc a) b (x ∷ xs) = ap (λ k. take k (x ∷ xs)) (let e : suc a + b ≡ suc (a + b) = omega arith in e) ∙ ap (λ ys. x ∷ ys) (take-sum a b xs)

pub chosen-both : (bits : ℕ → ℕ) (pages one two : ℕ) → chosen bits pages (one + two) ≡ chosen bits pages one ++ chosen (with_bits (chosen bits pages one) 1 bits) pages two
chosen-both bits pages one two =
    take-sum one two (free_pages_from bits 0 pages)
    ∙ ap (λ xs. chosen bits pages one ++ take two xs) (sym (chosen-left bits pages one))
