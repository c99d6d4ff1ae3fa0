-- The lowest free pages are fresh, and as many as are asked for.
use Rattle.std.proofs.Common.{◌≡◌, ℕ, ◌+◌, ◌≤◌, ◌∙◌, ◌∷◌, zero, suc, inl, inr, length, take, refl, sym, subst, arith, length-take-le}
use Rattle.std.proofs.lemmas.Bool.{cases_eq}
use Rattle.ib_page.specs.declared.space.TheConstants.{MAPPED_PAGES}
use Rattle.ib_walk.specs.Full.{chosen, free_pages_from, free_of}
use Rattle.ib_walk.proofs.ChoiceLaws.{cond-eq, cond-ne}
use Rattle.ib_plans.specs.Insert.{AreFresh}
use Rattle.ib_plans.specs.Marks.{with_bit}

-- the lowest free pages are free, and each is another one
pub fresh-from : (bits b : ℕ → ℕ) (page n k : ℕ) → page + n ≤ MAPPED_PAGES → ((q : ℕ) → page ≤ q → bits q ≡ b q) → AreFresh bits (take k (free_pages_from b page n))
fresh-from bits b page zero zero le same = tt
fresh-from bits b page zero (suc k) le same = tt
fresh-from bits b page (suc n) zero le same = tt
fresh-from bits b page (suc n) (suc k) le same =
    elim (cases_eq (b page) 0) [
      | inl z ↦
          let e = cond-eq (b page) 0 (page ∷ free_pages_from b (page + 1) n) (free_pages_from b (page + 1) n) z in
          subst (λ xs. AreFresh bits (take (suc k) xs)) (sym e) (
            same page (omega arith) ∙ z,
            omega arith,
            fresh-from (with_bit page 1 bits) b (page + 1) n k (omega arith) (λ q l. cond-ne q page 1 (bits q) (λ i. absurd (omega arith)) ∙ same q (omega arith)),
          )
      | inr ne ↦
          let e = cond-ne (b page) 0 (page ∷ free_pages_from b (page + 1) n) (free_pages_from b (page + 1) n) ne in
          subst (λ xs. AreFresh bits (take (suc k) xs)) (sym e) (fresh-from bits b (page + 1) n (suc k) (omega arith) (λ q l. same q (omega arith)))
    ]

-- so those that are chosen are fresh, and as many as are asked for, where so many are free
pub chosen-fresh : (bits : ℕ → ℕ) (pages need : ℕ) → pages ≤ MAPPED_PAGES → AreFresh bits (chosen bits pages need)
chosen-fresh bits pages need le = fresh-from bits bits 0 pages need (omega arith) (λ q l. refl)

pub chosen-length : (bits : ℕ → ℕ) (pages need : ℕ) → need ≤ free_of bits pages → length (chosen bits pages need) ≡ need
chosen-length bits pages need le = length-take-le need (free_pages_from bits 0 pages) le
