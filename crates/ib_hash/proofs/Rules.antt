-- Each step keeps the rule of the table of guesses.
use Rattle.std.proofs.Common.{◌≡◌, ℕ, zero, suc, ◌<◌, List, [], ◌∷◌, set, get_or, replicate, refl, ap, arith}
use Rattle.std.specs.Prelude.{slice_index, slice_set}
use Rattle.atomic_table.specs.Table.{Allows, Me, State, keeps}
use Rattle.ib_hash.specs.declared.view.GuessSteps.{GuessSteps}
use Rattle.ib_hash.specs.Rule.{AreGuesses, looking, storing}

get_zero : (n p : ℕ) → get_or (replicate {A = ℕ} n 0) p 0 ≡ 0
get_zero zero p = refl
get_zero (suc n) zero = refl
get_zero (suc n) (suc p) = get_zero n p

-- zeros are no guesses
pub opens : (pages n : ℕ) → 0 < pages → AreGuesses pages (replicate n 0)
opens pages n some = λ slot. let z = get_zero n slot in omega arith

abbrev Holds : ℕ → State (Unit {0}) GuessSteps → Type 0
Holds pages s = AreGuesses pages s.words

set_same : (words : List ℕ) (i : ℕ) → set words i (get_or words i 0) ≡ words
set_same [] i = refl
set_same (x ∷ xs) zero = refl
set_same (x ∷ xs) (suc i) = ap (λ (ys : List ℕ). x ∷ ys) (set_same xs i)

-- a page is stored
set_page : (pages : ℕ) (words : List ℕ) (i page : ℕ) → page < pages → AreGuesses pages words → AreGuesses pages (slice_set words i page)
set_page pages [] i page lt are slot = are slot
set_page pages (x ∷ xs) zero page lt are zero = lt
set_page pages (x ∷ xs) zero page lt are (suc slot) = are (suc slot)
set_page pages (x ∷ xs) (suc i) page lt are zero = are zero
set_page pages (x ∷ xs) (suc i) page lt are (suc slot) = set_page pages xs i page lt (λ s. are (suc s)) slot

pub looks : (pages told slots id : ℕ) (me : Me (Unit {0}) GuessSteps) (i : ℕ) → pages ≡ told
    → Allows (Holds pages) slots id me i (λ n. n) (λ n w. (w ≡ (looking i n me.0, me.1)) × (n < told))
looks pages told slots id me i is s holds long at small =
    (looking i (slice_index s.words i) me.0, keeps, tt, set_page pages s.words i (slice_index s.words i) (holds i) holds, (refl, let lt = holds i in omega arith))

pub stores : (pages slots id : ℕ) (me : Me (Unit {0}) GuessSteps) (i page : ℕ) → page < pages
    → Allows (Holds pages) slots id me i (λ n. page) (λ n w. w ≡ (storing i page me.0, me.1))
stores pages slots id me i page lt s holds long at small =
    (storing i page me.0, keeps, tt, set_page pages s.words i page lt holds, refl)
