-- Cells that are reserved and returned.
use Rattle.std.proofs.Common.{◌≡◌, ◌≢◌, ℕ, ◌+◌, ◌<◌, ◌≤◌, cond, set, get_or, List, [], ◌∷◌, ◌++◌, length, Option, Some, None, refl, sym, ap, ◌∙◌, subst, arith, eq-eqb, ne_eqb, get_or-set_same, get_or-set_other, length-set, ⊎_elim}
use Rattle.std.specs.Prelude.{◌==◌, slice_get, IsSome}
use Rattle.std.proofs.lemmas.List.{length_push}
use Rattle.std.proofs.lemmas.List.Sums.{sum_by-set, sum_by_push}
use Rattle.std.proofs.lemmas.Option.{slice_get_past, slice_get-get_or, slice_get_within, get_or_from_slice_get, slice_get_cases}
use Rattle.ib_map.proofs.HistoryLaws.{slice_get-last, slice_get-append}
use Rattle.std.proofs.lemmas.Bool.Decides.{nat_tests}
use mathlib.Core.Logic.{dite}
use native.Mathlib.Decide.{ℕ_discrete}
use Rattle.ib_wait.specs.declared.cells.Cell.{Cell}
use Rattle.ib_wait.specs.declared.cells.TheConstants.{MOST_EVER}
use Rattle.ib_wait.specs.Cells.{AreStacked, cell_at, written, is_idle, is_reserved, one_more_ever, times_returned}

-- what stands in a list of which one element was set
get_same : {A : Type 0} (xs : List A) (i : ℕ) (y : A) → i < length xs → slice_get (set xs i y) i ≡ Some y
get_same xs i y lt = slice_get-get_or (set xs i y) i y (let e = length-set xs i y in omega arith) ∙ ap Some (get_or-set_same xs i y y lt)

get_other : {A : Type 0} (xs : List A) (i k : ℕ) (y : A) → i ≢ k → slice_get (set xs i y) k ≡ slice_get xs k
get_other xs i k y away = ⊎_elim
    (λ there. let e = length-set xs i y in
    slice_get-get_or (set xs i y) k y (let lt = there.1 in omega arith) ∙ (ap Some (get_or-set_other xs i k y y (λ e. away (sym e))) ∙ sym (slice_get-get_or xs k y there.1)))
    (λ past. let e = length-set xs i y in slice_get_past (set xs i y) k (let le = past.0 in omega arith) ∙ sym past.1)
    (slice_get_cases xs k).1

-- a cell that is reserved stands there
pub there_within : (used : List (Option Cell)) (place : ℕ) → IsSome (cell_at place used) → place < length used
there_within used place some = ⊎_elim (λ there. there.1) (λ past. let none : IsSome (written None) = subst (λ c. IsSome (written c)) past.1 some in absurd (cc)) (slice_get_cases used place).1

pub there_is : (used : List (Option Cell)) (place : ℕ) (d : Option Cell) (c : Cell) → IsSome (cell_at place used) → d ≡ get_or used place d → d ≡ Some c → slice_get used place ≡ Some (Some c)
there_is used place d c some read is = slice_get-get_or used place d (there_within used place some) ∙ (sym (ap Some read) ∙ ap Some is)

-- how often a place stands among those returned with one more of them
times_push : (p place : ℕ) (rest : List ℕ) → times_returned place (rest ++ p ∷ []) ≡ times_returned place rest + cond (p == place) 1 0
times_push p place rest = sum_by_push (λ p. cond (p == place) 1 0) rest p

times_here : (p : ℕ) (rest : List ℕ) → times_returned p (rest ++ p ∷ []) ≡ times_returned p rest + 1
times_here p rest = times_push p p rest ∙ ap (λ b. times_returned p rest + cond b 1 0) (eq-eqb p p refl)

times_away : (p place : ℕ) (rest : List ℕ) → p ≢ place → times_returned place (rest ++ p ∷ []) ≡ times_returned place rest
times_away p place rest away = let e = times_push p place rest ∙ ap (λ b. times_returned place rest + cond b 1 0) (ne_eqb p place away) in omega arith

-- a cell of which something is idle is one that was returned
idle_is : (c : Option (Option Cell)) → 0 < is_idle c → c ≡ Some None
idle_is None some = absurd (omega arith)
idle_is (Some None) some = refl
idle_is (Some (Some cell)) some = absurd (omega arith)

idle_most : (c : Option (Option Cell)) → is_idle c ≤ 1
idle_most None = omega arith
idle_most (Some None) = omega arith
idle_most (Some (Some cell)) = omega arith

module _ (used : List (Option Cell)) (rest : List ℕ) (p : ℕ) (c : Cell) (stacked : AreStacked used (rest ++ p ∷ [])) where
  -- the cell that was returned last
  pub last_idle : slice_get used p ≡ Some None
  last_idle = idle_is (slice_get used p) (let e = stacked.once p in let t = times_here p rest in omega arith)

  pub last_within : p < length used
  last_within = slice_get_within used p None last_idle

  -- .. is reserved
  pub last_reserved : AreStacked (set used p (Some c)) rest
  last_reserved = record {
    once = λ place. dite (ℕ_discrete p place)
        (λ here. subst (λ place. times_returned place rest ≡ is_idle (slice_get (set used p (Some c)) place)) here
        (let e = stacked.once p in let t = times_here p rest in let m = idle_most (slice_get used p) in let none : times_returned p rest ≡ 0 = omega arith in none ∙ sym (ap is_idle (get_same used p (Some c) last_within))))
        (λ away. sym (times_away p place rest away) ∙ (stacked.once place ∙ sym (ap is_idle (get_other used p place (Some c) away))));
    counted =
        let s = sum_by-set is_reserved used p (Some c) None last_within in
        let z : is_reserved (get_or used p None) ≡ 0 = ap is_reserved (get_or_from_slice_get used p None None last_idle) in
        let l = length-set used p (Some c) in let n = length_push rest p in let k = stacked.counted in omega arith;
  }

module _ (used : List (Option Cell)) (returned : List ℕ) (stacked : AreStacked used returned) where
  -- a cell that was never used is reserved
  pub fresh_reserved : (c : Cell) → AreStacked (used ++ Some c ∷ []) returned
  fresh_reserved c = record {
    once = λ place. dite (ℕ_discrete place (length used))
        (λ here. subst (λ place. times_returned place returned ≡ is_idle (slice_get (used ++ Some c ∷ []) place)) (sym here)
        (stacked.once (length used) ∙ (ap is_idle (slice_get_past used (length used) (omega arith)) ∙ sym (ap is_idle (slice_get-last used (Some c))))))
        (λ away. stacked.once place ∙ sym (ap is_idle (beside place away)));
    counted = let s = sum_by_push is_reserved used (Some c) in let l = length_push used (Some c) in let k = stacked.counted in omega arith;
  }
    where
      beside : (place : ℕ) → place ≢ length used → slice_get (used ++ Some c ∷ []) place ≡ slice_get used place
      beside place away = ⊎_elim
          (λ there. slice_get-append used (Some c ∷ []) place there.1)
          (λ past. slice_get_past (used ++ Some c ∷ []) place (let l = length_push used (Some c) in let le = past.0 in omega arith) ∙ sym past.1)
          (slice_get_cases used place).1

  module _ (p : ℕ) (c : Cell) (there : slice_get used p ≡ Some (Some c)) where
    -- where a cell is reserved, the stack has room for it
    pub some_reserved : length returned < length used
    some_reserved =
        let s = sum_by-set is_reserved used p None (Some c) (slice_get_within used p (Some c) there) in
        let z : is_reserved (get_or used p (Some c)) ≡ 1 = ap is_reserved (get_or_from_slice_get used p (Some c) (Some c) there) in
        let k = stacked.counted in omega arith

    -- it is returned
    pub freed : AreStacked (set used p None) (returned ++ p ∷ [])
    freed = record {
      once = λ place. dite (ℕ_discrete p place)
          (λ here. subst (λ place. times_returned place (returned ++ p ∷ []) ≡ is_idle (slice_get (set used p None) place)) here
          (let none : times_returned p returned ≡ 0 = stacked.once p ∙ ap is_idle there in let t = times_here p returned in let one : times_returned p (returned ++ p ∷ []) ≡ 1 = omega arith in one ∙ sym (ap is_idle (get_same used p None (slice_get_within used p (Some c) there)))))
          (λ away. times_away p place returned away ∙ (stacked.once place ∙ sym (ap is_idle (get_other used p place None away))));
      counted =
          let s = sum_by-set is_reserved used p None (Some c) (slice_get_within used p (Some c) there) in
          let z : is_reserved (get_or used p (Some c)) ≡ 1 = ap is_reserved (get_or_from_slice_get used p (Some c) (Some c) there) in
          let l = length-set used p None in let n = length_push returned p in let k = stacked.counted in omega arith;
    }

-- the count of reservations stays within its limit
pub more_few : (ever : ℕ) → ever ≤ MOST_EVER → one_more_ever ever ≤ MOST_EVER
more_few ever few = grind (arith, nat_tests)
