-- Clocks begin at 0, and a kept entry raises each by one at most.
use Rattle.std.proofs.Common.{◌≡◌, ◌≢◌, ℕ, zero, suc, ◌+◌, ◌≤◌, ◌⊎◌, Bool, true, false, cond, List, [], ◌∷◌, ◌++◌, length, refl, sym, ap, subst, arith, inl, inr, length-append}
use Rattle.ib_map.specs.Space.{has_pages}
use Rattle.ib_page.specs.Space.{space_clock_of}
use Rattle.ib_logrec.specs.declared.entry.Entry.{Entry}
use Rattle.ib_logrec.specs.Grammar.{IsInGrammar}
use Rattle.ib_logrec.specs.Log.{memory_after, by_place}
use Rattle.ib_walk.specs.Words.{image_of, pages_of}
use Rattle.ib_walk.proofs.SpaceLaws.{clock-opening, space_clock-opening}
use Rattle.ib_walk.proofs.WalkLaws.{AllByRecursion-right}
use Rattle.ib_plans.specs.Agreement.{space_ticks}
use Rattle.ib_tree.specs.Logs.{pages_after}
use Rattle.ib_tree.specs.TreeLog.{opening}
use Rattle.ib_tree.proofs.LogLaws.{last-entry, made-last}
use Rattle.ib_tree.proofs.OpeningLaws.{by_place-opening}
use Rattle.ib_planned_log.specs.Kept.{IsKeptLog}
use Rattle.ib_planned_log.specs.KeptLog.{IsKeptLog-front}
use Rattle.ib_planned_log.proofs.PushLaws.{clock-push}

-- no page of a new space has been changed
opening-clock : (pages page : ℕ) → page ≢ 0 → (pages_of (by_place opening pages) page).clock ≡ 0
opening-clock pages page ne = subst (λ (words : ℕ → ℕ). (pages_of words page).clock ≡ 0) (sym (by_place-opening pages)) (clock-opening 1 page ne)

opening-space_clock : (pages : ℕ) → space_clock_of (image_of (by_place opening pages) 0) ≡ 0
opening-space_clock pages = subst (λ (words : ℕ → ℕ). space_clock_of (image_of words 0) ≡ 0) (sym (by_place-opening pages)) (space_clock-opening 1)

ticks-le : (touched : ℕ → Bool) → space_ticks touched ≤ 1
ticks-le touched = elim (touched 0) as (λ b. cond {A = ℕ} b 1 0 ≤ 1) [ true ↦ omega arith | false ↦ omega arith ]

module _ (pages : ℕ) (fits : has_pages pages ≡ true) where
  -- a clock behind one entry more
  clock-step : (front : List Entry) (e : Entry) (page : ℕ) → page ≢ 0 → IsKeptLog pages (front ++ e ∷ [])
      → (pages_after (by_place opening pages) (front ++ e ∷ []) page).clock ≤ (pages_after (by_place opening pages) front page).clock + 1
  clock-step front e page ne kept =
      let lawful = kept.lawful in
      let grammar = AllByRecursion-right (IsInGrammar pages) front (e ∷ []) lawful.grammar in
      clock-push pages fits front (IsKeptLog-front pages front (e ∷ []) kept) e grammar.0 (made-last front e lawful.legal) (kept.planned_are front e [] refl) page ne

  clock-counted : (n : ℕ) (log : List Entry) → length log ≡ n → (page : ℕ) → page ≢ 0 → IsKeptLog pages log → (log ≡ []) ⊎ ((front : List Entry) × (e : Entry) × (log ≡ front ++ e ∷ []))
      → (pages_after (by_place opening pages) log page).clock ≤ n
  clock-counted n log size page ne kept (inl none) =
      subst (λ (es : List Entry). (pages_after (by_place opening pages) es page).clock ≤ n) (sym none) (let z = opening-clock pages page ne in omega arith)
  clock-counted zero log size page ne kept (inr r) = absurd (let a = ap length r.2 in let b = length-append r.0 (r.1 ∷ []) in omega arith)
  clock-counted (suc n) log size page ne kept (inr r) =
      let here = subst (IsKeptLog pages) r.2 kept in
      let count : length r.0 ≡ n = (let a = ap length r.2 in let b = length-append r.0 (r.1 ∷ []) in omega arith) in
      let before = clock-counted n r.0 count page ne (IsKeptLog-front pages r.0 (r.1 ∷ []) here) (last-entry r.0) in
      subst (λ (es : List Entry). (pages_after (by_place opening pages) es page).clock ≤ suc n) (sym r.2) (let s = clock-step r.0 r.1 page ne here in omega arith)

  pub clock-le : (log : List Entry) (page : ℕ) → page ≢ 0 → IsKeptLog pages log → (pages_after (by_place opening pages) log page).clock ≤ length log
  clock-le log page ne kept = clock-counted (length log) log refl page ne kept (last-entry log)

  space-counted : (n : ℕ) (log : List Entry) → length log ≡ n → IsKeptLog pages log → (log ≡ []) ⊎ ((front : List Entry) × (e : Entry) × (log ≡ front ++ e ∷ []))
      → space_clock_of (image_of (memory_after (by_place opening pages) log) 0) ≤ n
  space-counted n log size kept (inl none) =
      subst (λ (es : List Entry). space_clock_of (image_of (memory_after (by_place opening pages) es) 0) ≤ n) (sym none) (let z = opening-space_clock pages in omega arith)
  space-counted zero log size kept (inr r) = absurd (let a = ap length r.2 in let b = length-append r.0 (r.1 ∷ []) in omega arith)
  space-counted (suc n) log size kept (inr r) =
      let here = subst (IsKeptLog pages) r.2 kept in
      let count : length r.0 ≡ n = (let a = ap length r.2 in let b = length-append r.0 (r.1 ∷ []) in omega arith) in
      let before = space-counted n r.0 count (IsKeptLog-front pages r.0 (r.1 ∷ []) here) (last-entry r.0) in
      let p = here.planned_are r.0 r.1 [] refl in
      let clock = p.step.clock in
      subst (λ (es : List Entry). space_clock_of (image_of (memory_after (by_place opening pages) es) 0) ≤ suc n) (sym r.2) (omega (arith, before, clock, ticks-le))

  pub space_clock-le : (log : List Entry) → IsKeptLog pages log → space_clock_of (image_of (memory_after (by_place opening pages) log) 0) ≤ length log
  space_clock-le log kept = space-counted (length log) log refl kept (last-entry log)
