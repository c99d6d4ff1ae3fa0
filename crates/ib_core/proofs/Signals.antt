-- The events that carry a signal keep a good state good: look, clear and raise.
use Rattle.std.proofs.Common.{◌≡◌, ◌≢◌, ℕ, ◌+◌, ◌<◌, inl, inr, ⊎_elim, true, false, List, set, refl, sym, ap, ◌∙◌, eq-eqb, arith}
use Rattle.ib_levels.specs.declared.holding.Holding.{Holding}
use Rattle.ib_levels.specs.declared.level.Mode.{Mode}
use Rattle.std.specs.List.{sum_by}
use Rattle.ib_core.specs.declared.phase.Phase.{Phase}
use Rattle.ib_core.specs.declared.phase.Phase.TheVariants.{Free, OwesLook, OwesClear, OwesRaise, OwesRaiseEx}
use Rattle.ib_core.specs.declared.session.Session.{Session}
use Rattle.ib_core.specs.declared.session.Marks.{Marks}
use Rattle.ib_core.specs.Sessions.{Stands}
use Rattle.ib_core.specs.Good.{IsOwed, WillRaise, MustWait, IsGood, against, owes_raise, owes_signal}
use Rattle.ib_core.proofs.Elements.{sum_at}
use Rattle.ib_core.proofs.Quiet.{at_itself, raise_signals}
use Rattle.ib_core.proofs.Heard.{owed_set, owed_now}
use Rattle.ib_core.proofs.Phased.{with_phase, phase_kept, heeds_phase, drains_phase, owned_as_before, same_against}

module _ (m : ℕ → Marks) (ss : List Session) (i : ℕ) (held : List Holding) (l : ℕ) (good : IsGood ss m) where
  -- where a signal ends because the flag is not set, a raise is owed that is a signal too
  ends : (p : Phase) → Stands ss i (with_phase p held) → owes_raise l p ≡ false → (m l).waiters ≡ false
      → (mode : Mode) → WillRaise l (m l) ss → MustWait mode l ss → MustWait mode l (set ss i (with_phase Free held))
  ends p at raise down mode will must = ⊎_elim
      (λ (q : 0 < sum_by (against mode l) ss). inl (let s = sum_at (against mode l) ss i (with_phase p held) (with_phase Free held) at in let r = same_against ss i held l p Free mode l in omega arith))
      (λ _. ⊎_elim
      (λ (f : (m l).waiters ≡ true). let z : true ≡ false = sym f ∙ down in absurd (cc))
      (λ o. inr (as_signal (owed_set (owes_raise l) ss i (with_phase p held) (with_phase Free held) at (λ z. let y : true ≡ false = sym z ∙ raise in absurd (cc)) o)))
      will)
      must
    where
      as_signal : {tt' : List Session} → IsOwed (owes_raise l) tt' → IsOwed (owes_signal l) tt'
      as_signal o = record { by = o.by; session = o.session; stands = o.stands; owes = raise_signals l o.session.phase o.owes }

  -- the look found no flag
  pub looks_down : Stands ss i (with_phase (OwesLook l) held) → (m l).waiters ≡ false → IsGood (set ss i (with_phase Free held)) m
  looks_down at down =
      let p : Phase = OwesLook l in
      phase_kept ss i held l p Free m m good at (at_itself l) refl (λ k n. refl) tt (owned_as_before ss i held l p Free m good at refl) tt
      record {
        rises = omega arith;
        ex_rises = omega arith;
        wakes = λ _ w. ⊎_elim (λ f. inl f) (λ o. inr (owed_set (owes_raise l) ss i (with_phase p held) (with_phase Free held) at (λ z. z) o)) w;
        waits = λ _ w mode d. ends p at refl down mode w d;
      }
      (drains_phase ss i held l p Free l (m l) (m l) at (λ z. z))

  -- the look found the flag
  pub looks_up : Stands ss i (with_phase (OwesLook l) held) → IsGood (set ss i (with_phase (OwesClear l) held)) m
  looks_up at =
      let p : Phase = OwesLook l in let p' : Phase = OwesClear l in
      phase_kept ss i held l p p' m m good at (at_itself l) (at_itself l) (λ k n. refl) tt (owned_as_before ss i held l p p' m good at refl) tt
      (heeds_phase ss i held l p p' l (m l) at (λ z. z) (λ z. z))
      (drains_phase ss i held l p p' l (m l) (m l) at (λ z. z))

  -- the flag is cleared, which was set: the raise is owed
  pub clears_up : (m' : ℕ → Marks) → Stands ss i (with_phase (OwesClear l) held) → m' l ≡ record (m l) { waiters = false } → ((k : ℕ) → l ≢ k → m' k ≡ m k)
      → IsGood (set ss i (with_phase (OwesRaise l) held)) m'
  clears_up m' at here away =
      let p : Phase = OwesClear l in let p' : Phase = OwesRaise l in
      let gen = ap (λ (z : Marks). z.generation) here in let ex = ap (λ (z : Marks). z.ex_generation) here in
      let same = heeds_phase ss i held l p p' l (m l) at (λ z. absurd (cc)) (λ z. z) in
      phase_kept ss i held l p p' m m' good at (at_itself l) (at_itself l) away tt (owned_as_before ss i held l p p' m good at refl) tt
      record {
        rises = omega arith;
        ex_rises = omega arith;
        wakes = λ _ _. inr (owed_now (owes_raise l) ss i (with_phase p held) (with_phase p' held) at (eq-eqb l l refl));
        waits = λ _ w mode d. same.waits refl w mode d;
      }
      (drains_phase ss i held l p p' l (m l) (m' l) at (λ z. z))

  -- the flag was cleared by another already
  pub clears_down : (m' : ℕ → Marks) → Stands ss i (with_phase (OwesClear l) held) → (m l).waiters ≡ false → m' l ≡ record (m l) { waiters = false } → ((k : ℕ) → l ≢ k → m' k ≡ m k)
      → IsGood (set ss i (with_phase Free held)) m'
  clears_down m' at down here away =
      let p : Phase = OwesClear l in
      let gen = ap (λ (z : Marks). z.generation) here in let ex = ap (λ (z : Marks). z.ex_generation) here in
      phase_kept ss i held l p Free m m' good at (at_itself l) refl away tt (owned_as_before ss i held l p Free m good at refl) tt
      record {
        rises = omega arith;
        ex_rises = omega arith;
        wakes = λ _ w. ⊎_elim (λ (f : (m l).waiters ≡ true). let z : true ≡ false = sym f ∙ down in absurd (cc)) (λ o. inr (owed_set (owes_raise l) ss i (with_phase p held) (with_phase Free held) at (λ z. z) o)) w;
        waits = λ _ w mode d. ends p at refl down mode w d;
      }
      (drains_phase ss i held l p Free l (m l) (m' l) at (λ z. z))

  -- the generation rises, and nobody recorded the new one
  pub raises : (m' : ℕ → Marks) → Stands ss i (with_phase (OwesRaise l) held) → m' l ≡ record (m l) { generation = (m l).generation + 1 } → ((k : ℕ) → l ≢ k → m' k ≡ m k)
      → IsGood (set ss i (with_phase Free held)) m'
  raises m' at here away =
      let p : Phase = OwesRaise l in
      let gen = ap (λ (z : Marks). z.generation) here in let ex = ap (λ (z : Marks). z.ex_generation) here in
      phase_kept ss i held l p Free m m' good at (at_itself l) refl away tt (owned_as_before ss i held l p Free m good at refl) tt
      record { rises = omega arith; ex_rises = omega arith; wakes = λ same _. absurd (omega arith); waits = λ same _ mode _. absurd (omega arith) }
      (drains_phase ss i held l p Free l (m l) (m' l) at (λ z. z))

  pub raises_ex : (m' : ℕ → Marks) → Stands ss i (with_phase (OwesRaiseEx l) held) → m' l ≡ record (m l) { ex_generation = (m l).ex_generation + 1 } → ((k : ℕ) → l ≢ k → m' k ≡ m k)
      → IsGood (set ss i (with_phase Free held)) m'
  raises_ex m' at here away =
      let p : Phase = OwesRaiseEx l in
      let gen = ap (λ (z : Marks). z.generation) here in let ex = ap (λ (z : Marks). z.ex_generation) here in
      let flag = ap (λ (z : Marks). z.waiters) here in
      let same = heeds_phase ss i held l p Free l (m l) at (λ z. z) (λ z. z) in
      phase_kept ss i held l p Free m m' good at (at_itself l) refl away tt (owned_as_before ss i held l p Free m good at refl) tt
      record {
        rises = omega arith;
        ex_rises = omega arith;
        wakes = λ _ w. ⊎_elim (λ f. inl (flag ∙ f)) (λ o. inr (owed_set (owes_raise l) ss i (with_phase p held) (with_phase Free held) at (λ z. z) o)) w;
        waits = λ _ w mode d. same.waits refl w mode d;
      }
      (λ same _. absurd (omega arith))
