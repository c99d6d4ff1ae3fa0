-- A phase that is about one latch says nothing of another.
use Rattle.std.proofs.Common.{◌≡◌, ◌≢◌, ℕ, true, false, not, refl, sym, ◌∙◌, ap, eq-eqb, ne_eqb}
use Rattle.std.specs.Prelude.{◌==◌}
use Rattle.ib_levels.proofs.Counts.{by_equal}
use Rattle.ib_core.specs.declared.phase.Phase.{Phase}
use Rattle.ib_core.specs.declared.phase.Phase.TheVariants.{Free, Armed, Flagged, Checked, Asleep, Next, NextArmed, NextChecked, NextAsleep, OwesLook, OwesClear, OwesRaise, OwesRaiseEx}
use Rattle.ib_core.specs.Sessions.{is_next}
use Rattle.ib_core.specs.Responses.{is_elsewhere}
use Rattle.ib_core.specs.Good.{owes_raise_ex, owes_raise, owes_signal}

-- the latch of a phase that is not elsewhere
pub here : (k l : ℕ) → not (k == l) ≡ false → k ≡ l
here k l e = by_equal (λ b. not b ≡ false → k ≡ l) k l (λ q _. q) (λ _ z. absurd (cc)) e

-- .. is no other
off : (j l k : ℕ) → not (j == l) ≡ false → l ≢ k → (j == k) ≡ false
off j l k at n = ne_eqb j k (λ q. n (sym (here j l at) ∙ q))

pub record Quiet (k : ℕ) (p : Phase) : Type 0 where
  pub next : is_next k p ≡ false
  pub raise_ex : owes_raise_ex k p ≡ false
  pub raise : owes_raise k p ≡ false
  pub signal : owes_signal k p ≡ false

pub quiet : (l k : ℕ) (p : Phase) → is_elsewhere l p ≡ false → l ≢ k → Quiet k p
quiet l k Free at n = record { next = refl; raise_ex = refl; raise = refl; signal = refl }
quiet l k (Armed j mode v g) at n = record { next = refl; raise_ex = refl; raise = refl; signal = refl }
quiet l k (Flagged j mode v g) at n = record { next = refl; raise_ex = refl; raise = refl; signal = refl }
quiet l k (Checked j mode v g) at n = record { next = refl; raise_ex = refl; raise = refl; signal = refl }
quiet l k (Asleep j mode v g) at n = record { next = refl; raise_ex = refl; raise = refl; signal = refl }
quiet l k (Next j v) at n = record { next = off j l k at n; raise_ex = refl; raise = refl; signal = refl }
quiet l k (NextArmed j v g) at n = record { next = off j l k at n; raise_ex = refl; raise = refl; signal = refl }
quiet l k (NextChecked j v g) at n = record { next = off j l k at n; raise_ex = refl; raise = refl; signal = refl }
quiet l k (NextAsleep j v g) at n = record { next = off j l k at n; raise_ex = refl; raise = refl; signal = refl }
quiet l k (OwesLook j) at n = record { next = refl; raise_ex = refl; raise = refl; signal = off j l k at n }
quiet l k (OwesClear j) at n = record { next = refl; raise_ex = refl; raise = refl; signal = off j l k at n }
quiet l k (OwesRaise j) at n = record { next = refl; raise_ex = refl; raise = off j l k at n; signal = off j l k at n }
quiet l k (OwesRaiseEx j) at n = record { next = refl; raise_ex = off j l k at n; raise = refl; signal = refl }

-- a latch is at itself
pub at_itself : (l : ℕ) → not (l == l) ≡ false
at_itself l = ap not (eq-eqb l l refl)

-- a raise that is owed is a signal that is owed
pub raise_signals : (k : ℕ) (p : Phase) → owes_raise k p ≡ true → owes_signal k p ≡ true
raise_signals k (OwesRaise j) e = e
raise_signals k Free e = absurd (cc)
raise_signals k (Armed j mode v g) e = absurd (cc)
raise_signals k (Flagged j mode v g) e = absurd (cc)
raise_signals k (Checked j mode v g) e = absurd (cc)
raise_signals k (Asleep j mode v g) e = absurd (cc)
raise_signals k (Next j v) e = absurd (cc)
raise_signals k (NextArmed j v g) e = absurd (cc)
raise_signals k (NextChecked j v g) e = absurd (cc)
raise_signals k (NextAsleep j v g) e = absurd (cc)
raise_signals k (OwesLook j) e = absurd (cc)
raise_signals k (OwesClear j) e = absurd (cc)
raise_signals k (OwesRaiseEx j) e = absurd (cc)
