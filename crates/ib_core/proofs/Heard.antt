-- What a phase heard stays true while nothing that it rests on changes.
use Rattle.std.proofs.Common.{◌≡◌, ℕ, ◌≤◌, Bool, true, List, set, refl, ap, ◌∙◌, subst, arith}
use native.Mathlib.Decide.{ℕ_discrete}
use Rattle.ib_levels.specs.declared.level.Mode.{Mode}
use Rattle.ib_core.specs.declared.phase.Phase.{Phase}
use Rattle.ib_core.specs.declared.phase.Phase.TheVariants.{Free, Armed, Flagged, Checked, Asleep, Next, NextArmed, NextChecked, NextAsleep, OwesLook, OwesClear, OwesRaise, OwesRaiseEx}
use Rattle.ib_core.specs.declared.session.Session.{Session}
use Rattle.ib_core.specs.declared.session.Marks.{Marks}
use Rattle.ib_core.specs.Sessions.{Stands, is_next}
use Rattle.ib_core.specs.Good.{IsOwed, WillRaise, MustWait, MustDrain, Heard}
use Rattle.ib_core.proofs.Elements.{same_at, set_here, set_else}
use Rattle.std.proofs.Common.{eq-eqb}

-- what sleepers on the latch rest on: a generation never falls, and while it stays the reasons stay
pub record Heeds (k : ℕ) (m m' : Marks) (ss ss' : List Session) : Type 0 where
  pub rises : m.generation ≤ m'.generation
  pub ex_rises : m.ex_generation ≤ m'.ex_generation
  pub wakes : m'.generation ≡ m.generation → WillRaise k m ss → WillRaise k m' ss'
  pub waits : m'.generation ≡ m.generation → WillRaise k m ss → (mode : Mode) → MustWait mode k ss → MustWait mode k ss'

-- .. and a next writer
abbrev pub Drains : ℕ → Marks → Marks → List Session → List Session → Type 0
Drains k m m' ss ss' = m'.ex_generation ≡ m.ex_generation → MustDrain k ss → MustDrain k ss'

module _ (m m' : ℕ → Marks) (ss ss' : List Session) (heeds : (k : ℕ) → Heeds k (m k) (m' k) ss ss') where
  kept : (k g : ℕ) → g ≤ (m k).generation → g ≡ (m' k).generation → (m' k).generation ≡ (m k).generation
  kept k g below now = let h = (heeds k).rises in omega arith

  ex_kept : (k g : ℕ) → g ≤ (m k).ex_generation → g ≡ (m' k).ex_generation → (m' k).ex_generation ≡ (m k).ex_generation
  ex_kept k g below now = let h = (heeds k).ex_rises in omega arith

  still_wakes : (k g : ℕ) → g ≤ (m k).generation → (g ≡ (m k).generation → WillRaise k (m k) ss) → g ≡ (m' k).generation → WillRaise k (m' k) ss'
  still_wakes k g below will now = let same = kept k g below now in (heeds k).wakes same (will (now ∙ same))

  still_waits : (k g : ℕ) (mode : Mode) → g ≤ (m k).generation → (g ≡ (m k).generation → WillRaise k (m k) ss) → (g ≡ (m k).generation → MustWait mode k ss) → g ≡ (m' k).generation → MustWait mode k ss'
  still_waits k g mode below will must now = let same = kept k g below now in (heeds k).waits same (will (now ∙ same)) mode (must (now ∙ same))

  pub heard_move : (p : Phase) → ((k : ℕ) → is_next k p ≡ true → (m' k).ex_generation ≡ (m k).ex_generation → MustDrain k ss → MustDrain k ss') → Heard m ss p → Heard m' ss' p
  heard_move Free drains h = tt
  heard_move (Armed k mode v g) drains h = let r = (heeds k).rises in let b : g ≤ (m k).generation = h in omega arith
  heard_move (Flagged k mode v g) drains h = let r = (heeds k).rises in let b : g ≤ (m k).generation = h.0 in (omega arith, still_wakes k g h.0 h.1)
  heard_move (Checked k mode v g) drains h = let r = (heeds k).rises in let b : g ≤ (m k).generation = h.0 in (omega arith, still_wakes k g h.0 h.1, still_waits k g mode h.0 h.1 h.2)
  heard_move (Asleep k mode v g) drains h = let r = (heeds k).rises in let b : g ≤ (m k).generation = h.0 in (omega arith, still_wakes k g h.0 h.1, still_waits k g mode h.0 h.1 h.2)
  heard_move (Next k v) drains h = tt
  heard_move (NextArmed k v g) drains h = let r = (heeds k).ex_rises in let b : g ≤ (m k).ex_generation = h in omega arith
  heard_move (NextChecked k v g) drains h = let r = (heeds k).ex_rises in let b : g ≤ (m k).ex_generation = h.0 in
      (omega arith, λ now. let same = ex_kept k g h.0 now in drains k (eq-eqb k k refl) same (h.1 (now ∙ same)))
  heard_move (NextAsleep k v g) drains h = let r = (heeds k).ex_rises in let b : g ≤ (m k).ex_generation = h.0 in
      (omega arith, λ now. let same = ex_kept k g h.0 now in drains k (eq-eqb k k refl) same (h.1 (now ∙ same)))
  heard_move (OwesLook k) drains h = tt
  heard_move (OwesClear k) drains h = tt
  heard_move (OwesRaise k) drains h = tt
  heard_move (OwesRaiseEx k) drains h = tt

-- a signal stays owed where the session that changes does not owe it, or owes it still
pub owed_set : (test : Phase → Bool) (ss : List Session) (i : ℕ) (a a' : Session) → Stands ss i a → (test a.phase ≡ true → test a'.phase ≡ true) → IsOwed test ss → IsOwed test (set ss i a')
owed_set test ss i a a' at keeps owed = by_place (ℕ_discrete i owed.by)
  where
    by_place : Dec (i ≡ owed.by) → IsOwed test (set ss i a')
    by_place (yes q) =
        let same : a ≡ owed.session = same_at ss owed.by a owed.session (subst (λ n. Stands ss n a) q at) owed.stands in
        record { by = i; session = a'; stands = set_here ss i a a' at; owes = keeps (ap (λ (z : Session). test z.phase) same ∙ owed.owes) }
    by_place (no n) = record { by = owed.by; session = owed.session; stands = set_else ss i owed.by a' n ∙ owed.stands; owes = owed.owes }

-- it is owed by the session that changed
pub owed_now : (test : Phase → Bool) (ss : List Session) (i : ℕ) (a a' : Session) → Stands ss i a → test a'.phase ≡ true → IsOwed test (set ss i a')
owed_now test ss i a a' at owes = record { by = i; session = a'; stands = set_here ss i a a' at; owes = owes }
