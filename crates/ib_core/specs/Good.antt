-- The good states of the latch machine.
use Rattle.std.specs.Prelude.{◌≡◌, ◌≢◌, ℕ, ◌<◌, ◌≤◌, ◌⊎◌, ◌==◌, Bool, false, IsTrue, List, sum_by}
use Rattle.ib_levels.specs.declared.level.Mode.{Mode}
use Rattle.ib_levels.specs.declared.level.Mode.TheVariants.{S, Sx, X}
use Rattle.ib_levels.specs.Level.{IsOrderly, MayFollowAll}
use Rattle.ib_levels.specs.Holding.{levels_of}
use Rattle.ib_core.specs.declared.phase.Phase.{Phase}
use Rattle.ib_core.specs.declared.phase.Phase.TheVariants.{Armed, Flagged, Checked, Asleep, Next, NextArmed, NextChecked, NextAsleep, OwesLook, OwesClear, OwesRaise, OwesRaiseEx}
use Rattle.ib_core.specs.declared.session.Session.{Session}
use Rattle.ib_core.specs.declared.session.Marks.{Marks}
use Rattle.ib_core.specs.Sessions.{Stands, holdings, reads, claims, grants, x_grants, owned, readers_of}

-- what a phase says of its session's own holdings: who waits holds nothing on the latch and may
-- take it at the level recorded, and a next writer has one X there
abbrev pub Suits : Phase → Session → Type 0
Suits (Armed l mode v g) a = (holdings l a ≡ 0) × MayFollowAll v (levels_of a.held)
Suits (Flagged l mode v g) a = (holdings l a ≡ 0) × MayFollowAll v (levels_of a.held)
Suits (Checked l mode v g) a = (holdings l a ≡ 0) × MayFollowAll v (levels_of a.held)
Suits (Asleep l mode v g) a = (holdings l a ≡ 0) × MayFollowAll v (levels_of a.held)
Suits (Next l v) a = x_grants l a ≡ 1
Suits (NextArmed l v g) a = x_grants l a ≡ 1
Suits (NextChecked l v g) a = x_grants l a ≡ 1
Suits (NextAsleep l v g) a = x_grants l a ≡ 1
Suits _ a = Unit {0}

-- what is said of one session alone: it has one holding on a latch at most, which has some grant,
-- one of S and nothing else or some of SX and X, and what it holds is orderly
pub record IsProper (a : Session) : Type 0 where
  pub single : (l : ℕ) → holdings l a ≤ 1
  pub solid : (l : ℕ) → holdings l a ≤ grants l a
  pub once : (l : ℕ) → reads l a ≤ 1
  pub apart : (l : ℕ) → 0 < reads l a → claims l a ≡ 0
  pub orderly : IsOrderly (levels_of a.held)
  pub suits : Suits a.phase a

-- two sessions go together on a latch: one of them at most has SX or X or is the next writer, and
-- beside an owner of X the other does not read
pub record GoBeside (l : ℕ) (a b : Session) : Type 0 where
  pub one_claim : 0 < claims l a → claims l b ≡ 0
  pub none_reads : 0 < owned l a → reads l b ≡ 0

-- a phase that owes the next writer of the latch a raise, one that owes the sleepers a raise, and
-- one that owes them a raise or what may lead to it
abbrev pub owes_raise_ex : ℕ → Phase → Bool
owes_raise_ex l (OwesRaiseEx k) = k == l
owes_raise_ex l _ = false

abbrev pub owes_raise : ℕ → Phase → Bool
owes_raise l (OwesRaise k) = k == l
owes_raise l _ = false

abbrev pub owes_signal : ℕ → Phase → Bool
owes_signal l (OwesLook k) = k == l
owes_signal l (OwesClear k) = k == l
owes_signal l (OwesRaise k) = k == l
owes_signal l _ = false

-- some session has such a phase
pub record IsOwed (test : Phase → Bool) (sessions : List Session) : Type 0 where
  pub by : ℕ
  pub session : Session
  pub stands : Stands sessions by session
  pub owes : IsTrue (test session.phase)

-- what a session has against a wish of others: X or the place of the next writer against S, and
-- SX besides against SX and X
abbrev pub against : Mode → ℕ → Session → ℕ
against S l a = x_grants l a
against Sx l a = claims l a
against X l a = claims l a

-- the waiters flag is set, or a raise is owed
abbrev pub WillRaise : ℕ → Marks → List Session → Type 0
WillRaise l m sessions = IsTrue m.waiters ⊎ IsOwed (owes_raise l) sessions

-- the wish is not grantable, or a signal is owed
abbrev pub MustWait : Mode → ℕ → List Session → Type 0
MustWait mode l sessions = (0 < sum_by (against mode l) sessions) ⊎ IsOwed (owes_signal l) sessions

-- there are readers, or a raise of the ex generation is owed
abbrev pub MustDrain : ℕ → List Session → Type 0
MustDrain l sessions = (0 < readers_of l sessions) ⊎ IsOwed (owes_raise_ex l) sessions

-- what a phase says of the marks and of all sessions: no generation recorded is above the present
-- one, and no signal is lost to who recorded the present one
abbrev pub Heard : (ℕ → Marks) → List Session → Phase → Type 0
Heard m sessions (Armed l mode v g) = g ≤ (m l).generation
Heard m sessions (Flagged l mode v g) =
    (g ≤ (m l).generation) × (g ≡ (m l).generation → WillRaise l (m l) sessions)
Heard m sessions (Checked l mode v g) =
    (g ≤ (m l).generation) × (g ≡ (m l).generation → WillRaise l (m l) sessions)
    × (g ≡ (m l).generation → MustWait mode l sessions)
Heard m sessions (Asleep l mode v g) =
    (g ≤ (m l).generation) × (g ≡ (m l).generation → WillRaise l (m l) sessions)
    × (g ≡ (m l).generation → MustWait mode l sessions)
Heard m sessions (NextArmed l v g) = g ≤ (m l).ex_generation
Heard m sessions (NextChecked l v g) =
    (g ≤ (m l).ex_generation) × (g ≡ (m l).ex_generation → MustDrain l sessions)
Heard m sessions (NextAsleep l v g) =
    (g ≤ (m l).ex_generation) × (g ≡ (m l).ex_generation → MustDrain l sessions)
Heard m sessions _ = Unit {0}

-- a good state: of the sessions, and of the marks of each latch. The number of sessions is bounded
-- apart
pub record IsGood (sessions : List Session) (marks : ℕ → Marks) : Type 0 where
  pub proper : (i : ℕ) (a : Session) → Stands sessions i a → IsProper a
  pub beside : (i j : ℕ) (a b : Session) → Stands sessions i a → Stands sessions j b → i ≢ j
      → (l : ℕ) → GoBeside l a b
  pub heard : (i : ℕ) (a : Session) → Stands sessions i a → Heard marks sessions a.phase
