-- Which holders go together on a latch, and which wish is grantable, in the words of a reader.
use Rattle.std.specs.Prelude.{◌≡◌, ◌≢◌, ℕ, ◌<◌, ◌⊎◌, IsTrue, List}
use Rattle.ib_levels.specs.declared.level.Level.{Level}
use Rattle.ib_levels.specs.declared.level.Mode.{Mode}
use Rattle.ib_levels.specs.declared.level.Mode.TheVariants.{S, Sx, X}
use Rattle.ib_levels.specs.Level.{MayFollowAll}
use Rattle.ib_levels.specs.Holding.{levels_of}
use Rattle.ib_core.specs.declared.phase.Phase.TheVariants.{Free}
use Rattle.ib_core.specs.declared.event.Answer.{Answer}
use Rattle.ib_core.specs.declared.event.Answer.TheVariants.{Granted, Reserved}
use Rattle.ib_core.specs.declared.session.Session.{Session}
use Rattle.ib_core.specs.Sessions.{Stands, is_next, holdings, reads, sx_grants, owned}

-- a session reads the latch, owns SX, owns X, or is the next writer
abbrev pub Reads : ℕ → Session → Type 0
Reads l a = 0 < reads l a

abbrev pub OwnsSx : ℕ → Session → Type 0
OwnsSx l a = 0 < sx_grants l a

abbrev pub OwnsX : ℕ → Session → Type 0
OwnsX l a = 0 < owned l a

abbrev pub IsNextWriter : ℕ → Session → Type 0
IsNextWriter l a = IsTrue (is_next l a.phase)

-- two different sessions on one latch: beside an owner of X there is nobody, beside the owner of SX
-- and the next writer there are readers alone
pub record AreCompatible (l : ℕ) (a b : Session) : Type 0 where
  pub x_alone : OwnsX l a → ¬ Reads l b × ¬ OwnsSx l b × ¬ OwnsX l b × ¬ IsNextWriter l b
  pub one_sx : OwnsSx l a → ¬ OwnsSx l b × ¬ OwnsX l b × ¬ IsNextWriter l b
  pub one_next : IsNextWriter l a → ¬ OwnsSx l b × ¬ OwnsX l b × ¬ IsNextWriter l b

-- the holders of a latch are compatible, and nobody reads what it owns or waits for in SX or X
pub record HoldersAreCompatible (l : ℕ) (sessions : List Session) : Type 0 where
  pub beside : (i j : ℕ) (a b : Session) → Stands sessions i a → Stands sessions j b → i ≢ j
      → AreCompatible l a b
  pub apart : (i : ℕ) (a : Session) → Stands sessions i a → Reads l a
      → ¬ OwnsSx l a × ¬ OwnsX l a × ¬ IsNextWriter l a

-- nobody owns X, and nobody is the next writer
pub record IsFreeOfX (l : ℕ) (sessions : List Session) : Type 0 where
  pub no_owner : (i : ℕ) (a : Session) → Stands sessions i a → ¬ OwnsX l a
  pub no_next : (i : ℕ) (a : Session) → Stands sessions i a → ¬ IsNextWriter l a

-- .. nobody owns SX either
pub record IsFreeOfClaims (l : ℕ) (sessions : List Session) : Type 0 where
  pub no_x : IsFreeOfX l sessions
  pub no_sx : (i : ℕ) (a : Session) → Stands sessions i a → ¬ OwnsSx l a

-- the wish is grantable to a session with nothing on the latch
abbrev pub IsGrantable : Mode → ℕ → List Session → Type 0
IsGrantable S l sessions = IsFreeOfX l sessions
IsGrantable Sx l sessions = IsFreeOfClaims l sessions
IsGrantable X l sessions = IsFreeOfClaims l sessions

-- a session in the middle of nothing, with nothing on the latch, may take it at the level
pub record CanWish (l : ℕ) (v : Level) (a : Session) : Type 0 where
  pub free : a.phase ≡ Free
  pub none : holdings l a ≡ 0
  pub allowed : MayFollowAll v (levels_of a.held)

-- the answer to a wish says that it was taken: granted, or reserved for the next writer
abbrev pub IsTaken : Answer → Type 0
IsTaken answer = (answer ≡ Granted) ⊎ (answer ≡ Reserved)
