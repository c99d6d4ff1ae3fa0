-- What contracts see of a `Member`, and what it needs to make a step on a latch.
use Rattle.std.specs.Prelude.{◌≡◌, ℕ, ◌+◌, ◌^◌, ◌<◌, ℤ, pos, ◌+ℤ◌, ◌≤ℤ◌, List, map}
use Rattle.ib_word.specs.declared.word.TheConstants.{X_LOCK_DECR}
use Rattle.ib_core.specs.declared.session.Session.{Session}
use Rattle.ib_core.specs.Sessions.{idle, grants, taken}
use Rattle.ib_core.specs.Good.{IsProper}

-- a session, and the number of latches for which its list has room
pub record SessionAmong : Type 0 where
  pub session : Session
  pub latches : ℕ

-- a session that holds nothing, among this many latches
abbrev pub idle_among : ℕ → SessionAmong
idle_among latches = record { session = idle; latches = latches }

-- the sessions of a list of members
abbrev pub sessions_of : List SessionAmong → List Session
sessions_of members = map (λ m. m.session) members

-- no step of the session on the latch leaves the numbers of 32 bits: it has few grants there, and
-- the word has room for one taking more, and for all of its own to be given back
pub record CanStep (l : ℕ) (word : ℤ) (a : Session) : Type 0 where
  pub proper : IsProper a
  pub few : grants l a < 2 ^ 28
  pub low : pos 0 ≤ℤ (word +ℤ pos (2 ^ 30 + 2 ^ 28))
  pub high : (word +ℤ pos (taken l a)) ≤ℤ pos X_LOCK_DECR

-- the word moves by what the session takes off it
abbrev pub SameSum : ℕ → ℤ → Session → ℤ → Session → Type 0
SameSum l word a word' a' = (word' +ℤ pos (taken l a')) ≡ (word +ℤ pos (taken l a))

-- one session takes this much off the lock word more than another
abbrev pub TakesMore : ℕ → ℕ → Session → Session → Type 0
TakesMore l weight a b = taken l a ≡ taken l b + weight
