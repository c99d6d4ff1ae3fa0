-- The memo of a mini-transaction: the grants that it took and still has, in order of taking.
use Rattle.std.specs.Prelude.{◌≡◌, ◌≢◌, ℕ, ◌+◌, ◌==◌, ◌&&◌, Bool, true, false, List, count_by, drop, slice_get, IsSomeAnd}
use Rattle.std.specs.List.{All}
use Rattle.ib_levels.specs.declared.latch.Latch.{Latch}
use Rattle.ib_levels.specs.declared.level.Mode.{Mode}
use Rattle.ib_levels.specs.declared.level.Mode.TheVariants.{S, Sx, X}
use Rattle.ib_levels.specs.Holding.{on}
use Rattle.ib_core.specs.declared.session.Session.{Session}
use Rattle.ib_core.specs.Takings.{count_of}

-- two modes are the same one
abbrev pub same_mode : Mode → Mode → Bool
same_mode S S = true
same_mode S Sx = false
same_mode S X = false
same_mode Sx S = false
same_mode Sx Sx = true
same_mode Sx X = false
same_mode X S = false
same_mode X Sx = false
same_mode X X = true

-- how many grants of the mode on the latch a memo has
abbrev pub times_in_memo : Mode → ℕ → List (Latch × Mode) → ℕ
times_in_memo mode l memo = count_by (λ g. (g.0.0 == l) && same_mode mode g.1) memo

-- how many grants of the mode a session has on the latch
abbrev pub grants_of : Mode → ℕ → Session → ℕ
grants_of mode l a = on l (count_of mode) a.held

-- a session has exactly the grants of the memo: on each latch, and of each mode, as many
pub record HasExactly (memo : List (Latch × Mode)) (a : Session) : Type 0 where
  pub counts : (mode : Mode) (l : ℕ) → grants_of mode l a ≡ times_in_memo mode l memo

-- the newest grant on the latch stands at this place
pub record IsNewest (latch : Latch) (at : ℕ) (memo : List (Latch × Mode)) : Type 0 where
  pub there : IsSomeAnd (slice_get memo at) (λ g. g.0 ≡ latch)
  pub last : All (λ g. g.0 ≢ latch) (drop (at + 1) memo)
