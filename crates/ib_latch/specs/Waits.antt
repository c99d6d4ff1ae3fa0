-- What a session that waits for a latch is, and what a lock call comes to.
use Rattle.std.specs.Prelude.{◌≡◌, ◌≢◌, ◌⊎◌, ℕ, ◌+◌, ◌<◌, ◌≤◌, Bool, true, false, List, ◌∷◌, Option, Some, None, IfSome, IfNone, ℤ, pos, ◌-ℤ◌, Result, Ok, Err}
use Rattle.ib_word.specs.Word.{cell_of, word_in, is_drained}
use Rattle.ib_word.specs.declared.word.LockWord.{LockWord}
use Rattle.ib_word.specs.declared.word.TheConstants.{X_LOCK_DECR}
use Rattle.ib_levels.specs.declared.level.Level.{Level}
use Rattle.ib_levels.specs.declared.holding.Holding.{Holding}
use Rattle.ib_levels.specs.declared.level.Mode.{Mode}
use Rattle.ib_levels.specs.declared.level.Mode.TheVariants.{S as ModeS, Sx as ModeSx, X as ModeX}
use Rattle.ib_core.specs.declared.phase.Phase.{Phase}
use Rattle.ib_core.specs.declared.phase.Phase.TheVariants.{Asleep, Checked, Flagged, Free, Next, NextArmed, NextAsleep, NextChecked}
use Rattle.ib_core.specs.Sessions.{sx_grants, x_grants}
use Rattle.ib_core.specs.Table.{owns_x_at}
use Rattle.ib_levels.specs.Holding.{changed_on}
use Rattle.ib_levels.specs.declared.level.Level.TheVariants.{Log}
use Rattle.ib_core.specs.Takings.{holding_too, is_given_at, level_on, one_more}
use Rattle.ib_wait.specs.declared.cells.Wish.{Wish}
use Rattle.ib_wait.specs.declared.cells.Wish.TheVariants.{S as WishS, Sx as WishSx, X as WishX, NextX as WishNextX}
use Rattle.ib_wait.specs.declared.cells.Cell.{Cell}
use Rattle.ib_rule.specs.declared.looks.Look.{Look}
use Rattle.ib_rule.specs.declared.looks.Looks.{Looks}
use Rattle.ib_rule.specs.Afterwards.{looked_on, phased}
use Rattle.ib_rule.specs.Laws.{Stores}
use Rattle.ib_rule.specs.Pass.{PassState, IsOf, with_view}
use Rattle.ib_rule.specs.Space.{SpaceState}
use Rattle.ib_rule.specs.Takes.{IsStillOf}
use Rattle.ib_rule.specs.Views.{with_looks}
use Rattle.ib_latch.specs.declared.tries.Reserve.{Reserve}
use Rattle.ib_latch.specs.declared.tries.Reserve.TheVariants.{Owned}
use Rattle.ib_latch.specs.declared.tries.TryFault.{TryFault}
use Rattle.ib_latch.specs.declared.tries.TryFault.TheVariants.{Busy, Raced}
use Rattle.ib_latch.specs.Tries.{HasTakenGrant, first_session, looked_at, lost_at, phase_of, reserve_at, won_with}

-- what a first grant of the mode at a word came to
abbrev pub reserved_by : Mode → ℤ → Reserve
reserved_by ModeS w = Owned
reserved_by ModeSx w = Owned
reserved_by ModeX w = reserve_at (w -ℤ pos X_LOCK_DECR)

-- one more try by who set the flag: a look, which leaves it checked where the word refuses its wish, and else one exchange
abbrev pub IsRecheck : Mode → ℕ → Level → ℕ → PassState → Result Reserve TryFault → PassState → Type 0
IsRecheck mode l v g p (Ok r) q = (w : LockWord) × (is_given_at mode w.0 ≡ true) × (r ≡ reserved_by mode w.0) × (q ≡ won_with mode l w (first_session mode l v p.view.session.held w) (looked_at l w p))
IsRecheck mode l v g p (Err (Busy w)) q = (is_given_at mode w.0 ≡ false) × (q ≡ with_view p (looked_on l w (phased (Checked l mode v g) p.view)))
IsRecheck mode l v g p (Err (Raced w found)) q = (is_given_at mode w.0 ≡ true) × (found.0 ≢ w.0) × (q ≡ lost_at l w found (looked_at l w p))

-- who set the flag, or has checked, may give up: on a latch that is there
abbrev pub MayStandDown : ℕ → Phase → Type 0
MayStandDown latches (Flagged l mode v g) = l < latches
MayStandDown latches (Checked l mode v g) = l < latches
MayStandDown latches p = ⊥

abbrev pub latch_waited : Phase → ℕ
latch_waited (Flagged l mode v g) = l
latch_waited (Checked l mode v g) = l
latch_waited p = 0

-- the session looked as often as it liked, and is in this phase; nothing else is changed
pub record IsStill (phase : Phase) (p q : PassState) : Type 0 where
  pub same : q ≡ with_view p (with_looks q.view.looks (phased phase p.view))
  pub looks : p.view.looks.count ≤ q.view.looks.count

-- the last look was a won exchange on the latch, from a word of which the test holds, and the look before it found that word
pub record EndsWon (test : ℤ → Bool) (l : ℕ) (looks : Looks) : Type 0 where
  pub word : LockWord
  pub given : test word.0 ≡ true
  pub at : ℕ
  pub held : ℕ
  pub before : List Look
  pub last_two : looks.all ≡ record { latch = l; found = cell_of word.0; expected = Some (cell_of word.0); at = at + 1; held = held } ∷ record { latch = l; found = cell_of word.0; expected = None; at = at; held = held } ∷ before

-- the last look was a load of the lock word, at which its next writer owns X
pub record EndsOwned (has_sx l : ℕ) (looks : Looks) : Type 0 where
  pub found : ℕ
  pub owned : owns_x_at has_sx (word_in found) ≡ true
  pub at : ℕ
  pub held : ℕ
  pub before : List Look
  pub last : looks.all ≡ record { latch = l; found = found; expected = None; at = at; held = held } ∷ before

-- X is left where this much is taken off the word and no reader is there
abbrev pub is_left_drained : ℤ → Bool
is_left_drained w = is_drained (w -ℤ pos X_LOCK_DECR)

-- the last look tells that X is owned: a won exchange that left no reader, or a load of such a word by the next writer
abbrev pub EndsOwning : ℕ → ℕ → Looks → Type 0
EndsOwning has_sx l looks = EndsWon is_left_drained l looks ⊎ EndsOwned has_sx l looks

-- .. where the session owns X, and is not its next writer, after a won exchange
abbrev pub EndsAsReserved : ℕ → Phase → Looks → Type 0
EndsAsReserved l Free looks = EndsWon is_left_drained l looks
EndsAsReserved l p looks = Unit {0}

-- a first grant of the mode, by a won exchange, which came to this
pub record IsWon (mode : Mode) (l : ℕ) (v : Level) (r : Reserve) (p q : PassState) : Type 0 where
  pub taken : HasTakenGrant mode (holding_too mode l v p.view.session.held) (phase_of l v r) p.view q.view
  pub won : EndsWon (is_given_at mode) l q.view.looks
  pub owned : mode ≢ ModeX → r ≡ Owned
  pub owns_x : mode ≡ ModeX → EndsAsReserved l q.view.session.phase q.view.looks
  pub signed : mode ≢ ModeS → Stores l q.view.written
  pub looks : p.view.looks.count ≤ q.view.looks.count

-- tries for a first grant of the mode: one was won, or none, and the session is in the middle of nothing still
pub record HasTried (space : SpaceState) (mode : Mode) (l : ℕ) (v : Level) (result : Option Reserve) (p q : PassState) : Type 0 where
  pub still : IsStillOf space p q
  pub some : IfSome result (λ r. IsWon mode l v r p q)
  pub none : IfNone result (IsStill Free p q)

-- X was taken and is owned. This is held then, the session is the writer, and where it had no X there before, its last look tells that it owns it
pub record HasLockedX (held : List Holding) (l : ℕ) (p q : PassState) : Type 0 where
  pub taken : HasTakenGrant ModeX held Free p.view q.view
  pub ends : x_grants l p.view.session ≡ 0 → EndsOwning (sx_grants l q.view.session) l q.view.looks
  pub signed : Stores l q.view.written
  pub looks : p.view.looks.count ≤ q.view.looks.count

-- looks of the next writer: where it is the owner then, the last one tells that, and the session is in the middle of nothing, and else it is the next writer still
pub record HasLookedAsNext (space : SpaceState) (l : ℕ) (v : Level) (is_owner : Bool) (p q : PassState) : Type 0 where
  pub own : IsOf space q
  pub owns : is_owner ≡ true → IsStill Free p q
  pub owned : is_owner ≡ true → EndsOwned (sx_grants l p.view.session) l q.view.looks
  pub waits : is_owner ≡ false → IsStill (Next l v) p q

-- X taken beside one's own SX alone, by a won exchange, which came to this
pub record IsUpgraded (l : ℕ) (r : Reserve) (p q : PassState) : Type 0 where
  pub taken : HasTakenGrant ModeX (changed_on l (one_more ModeX) p.view.session.held) (phase_of l (level_on l Log p.view.session.held) r) p.view q.view
  pub owns_x : EndsAsReserved l q.view.session.phase q.view.looks
  pub signed : Stores l q.view.written
  pub looks : p.view.looks.count ≤ q.view.looks.count

-- a next writer at this level has checked, or sleeps
abbrev pub NextWaits : ℕ → Level → Phase → Type 0
NextWaits l v (NextChecked k u g) = (k ≡ l) × Path Level u v
NextWaits l v (NextAsleep k u g) = (k ≡ l) × Path Level u v
NextWaits l v p = ⊥

-- who has looked at the generation that it recorded, or as a next writer at the ex generation, and found it standing: it may sleep
abbrev pub IsAsleepOn : ℕ → Phase → Type 0
IsAsleepOn l (Asleep k m v g) = k ≡ l
IsAsleepOn l (NextAsleep k v g) = k ≡ l
IsAsleepOn l p = ⊥

-- what is written in the cell of who waits for a first grant of the mode
abbrev pub wish_for : Mode → Wish
wish_for ModeS = WishS
wish_for ModeSx = WishSx
wish_for ModeX = WishX

-- what stands in the cell of a session that waits: the latch, what it wishes for there, who it is, and the generation that it recorded
abbrev pub IsCellFor : Cell → ℕ → Phase → Type 0
IsCellFor cell n (Flagged l mode v g) = (cell.latch.0 ≡ l) × (cell.wish ≡ wish_for mode) × (cell.session ≡ n) × (cell.generation ≡ g)
IsCellFor cell n (NextArmed l v g) = (cell.latch.0 ≡ l) × (cell.wish ≡ WishNextX) × (cell.session ≡ n) × (cell.generation ≡ g)
IsCellFor cell n p = ⊥

abbrev pub IsCellOf : Cell → PassState → Type 0
IsCellOf cell p = IsCellFor cell p.number p.view.session.phase

-- who reserved X on the latch owns it, or is its next writer
abbrev pub HasReserved : ℕ → Phase → Type 0
HasReserved l Free = Unit {0}
HasReserved l (Next k v) = k ≡ l
HasReserved l p = ⊥
