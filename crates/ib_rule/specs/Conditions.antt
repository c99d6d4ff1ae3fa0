-- What a session may do: the conditions of the steps on latches, and the event that each is.
use Rattle.std.specs.Prelude.{◌≡◌, ◌⊎◌, ℕ, ◌+◌, ◌^◌, ◌<◌, ◌≤◌, ◌==◌, if◌then◌else◌, sum_by, Option, Some, None, Result, Ok, Err}
use Rattle.ib_word.specs.Word.{cell_of}
use Rattle.ib_word.specs.declared.word.LockWord.{LockWord}
use Rattle.ib_levels.specs.declared.level.Level.{Level}
use Rattle.ib_levels.specs.declared.level.Mode.{Mode}
use Rattle.ib_core.specs.declared.phase.Phase.{Phase}
use Rattle.ib_core.specs.declared.phase.Phase.TheVariants.{Free, Flagged, Checked, Armed, Asleep, Next, NextArmed, NextChecked, NextAsleep, OwesLook}
use Rattle.ib_core.specs.declared.event.Event.{Event}
use Rattle.ib_core.specs.declared.event.Event.TheVariants.{Ready, Again, Arm, Sleep, Exarm, Look as LookEvent, Quit}
use Rattle.ib_core.specs.declared.session.Session.{Session}
use Rattle.ib_core.specs.Sessions.{claims, grants, reads}
use Rattle.ib_core.specs.Responses.{latch_of}
use Rattle.ib_core.specs.Takings.{wish}
use Rattle.ib_core.specs.Turns.{turn_at}
use Rattle.ib_core.specs.Debts.{wish_of, won, grants_won}
use Rattle.ib_core.specs.Holders.{CanWish}
use Rattle.ib_rule.specs.declared.kind.StepKind.{StepKind}
use Rattle.ib_rule.specs.declared.kind.StepKind.TheVariants.{Turn, Recheck, Look}
use Rattle.ib_rule.specs.declared.pass.TheConstants.{MOST_HELD}
use Rattle.ib_rule.specs.declared.view.View.{View}
use Rattle.ib_rule.specs.Views.{total}

-- how many grants a session holds now, on all latches
abbrev pub held_now : Session → ℕ
held_now a = sum_by (λ h. h.s + h.sx + h.x) a.held

-- one grant more may be taken, or so many, of the 2 ^ 52 that a session may ever take
abbrev pub HasGrantLeft : View → Type 0
HasGrantLeft v = total v.grants < 2 ^ 52

abbrev pub HasGrantsLeft : ℕ → View → Type 0
HasGrantsLeft n v = total v.grants + n ≤ 2 ^ 52

-- it may take a grant: it holds few enough now, and has taken few enough ever
abbrev pub MayGrow : View → Type 0
MayGrow v = HasGrantLeft v × (held_now v.session < MOST_HELD)

-- SX or X may be wished for on the latch: nothing is read there, and where nothing is held there the latch may be taken at the level
pub record MayClaim (l : ℕ) (v : Level) (a : Session) : Type 0 where
  pub unread : reads l a ≡ 0
  pub new : claims l a ≡ 0 → CanWish l v a

-- the event at the word takes no grant, or there is room for one
abbrev pub CanTake : Event → View → ℕ → Type 0
CanTake e v n = (grants_won (won (turn_at e n v.session).answer (wish_of v.session.phase e)) ≡ 0) ⊎ (HasGrantLeft v × (grants (latch_of e) v.session < MOST_HELD))

-- the word that an exchange found
abbrev pub found_by : {A : Type 0} → Result A LockWord → LockWord → ℕ
found_by (Ok x) expected = cell_of expected.0
found_by (Err found) expected = cell_of found.0

-- what a load of the lock word is: a next writer looks whether it owns X, and who has set the flag whether its wish is refused
abbrev pub word_kind : ℕ → Phase → StepKind
word_kind l (Next k v) = if k == l then Turn (Ready l) else Look l
word_kind l (NextArmed k v g) = if k == l then Turn (Ready l) else Look l
word_kind l (Flagged k mode v g) = if k == l then Recheck l else Look l
word_kind l _ = Look l

-- a first try for the mode is a wish, or one more try by a session that has set the flag
abbrev pub try_event : Mode → ℕ → Level → Phase → Event
try_event mode l v (Flagged k m u g) = Again l
try_event mode l v p = wish mode l v

-- .. by a session that may wish it, or that recorded this wish at this level
abbrev pub MayTry : Mode → ℕ → Level → Session → Phase → Type 0
MayTry mode l v a Free = CanWish l v a
MayTry mode l v a (Flagged k m u g) = (k ≡ l) × Path Mode m mode × Path Level u v
MayTry mode l v a p = ⊥

-- a load of the generation arms the session with a wish, or is a look of who is about to sleep
abbrev pub gen_event : ℕ → Option (Mode × Level) → Event
gen_event l None = Sleep l
gen_event l (Some wish) = Arm l wish.0 wish.1

abbrev pub MayLoadGen : ℕ → Option (Mode × Level) → Session → Phase → Type 0
MayLoadGen l (Some wish) a Free = CanWish l wish.1 a
MayLoadGen l None a (Checked k m v g) = k ≡ l
MayLoadGen l None a (Asleep k m v g) = k ≡ l
MayLoadGen l wish a p = ⊥

-- a load of the ex generation arms a next writer, or is a look of one that is about to sleep
abbrev pub ex_gen_event : ℕ → Phase → Event
ex_gen_event l (Next k v) = Exarm l
ex_gen_event l p = Sleep l

abbrev pub MayLoadExGen : ℕ → Phase → Type 0
MayLoadExGen l (Next k v) = k ≡ l
MayLoadExGen l (NextChecked k v g) = k ≡ l
MayLoadExGen l (NextAsleep k v g) = k ≡ l
MayLoadExGen l p = ⊥

-- a session that is armed sets the flag
abbrev pub IsArmed : ℕ → Phase → Type 0
IsArmed l (Armed k m v g) = k ≡ l
IsArmed l p = ⊥

-- a load of the waiters flag is the look that a release owes, or gives a wish up
abbrev pub flag_event : ℕ → Phase → Event
flag_event l (OwesLook k) = LookEvent l
flag_event l p = Quit l

abbrev pub MayLoadFlag : ℕ → Phase → Type 0
MayLoadFlag l (OwesLook k) = k ≡ l
MayLoadFlag l (Armed k m v g) = k ≡ l
MayLoadFlag l (Flagged k m v g) = k ≡ l
MayLoadFlag l (Checked k m v g) = k ≡ l
MayLoadFlag l p = ⊥
