-- The view after a step on a latch: a grant taken, or another phase.
use Rattle.std.specs.Prelude.{ℕ, ◌==◌, nat_lt, if◌then◌else◌, Option, Some, None}
use Rattle.ib_levels.specs.declared.level.Mode.{Mode}
use Rattle.ib_levels.specs.declared.level.Level.{Level}
use Rattle.ib_word.specs.Word.{cell_of, word_in}
use Rattle.ib_word.specs.declared.word.LockWord.{LockWord}
use Rattle.ib_core.specs.declared.phase.Phase.{Phase}
use Rattle.ib_core.specs.declared.phase.Phase.TheVariants.{Free, Armed, Flagged, Checked, Asleep, Next, NextArmed, NextChecked, NextAsleep, OwesLook, OwesClear, OwesRaise}
use Rattle.ib_core.specs.declared.session.Session.{Session}
use Rattle.ib_core.specs.Sessions.{holdings, sx_grants}
use Rattle.ib_core.specs.Table.{owns_x_at}
use Rattle.ib_core.specs.Takings.{is_given_at}
use Rattle.ib_rule.specs.declared.looks.Looks.{Looks}
use Rattle.ib_rule.specs.declared.view.View.{View}
use Rattle.ib_rule.specs.Steps.{looked, one_wait_more, stepped_on}
use Rattle.ib_rule.specs.Views.{with_grant, with_looks}

-- the session in another phase
abbrev pub in_phase : Phase → Session → Session
in_phase p a = record a { phase = p }

-- .. and the view, of which nothing else is changed
abbrev pub phased : Phase → View → View
phased p v = record v { session = in_phase p v.session }

-- a grant of the mode more, with which the session is this
abbrev pub granted : Mode → Session → View → View
granted mode a v = record v { session = a; grants = with_grant (Some mode) v.grants }

-- a look at a lock word, which found this
abbrev pub looked_on : ℕ → LockWord → View → View
looked_on l found v = with_looks (looked l (cell_of found.0) None (holdings l v.session) v.looks) v

-- an exchange of a lock word, which found this where it expected that
abbrev pub tried_on : ℕ → LockWord → LockWord → View → View
tried_on l expected found v = with_looks (looked l (cell_of found.0) (Some (cell_of expected.0)) (holdings l v.session) v.looks) v

-- a step on a lock word that is no look
abbrev pub with_step : View → View
with_step v = with_looks (stepped_on v.looks) v

-- a step of who waits, on a flag or a generation
abbrev pub with_wait : View → View
with_wait v = with_looks (one_wait_more v.looks) v

-- who is about to sleep, or sleeps, looked at its generation: it sleeps on where that is the recorded one
abbrev pub slept : ℕ → Phase → Phase
slept n (Checked l mode v g) = if n == g then Asleep l mode v g else Free
slept n (Asleep l mode v g) = if n == g then Asleep l mode v g else Free
slept n (NextChecked l v g) = if n == g then NextAsleep l v g else Next l v
slept n (NextAsleep l v g) = if n == g then NextAsleep l v g else Next l v
slept n p = p

-- the generation was loaded: the session is armed with it, or looked at it
abbrev pub gen_loaded : ℕ → Option (Mode × Level) → ℕ → Phase → Phase
gen_loaded l None n p = slept n p
gen_loaded l (Some wish) n p = Armed l wish.0 wish.1 n

-- the waiters flag was set by who is armed
abbrev pub flagged : Phase → Phase
flagged (Armed l mode v g) = Flagged l mode v g
flagged p = p

-- the ex generation was loaded: a next writer is armed with it, or looked at it
abbrev pub ex_loaded : ℕ → Phase → Phase
ex_loaded n (Next l v) = NextArmed l v n
ex_loaded n p = slept n p

-- the waiters flag was loaded: who owes a look clears it where it is set, and who waits has given up
abbrev pub flag_loaded : ℕ → Phase → Phase
flag_loaded n (OwesLook l) = if nat_lt 0 n then OwesClear l else Free
flag_loaded n p = Free

-- .. which is a step of who waits, but for the look that is owed
abbrev pub flag_looks : Phase → Looks → Looks
flag_looks (OwesLook l) k = k
flag_looks p k = one_wait_more k

-- the waiters flag was cleared: who cleared it where it was set owes the raise
abbrev pub cleared : ℕ → ℕ → Phase
cleared l n = if nat_lt 0 n then OwesRaise l else Free

-- the lock word was loaded: a next writer owns X where no reader is left, and who has set the flag has checked where its wish is refused
abbrev pub word_loaded : ℕ → ℕ → Session → Phase → Phase
word_loaded l n a (Next k v) = if k == l then (if owns_x_at (sx_grants l a) (word_in n) then Free else Next l v) else Next k v
word_loaded l n a (NextArmed k v g) = if k == l then (if owns_x_at (sx_grants l a) (word_in n) then Free else NextChecked l v g) else NextArmed k v g
word_loaded l n a (Flagged k mode v g) = if k == l then (if is_given_at mode (word_in n) then Flagged l mode v g else Checked l mode v g) else Flagged k mode v g
word_loaded l n a p = p
