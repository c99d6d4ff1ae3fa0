-- The table of the machine: which event does what in which phase, one row a phase, and the turn of
-- an event at the lock word that it finds.
use Rattle.std.specs.Prelude.{ℕ, ◌+◌, Bool, true, false, if◌then◌else◌, nat_lt, ◌==◌, ℤ, pos, neg_ℤ}
use Rattle.std.specs.Ordering.{int_eq}
use Rattle.ib_word.specs.declared.word.TheConstants.{X_LOCK_HALF_DECR}
use Rattle.ib_levels.specs.declared.level.Level.{Level}
use Rattle.ib_levels.specs.declared.level.Mode.{Mode}
use Rattle.ib_levels.specs.Holding.{is_held}
use Rattle.ib_core.specs.declared.phase.Phase.{Phase}
use Rattle.ib_core.specs.declared.phase.Phase.TheVariants.{Free, Armed, Flagged, Checked, Asleep, Next, NextArmed, NextChecked, NextAsleep, OwesLook, OwesClear, OwesRaise, OwesRaiseEx}
use Rattle.ib_core.specs.declared.event.Event.{Event}
use Rattle.ib_core.specs.declared.event.Event.TheVariants.{S, Sx, X, Us, Usx, Ux, Arm, Flag, Again, Quit, Sleep, Ready, Exarm, Look, Clear, Raise}
use Rattle.ib_core.specs.declared.event.Answer.TheVariants.{Granted, NotReady, Armed as ArmedAt, Flagged as FlagIsSet, Asleep as AsleepAt, Awake, Looked, Cleared, Signalled, Quit as WaitsNoMore}
use Rattle.ib_core.specs.declared.event.Refusal.TheVariants.{OutOfTurn, HeldAlready}
use Rattle.ib_core.specs.declared.session.Session.{Session}
use Rattle.ib_core.specs.declared.session.Marks.{Marks}
use Rattle.ib_core.specs.Sessions.{sx_grants}
use Rattle.ib_core.specs.Responses.{Response, Turn, response, refused, latch_of, is_elsewhere}
use Rattle.ib_core.specs.Takings.{where_allowed, first, taking_s, taking_sx, taking_x, giving_s, giving_sx, giving_x}

-- the generation is recorded, before the session waits
abbrev pub arming : ℕ → Mode → Level → ℕ → Session → Response
arming l mode v now a =
    if is_held l a.held then refused HeldAlready a
    else where_allowed l v a (response (ArmedAt now) a.held (Armed l mode v now))

-- the session sleeps where this generation is the recorded one, and else is awake in the phase
-- given
abbrev pub sleeping : ℕ → ℕ → Phase → Phase → Session → Response
sleeping now recorded asleep awake a =
    if now == recorded then response (AsleepAt now) a.held asleep
    else response (Awake now) a.held awake

-- the word at which the next writer owns X, without SX of its own and with it
abbrev pub owns_x_at : ℕ → ℤ → Bool
owns_x_at sx w = if nat_lt 0 sx then int_eq w (neg_ℤ (pos X_LOCK_HALF_DECR)) else int_eq w (pos 0)

-- the next writer owns X where no reader is left, and else is in the phase given
abbrev pub readying : ℕ → Phase → ℤ → Session → Response
readying l waiting w a =
    if owns_x_at (sx_grants l a) w then response Granted a.held Free
    else response (NotReady (record { 0 = w })) a.held waiting

-- the rows of the table: the events that belong to a phase
abbrev pub free_row : ℤ → ℕ → Event → Session → Response
free_row w now (S l v) a = taking_s l v w a
free_row w now (Sx l v) a = taking_sx l v w a
free_row w now (X l v) a = taking_x l v w a
free_row w now (Us l) a = giving_s l w a
free_row w now (Usx l) a = giving_sx l a
free_row w now (Ux l) a = giving_x l a
free_row w now (Arm l mode v) a = arming l mode v now a
free_row w now _ a = refused OutOfTurn a

abbrev pub armed_row : Mode → Level → ℕ → Event → Session → Response
armed_row mode v g (Flag l) a = response FlagIsSet a.held (Flagged l mode v g)
armed_row mode v g (Quit l) a = response WaitsNoMore a.held Free
armed_row mode v g _ a = refused OutOfTurn a

abbrev pub flagged_row : Mode → Level → ℕ → ℤ → Event → Session → Response
flagged_row mode v g w (Again l) a = first mode l v (Checked l mode v g) w a.held
flagged_row mode v g w (Quit l) a = response WaitsNoMore a.held Free
flagged_row mode v g w _ a = refused OutOfTurn a

abbrev pub checked_row : Mode → Level → ℕ → ℕ → Event → Session → Response
checked_row mode v g now (Sleep l) a = sleeping now g (Asleep l mode v g) Free a
checked_row mode v g now (Quit l) a = response WaitsNoMore a.held Free
checked_row mode v g now _ a = refused OutOfTurn a

abbrev pub asleep_row : Mode → Level → ℕ → ℕ → Event → Session → Response
asleep_row mode v g now (Sleep l) a = sleeping now g (Asleep l mode v g) Free a
asleep_row mode v g now _ a = refused OutOfTurn a

abbrev pub next_row : Level → ℤ → ℕ → Event → Session → Response
next_row v w now (Ready l) a = readying l (Next l v) w a
next_row v w now (Exarm l) a = response (ArmedAt now) a.held (NextArmed l v now)
next_row v w now _ a = refused OutOfTurn a

abbrev pub next_armed_row : Level → ℕ → ℤ → Event → Session → Response
next_armed_row v g w (Ready l) a = readying l (NextChecked l v g) w a
next_armed_row v g w _ a = refused OutOfTurn a

-- of a next writer that checked, or that sleeps
abbrev pub next_waits_row : Level → ℕ → ℕ → Event → Session → Response
next_waits_row v g now (Sleep l) a = sleeping now g (NextAsleep l v g) (Next l v) a
next_waits_row v g now _ a = refused OutOfTurn a

abbrev pub owes_look_row : Bool → Event → Session → Response
owes_look_row waiters (Look l) a =
    response (Looked waiters) a.held (if waiters then OwesClear l else Free)
owes_look_row waiters _ a = refused OutOfTurn a

abbrev pub owes_clear_row : Bool → Event → Session → Response
owes_clear_row waiters (Clear l) a =
    response (Cleared waiters) a.held (if waiters then OwesRaise l else Free)
owes_clear_row waiters _ a = refused OutOfTurn a

-- the generation that is owed a raise
abbrev pub owes_raise_row : ℕ → Event → Session → Response
owes_raise_row now (Raise l) a = response (Signalled (now + 1)) a.held Free
owes_raise_row now _ a = refused OutOfTurn a

-- the row of a phase
abbrev pub row_of : Phase → ℤ → Marks → Event → Session → Response
row_of Free w m e a = free_row w m.generation e a
row_of (Armed l mode v g) w m e a = armed_row mode v g e a
row_of (Flagged l mode v g) w m e a = flagged_row mode v g w e a
row_of (Checked l mode v g) w m e a = checked_row mode v g m.generation e a
row_of (Asleep l mode v g) w m e a = asleep_row mode v g m.generation e a
row_of (Next l v) w m e a = next_row v w m.ex_generation e a
row_of (NextArmed l v g) w m e a = next_armed_row v g w e a
row_of (NextChecked l v g) w m e a = next_waits_row v g m.ex_generation e a
row_of (NextAsleep l v g) w m e a = next_waits_row v g m.ex_generation e a
row_of (OwesLook l) w m e a = owes_look_row m.waiters e a
row_of (OwesClear l) w m e a = owes_clear_row m.waiters e a
row_of (OwesRaise l) w m e a = owes_raise_row m.generation e a
row_of (OwesRaiseEx l) w m e a = owes_raise_row m.ex_generation e a

-- the marks after an event of a session that is armed, and of one that owes the clearing
abbrev pub flag_marks : Event → Marks → Marks
flag_marks (Flag l) m = record m { waiters = true }
flag_marks _ m = m

abbrev pub clear_marks : Event → Marks → Marks
clear_marks (Clear l) m = record m { waiters = false }
clear_marks _ m = m

-- a generation after the event of a session that owes its raise
abbrev pub raised_by : Event → ℕ → ℕ
raised_by (Raise l) now = now + 1
raised_by _ now = now

-- the marks after an event in its turn
abbrev pub marks_by : Phase → Event → Marks → Marks
marks_by (Armed l mode v g) e m = flag_marks e m
marks_by (OwesClear l) e m = clear_marks e m
marks_by (OwesRaise l) e m = record m { generation = raised_by e m.generation }
marks_by (OwesRaiseEx l) e m = record m { ex_generation = raised_by e m.ex_generation }
marks_by _ e m = m

-- out of turn on another latch than the phase's, and else by the phase's row
abbrev pub response_of : ℤ → Marks → Event → Session → Response
response_of w m e a =
    if is_elsewhere (latch_of e) a.phase then refused OutOfTurn a
    else row_of a.phase w m e a

abbrev pub marks_after : Phase → Event → Marks → Marks
marks_after p e m = if is_elsewhere (latch_of e) p then m else marks_by p e m

-- the turn of an event at the lock word w
abbrev pub turn_of : ℤ → Marks → Event → Session → Turn
turn_of w m e a = let r = response_of w m e a in record {
  answer = r.answer;
  session = r.session;
  marks = marks_after a.phase e m;
}
