-- What is printed of an event: the event as read, its answer, and the latch's lock word afterwards.
use Rattle.std.specs.Prelude.{ℕ, ℤ, List, ◌++◌, Bool, true, false, codes, decimal}
use Rattle.std.specs.Fmt.{signed_decimal}
use Rattle.ib_levels.specs.Level.{number_of}
use Rattle.ib_levels.specs.declared.level.Level.{Level}
use Rattle.ib_levels.specs.declared.level.Mode.{Mode}
use Rattle.ib_levels.specs.declared.level.Mode.TheVariants.{S as ModeS, Sx as ModeSx, X as ModeX}
use Rattle.ib_core.specs.declared.event.Answer.{Answer}
use Rattle.ib_core.specs.declared.event.Answer.TheVariants.{Granted, Reserved, Busy, NotReady, Released, Armed, Flagged, Asleep, Awake, Looked, Cleared, Signalled, Quit as QuitAnswer, Refused}
use Rattle.ib_core.specs.declared.event.Event.{Event}
use Rattle.ib_core.specs.declared.event.Event.TheVariants.{S, Sx, X, Us, Usx, Ux, Arm, Flag, Again, Quit, Sleep, Ready, Exarm, Look, Clear, Raise}
use Rattle.ib_core.specs.declared.event.Refusal.{Refusal}
use Rattle.ib_core.specs.declared.event.Refusal.TheVariants.{OutOfTurn, HeldAlready, NotHeld, Against}

abbrev pub mode_text : Mode → List ℕ
mode_text ModeS = codes "s"
mode_text ModeSx = codes "sx"
mode_text ModeX = codes "x"

-- a level is told by its number
abbrev pub level_text : Level → List ℕ
level_text level = decimal (number_of level)

-- an event by itself: its word, its latch, and the mode and the level that it wants there
abbrev pub step_text : Event → List ℕ
step_text (S latch level) = codes "s " ++ decimal latch ++ codes " " ++ level_text level
step_text (Sx latch level) = codes "sx " ++ decimal latch ++ codes " " ++ level_text level
step_text (X latch level) = codes "x " ++ decimal latch ++ codes " " ++ level_text level
step_text (Us latch) = codes "us " ++ decimal latch
step_text (Usx latch) = codes "usx " ++ decimal latch
step_text (Ux latch) = codes "ux " ++ decimal latch
step_text (Arm latch mode level) = codes "arm " ++ decimal latch ++ codes " " ++ mode_text mode ++ codes " " ++ level_text level
step_text (Flag latch) = codes "flag " ++ decimal latch
step_text (Again latch) = codes "again " ++ decimal latch
step_text (Quit latch) = codes "quit " ++ decimal latch
step_text (Sleep latch) = codes "sleep " ++ decimal latch
step_text (Ready latch) = codes "ready " ++ decimal latch
step_text (Exarm latch) = codes "exarm " ++ decimal latch
step_text (Look latch) = codes "look " ++ decimal latch
step_text (Clear latch) = codes "clear " ++ decimal latch
step_text (Raise latch) = codes "raise " ++ decimal latch

-- whether the waiters flag is set
abbrev pub flag_text : Bool → List ℕ
flag_text false = codes "0"
flag_text true = codes "1"

abbrev pub refusal_text : Refusal → List ℕ
refusal_text OutOfTurn = codes "out of turn"
refusal_text HeldAlready = codes "held already"
refusal_text NotHeld = codes "not held"
refusal_text (Against held wanted) = codes "against " ++ level_text held ++ codes " " ++ level_text wanted

abbrev pub answer_text : Answer → List ℕ
answer_text Granted = codes "granted"
answer_text Reserved = codes "reserved"
answer_text (Busy word) = codes "busy " ++ signed_decimal word.0
answer_text (NotReady word) = codes "not ready " ++ signed_decimal word.0
answer_text Released = codes "released"
answer_text (Armed generation) = codes "armed " ++ decimal generation
answer_text Flagged = codes "flagged"
answer_text (Asleep generation) = codes "asleep " ++ decimal generation
answer_text (Awake generation) = codes "awake " ++ decimal generation
answer_text (Looked waiters) = codes "waiters " ++ flag_text waiters
answer_text (Cleared was) = codes "cleared " ++ flag_text was
answer_text (Signalled generation) = codes "signalled " ++ decimal generation
answer_text QuitAnswer = codes "quit"
answer_text (Refused refusal) = codes "refused " ++ refusal_text refusal

-- an event of a session as its line has it, its answer and the lock word on a line
abbrev pub event_line : ℕ → Event → Answer → ℤ → List ℕ
event_line session event answer word =
    (decimal session ++ codes " " ++ step_text event) ++ codes " -> " ++ answer_text answer ++ codes ", word " ++ signed_decimal word ++ codes "\n"
