-- Events: what a text asks of the latch machine, and which of its lines is the first bad one.
use Rattle.std.specs.Prelude.{◌≡◌, ◌≤◌, MatchResult, ℕ, List, [], ◌∷◌, ◌++◌, Bool, true, false, Option, Some, None, Result, Ok, Err, codes, bytes_eq, nat_le, nat_lt, length, ◌==◌, if◌then◌else◌}
use Rattle.std.specs.List.{filter_map}
use Rattle.ib_levels.specs.declared.level.Level.{Level}
use Rattle.ib_levels.specs.declared.level.Level.TheVariants.{Log, PageNew, Space as SpaceLevel, TreeNode, IndexTree}
use Rattle.ib_levels.specs.declared.level.Mode.{Mode}
use Rattle.ib_levels.specs.declared.level.Mode.TheVariants.{S as ModeS, Sx as ModeSx, X as ModeX}
use Rattle.ib_core.specs.Responses.{latch_of}
use Rattle.ib_core.specs.declared.event.Event.{Event}
use Rattle.ib_core.specs.declared.event.Event.TheVariants.{S, Sx, X, Us, Usx, Ux, Arm, Flag, Again, Quit, Sleep, Ready, Exarm, Look, Clear, Raise}
use Rattle.ib_io.specs.Fields.{◌>>=◌, number_in, one_field, session_in, two_fields}
use Rattle.ib_io.specs.Lines.{fields_of, first_bad, is_skipped, readings_by}
use Rattle.ib_io.specs.BadLines.{IsLineFault}
use Rattle.ib_io.specs.declared.bad_line.LineFault.{LineFault}
use Rattle.ib_latch_form.specs.declared.event_line.TheConstants.{MOST_LATCH, MOST_EVENTS}
use Rattle.ib_latch_form.specs.declared.event_line.EventLine.{EventLine}
use Rattle.ib_latch_form.specs.declared.event_line.EventLine.TheVariants.{Skipped, Event as EventOf}
use Rattle.ib_latch_form.specs.declared.event_line.EventWord.{EventWord}
use Rattle.ib_latch_form.specs.declared.event_line.EventWord.TheVariants.{S as WordS, Sx as WordSx, X as WordX, Arm as WordArm, OnLatch}
use Rattle.ib_latch_form.specs.declared.event_line.LatchEventWord.{LatchEventWord}
use Rattle.ib_latch_form.specs.declared.event_line.LatchEventWord.TheVariants.{Us as WordUs, Usx as WordUsx, Ux as WordUx, Flag as WordFlag, Again as WordAgain, Quit as WordQuit, Sleep as WordSleep, Ready as WordReady, Exarm as WordExarm, Look as WordLook, Clear as WordClear, Raise as WordRaise}
use Rattle.ib_io.specs.declared.line_kind.TheConstants.{MOST_SCRIPT_SESSIONS}
use Rattle.ib_io.specs.declared.line_kind.LineKind.{LineKind}
use Rattle.ib_io.specs.declared.line_kind.LineKind.TheVariants.{Word, Fields, Many, Latch, Level as LevelKind}

-- what a line says by itself, or what is wrong with it
abbrev pub EventReading : Type 0
EventReading = Result EventLine LineKind

abbrev pub latch_in : List ℕ → Result ℕ LineKind
latch_in field = number_in field >>= (λ n. if nat_le n MOST_LATCH then Ok n else Err Latch)

-- the level with this number, 1 to 5
abbrev pub level_numbered : ℕ → Result Level LineKind
level_numbered n =
    if n == 1 then Ok Log
    else if n == 2 then Ok PageNew
    else if n == 3 then Ok SpaceLevel
    else if n == 4 then Ok TreeNode
    else if n == 5 then Ok IndexTree
    else Err LevelKind

abbrev pub level_in : List ℕ → Result Level LineKind
level_in field = number_in field >>= level_numbered

-- a mode by its word
abbrev pub mode_in : List ℕ → Result Mode LineKind
mode_in field =
    if bytes_eq field (codes "s") then Ok ModeS
    else if bytes_eq field (codes "sx") then Ok ModeSx
    else if bytes_eq field (codes "x") then Ok ModeX
    else Err Word

-- the words of the steps of waiting and signalling
abbrev pub waiting_word : List ℕ → Result LatchEventWord LineKind
waiting_word word =
    if bytes_eq word (codes "flag") then Ok WordFlag
    else if bytes_eq word (codes "again") then Ok WordAgain
    else if bytes_eq word (codes "quit") then Ok WordQuit
    else if bytes_eq word (codes "sleep") then Ok WordSleep
    else if bytes_eq word (codes "ready") then Ok WordReady
    else if bytes_eq word (codes "exarm") then Ok WordExarm
    else if bytes_eq word (codes "look") then Ok WordLook
    else if bytes_eq word (codes "clear") then Ok WordClear
    else if bytes_eq word (codes "raise") then Ok WordRaise
    else Err Word

-- the word of an event
abbrev pub event_word : List ℕ → Result EventWord LineKind
event_word word =
    if bytes_eq word (codes "s") then Ok WordS
    else if bytes_eq word (codes "sx") then Ok WordSx
    else if bytes_eq word (codes "x") then Ok WordX
    else if bytes_eq word (codes "us") then Ok (OnLatch WordUs)
    else if bytes_eq word (codes "usx") then Ok (OnLatch WordUsx)
    else if bytes_eq word (codes "ux") then Ok (OnLatch WordUx)
    else if bytes_eq word (codes "arm") then Ok WordArm
    else waiting_word word >>= (λ step. Ok (OnLatch step))

-- the three fields of an event on a latch in a mode at a level
abbrev pub latch_in_mode : List (List ℕ) → Result (ℕ × Mode × Level) LineKind
latch_in_mode (l ∷ m ∷ v ∷ []) = latch_in l >>= (λ latch. mode_in m >>= (λ mode. level_in v >>= (λ level. Ok (latch, mode, level))))
latch_in_mode _ = Err Fields

-- an event on a latch alone, by its word
abbrev pub event_on_latch : LatchEventWord → ℕ → Event
event_on_latch WordUs latch = Us latch
event_on_latch WordUsx latch = Usx latch
event_on_latch WordUx latch = Ux latch
event_on_latch WordFlag latch = Flag latch
event_on_latch WordAgain latch = Again latch
event_on_latch WordQuit latch = Quit latch
event_on_latch WordSleep latch = Sleep latch
event_on_latch WordReady latch = Ready latch
event_on_latch WordExarm latch = Exarm latch
event_on_latch WordLook latch = Look latch
event_on_latch WordClear latch = Clear latch
event_on_latch WordRaise latch = Raise latch

-- an event by its word and the fields behind it
abbrev pub event_of : EventWord → List (List ℕ) → Result Event LineKind
event_of WordS fields = two_fields latch_in level_in fields >>= (λ at. Ok (S at.0 at.1))
event_of WordSx fields = two_fields latch_in level_in fields >>= (λ at. Ok (Sx at.0 at.1))
event_of WordX fields = two_fields latch_in level_in fields >>= (λ at. Ok (X at.0 at.1))
event_of WordArm fields = latch_in_mode fields >>= (λ at. Ok (Arm at.0 at.1 at.2))
event_of (OnLatch word) fields = one_field latch_in fields >>= (λ latch. Ok (event_on_latch word latch))

-- a line by its fields: the session, the event's word, and what is behind it
abbrev pub event_reading_of_fields : List (List ℕ) → EventReading
event_reading_of_fields (n ∷ word ∷ fields) =
    session_in n >>= (λ session. event_word word >>= (λ step. event_of step fields >>= (λ event. Ok (EventOf session event))))
event_reading_of_fields _ = Err Fields

abbrev pub event_reading_of : List ℕ → EventReading
event_reading_of line = if is_skipped line then Ok Skipped else event_reading_of_fields (fields_of line)

-- an event of a session that there is, on a latch that there is
abbrev pub IsEventInRange : ℕ × Event → Type 0
IsEventInRange at = (1 ≤ at.0) × (at.0 ≤ MOST_SCRIPT_SESSIONS) × (latch_of at.1 ≤ MOST_LATCH)

-- a line with an event
abbrev pub is_event : EventReading → Bool
is_event (Ok (EventOf session event)) = true
is_event _ = false

-- the event of a line, with its session
abbrev pub event_in : EventReading → Option (ℕ × Event)
event_in (Ok (EventOf session event)) = Some (session, event)
event_in _ = None

-- the events of the lines, each with its session
abbrev pub events_in : List EventReading → List (ℕ × Event)
events_in readings = filter_map event_in readings

-- what is wrong with a line behind these
abbrev pub event_fault_behind : List EventReading → EventReading → Option LineKind
event_fault_behind before (Err kind) = Some kind
event_fault_behind before (Ok Skipped) = None
event_fault_behind before (Ok (EventOf session event)) = if nat_lt (length (events_in before)) MOST_EVENTS then None else Some Many

-- the first bad line of a text of events: its number, counted from 1 over all lines, and its kind
abbrev pub event_fault : List ℕ → Option (ℕ × LineKind)
event_fault text = first_bad event_fault_behind [] (readings_by event_reading_of text)

-- these are the events of the lines so far
abbrev pub AreEvents : List EventReading → List (ℕ × Event) → Type 0
AreEvents before events = events ≡ events_in before

-- a line of events is taken where nothing is wrong with it behind those before
abbrev pub TakesEvent : {T : Type 0} → EventReading → List (ℕ × Event) → Result T LineFault → List (ℕ × Event) → Type 0
TakesEvent reading old result new =
    (before : List EventReading) → AreEvents before old
    → MatchResult result (λ _. (event_fault_behind before reading ≡ None) × AreEvents (before ++ reading ∷ []) new) (IsLineFault (event_fault_behind before reading) (is_event reading))

-- so many events do the lines so far have
abbrev pub AreMany : List EventReading → ℕ → Type 0
AreMany before count = count ≡ length (events_in before)

-- a line of events is counted where nothing is wrong with it behind those before
abbrev pub CountsEvent : EventReading → ℕ → Result ℕ LineKind → Type 0
CountsEvent reading old result =
    (before : List EventReading) → AreMany before old
    → MatchResult result (λ new. (event_fault_behind before reading ≡ None) × AreMany (before ++ reading ∷ []) new) (λ kind. event_fault_behind before reading ≡ Some kind)
