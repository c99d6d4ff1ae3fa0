-- Scripts: what a text asks for, and which of its lines is the first bad one.
use Rattle.std.specs.Prelude.{◌≡◌, ℕ, ◌<◌, ◌≤◌, ◌+◌, ◌^◌, List, [], ◌∷◌, Bool, true, false, Option, Some, None, Result, Ok, Err, codes, bytes_eq, nat_lt, ◌&&◌, ◌||◌, not, ◌==◌, length, map, filter, count_by, max, fold, sum_by, slice_index_or, if◌then◌else◌}
use Rattle.std.specs.List.{list_all}
use Rattle.ib_layout.specs.Geometry.{Sizes, has_log}
use Rattle.ib_map.specs.Space.{has_pages}
use Rattle.ib_map.specs.declared.TheConstants.{MOST_PAGES}
use Rattle.ib_layout.specs.declared.geometry.TheConstants.{MOST_LOG_WORDS}
use Rattle.ib_map.specs.declared.call.Call.{Call}
use Rattle.ib_map.specs.declared.call.Call.TheVariants.{Insert, Delete, Get, Scan}
use Rattle.ib_io.specs.Lines.{fields_of, first_bad, is_skipped}
use Rattle.ib_io.specs.Fields.{◌>>=◌, number_in, one_field, session_in, two_fields}
use Rattle.ib_text.specs.Keys.{key_in}
use Rattle.ib_script.specs.declared.script_line.TheConstants.{MOST_COMMANDS, MOST_SCANS}
use Rattle.ib_io.specs.declared.line_kind.TheConstants.{MOST_SCRIPT_SESSIONS}
use Rattle.ib_io.specs.declared.line_kind.LineKind.{LineKind}
use Rattle.ib_io.specs.declared.line_kind.LineKind.TheVariants.{Word, Space as SpaceKind, Many}
use Rattle.ib_script.specs.declared.script_line.ScriptLine.{ScriptLine}
use Rattle.ib_script.specs.declared.script_line.ScriptLine.TheVariants.{Skipped, Space, Session, Command}

-- what a line says by itself, or what is wrong with it
abbrev pub Reading : Type 0
Reading = Result ScriptLine LineKind

-- the space of these sizes, where there is one
abbrev pub space_line : ℕ × ℕ → Reading
space_line sizes = if has_pages sizes.0 && has_log sizes.1 then Ok (Space (record { pages = sizes.0; log_words = sizes.1 })) else Err SpaceKind

-- a line by its first field and those behind it
abbrev pub reading_of_fields : List (List ℕ) → Reading
reading_of_fields [] = Err Word
reading_of_fields (word ∷ fields) =
    if bytes_eq word (codes "insert") then two_fields key_in number_in fields >>= (λ pair. Ok (Command (Insert pair.0 pair.1)))
    else if bytes_eq word (codes "delete") then one_field key_in fields >>= (λ key. Ok (Command (Delete key)))
    else if bytes_eq word (codes "get") then one_field key_in fields >>= (λ key. Ok (Command (Get key)))
    else if bytes_eq word (codes "scan") then two_fields key_in key_in fields >>= (λ pair. Ok (Command (Scan pair.0 pair.1)))
    else if bytes_eq word (codes "session") then one_field session_in fields >>= (λ n. Ok (Session n))
    else if bytes_eq word (codes "space") then two_fields number_in number_in fields >>= space_line
    else Err Word

-- what a line says
abbrev pub reading_of : List ℕ → Reading
reading_of line = if is_skipped line then Ok Skipped else reading_of_fields (fields_of line)

-- a session that a line names is one that there may be
abbrev pub IsLineInRange : ScriptLine → Type 0
IsLineInRange (Session number) = (1 ≤ number) × (number ≤ MOST_SCRIPT_SESSIONS)
IsLineInRange _ = Unit {0}

-- the value of an insert is a word
abbrev pub IsCallInRange : Call → Type 0
IsCallInRange (Insert key value) = value < 2 ^ 64
IsCallInRange _ = Unit {0}

abbrev pub says_nothing : Reading → Bool
says_nothing (Ok Skipped) = true
says_nothing _ = false

abbrev pub is_command : Reading → Bool
is_command (Ok (Command call)) = true
is_command _ = false

abbrev pub asks_scan : Call → Bool
asks_scan (Scan low high) = true
asks_scan _ = false

abbrev pub is_scan : Reading → Bool
is_scan (Ok (Command call)) = asks_scan call
is_scan _ = false

-- how many of the calls are scans
abbrev pub scan_count : List Call → ℕ
scan_count calls = count_by asks_scan calls

-- not as many commands before, nor as many scans, as a script may have
abbrev pub has_room : List Reading → Bool → Bool
has_room before scan = nat_lt (count_by is_command before) MOST_COMMANDS && (not scan || nat_lt (count_by is_scan before) MOST_SCANS)

-- what is wrong with a line behind these
abbrev pub fault_behind : List Reading → Reading → Option LineKind
fault_behind before (Err kind) = Some kind
fault_behind before (Ok Skipped) = None
fault_behind before (Ok (Session number)) = None
fault_behind before (Ok (Space sizes)) = if list_all says_nothing before then None else Some SpaceKind
fault_behind before (Ok (Command call)) = if has_room before (is_scan (Ok (Command call))) then None else Some Many

-- the first bad line: its number, counted from 1 over all lines, and its kind
abbrev pub first_fault : List Reading → Option (ℕ × LineKind)
first_fault readings = first_bad fault_behind [] readings

-- the commands of lines, each with its session: that of the last session line before it, or else this one
abbrev pub commands_from : ℕ → List Reading → List (ℕ × Call)
commands_from session [] = []
commands_from session (Ok (Session number) ∷ readings) = commands_from number readings
commands_from session (Ok (Command call) ∷ readings) = (session, call) ∷ commands_from session readings
commands_from session (_ ∷ readings) = commands_from session readings

-- the commands of a session, in order; before any session line it is session 1
abbrev pub commands_of : ℕ → List Reading → List Call
commands_of session readings = map (λ command. command.1) (filter (λ command. command.0 == session) (commands_from 1 readings))

-- the greatest session that has a command, or 0
abbrev pub session_count : List Reading → ℕ
session_count readings = fold (λ most command. max most command.0) 0 (commands_from 1 readings)

-- the largest space that there may be
abbrev pub largest : Sizes
largest = record { pages = MOST_PAGES; log_words = MOST_LOG_WORDS }

-- the sizes of a `space` line, which stands before all others; without one the largest
abbrev pub sizes_of : List Reading → Sizes
sizes_of [] = largest
sizes_of (Ok Skipped ∷ readings) = sizes_of readings
sizes_of (Ok (Space sizes) ∷ readings) = sizes
sizes_of (_ ∷ readings) = largest

-- what a script asks for: how large its space is, and the commands of each session, session n's at place n - 1
pub record ScriptValue : Type 0 where
  pub sizes : Sizes
  pub commands : List (List Call)

-- a script is what these lines ask for; a session without commands has an empty list, or none
pub record IsScript (readings : List Reading) (script : ScriptValue) : Type 0 where
  pub sizes : script.sizes ≡ sizes_of readings
  pub sessions : length script.commands ≡ session_count readings
  pub commands : (n : ℕ) → slice_index_or script.commands n [] ≡ commands_of (n + 1) readings

-- it has few sessions, and few commands in all, of which few are scans
pub record IsSmall (script : ScriptValue) : Type 0 where
  pub sessions : length script.commands ≤ MOST_SCRIPT_SESSIONS
  pub commands : sum_by length script.commands ≤ MOST_COMMANDS
  pub scans : sum_by scan_count script.commands ≤ MOST_SCANS
