-- What is kept of the lines of a script that are read so far.
use Rattle.std.specs.Prelude.{◌≡◌, ℕ, ◌+◌, List, [], ◌∷◌, ◌++◌, None, Result, Ok, not, length, count_by, sum_by, fold, slice_index_or, MatchResult}
use Rattle.std.specs.List.{list_all}
use Rattle.ib_map.specs.declared.call.Call.{Call}
use Rattle.ib_io.specs.BadLines.{IsLineFault}
use Rattle.ib_script.specs.Lists.{lists_of}
use Rattle.ib_script.specs.Script.{Reading, says_nothing, is_command, is_scan, scan_count, fault_behind, commands_of, session_count, sizes_of}
use Rattle.ib_script.specs.declared.script_line.ScriptLine.TheVariants.{Session}
use Rattle.ib_script.specs.declared.builder.Builder.{Builder}
use Rattle.ib_io.specs.declared.bad_line.LineFault.{LineFault}

-- the session behind a line
abbrev pub session_then : ℕ → Reading → ℕ
session_then session (Ok (Session number)) = number
session_then session _ = session

-- the session behind these lines
abbrev pub session_after : List Reading → ℕ
session_after before = fold session_then 1 before

-- lists of commands are those of the sessions, session n's at place n - 1
pub record HoldCommands (before : List Reading) (lists : List (List Call)) : Type 0 where
  pub sessions : length lists ≡ session_count before
  pub commands : (n : ℕ) → slice_index_or lists n [] ≡ commands_of (n + 1) before
  pub count : sum_by length lists ≡ count_by is_command before
  pub scans : sum_by scan_count lists ≡ count_by is_scan before

pub record IsBuilt (before : List Reading) (builder : Builder) : Type 0 where
  pub started : builder.started ≡ not (list_all says_nothing before)
  pub sizes : builder.geometry ≡ sizes_of before
  pub session : builder.session ≡ session_after before
  pub lists : HoldCommands before (lists_of builder.sessions.items)
  pub commands : builder.commands ≡ count_by is_command before
  pub scans : builder.scans ≡ count_by is_scan before

-- a line is taken where nothing is wrong with it behind those before
abbrev pub Takes : {T : Type 0} → Reading → Builder → Result T LineFault → Builder → Type 0
Takes reading old result new =
    (before : List Reading) → IsBuilt before old
    → MatchResult result (λ _. (fault_behind before reading ≡ None) × IsBuilt (before ++ reading ∷ []) new) (IsLineFault (fault_behind before reading) (is_command reading))
