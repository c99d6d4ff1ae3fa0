-- What a further line of a script is tested against.
use Rattle.std.specs.Prelude.{◌≡◌, List, [], ◌∷◌, ◌++◌, None, Some, Result, not, count_by, MatchResult}
use Rattle.std.specs.List.{list_all}
use Rattle.ib_io.specs.declared.line_kind.LineKind.{LineKind}
use Rattle.ib_script.specs.Script.{Reading, says_nothing, is_command, is_scan, fault_behind}
use Rattle.ib_script.specs.declared.tally.Tally.{Tally}

pub record IsTallied (before : List Reading) (tally : Tally) : Type 0 where
  pub started : tally.started ≡ not (list_all says_nothing before)
  pub commands : tally.commands ≡ count_by is_command before
  pub scans : tally.scans ≡ count_by is_scan before

-- a line is counted where nothing is wrong with it behind those before
abbrev pub Counts : {T : Type 0} → Reading → Tally → Result T LineKind → Tally → Type 0
Counts reading old result new =
    (before : List Reading) → IsTallied before old
    → MatchResult result (λ _. (fault_behind before reading ≡ None) × IsTallied (before ++ reading ∷ []) new) (λ kind. fault_behind before reading ≡ Some kind)
