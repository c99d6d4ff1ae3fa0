-- What is owed for a script of two trees.
use Rattle.std.specs.Prelude.{◌≡◌, ℕ, List}
use Rattle.std.specs.List.{AllByRecursion}
use Rattle.ib_logrec.specs.declared.entry.Entry.{Entry}
use Rattle.ib_logrec.specs.Log.{by_place, history_of, map_of}
use Rattle.ib_map.specs.History.{History, map_after}
use Rattle.ib_map.specs.Pairs.{Pairs, cut}
use Rattle.ib_map.specs.Replies.{FullRecord, Span}
use Rattle.ib_map.specs.Runs.{Runs}
use Rattle.ib_second_key.specs.SecondKeys.{second_of}
use Rattle.ib_io.specs.Lines.{readings_by}
use Rattle.ib_io.specs.Told.{Ending, OwesLines}
use Rattle.ib_layout.specs.Geometry.{Sizes}
use Rattle.ib_script.specs.PairScript.{pair_reading_of}
use Rattle.ib_script.specs.Script.{ScriptValue, IsScript, first_fault}
use Rattle.ib_tree.specs.Logs.{pages_after}
use Rattle.ib_walk.specs.Trees.{content_of}
use Rattle.ib_pair_law.specs.Opening.{pair_opening}
use Rattle.ib_second.specs.Calls.{pair_calls}
use Rattle.ib_runs.specs.Outcomes.{IsOutcomeUnder}
use Rattle.ib_pair_form.specs.PairOutput.{pair_output_of}

-- the pairs that a tree of the pages holds after a log
abbrev pub pairs_in : Sizes → List Entry → ℕ → Pairs
pairs_in sizes log root = content_of (pages_after (by_place pair_opening sizes.pages) log) root

-- a chunk has the second keys, between its ends, of the pairs that the map has at the chunk's place
abbrev pub HasKeysAt : History → Span → Type 0
HasKeysAt h span = span.pairs ≡ cut (second_of (map_after h span.place)) span.low span.high

-- .. and so has each chunk of each record
abbrev pub HaveKeys : History → Runs → Type 0
HaveKeys h runs = AllByRecursion (λ records. AllByRecursion (λ (r : FullRecord). AllByRecursion (HasKeysAt h) r.spans) records) runs

-- the text is one of a run of this script: what each session was answered, the log, the map that the pages hold in the end, and the keys of the
-- second tree, which are those of the map's pairs
pub record IsPairRunText (script : ScriptValue) (text : List ℕ) : Type 0 where
  pub runs : Runs
  pub log : List Entry
  pub outcome : IsOutcomeUnder (pair_calls script.sizes) script.sizes script.commands runs log
  pub keys : HaveKeys (history_of log) runs
  pub first : pairs_in script.sizes log 1 ≡ map_of log
  pub second : pairs_in script.sizes log 2 ≡ second_of (map_of log)
  pub printed : text ≡ pair_output_of runs (history_of log) (pairs_in script.sizes log 1) (pairs_in script.sizes log 2)

-- what may be written for the lines of a script
abbrev pub IsPairScriptText : List ℕ → List ℕ → Type 0
IsPairScriptText input text = (script : ScriptValue) × IsScript (readings_by pair_reading_of input) script × IsPairRunText script text

-- a script's first bad line is told, or else it is run
abbrev pub AnswersPairScript : List ℕ → Ending → Type 0
AnswersPairScript input e = OwesLines (first_fault (readings_by pair_reading_of input)) (IsPairScriptText input) e
