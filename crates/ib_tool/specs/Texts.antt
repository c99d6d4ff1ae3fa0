-- The texts that a run of a script may have.
use Rattle.std.specs.Prelude.{◌≡◌, ℕ, List}
use Rattle.ib_layout.specs.Geometry.{Sizes}
use Rattle.ib_logrec.specs.declared.entry.Entry.{Entry}
use Rattle.ib_logrec.specs.Log.{by_place, history_of}
use Rattle.ib_map.specs.Pairs.{Pairs}
use Rattle.ib_map.specs.Runs.{Runs}
use Rattle.ib_replay.specs.RawLogs.{IsRawLog}
use Rattle.ib_runs.specs.Outcomes.{IsOutcome}
use Rattle.ib_script.specs.Generated.{IsGenerated}
use Rattle.ib_script.specs.Script.{ScriptValue}
use Rattle.ib_script.specs.declared.load.Load.{Load}
use Rattle.ib_text.specs.Output.{output_of}
use Rattle.ib_tree.specs.Logs.{pages_after}
use Rattle.ib_tree.specs.TreeLog.{opening}
use Rattle.ib_walk.specs.Trees.{content_of}
use Rattle.ib_image_form.specs.Copying.{IsImageOfRun}
use Rattle.ib_tool.specs.Counts.{counts_of}
use Rattle.ib_tool.specs.declared.shape.Shape.{Shape}
use Rattle.ib_tool.specs.declared.shape.Shape.TheVariants.{Text, File, Image}

-- the map that the pages hold after a log: what a walk of the tree finds whose root is page 1
abbrev pub map_in : Sizes → List Entry → Pairs
map_in sizes log = content_of (pages_after (by_place opening sizes.pages) log) 1

-- the text is one of a run of this script: what each session was answered, the log, and the map that its pages hold in the end
pub record IsRunText (script : ScriptValue) (text : List ℕ) : Type 0 where
  pub runs : Runs
  pub log : List Entry
  pub outcome : IsOutcome script.sizes script.commands runs log
  pub printed : text ≡ output_of runs (history_of log) (map_in script.sizes log)

-- the bytes are the log of such a run as a file, which is one of a lawful log
pub record IsRawText (script : ScriptValue) (text : List ℕ) : Type 0 where
  pub runs : Runs
  pub log : List Entry
  pub outcome : IsOutcome script.sizes script.commands runs log
  pub written : IsRawLog text script.sizes.pages log

-- the text counts the replies of a run of a generated script, and the pairs of the map in the end
pub record IsCountText (load : Load) (text : List ℕ) : Type 0 where
  pub script : ScriptValue
  pub generated : IsGenerated load script
  pub runs : Runs
  pub log : List Entry
  pub outcome : IsOutcome script.sizes script.commands runs log
  pub printed : text ≡ counts_of runs (map_in script.sizes log)

-- what is written of a run of a script: its text, the file of its log, or the image file of a copy beside its sessions
abbrev pub IsWrittenRun : Shape → ScriptValue → List ℕ → Type 0
IsWrittenRun Text script text = IsRunText script text
IsWrittenRun File script text = IsRawText script text
IsWrittenRun Image script text = IsImageOfRun script text
