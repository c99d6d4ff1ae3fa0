-- What a run of a script with a copy beside it comes to.
use Rattle.std.specs.Prelude.{◌≡◌, ℕ, List, take}
use Rattle.ib_logrec.specs.declared.entry.Entry.{Entry}
use Rattle.ib_logrec.specs.Log.{by_place, used}
use Rattle.ib_map.specs.Runs.{Runs}
use Rattle.ib_runs.specs.Outcomes.{IsOutcome}
use Rattle.ib_script.specs.Script.{ScriptValue}
use Rattle.ib_tree.specs.TreeLog.{opening}
use Rattle.ib_image.specs.Copies.{CopyState, IsCopy, first_place}
use Rattle.ib_image.specs.Restored.{IsFileOfCopy}
use Rattle.ib_image.specs.declared.copy.CopiedPage.{CopiedPage}

-- a copy of a log of a space of so many pages, which says where the words of its tail begin
pub record IsCopyWithTail (copy : CopyState) (pages : ℕ) (log : List Entry) : Type 0 where
  pub copied : IsCopy (by_place opening pages) pages log copy.pages
  pub tail : copy.tail_word ≡ used (take (first_place copy.pages) log)

-- the bytes are the image file of a copy of the log of a run of this script, and of its tail
pub record IsImageOfRun (script : ScriptValue) (bytes : List ℕ) : Type 0 where
  pub runs : Runs
  pub log : List Entry
  pub outcome : IsOutcome script.sizes script.commands runs log
  pub copy : List CopiedPage
  pub file : IsFileOfCopy bytes script.sizes.pages log copy
