-- The pages of a log while it is replayed, and an entry behind it.
use Rattle.std.specs.Prelude.{◌≡◌, ℕ, true, List, [], ◌∷◌, ◌++◌}
use Rattle.ib_map.specs.Pairs.{Pairs}
use Rattle.ib_map.specs.History.{IsLegalHistory}
use Rattle.ib_map.specs.Space.{has_pages}
use Rattle.ib_logrec.specs.declared.entry.Entry.{Entry}
use Rattle.ib_logrec.specs.Grammar.{IsInGrammar}
use Rattle.ib_logrec.specs.Log.{history_of, map_of}
use Rattle.ib_walk.specs.Opening.{opening_word}
use Rattle.ib_validate.specs.PatchTest.{IsKeptBeside}
use Rattle.ib_validate.specs.Positions.{positions_of}
use Rattle.ib_validate.specs.TreeMemory.{TreeMemory, IsSettled}
use Rattle.ib_tree.specs.Logs.{pages_after}
use Rattle.ib_tree.specs.TreeLog.{IsTreeLog}
use Rattle.ib_replay.specs.Replays.{IsMemory}

-- no entry is under way: the images are the memory after the log, and beside them stands where each page is met
pub record AreTreePages (pages : ℕ) (log : List Entry) (tree : TreeMemory) : Type 0 where
  pub settled : IsSettled tree
  pub memory : IsMemory pages log tree.before
  pub kept : IsKeptBeside (pages_after (opening_word 1) log) 1 pages (positions_of tree.met_before)

-- an entry behind a lawful log with these pages: in the grammar, with a legal change, after which the map is this one
pub record IsNext (pages : ℕ) (log : List Entry) (e : Entry) (tree : TreeMemory) (map : Pairs) : Type 0 where
  pub space : has_pages pages ≡ true
  pub lawful : IsTreeLog pages log
  pub grammar : IsInGrammar pages e
  pub legal : IsLegalHistory (history_of (log ++ e ∷ []))
  pub pages_are : AreTreePages pages log tree
  pub map_is : map ≡ map_of (log ++ e ∷ [])
