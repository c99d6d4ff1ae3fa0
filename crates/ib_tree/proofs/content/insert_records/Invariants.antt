use Rattle.std.proofs.Common.{◌≡◌, ◌++◌, take}
use Rattle.ib_page.specs.Form.{page_of}
use Rattle.ib_walk.specs.Words.{state_of}
use Rattle.ib_tree.proofs.content.insert_records.Given as goal

abbrev pub invariant-loop-place : goal.invariant-loop-place
invariant-loop-place l = l.map ≡ l.fn.map ++ take l.place (state_of (page_of l.leaf)).records
