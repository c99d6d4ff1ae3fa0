-- The nodes of a path are all its pages but the last.
use Rattle.std.proofs.Common.{◌+◌, ◌<◌, ◌≤◌, ℕ, List, length, get_or, arith}
use Rattle.std.specs.List.{All}
use Rattle.ib_map.specs.Keys.{MapKey}
use Rattle.ib_page.specs.Work.{WorkPage}
use Rattle.ib_merge.specs.Deletes.{HasSiblings, nodes_on_path}
use Rattle.ib_plan_tests.specs.Reads.{HasBehind}
use Rattle.ib_plan_tests.proofs.ReadLaws.{nodes-all}
use Rattle.ib_plan_tests.proofs.beside.has_siblings.Goals as goal

both : (key : MapKey) (work : List WorkPage) (path : List ℕ) (k : ℕ) → length path ≤ k + 1
    → ((i : ℕ) → i < k → HasSiblings key work (get_or path i 0) × HasBehind key work (get_or path i 0))
    → All (HasSiblings key work) (nodes_on_path path) × All (HasBehind key work) (nodes_on_path path)
both key work path k long at = (nodes-all (HasSiblings key work) path k long (λ i lt. (at i lt).0), nodes-all (HasBehind key work) path k long (λ i lt. (at i lt).1))

pub returns : goal.returns
returns c ok = let end = c.loop-height-test.false in both c.args.key c.args.work.now c.args.path.now c.loop-height.height (omega arith) c.loop-height.invariant
