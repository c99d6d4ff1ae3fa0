use Rattle.std.proofs.Common.{◌+◌, sym}
use Rattle.ib_page.specs.Form.{page_of}
use Rattle.ib_walk.specs.Words.{state_of}
use Rattle.ib_validate.specs.Positions.{end_of}
use Rattle.ib_validate.proofs.ChildLaws.{first_rank-drop}
use Rattle.ib_validate.proofs.children.end_of_child.Goals as goal

pub returns-then-place-count : goal.returns-then-place-count
returns-then-place-count c = sym (first_rank-drop (state_of (page_of c.args.node.now)).records (c.args.place + 1) c.record_at.result (end_of c.args.high) c.record_at.ensures)
