-- What is changed of so few pages fits an entry, however much it is.
use Rattle.std.proofs.Common.{List, length, ap, ◌∙◌, arith}
use Rattle.ib_page.specs.Work.{WorkPage}
use Rattle.ib_page.proofs.WriteLaws.{writes_few}
use Rattle.ib_mtr.proofs.commits.lay_out_early.Goals as goal

pub lay_out-writes-requires-clause-few : goal.lay_out-writes-requires-clause-few
lay_out-writes-requires-clause-few g c =
    let few = writes_few c.leave_work-room.result.work in
    let room = ap (λ (ws : List WorkPage). length ws) c.leave_work-room.ensures.work in
    let count = c.len.ensures.count ∙ ap (λ (ws : List WorkPage). length ws) c.work.ensures in
    let test = c.if-len-gt-MOST_WRITES.false in omega arith
