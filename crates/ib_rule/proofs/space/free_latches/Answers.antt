use Rattle.std.proofs.Common.{◌<◌, length, arith}
use Rattle.ib_rule.proofs.Opening.{one_freed}
use Rattle.ib_rule.proofs.space.free_latches.Goals as goal

pub loop-latch-preserved : goal.loop-latch-preserved
loop-latch-preserved c =
    let size = c.requires.size in let place = c.lock_place.ensures.in_range in
    let fits : c.lock_place.result < length c.args.words.now = omega arith in
    record { freed = one_freed c.loop-latch.latch c.lock_place.result c.to_cell-free.result c.args.words.now c.loop-latch.words c.loop-latch.invariant.freed c.lock_place.ensures.place fits c.to_cell-free.ensures.cell }
