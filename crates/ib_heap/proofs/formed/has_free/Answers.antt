-- One more offset.
use Rattle.std.proofs.Common.{arith, ◌∙◌, sym}
use Rattle.ib_heap.proofs.FormedLoops.{free-new}
use Rattle.ib_heap.proofs.formed.has_free.Goals as goal

pub loop-i-preserved : goal.loop-i-preserved
loop-i-preserved c =
    let t = c.loop-i-test.true in
    record {
      holds = sym (free-new c.args.words.now c.loop-i.met c.meet.new.met c.args.n c.args.count c.loop-i.i c.loop-i.at (omega arith) (sym c.meet.ensures.is_new ∙ c.if-not-meet.false) (c.meet.ensures.meets c.if-not-meet.false)) ∙ c.loop-i.invariant.holds;
      offsets = c.meet.ensures.offsets;
    }
