use Rattle.ib_core.specs.declared.phase.Phase.TheVariants.{Next}
use Rattle.ib_latch.proofs.Stills.{looked_after}
use Rattle.ib_latch.proofs.locks.Latches+L+Parkers.next_round.Goals as goal

pub returns : goal.returns
returns g c =
    looked_after c.args.self.now (Next c.args.latch.0 c.args.level) c.args.latch.0 c.args.level c.wait_for_readers.result c.args.pass.now c.spin_ready.new.pass c.wait_for_readers.new.pass
    (c.spin_ready.ensures.waits c.if-spin_ready.false) c.wait_for_readers.ensures
