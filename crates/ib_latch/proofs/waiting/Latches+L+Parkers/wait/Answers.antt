use Rattle.ib_core.specs.declared.phase.Phase.TheVariants.{Flagged}
use Rattle.ib_latch.proofs.Stills.{armed_still, tried_after}
use Rattle.ib_latch.proofs.waiting.Latches+L+Parkers.wait.Goals as goal

pub returns : goal.returns
returns g c =
    tried_after c.args.self.now (Flagged c.args.latch.0 c.args.mode c.args.level c.arm-generation.result) c.args.mode c.args.latch.0 c.args.level c.recheck_or_sleep-reserve.result c.args.pass.now c.arm-generation.new.pass c.recheck_or_sleep-reserve.new.pass
    (armed_still (Flagged c.args.latch.0 c.args.mode c.args.level c.arm-generation.result) c.args.pass.now c.arm-generation.new.pass c.arm-generation.ensures) c.recheck_or_sleep-reserve.ensures
