use Rattle.ib_core.specs.declared.phase.Phase.TheVariants.{Free}
use Rattle.ib_latch.proofs.Stills.{none_tried, tried_after}
use Rattle.ib_latch.proofs.latches.Latches.spin.Goals as goal

pub returns-then-is_some : goal.returns-then-is_some
returns-then-is_some g c = tried_after c.args.self.now Free c.args.mode c.args.latch.0 c.args.level c.try_once-reserve.result c.args.pass.now c.loop.pass c.try_once-reserve.new.pass c.loop.invariant c.try_once-reserve.ensures

pub returns : goal.returns
returns g c = none_tried c.args.self.now c.args.mode c.args.latch.0 c.args.level c.args.pass.now c.loop.pass c.requires.may.own c.loop.invariant
