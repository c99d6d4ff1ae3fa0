use Rattle.std.proofs.Common.{subst}
use Rattle.ib_core.specs.declared.phase.Phase.TheVariants.{Next}
use Rattle.ib_latch.specs.Waits.{HasLookedAsNext}
use Rattle.ib_latch.proofs.Stills.{looked_after, waits_still}
use Rattle.ib_latch.proofs.latches.Latches.spin_ready.Goals as goal

pub returns-then-looks_ready : goal.returns-then-looks_ready
returns-then-looks_ready g c =
    looked_after c.args.self.now (Next c.args.latch.0 c.args.level) c.args.latch.0 c.args.level _ c.args.pass.now c.loop.pass c.looks_ready.new.pass c.loop.invariant
    (subst (λ b. HasLookedAsNext c.args.self.now c.args.latch.0 c.args.level b c.loop.pass c.looks_ready.new.pass) c.if-looks_ready.true c.looks_ready.ensures)

pub returns : goal.returns
returns g c = waits_still c.args.self.now c.args.latch.0 c.args.level c.args.pass.now c.loop.pass c.requires.next.own c.loop.invariant
