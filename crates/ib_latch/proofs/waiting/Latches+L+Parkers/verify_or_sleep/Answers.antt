use Rattle.std.proofs.Common.{subst}
use Rattle.ib_core.specs.declared.phase.Phase.{Phase}
use Rattle.ib_core.specs.declared.phase.Phase.TheVariants.{Next}
use Rattle.ib_latch.specs.Waits.{IsStill}
use Rattle.ib_latch.proofs.Stills.{still_then, waits_still}
use Rattle.ib_latch.proofs.waiting.Latches+L+Parkers.verify_or_sleep.Goals as goal

pub returns-then-verify : goal.returns-then-verify
returns-then-verify g c = record {
  own = c.verify.ensures.own;
  owns = λ _. subst (λ (f : Phase). IsStill f c.args.pass.now c.verify.new.pass) (c.verify.ensures.owns c.if-verify.true) c.verify.ensures.still;
  owned = λ _. c.verify.ensures.owned c.if-verify.true;
  waits = λ is. absurd (cc);
}

pub returns : goal.returns
returns g c =
    waits_still c.args.self.now c.args.latch.0 c.args.level c.args.pass.now c.sleep_as_next.new.pass c.requires.own
    (still_then c.verify.new.pass.view.session.phase (Next c.args.latch.0 c.args.level) c.args.pass.now c.verify.new.pass c.sleep_as_next.new.pass c.verify.ensures.still c.sleep_as_next.ensures.still)
