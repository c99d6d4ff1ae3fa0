-- What was planned is put back.
use Rattle.std.proofs.Common.{sym, subst}
use Rattle.ib_planned_change.specs.Changes.{IsMade}
use Rattle.ib_planned_change.proofs.MadeLaws.{made-put_back}
use Rattle.ib_planned_change.proofs.change.make_change.Goals as goal

pub put_back-requires : goal.put_back-requires
put_back-requires c = record { within = (c.in_ok-plan_change.ensures.planned c.requires.0 c.requires.1).within }

pub returns-clause-made : goal.returns-clause-made
returns-clause-made c = λ log b.
    subst (IsMade log c.args.change c.plan_change.new.work c.args.images.now) (sym c.put_back.ensures.put)
    (made-put_back log c.args.images.now c.args.change c.plan_change.new.work b c.put_back.ensures.whole (c.in_ok-plan_change.ensures.planned log b))
