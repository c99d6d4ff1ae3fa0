use Rattle.std.proofs.Common.{sym, subst}
use Rattle.ib_plans.specs.Agreement.{IsThere}
use Rattle.ib_planned_change.specs.Copies.{HasCopied}
use Rattle.ib_planned_change.proofs.CopyLaws.{copied-one, copied-here}
use Rattle.ib_planned_change.proofs.copies.copy.Goals as goal

pub returns-clause-copied : goal.returns-clause-copied
returns-clause-copied c =
    subst (λ work. HasCopied c.args.images.now 1 c.args.work.now work) (sym c.add.ensures.added)
    (copied-one c.args.images.now c.args.page c.image_at.result.now c.args.work.now c.requires.page c.image_at.ensures.image)

pub returns-clause-there : goal.returns-clause-there
returns-clause-there c =
    subst (λ work. IsThere work c.args.page) (sym c.add.ensures.added) (copied-here c.args.images.now c.args.page c.image_at.result.now c.args.work.now)
