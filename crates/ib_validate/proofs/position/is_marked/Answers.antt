use Rattle.std.proofs.Common.{◌∙◌, sym, false}
use Rattle.std.proofs.lemmas.Bool.{le-ltb}
use Rattle.ib_validate.proofs.PositionLaws.{marks_of-at, marks_of-past}
use Rattle.ib_validate.proofs.position.is_marked.Goals as goal

pub returns-then-page-marks-clause-marked : goal.returns-then-page-marks-clause-marked
returns-then-page-marks-clause-marked c = sym (marks_of-at c.args.marks.now c.args.page false c.if-page-marks.true)

pub returns-else-page-marks-clause-marked : goal.returns-else-page-marks-clause-marked
returns-else-page-marks-clause-marked c = le-ltb _ _ c.if-page-marks.false ∙ sym (marks_of-past c.args.marks.now c.args.page c.if-page-marks.false)
