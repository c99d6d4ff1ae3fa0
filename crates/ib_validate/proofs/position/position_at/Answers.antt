use Rattle.std.proofs.Common.{sym, ap, ◌∙◌}
use Rattle.ib_validate.specs.Positions.{position_if}
use Rattle.ib_validate.proofs.PositionLaws.{positions_of-at, positions_of-past}
use Rattle.ib_validate.proofs.position.position_at.Goals as goal

pub returns-then-page-table : goal.returns-then-page-table
returns-then-page-table c =
    ap position_if c.index-table-page.is ∙ sym (positions_of-at c.args.table.now c.args.page c.index-table-page.result c.if-page-table.true)

pub returns-else-page-table : goal.returns-else-page-table
returns-else-page-table c = sym (positions_of-past c.args.table.now c.args.page c.if-page-table.false)
