use Rattle.std.proofs.Common.{◌≡◌, ◌+◌, ◌∙◌, ap, sym, None, arith, drop}
use Rattle.ib_page.specs.Form.{page_of}
use Rattle.ib_walk.specs.Walk.{children_of}
use Rattle.ib_walk.specs.Words.{state_of}
use Rattle.ib_validate.specs.Children.{visit_of_child}
use Rattle.ib_validate.specs.PatchTest.{detach, set_at}
use Rattle.ib_validate.specs.Positions.{end_of, positions_of}
use Rattle.ib_validate.proofs.ChildLaws.{drop-slice_get, drop-none, length-children_of}
use Rattle.ib_validate.proofs.PositionLaws.{positions_of-set, set_at-past}
use Rattle.ib_validate.proofs.detach.detach_children.Goals as goal
use Rattle.ib_validate.proofs.detach.detach_children.Goals.{then-page-table, else-page-table}

pub loop-place-preserved : goal.loop-place-preserved
loop-place-preserved c =
    let kids = children_of (state_of (page_of c.args.node.now)).records (end_of c.args.high) in
    let next : positions_of c.if-page-table.table ≡ set_at (positions_of c.loop-place.table) c.child_at-page.result.page None = elim c.if-page-table.branch [
      | then-page-table w ↦ ap positions_of w.table-is ∙ positions_of-set c.loop-place.table c.child_at-page.result.page None w.if-page-table.true
      | else-page-table w ↦ ap positions_of w.table-is ∙ sym (set_at-past c.loop-place.table c.child_at-page.result.page w.if-page-table.false)
    ] in
    ap (detach (drop (c.loop-place.place + 1) kids)) next
    ∙ (sym (ap (λ ks. detach ks (positions_of c.loop-place.table)) (drop-slice_get kids c.loop-place.place (visit_of_child c.child_at-page.result) c.child_at-page.ensures))
    ∙ c.loop-place.invariant)

pub returns-clause-table : goal.returns-clause-table
returns-clause-table c =
    let rs = (state_of (page_of c.args.node.now)).records in
    let kids = children_of rs (end_of c.args.high) in
    let long = length-children_of rs (end_of c.args.high) in
    sym (ap (λ ks. detach ks (positions_of c.loop-place.table)) (drop-none kids c.loop-place.place (omega arith))) ∙ c.loop-place.invariant
