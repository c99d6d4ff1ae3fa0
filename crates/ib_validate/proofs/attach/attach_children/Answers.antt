use Rattle.std.proofs.Common.{◌+◌, ◌-◌, ◌∙◌, ap, sym, Some, None, arith, drop, cond}
use Rattle.ib_page.specs.Form.{page_of}
use Rattle.ib_walk.specs.Walk.{children_of}
use Rattle.ib_walk.specs.Words.{state_of}
use Rattle.ib_validate.specs.declared.position.PagePosition.{PagePosition}
use Rattle.ib_validate.specs.Children.{visit_of_child}
use Rattle.ib_validate.specs.PatchTest.{attach, set_at}
use Rattle.ib_validate.specs.Positions.{end_of, marks_of, positions_of, position_in}
use Rattle.ib_validate.proofs.ChildLaws.{drop-slice_get, drop-none, length-children_of}
use Rattle.ib_validate.proofs.PositionLaws.{positions_of-set}
use Rattle.ib_validate.proofs.attach.attach_children.Goals as goal

pub returns-then-not-may_attach-clause-table : goal.returns-then-not-may_attach-clause-table
returns-then-not-may_attach-clause-table c =
    let kids = children_of (state_of (page_of c.args.node.now)).records (end_of c.args.at.high) in
    let next = ap (λ ks. attach (marks_of c.args.written.now) (positions_of c.args.old.now) c.args.at.tree (c.args.at.height - 1) ks (positions_of c.loop-place.table))
    (drop-slice_get kids c.loop-place.place (visit_of_child c.child_at-child.result) c.child_at-child.ensures) in
    let test = sym c.may_attach.ensures.may ∙ c.if-not-may_attach.true in
    sym c.loop-place.invariant ∙ (next ∙ ap (λ b. cond b (attach (marks_of c.args.written.now) (positions_of c.args.old.now) c.args.at.tree (c.args.at.height - 1) (drop (c.loop-place.place + 1) kids)
    (set_at (positions_of c.loop-place.table) c.child_at-child.result.page
    (Some (position_in (let p : PagePosition = record { tree = c.args.at.tree; height = c.args.at.height - 1; low = c.child_at-child.result.low; high = c.child_at-child.result.high } in p))))) None) test)

pub loop-place-preserved : goal.loop-place-preserved
loop-place-preserved c =
    let kids = children_of (state_of (page_of c.args.node.now)).records (end_of c.args.at.high) in
    let position : PagePosition = record { tree = c.args.at.tree; height = c.args.at.height - 1; low = c.child_at-child.result.low; high = c.child_at-child.result.high } in
    let rest = attach (marks_of c.args.written.now) (positions_of c.args.old.now) c.args.at.tree (c.args.at.height - 1) (drop (c.loop-place.place + 1) kids) in
    let next = ap (λ ks. attach (marks_of c.args.written.now) (positions_of c.args.old.now) c.args.at.tree (c.args.at.height - 1) ks (positions_of c.loop-place.table))
    (drop-slice_get kids c.loop-place.place (visit_of_child c.child_at-child.result) c.child_at-child.ensures) in
    let test = sym c.may_attach.ensures.may ∙ c.if-not-may_attach.false in
    let put = positions_of-set c.loop-place.table c.child_at-child.result.page (Some position) (c.may_attach.ensures.in_range c.if-not-may_attach.false) in
    ap rest put
    ∙ (sym (next ∙ ap (λ b. cond b (rest (set_at (positions_of c.loop-place.table) c.child_at-child.result.page (Some (position_in position)))) None) test)
    ∙ c.loop-place.invariant)

pub returns-clause-table : goal.returns-clause-table
returns-clause-table c =
    let rs = (state_of (page_of c.args.node.now)).records in
    let kids = children_of rs (end_of c.args.at.high) in
    let long = length-children_of rs (end_of c.args.at.high) in
    sym c.loop-place.invariant
    ∙ ap (λ ks. attach (marks_of c.args.written.now) (positions_of c.args.old.now) c.args.at.tree (c.args.at.height - 1) ks (positions_of c.loop-place.table)) (drop-none kids c.loop-place.place (omega arith))
