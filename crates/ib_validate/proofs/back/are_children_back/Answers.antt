use Rattle.std.proofs.Common.{◌+◌, ◌∙◌, ap, sym, arith, drop}
use Rattle.std.specs.Prelude.{◌&&◌}
use Rattle.ib_page.specs.Form.{page_of}
use Rattle.ib_walk.specs.Walk.{children_of}
use Rattle.ib_walk.specs.Words.{state_of}
use Rattle.ib_validate.specs.Children.{visit_of_child}
use Rattle.ib_validate.specs.PatchTest.{are_back}
use Rattle.ib_validate.specs.Positions.{end_of, marks_of, positions_of}
use Rattle.ib_validate.proofs.ChildLaws.{drop-slice_get, drop-none, length-children_of}
use Rattle.ib_validate.proofs.back.are_children_back.Goals as goal

pub returns-then-not-is_back-clause-back : goal.returns-then-not-is_back-clause-back
returns-then-not-is_back-clause-back c =
    let kids = children_of (state_of (page_of c.args.node.now)).records (end_of c.args.high) in
    let rest = are_back (marks_of c.args.written.now) (drop (c.loop-place.place + 1) kids) (positions_of c.args.table.now) in
    let next = ap (λ ks. are_back (marks_of c.args.written.now) ks (positions_of c.args.table.now)) (drop-slice_get kids c.loop-place.place (visit_of_child c.child_at-child.result) c.child_at-child.ensures) in
    sym (sym c.loop-place.invariant ∙ (next ∙ ap (λ b. b && rest) (sym c.is_back.ensures ∙ c.if-not-is_back.true)))

pub loop-place-preserved : goal.loop-place-preserved
loop-place-preserved c =
    let kids = children_of (state_of (page_of c.args.node.now)).records (end_of c.args.high) in
    let rest = are_back (marks_of c.args.written.now) (drop (c.loop-place.place + 1) kids) (positions_of c.args.table.now) in
    let next = ap (λ ks. are_back (marks_of c.args.written.now) ks (positions_of c.args.table.now)) (drop-slice_get kids c.loop-place.place (visit_of_child c.child_at-child.result) c.child_at-child.ensures) in
    sym (next ∙ ap (λ b. b && rest) (sym c.is_back.ensures ∙ c.if-not-is_back.false)) ∙ c.loop-place.invariant

pub returns-clause-back : goal.returns-clause-back
returns-clause-back c =
    let rs = (state_of (page_of c.args.node.now)).records in
    let kids = children_of rs (end_of c.args.high) in
    let long = length-children_of rs (end_of c.args.high) in
    sym (sym c.loop-place.invariant ∙ ap (λ ks. are_back (marks_of c.args.written.now) ks (positions_of c.args.table.now)) (drop-none kids c.loop-place.place (omega arith)))
