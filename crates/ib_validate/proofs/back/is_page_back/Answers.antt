use Rattle.std.proofs.Common.{◌∙◌, ap, sym, arith}
use Rattle.ib_walk.specs.Pages.{PageState}
use Rattle.ib_walk.specs.Walk.{children_of}
use Rattle.ib_walk.specs.Words.{memory_of}
use Rattle.ib_validate.specs.PatchTest.{are_back}
use Rattle.ib_validate.specs.Positions.{end_of, position_if, position_in, positions_of, marks_of}
use Rattle.ib_validate.proofs.MemoryLaws.{memory_of-page}
use Rattle.ib_validate.proofs.StepLaws.{back_at-node}
use Rattle.ib_validate.proofs.back.is_page_back.Goals as goal

pub returns-else-position-eq0 : goal.returns-else-position-eq0
returns-else-position-eq0 c =
    let size = c.requires.images in
    let lt = c.requires.in_range in
    let m = memory_of c.args.before.now in
    let node = c.if-position-eq0.false in
    let page = memory_of-page c.args.before.now c.args.page c.page.result (omega arith) c.page.ensures c.are_children_back.ensures.size in
    c.are_children_back.ensures.back
    ∙ (ap (λ (p : PageState). are_back (marks_of c.args.written.now) (children_of p.records (end_of c.in-Some.position.high)) (positions_of c.args.table.now)) (sym page)
    ∙ sym (back_at-node m c.args.page (positions_of c.args.old.now c.args.page) (marks_of c.args.written.now) (positions_of c.args.table.now) (position_in c.in-Some.position)
    (sym c.position_at.ensures ∙ ap position_if c.in-Some.is) (omega arith)))
