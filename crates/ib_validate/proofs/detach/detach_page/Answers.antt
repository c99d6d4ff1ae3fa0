use Rattle.std.proofs.Common.{◌∙◌, ap, sym, arith}
use Rattle.ib_walk.specs.Pages.{PageState}
use Rattle.ib_walk.specs.Walk.{children_of}
use Rattle.ib_walk.specs.Words.{memory_of}
use Rattle.ib_validate.specs.PatchTest.{detach}
use Rattle.ib_validate.specs.Positions.{end_of, position_if, position_in, positions_of}
use Rattle.ib_validate.proofs.MemoryLaws.{memory_of-page}
use Rattle.ib_validate.proofs.StepLaws.{detach_at-none, detach_at-leaf, detach_at-node}
use Rattle.ib_validate.proofs.detach.detach_page.Goals as goal

pub returns-then-position-gt0 : goal.returns-then-position-gt0
returns-then-position-gt0 c =
    let lt = c.requires.in_range in
    let size = c.requires.size in
    let page = memory_of-page c.args.before.now c.args.page c.page.result (omega arith) c.page.ensures c.detach_children.ensures.size in
    c.detach_children.ensures.table
    ∙ (ap (λ (p : PageState). detach (children_of p.records (end_of c.in-Some.position.high)) (positions_of c.args.table.now)) (sym page)
    ∙ sym (detach_at-node (memory_of c.args.before.now) c.args.page (positions_of c.args.old.now c.args.page) (positions_of c.args.table.now) (position_in c.in-Some.position)
    (sym c.position_at.ensures ∙ ap position_if c.in-Some.is) c.if-position-gt0.true))

pub returns-else-position-gt0 : goal.returns-else-position-gt0
returns-else-position-gt0 c =
    sym (detach_at-leaf (memory_of c.args.before.now) c.args.page (positions_of c.args.old.now c.args.page) (positions_of c.args.table.now) (position_in c.in-Some.position)
    (sym c.position_at.ensures ∙ ap position_if c.in-Some.is) (omega arith))

pub returns-in_default : goal.returns-in_default
returns-in_default c =
    sym (detach_at-none (memory_of c.args.before.now) c.args.page (positions_of c.args.old.now c.args.page) (positions_of c.args.table.now)
    (sym c.position_at.ensures ∙ ap position_if c.in_default.is))
