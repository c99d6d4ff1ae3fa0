use Rattle.std.proofs.Common.{◌≡◌, ◌∙◌, sym, ap, arith, Some, None}
use Rattle.std.proofs.lemmas.Bool.{cond-true}
use Rattle.ib_map.specs.Keys.{rank, end_rank}
use Rattle.ib_map.proofs.KeyLaws.{rank-least}
use Rattle.ib_walk.specs.Pages.{PageState}
use Rattle.ib_walk.specs.Words.{memory_of}
use Rattle.ib_validate.specs.declared.position.PagePosition.{PagePosition}
use Rattle.ib_validate.specs.PatchTest.{set_at, root_at}
use Rattle.ib_validate.specs.Positions.{marks_of, position_in, positions_of}
use Rattle.ib_validate.proofs.MemoryLaws.{memory_of-page}
use Rattle.ib_validate.proofs.PositionLaws.{positions_of-set}
use Rattle.ib_validate.proofs.visit.visit_root.Goals as goal

pub returns-then-is_marked : goal.returns-then-is_marked
returns-then-is_marked c =
    let lt = c.requires.root in
    let size = c.requires.images in
    let page = memory_of-page c.args.after.now 1 c.page.result (omega arith) c.page.ensures c.level.ensures.size in
    let level : c.level.result ≡ (memory_of c.args.after.now 1).level = c.level.ensures.level ∙ ap (λ (p : PageState). p.level) (sym page) in
    let low = ap rank c.least.ensures ∙ rank-least in
    let position : PagePosition = record { tree = 1; height = c.level.result; low = c.least.result; high = None } in
    let same : position_in position ≡ root_at (memory_of c.args.after.now) 1 end_rank = λ i. record { tree = 1; height = level i; low = low i; high = end_rank } in
    positions_of-set c.args.table.now 1 (Some position) lt
    ∙ (ap (λ e. set_at (positions_of c.args.table.now) 1 (Some e)) same
    ∙ sym (cond-true (marks_of c.args.written.now 1) (set_at (positions_of c.args.table.now) 1 (Some (root_at (memory_of c.args.after.now) 1 end_rank))) (positions_of c.args.table.now)
    (sym c.is_marked.ensures.marked ∙ c.if-is_marked.true)))
