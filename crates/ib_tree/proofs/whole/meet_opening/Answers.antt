use Rattle.std.proofs.Common.{◌≡◌, ◌∙◌, ◌+◌, suc, sym, ap, arith, Some, None}
use Rattle.ib_map.specs.Keys.{rank, end_rank}
use Rattle.ib_map.proofs.KeyLaws.{rank-least}
use Rattle.ib_validate.specs.declared.position.PagePosition.{PagePosition}
use Rattle.ib_validate.specs.PatchTest.{set_at}
use Rattle.ib_validate.specs.Positions.{position_in, positions_of}
use Rattle.ib_validate.proofs.PositionLaws.{positions_of-set}
use Rattle.ib_tree.specs.Tests.{root_position, root_positions}
use Rattle.ib_tree.proofs.whole.meet_opening.Goals as goal

pub loop-met-preserved : goal.loop-met-preserved
loop-met-preserved c =
    let lt = c.requires.roots in
    let more = c.loop-met-test.true in
    let kept = c.loop-met.auto.table in
    let root = c.loop-met.met + 1 in
    let next : root ≡ suc c.loop-met.met = omega arith in
    let low = ap rank c.least.ensures ∙ rank-least in
    let position : PagePosition = record { tree = root; height = 0; low = c.least.result; high = None } in
    let same : position_in position ≡ root_position root = λ i. record { tree = root; height = 0; low = low i; high = end_rank } in
    positions_of-set c.loop-met.table root (Some position) (omega arith)
    ∙ (ap (λ e. set_at (positions_of c.loop-met.table) root (Some e)) same
    ∙ (ap (λ now. set_at now root (Some (root_position root))) c.loop-met.invariant
    ∙ (ap (λ r. set_at (root_positions c.loop-met.met) r (Some (root_position r))) next
    ∙ ap root_positions (sym next))))
