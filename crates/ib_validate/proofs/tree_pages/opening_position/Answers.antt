use Rattle.std.proofs.Common.{◌≡◌, ◌∙◌, sym, ap, Some, None}
use Rattle.ib_map.specs.Keys.{rank, end_rank}
use Rattle.ib_map.proofs.KeyLaws.{rank-least}
use Rattle.ib_validate.specs.declared.position.PagePosition.{PagePosition}
use Rattle.ib_validate.specs.PatchTest.{Position}
use Rattle.ib_validate.specs.Positions.{position_in}
use Rattle.ib_walk.proofs.ChoiceLaws.{cond-eq}
use Rattle.ib_validate.proofs.tree_pages.opening_position.Goals as goal

pub returns : goal.returns
returns c =
    let low = ap rank c.least.ensures ∙ rank-least in
    let position : PagePosition = record { tree = 1; height = 0; low = c.least.result; high = None } in
    let first : Position = record { tree = 1; height = 0; low = 0; high = end_rank } in
    let same : position_in position ≡ first = λ i. record { tree = 1; height = 0; low = low i; high = end_rank } in
    ap (λ (e : Position). Some e) same ∙ sym (cond-eq c.args.page 1 (Some first) None c.if-page-ne-ROOT.false)
