-- A lookup of the pair.
use Rattle.std.proofs.Common.{◌∙◌, ap}
use Rattle.ib_layout.specs.Geometry.{Sizes}
use Rattle.ib_rule.specs.Space.{SpaceState}
use Rattle.ib_cursor.proofs.PageLaws.{has_told}
use Rattle.ib_second.proofs.LookupLaws.{looked-up}
use Rattle.ib_second.proofs.lookup.get.Goals as goal

pub returns-clause-looked_up : goal.returns-clause-looked_up
returns-clause-looked_up g c =
    let sizes : Sizes = c.args.latches.now.sizes in
    looked-up sizes (has_told (c.geometry.ensures ∙ ap (λ (s : SpaceState). s.sizes) c.space.ensures) c.pages.ensures.pages c.pages.ensures.in_range) c.args.key c.get.result c.args.pass.now c.get.new.pass c.get.ensures.looked_up
