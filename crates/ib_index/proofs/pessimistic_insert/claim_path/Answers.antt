-- The descent comes to the path.
use Rattle.std.proofs.Common.{◌≡◌, ap}
use Rattle.ib_layout.specs.Geometry.{Sizes}
use Rattle.ib_rule.specs.Views.{is_watched}
use Rattle.ib_cursor.proofs.PageLaws.{has_told}
use Rattle.ib_index.proofs.BeginLaws.{has-reached}
use Rattle.ib_index.proofs.pessimistic_insert.claim_path.Goals as goal

pub descend_to_insert-requires-clause-unwatched : goal.descend_to_insert-requires-clause-unwatched
descend_to_insert-requires-clause-unwatched g c = ap (is_watched 1) c.requires.unwatched

pub returns-clause-reached : goal.returns-clause-reached
returns-clause-reached g c =
    let sizes : Sizes = c.args.mtr.now.latches.now.sizes in
    let size : c.geometry.result ≡ sizes = c.geometry.ensures in
    let fits = has_told size c.pages.ensures.pages c.pages.ensures.in_range in
    let d = c.descend_to_insert.ensures.claimed in
    has-reached sizes fits c.args.key c.descend_to_insert.result d.0 c.args.mtr.now.pass.now c.descend_to_insert.new.mtr.pass.now d.1 d.2 c.descend_to_insert.ensures.alone
