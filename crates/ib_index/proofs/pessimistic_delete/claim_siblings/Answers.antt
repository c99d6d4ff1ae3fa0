-- The descent comes to the path with its siblings.
use Rattle.std.proofs.Common.{◌≡◌, ap}
use Rattle.ib_layout.specs.Geometry.{Sizes}
use Rattle.ib_rule.specs.Views.{is_watched}
use Rattle.ib_cursor.proofs.PageLaws.{has_told}
use Rattle.ib_index.proofs.SiblingBegins.{has-claimed-siblings}
use Rattle.ib_index.proofs.pessimistic_delete.claim_siblings.Goals as goal

pub descend_to_delete-requires-clause-unwatched : goal.descend_to_delete-requires-clause-unwatched
descend_to_delete-requires-clause-unwatched g c = ap (is_watched 1) c.requires.unwatched

pub returns-clause-reached : goal.returns-clause-reached
returns-clause-reached g c =
    let sizes : Sizes = c.args.mtr.now.latches.now.sizes in
    let size : c.geometry.result ≡ sizes = c.geometry.ensures in
    let fits = has_told size c.pages.ensures.pages c.pages.ensures.in_range in
    let d = c.descend_to_delete.ensures.claimed in
    has-claimed-siblings sizes fits c.args.key c.descend_to_delete.result d.0 c.args.mtr.now.pass.now c.descend_to_delete.new.mtr.pass.now d.1 d.2 c.descend_to_delete.ensures.alone
