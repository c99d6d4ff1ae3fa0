-- The search comes to the path with its siblings.
use Rattle.std.proofs.Common.{◌≡◌, ap}
use Rattle.ib_layout.specs.Geometry.{Sizes}
use Rattle.ib_rule.specs.Views.{is_watched}
use Rattle.ib_cursor.proofs.PageLaws.{has_told}
use Rattle.ib_index.proofs.SiblingBegins.{few-claimed-siblings, has-claimed-siblings}
use Rattle.ib_index.proofs.nowait_delete.try_siblings.Goals as goal

pub descend_to_delete_nowait-requires-clause-unwatched : goal.descend_to_delete_nowait-requires-clause-unwatched
descend_to_delete_nowait-requires-clause-unwatched g c = ap (is_watched 1) c.requires.unwatched

pub returns-in-Ok-clause-reached : goal.returns-in-Ok-clause-reached
returns-in-Ok-clause-reached g c =
    let sizes : Sizes = c.args.mtr.now.latches.now.sizes in
    let size : c.geometry.result ≡ sizes = c.geometry.ensures in
    let fits = has_told size c.pages.ensures.pages c.pages.ensures.in_range in
    let d = c.in-Ok.ensures.claimed in
    has-claimed-siblings sizes fits c.args.key c.in-Ok.path d.0 c.args.mtr.now.pass.now c.descend_to_delete_nowait.new.mtr.pass.now d.1 d.2 c.in-Ok.ensures.alone

pub returns-in-Ok-clause-grants : goal.returns-in-Ok-clause-grants
returns-in-Ok-clause-grants g c =
    let sizes : Sizes = c.args.mtr.now.latches.now.sizes in
    let size : c.geometry.result ≡ sizes = c.geometry.ensures in
    let fits = has_told size c.pages.ensures.pages c.pages.ensures.in_range in
    let d = c.in-Ok.ensures.claimed in
    few-claimed-siblings sizes fits c.args.key c.in-Ok.path d.0 c.args.mtr.now.pass.now c.descend_to_delete_nowait.new.mtr.pass.now d.1 d.2 c.in-Ok.ensures.alone
