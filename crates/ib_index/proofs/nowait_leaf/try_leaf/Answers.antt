-- The search ends at the leaf, and the session fits its space.
use Rattle.std.proofs.Common.{◌≡◌, ap, subst}
use Rattle.ib_layout.specs.Geometry.{Sizes}
use Rattle.ib_rule.specs.Pass.{PassState}
use Rattle.ib_cursor.proofs.DownLaws.{last_of_path}
use Rattle.ib_leaf.specs.Leaf.{IsSeated}
use Rattle.ib_index.proofs.LeafTries.{reached}
use Rattle.ib_index.proofs.nowait_leaf.try_leaf.Goals as goal

pub returns-in-Ok-clause-reached : goal.returns-in-Ok-clause-reached
returns-in-Ok-clause-reached g c =
    let sizes : Sizes = c.args.mtr.now.latches.now.sizes in
    let q : PassState = c.descend_to_change_nowait.new.mtr.pass.now in
    let d = c.in-Ok.ensures.descended in
    let same : c.descend_to_change_nowait.new.mtr.latches.now.sizes ≡ sizes = ap (λ m. m.now.sizes) c.descend_to_change_nowait.ensures.still.latches in
    reached sizes c.args.key c.in-Ok.path c.unwrap.result c.args.mtr.now.pass.now q d
    (last_of_path c.last.result c.unwrap.result c.in-Ok.path d.reached.front d.reached.leaf d.reached.ends c.last.ensures.last c.unwrap.ensures)
    (subst (λ (s : Sizes). IsSeated s q) same c.facts_of_session.ensures)
