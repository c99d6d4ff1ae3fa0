-- The descent ends at the leaf, and the session fits its space.
use Rattle.std.proofs.Common.{◌≡◌, ap, subst}
use Rattle.ib_layout.specs.Geometry.{Sizes}
use Rattle.ib_rule.specs.Pass.{PassState}
use Rattle.ib_cursor.proofs.DownLaws.{last_of_path}
use Rattle.ib_leaf.specs.Leaf.{IsSeated}
use Rattle.ib_index.proofs.LeafTries.{reached}
use Rattle.ib_index.proofs.leaf.descend_to_leaf.Goals as goal

pub returns-clause-reached : goal.returns-clause-reached
returns-clause-reached g c =
    let sizes : Sizes = c.args.mtr.now.latches.now.sizes in
    let q : PassState = c.descend-path.new.mtr.pass.now in
    let d = c.descend-path.ensures.descended in
    let same : c.descend-path.new.mtr.latches.now.sizes ≡ sizes = ap (λ m. m.now.sizes) c.descend-path.ensures.still.latches in
    reached sizes c.args.key c.descend-path.result c.unwrap.result c.args.mtr.now.pass.now q d
    (last_of_path c.last.result c.unwrap.result c.descend-path.result d.reached.front d.reached.leaf d.reached.ends c.last.ensures.last c.unwrap.ensures)
    (subst (λ (s : Sizes). IsSeated s q) same c.facts_of_session.ensures)
