use Rattle.std.proofs.Common.{◌≡◌, arith}
use Rattle.ib_page.specs.Image.{records_of}
use Rattle.ib_walk.specs.Search.{child_for}
use Rattle.ib_planned_change.proofs.DescentLaws.{routed-child}
use Rattle.ib_planned_change.proofs.descent.child_of.Goals as goal

pub overflow_cast-result : goal.overflow_cast-result
overflow_cast-result c =
    let is : c.route_to.result.1 ≡ child_for c.args.key 0 (records_of c.args.image.now) = routed-child c.args.key (records_of c.args.image.now) c.route_to.result c.requires.first c.route_to.ensures.record in
    let small = c.requires.small in omega arith

pub returns : goal.returns
returns c = routed-child c.args.key (records_of c.args.image.now) c.route_to.result c.requires.first c.route_to.ensures.record
