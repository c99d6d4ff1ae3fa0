-- The records around the place of the key's child.
use Rattle.std.proofs.Common.{arith}
use Rattle.ib_page.specs.Image.{records_of}
use Rattle.ib_merge.proofs.ImageLaws.{records-few}
use Rattle.ib_merge.proofs.BesideLaws.{siblings-at}
use Rattle.ib_merge.proofs.choose.records_beside.Goals as goal

pub overflow_add-place : goal.overflow_add-place
overflow_add-place c = let few = records-few c.args.image.now c.requires.tree in let lt = c.route-place.ensures.in_range in omega arith

pub returns : goal.returns
returns c =
    siblings-at c.args.key (records_of c.args.image.now) c.route-place.result c.record_before.result c.record_at.result c.record_if.result
    c.route-place.ensures.index c.requires.first c.record_before.ensures.none c.record_before.ensures.some c.record_at.ensures c.record_if.ensures
