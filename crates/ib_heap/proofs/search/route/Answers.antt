-- The key's own record, or the last one before its index.
use Rattle.ib_heap.specs.Image.{records_of}
use Rattle.ib_heap.proofs.SeekLaws.{records_ascend}
use Rattle.ib_heap.proofs.RouteLaws.{routed-found, routed-absent, index-positive}
use Rattle.ib_heap.proofs.search.route.Goals as goal

pub overflow_sub-result : goal.overflow_sub-result
overflow_sub-result c = index-positive c.args.key (records_of c.args.words.now) c.in-Err.index (records_ascend c.args.words.now c.requires.tree) c.in-Err.ensures.index c.in-Err.ensures.absent c.requires.first

pub returns-in-Ok : goal.returns-in-Ok
returns-in-Ok c =
    let r = routed-found c.args.key (records_of c.args.words.now) c.in-Ok.index (records_ascend c.args.words.now c.requires.tree) c.in-Ok.ensures.index c.in-Ok.ensures.found in
    record { index = r.index; in_range = r.in_range; not_above = r.not_above; next_above = r.next_above }

pub returns-in-Err : goal.returns-in-Err
returns-in-Err c =
    let r = routed-absent c.args.key (records_of c.args.words.now) c.in-Err.index (records_ascend c.args.words.now c.requires.tree) c.in-Err.ensures.index c.in-Err.ensures.absent c.requires.first in
    record { index = r.index; in_range = r.in_range; not_above = r.not_above; next_above = r.next_above }
