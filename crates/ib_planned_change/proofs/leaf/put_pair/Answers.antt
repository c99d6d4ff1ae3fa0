-- The pair is put in where it belongs, and nothing else moves.
use Rattle.std.proofs.Common.{◌≡◌, ◌∙◌}
use Rattle.ib_map.specs.Pairs.{index_of}
use Rattle.ib_heap.specs.Heap.{read_heap}
use Rattle.ib_heap.specs.Put.{put_in}
use Rattle.ib_page.specs.Image.{records_of}
use Rattle.ib_split.proofs.HalfLaws.{put-done}
use Rattle.ib_planned_change.proofs.leaf.put_pair.Goals as goal

pub returns-clause-heap : goal.returns-clause-heap
returns-clause-heap c =
    c.touch.ensures.heap ∙ put-done (read_heap c.insert.new.self ≡ put_in (index_of c.args.key (records_of c.args.image.now)) (read_heap c.args.image.now)) c.insert.result c.args.key (records_of c.args.image.now)
    c.requires.missing c.requires.room c.insert.ensures.duplicate c.insert.ensures.full c.insert.ensures.never_missing c.insert.ensures.heap
