-- The words of a page are read where they lie.
use Rattle.ib_heap.proofs.SeekLaws.{size-of}
use Rattle.ib_heap.proofs.insert.locate.Goals as goal

pub seek-requires : goal.seek-requires
seek-requires c = record { can = size-of c.args.words.now c.requires; tree = c.requires }
