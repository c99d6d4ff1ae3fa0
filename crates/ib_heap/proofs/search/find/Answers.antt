-- The words of a page are read where they lie.
use Rattle.ib_heap.proofs.SeekLaws.{size-of}
use Rattle.ib_heap.proofs.search.find.Goals as goal

pub find_in-requires : goal.find_in-requires
find_in-requires c = record { can = size-of c.args.words.now c.requires; tree = c.requires }
