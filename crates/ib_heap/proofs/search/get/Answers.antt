-- The words of a page are read where they lie.
use Rattle.ib_heap.proofs.SeekLaws.{size-of}
use Rattle.ib_heap.proofs.search.get.Goals as goal

pub get_in-requires-clause-can : goal.get_in-requires-clause-can
get_in-requires-clause-can c = size-of c.args.words.now c.requires
