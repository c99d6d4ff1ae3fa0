-- The words of a page are read where they lie.
use Rattle.ib_heap.proofs.SeekLaws.{size-of}
use Rattle.ib_heap.proofs.search.route_to.Goals as goal

pub route_word-offset-requires-clause-page : goal.route_word-offset-requires-clause-page
route_word-offset-requires-clause-page c = record { can = size-of c.args.words.now c.requires.tree; tree = c.requires.tree }
