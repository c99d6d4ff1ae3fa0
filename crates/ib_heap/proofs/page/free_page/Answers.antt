-- The words that are written are those of the free page.
use Rattle.ib_heap.proofs.FreeLaws.{free-words}
use Rattle.ib_heap.proofs.page.free_page.Goals as goal

pub returns : goal.returns
returns c = free-words c.args.clock
