-- The law of the form.
use Rattle.ib_heap.proofs.EmptyLaws.{form_law}
use Rattle.ib_heap.proofs.laws.heap_law.Goals as goal

pub returns : goal.returns
returns c = form_law
