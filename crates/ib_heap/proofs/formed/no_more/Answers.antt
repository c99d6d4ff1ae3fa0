-- One more word of the directory.
use Rattle.std.proofs.Common.{arith, ◌∙◌, sym}
use Rattle.ib_heap.proofs.FormedLoops.{zero-step}
use Rattle.ib_heap.proofs.formed.no_more.Goals as goal

pub loop-j-preserved : goal.loop-j-preserved
loop-j-preserved c = let t = c.loop-j-test.true in sym (zero-step c.args.words.now c.loop-j.j (omega arith) (let f = c.if-words-j-ne0.false in omega arith)) ∙ c.loop-j.invariant
