-- By the word of the top.
use Rattle.std.proofs.Common.{arith}
use Rattle.ib_heap.proofs.SeekLaws.{known}
use Rattle.ib_heap.proofs.directory.last_slot.Goals as goal

pub overflow_sub-result : goal.overflow_sub-result
overflow_sub-result g c = let k = known (g.W.PageWords.words c.args.page.now) c.requires.tree in let t = k.is.shape.top in let f = k.few in let e = c.word.ensures.word in omega arith

pub returns-clause-last : goal.returns-clause-last
returns-clause-last g c = let k = known (g.W.PageWords.words c.args.page.now) c.requires.tree in let t = k.is.shape.top in let f = k.few in let e = c.word.ensures.word in omega arith

pub returns-clause-few : goal.returns-clause-few
returns-clause-few g c = let k = known (g.W.PageWords.words c.args.page.now) c.requires.tree in let t = k.is.shape.top in let f = k.few in let s = k.slots in let e = c.word.ensures.word in omega arith

pub returns-clause-some : goal.returns-clause-some
returns-clause-some g c = let k = known (g.W.PageWords.words c.args.page.now) c.requires.tree in let t = k.is.shape.top in let f = k.few in let s = k.some in let e = c.word.ensures.word in omega arith
