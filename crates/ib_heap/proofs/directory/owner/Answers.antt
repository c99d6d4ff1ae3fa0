-- By the word of the directory.
use Rattle.std.proofs.Common.{arith}
use Rattle.ib_heap.proofs.SeekLaws.{known, owner-is}
use Rattle.ib_heap.proofs.directory.owner.Goals as goal

pub overflow_add-slot : goal.overflow_add-slot
overflow_add-slot g c = let k = known (g.W.PageWords.words c.args.page.now) c.requires.page.tree in let s = k.slots in let r = c.requires.in_range in omega arith

pub word-requires-clause-index : goal.word-requires-clause-index
word-requires-clause-index g c = let k = known (g.W.PageWords.words c.args.page.now) c.requires.page.tree in let s = k.slots in let r = c.requires.in_range in let z = k.size in omega arith

pub returns-clause-offset : goal.returns-clause-offset
returns-clause-offset g c = let k = known (g.W.PageWords.words c.args.page.now) c.requires.page.tree in rw c.word.ensures.word (owner-is _ c.args.slot k c.requires.in_range).at

pub returns-clause-low : goal.returns-clause-low
returns-clause-low g c = let k = known (g.W.PageWords.words c.args.page.now) c.requires.page.tree in rw c.word.ensures.word (owner-is _ c.args.slot k c.requires.in_range).low

pub returns-clause-high : goal.returns-clause-high
returns-clause-high g c = let k = known (g.W.PageWords.words c.args.page.now) c.requires.page.tree in rw c.word.ensures.word (owner-is _ c.args.slot k c.requires.in_range).high

pub returns-clause-is_record : goal.returns-clause-is_record
returns-clause-is_record g c = let k = known (g.W.PageWords.words c.args.page.now) c.requires.page.tree in rw c.word.ensures.word (owner-is _ c.args.slot k c.requires.in_range).is_record

pub returns-clause-keyed : goal.returns-clause-keyed
returns-clause-keyed g c = let k = known (g.W.PageWords.words c.args.page.now) c.requires.page.tree in rw c.word.ensures.word (owner-is _ c.args.slot k c.requires.in_range).keyed
