-- One word of the header is written.
use Rattle.std.proofs.Common.{ap, arith}
use Rattle.ib_heap.proofs.FormLaws.{formed-tree, header_read}
use Rattle.ib_heap.specs.Heap.{heap_of}
use Rattle.ib_heap.proofs.HeaderLaws.{level-set}
use Rattle.ib_heap.proofs.form.set_level.Goals as goal

pub bounds-words-1 : goal.bounds-words-1
bounds-words-1 c = let h = header_read c.args.words.now (formed-tree c.args.words.now c.requires.tree) in omega arith

pub returns-clause-page : goal.returns-clause-page
returns-clause-page c = (level-set c.args.words.now c.args.level c.requires.tree c.requires.low c.requires.prev c.requires.next).page

pub returns-clause-heap : goal.returns-clause-heap
returns-clause-heap c = ap heap_of ((level-set c.args.words.now c.args.level c.requires.tree c.requires.low c.requires.prev c.requires.next).heap)
