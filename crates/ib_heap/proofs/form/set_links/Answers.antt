-- Two words of the header are written.
use Rattle.std.proofs.Common.{ap, arith}
use Rattle.std.proofs.lemmas.List.{length-set}
use Rattle.ib_heap.proofs.FormLaws.{formed-tree, header_read}
use Rattle.ib_heap.specs.Heap.{heap_of}
use Rattle.ib_heap.proofs.HeaderLaws.{links-set}
use Rattle.ib_heap.proofs.form.set_links.Goals as goal

pub bounds-words-3 : goal.bounds-words-3
bounds-words-3 c = let h = header_read c.args.words.now (formed-tree c.args.words.now c.requires.tree) in omega arith

pub bounds-words-4 : goal.bounds-words-4
bounds-words-4 c = let h = header_read c.args.words.now (formed-tree c.args.words.now c.requires.tree) in simp length-set (omega arith)

pub returns-clause-page : goal.returns-clause-page
returns-clause-page c = (links-set c.args.words.now c.args.prev c.args.next c.requires.tree c.ranges.prev.fits c.ranges.next.fits c.requires.prev c.requires.next).page

pub returns-clause-heap : goal.returns-clause-heap
returns-clause-heap c = ap heap_of ((links-set c.args.words.now c.args.prev c.args.next c.requires.tree c.ranges.prev.fits c.ranges.next.fits c.requires.prev c.requires.next).heap)
