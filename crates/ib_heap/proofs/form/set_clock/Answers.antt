-- One word is written.
use Rattle.std.proofs.Common.{ap, arith}
use Rattle.ib_heap.proofs.FormLaws.{header_read}
use Rattle.ib_heap.specs.Heap.{heap_of}
use Rattle.ib_heap.proofs.HeaderLaws.{clock-set}
use Rattle.ib_heap.proofs.form.set_clock.Goals as goal

pub bounds-words-5 : goal.bounds-words-5
bounds-words-5 c = let h = header_read c.args.words.now c.requires in omega arith

pub returns-clause-page : goal.returns-clause-page
returns-clause-page c = (clock-set c.args.words.now c.args.clock c.requires).page

pub returns-clause-heap : goal.returns-clause-heap
returns-clause-heap c = ap heap_of ((clock-set c.args.words.now c.args.clock c.requires).heap)
