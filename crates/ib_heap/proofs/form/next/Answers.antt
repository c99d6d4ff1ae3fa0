-- The next stands in the header.
use Rattle.std.proofs.Common.{arith}
use Rattle.ib_heap.proofs.FormLaws.{header_read}
use Rattle.ib_heap.proofs.form.next.Goals as goal

pub bounds-words-4 : goal.bounds-words-4
bounds-words-4 c = let h = header_read c.args.words.now c.requires in omega arith

pub overflow_cast-result : goal.overflow_cast-result
overflow_cast-result c = let h = header_read c.args.words.now c.requires in omega arith

pub returns : goal.returns
returns c = (header_read c.args.words.now c.requires).next
