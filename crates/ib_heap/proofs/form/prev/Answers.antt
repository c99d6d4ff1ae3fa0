-- The prev stands in the header.
use Rattle.std.proofs.Common.{arith}
use Rattle.ib_heap.proofs.FormLaws.{header_read}
use Rattle.ib_heap.proofs.form.prev.Goals as goal

pub bounds-words-3 : goal.bounds-words-3
bounds-words-3 c = let h = header_read c.args.words.now c.requires in omega arith

pub overflow_cast-result : goal.overflow_cast-result
overflow_cast-result c = let h = header_read c.args.words.now c.requires in omega arith

pub returns : goal.returns
returns c = (header_read c.args.words.now c.requires).prev
