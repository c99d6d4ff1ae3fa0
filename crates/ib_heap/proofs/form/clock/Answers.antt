-- The clock stands in the header.
use Rattle.std.proofs.Common.{arith}
use Rattle.ib_heap.proofs.FormLaws.{header_read}
use Rattle.ib_heap.proofs.form.clock.Goals as goal

pub bounds-words-5 : goal.bounds-words-5
bounds-words-5 c = let h = header_read c.args.words.now c.requires in omega arith

pub returns : goal.returns
returns c = (header_read c.args.words.now c.requires).clock
