-- The count stands in the header.
use Rattle.std.proofs.Common.{arith}
use Rattle.ib_heap.proofs.FormLaws.{header_read}
use Rattle.ib_heap.proofs.form.count.Goals as goal

pub bounds-words-2 : goal.bounds-words-2
bounds-words-2 c = let h = header_read c.args.words.now c.requires in omega arith

pub returns-clause-count : goal.returns-clause-count
returns-clause-count c = (header_read c.args.words.now c.requires).count

pub returns-clause-few : goal.returns-clause-few
returns-clause-few c = let h = header_read c.args.words.now c.requires in omega arith

pub returns-clause-size : goal.returns-clause-size
returns-clause-size c = (header_read c.args.words.now c.requires).size
