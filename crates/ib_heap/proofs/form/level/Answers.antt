-- The level stands in the header.
use Rattle.std.proofs.Common.{arith}
use Rattle.ib_heap.proofs.FormLaws.{header_read}
use Rattle.ib_heap.proofs.form.level.Goals as goal

pub bounds-words-1 : goal.bounds-words-1
bounds-words-1 c = let h = header_read c.args.words.now c.requires in omega arith

pub overflow_cast-result : goal.overflow_cast-result
overflow_cast-result c = let h = header_read c.args.words.now c.requires in omega arith

pub returns-clause-level : goal.returns-clause-level
returns-clause-level c = (header_read c.args.words.now c.requires).level

pub returns-clause-low : goal.returns-clause-low
returns-clause-low c = let h = header_read c.args.words.now c.requires in omega arith
