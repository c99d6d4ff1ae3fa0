-- The law of words, clause by clause.
use Rattle.ib_core.specs.Turns.{word_for}
use Rattle.std.proofs.Common.{arith}
use Rattle.ib_core.proofs.Left.{left_tells, reads_leave, flag_leaves, clear_leaves, raise_leaves, ex_raise_leaves}
use Rattle.ib_core.proofs.turn_laws.leaves_law.Goals as goal

pub returns-clause-leaves : goal.returns-clause-leaves
returns-clause-leaves c event n n' w w' m a proper tells leaves moves = left_tells event n n' w w' m a proper tells leaves moves

pub returns-clause-loads : goal.returns-clause-loads
returns-clause-loads c event n a off is small = reads_leave (word_for event a) event a n off is small

pub returns-clause-flags : goal.returns-clause-flags
returns-clause-flags c latch n g mode level a is = flag_leaves latch n g mode level a is

pub returns-clause-clears : goal.returns-clause-clears
returns-clause-clears c latch n a is = clear_leaves latch n a is

pub returns-clause-raises : goal.returns-clause-raises
returns-clause-raises c latch n a is = raise_leaves latch n a is

pub returns-clause-ex_raises : goal.returns-clause-ex_raises
returns-clause-ex_raises c latch n a is = ex_raise_leaves latch n a is

pub returns-clause-takes : goal.returns-clause-takes
returns-clause-takes c event n weight a fits more = omega arith

pub returns-clause-gives : goal.returns-clause-gives
returns-clause-gives c event n weight a less = omega arith
