-- Counts are told by their word.
use Rattle.ib_word.proofs.Equation.{counts_unique}
use Rattle.ib_word.proofs.word.word_law.Goals as goal

pub returns-clause-unique : goal.returns-clause-unique
returns-clause-unique c s sx x s' sx' x' within within' same = counts_unique s sx x s' sx' x' within within' same
