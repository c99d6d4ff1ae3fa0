-- The law of records beside a log of trees, clause by clause.
use Rattle.ib_tree.proofs.FitLaws.{FitsLog-longer, FitsLog-within, answers_longer, chunks_whole, FitsLog-whole}
use Rattle.ib_tree.proofs.laws.fits_law.Goals as goal

pub returns-clause-longer : goal.returns-clause-longer
returns-clause-longer c space log more session reach r fits = FitsLog-longer space log more session reach r fits

pub returns-clause-within : goal.returns-clause-within
returns-clause-within c space log session reach r fits = FitsLog-within space log session reach r fits

pub returns-clause-answers : goal.returns-clause-answers
returns-clause-answers c space log more session reach rs are = answers_longer space log more session reach rs are

pub returns-clause-chunks : goal.returns-clause-chunks
returns-clause-chunks c space log low high floor spans end content le whole = chunks_whole space log content high low floor spans end le whole

pub returns-clause-scan : goal.returns-clause-scan
returns-clause-scan c space log session reach low high floor spans end content le whole = FitsLog-whole space log content high session reach low floor spans end le whole
