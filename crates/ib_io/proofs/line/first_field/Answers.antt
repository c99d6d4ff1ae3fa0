use Rattle.ib_io.proofs.Cuts.{split-first, split-none}
use Rattle.ib_io.proofs.line.first_field.Goals as goal

pub returns-in-Some : goal.returns-in-Some
returns-in-Some c = split-first _ _ c.in-Some.end c.in-Some.ensures.0 c.in-Some.ensures.1

pub returns-in-None : goal.returns-in-None
returns-in-None c = split-none _ _ c.in-None.ensures
