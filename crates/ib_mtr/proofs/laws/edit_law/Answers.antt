use Rattle.ib_mtr.proofs.Looking.{edited_mtr}
use Rattle.ib_mtr.proofs.laws.edit_law.Goals as goal

pub returns : goal.returns
returns c = edited_mtr
