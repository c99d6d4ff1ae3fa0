use Rattle.std.proofs.Common.{arith}
use Rattle.ib_tree.specs.declared.whole.TheConstants.{MOST_LISTED}
use Rattle.ib_tree.proofs.WholeTestLaws.{marks_of-all, positions_of-none}
use Rattle.ib_tree.proofs.whole.check_tree.Goals as goal

pub check_with-requires-clause-unmet_before : goal.check_with-requires-clause-unmet_before
check_with-requires-clause-unmet_before c page = positions_of-none MOST_LISTED page

pub check_with-requires-clause-unmet : goal.check_with-requires-clause-unmet
check_with-requires-clause-unmet c page = positions_of-none MOST_LISTED page

pub check_with-requires-clause-marked : goal.check_with-requires-clause-marked
check_with-requires-clause-marked c page lt = marks_of-all MOST_LISTED page (omega arith)
