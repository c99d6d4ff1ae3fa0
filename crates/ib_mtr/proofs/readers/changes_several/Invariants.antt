-- Of the pages so far none is changed, or one alone.
use Rattle.ib_mtr.proofs.Asking.{AreWritten}
use Rattle.ib_mtr.proofs.readers.changes_several.Given as goal

abbrev pub invariant-loop-place : goal.invariant-loop-place
invariant-loop-place l = AreWritten l.found l.work l.place
