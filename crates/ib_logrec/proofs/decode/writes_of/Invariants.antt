use Rattle.std.proofs.Common.{◌≡◌, ◌-◌, ◌*◌, ◌++◌, drop}
use Rattle.ib_logrec.specs.Words.{writes_in}
use Rattle.ib_logrec.proofs.decode.writes_of.Given as goal

abbrev pub invariant-loop-i : goal.invariant-loop-i
invariant-loop-i l = l.writes.items ++ writes_in (l.count - l.i) (drop (2 * l.i) l.words) ≡ writes_in l.count l.words
