use Rattle.std.proofs.Common.{◌≡◌, ◌*◌, ◌++◌, take, drop}
use Rattle.ib_map.specs.Writes.{write_words}
use Rattle.ib_logrec.proofs.encode.put_writes.Given as goal

abbrev pub invariant-loop-i : goal.invariant-loop-i
invariant-loop-i l = l.out ≡ write_words (take l.i l.writes) ++ drop (2 * l.i) l.initial.out
