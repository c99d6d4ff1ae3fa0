-- So many pairs are written.
use Rattle.std.proofs.Common.{◌≡◌, ◌*◌, ◌++◌, take, drop}
use Rattle.ib_c.specs.Replays.{pairs_words}
use Rattle.ib_c.proofs.replay.put_all.Given as goal

abbrev pub invariant-loop-k : goal.invariant-loop-k
invariant-loop-k l = l.out ≡ pairs_words (take l.k l.pairs) ++ drop (3 * l.k) l.initial.out
