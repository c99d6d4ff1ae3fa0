use Rattle.std.proofs.Common.{◌≡◌, ℕ, ◌+◌, ◌<◌}
use Rattle.std.specs.Prelude.{slice_index}
use Rattle.ib_rule.specs.Closed.{log_in}
use Rattle.ib_c.proofs.log_words.copy.Given as goal

abbrev pub invariant-loop-k : goal.invariant-loop-k
invariant-loop-k l = (j : ℕ) → j < l.k → slice_index l.out j ≡ slice_index (log_in l.words.sizes l.words.words) (l.first + j)
