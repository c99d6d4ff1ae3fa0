-- The words copied so far stand in the list, which has room for the rest.
use Rattle.std.specs.Prelude.{◌≡◌, ◌≤◌, take, length, vec_capacity}
use Rattle.ib_rule.specs.Closed.{log_in}
use Rattle.ib_rule.proofs.space_words.SpaceWords.copy_log.Given as goal

abbrev pub invariant-loop-number : goal.invariant-loop-number
invariant-loop-number l = record {
  copied : l.log.items ≡ take l.number (log_in l.fn.self.sizes l.fn.self.words);
  room : length (log_in l.fn.self.sizes l.fn.self.words) ≤ vec_capacity l.log;
}
