-- The words read so far are those of the log from the place on.
use Rattle.std.proofs.Common.{◌≡◌, length, take, drop}
use Rattle.ib_logrec.specs.declared.entry.TheConstants.{HEAD_WORDS}
use Rattle.ib_rule.specs.Closed.{log_in}
use Rattle.ib_runs.proofs.ran.head_at.Given as goal

abbrev pub invariant-loop-i : goal.invariant-loop-i
invariant-loop-i l = record {
  made : take l.i l.words ≡ take l.i (drop l.place (log_in l.closed.sizes l.closed.words));
  whole : length l.words ≡ HEAD_WORDS;
}
