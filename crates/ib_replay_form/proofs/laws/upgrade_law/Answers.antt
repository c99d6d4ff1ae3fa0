-- The words that are brought over are those of a kept log, and so of a lawful one.
use Rattle.std.proofs.Common.{ℕ, List, ap, subst}
use Rattle.ib_replay.specs.Files.{AreWords, file_of}
use Rattle.ib_replay.specs.OldLogs.{IsBroughtOver}
use Rattle.ib_replay.specs.RawLogs.{IsRawLog}
use Rattle.ib_replay_form.proofs.laws.upgrade_law.Goals as goal

raw : (input : List ℕ) (pages : ℕ) (words : List ℕ) → (is : IsBroughtOver input pages words) → IsRawLog (file_of pages words) pages is.upgraded.log
raw input pages words is = record {
  space = is.space;
  lawful = is.upgraded.planned.kept.lawful;
  fits = subst AreWords is.upgraded.words is.new_fits;
  file = ap (file_of pages) is.upgraded.words;
}

pub returns-clause-kept : goal.returns-clause-kept
returns-clause-kept c input pages words is = is.upgraded.planned.kept

pub returns-clause-file : goal.returns-clause-file
returns-clause-file c = raw

pub returns-clause-history : goal.returns-clause-history
returns-clause-history c input pages words is = is.upgraded.planned.history

pub returns-clause-replayed : goal.returns-clause-replayed
returns-clause-replayed c input pages words e is owed = c.log_law.ensures (file_of pages words) pages is.upgraded.log e (raw input pages words is) owed
