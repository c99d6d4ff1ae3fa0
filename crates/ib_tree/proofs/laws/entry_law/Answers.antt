-- The law of the test of an entry, clause by clause.
use Rattle.std.proofs.Common.{arith}
use Rattle.ib_logrec.specs.Log.{by_place}
use Rattle.ib_tree.specs.TreeLog.{opening}
use Rattle.ib_tree.proofs.EntryLaws.{IsTreeEntry-passes, passes-IsTreeEntry}
use Rattle.ib_tree.proofs.ListLaws.{IsListed-touched}
use Rattle.ib_tree.proofs.LogLaws.{IsLawfulLog-push}
use Rattle.ib_tree.proofs.OpeningLaws.{opens, opens-empty, opens-kept}
use Rattle.ib_tree.proofs.laws.entry_law.Goals as goal

pub returns-clause-opening : goal.returns-clause-opening
returns-clause-opening c pages fits = opens-kept pages fits

pub returns-clause-sound : goal.returns-clause-sound
returns-clause-sound c pages front e good ps old table fits given passes =
    let r = IsTreeEntry-passes pages 1 (omega arith) (by_place opening pages) (opens pages fits) (opens-empty pages) front e good ps old given table passes in
    (r.0, IsLawfulLog-push pages 1 (by_place opening pages) front e given.lawful given.grammar given.legal r.0, r.1)

pub returns-clause-complete : goal.returns-clause-complete
returns-clause-complete c pages front e good ps old fits given entry =
    passes-IsTreeEntry pages 1 (omega arith) (by_place opening pages) (opens pages fits) (opens-empty pages) front e good ps old given entry

pub returns-clause-listed : goal.returns-clause-listed
returns-clause-listed c pages e rise = IsListed-touched pages e rise
