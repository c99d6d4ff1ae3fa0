-- The laws of pair-kept logs, clause by clause.
use Rattle.ib_pair_law.proofs.ClockLaws.{clock-le, space_clock-le}
use Rattle.ib_pair_law.proofs.PushLaws.{IsPairLog-push, first-before, lawful-before, primary-before, second-before}
use Rattle.ib_pair_law.proofs.laws.pair_law.Goals as goal

pub returns-clause-memory : goal.returns-clause-memory
returns-clause-memory c pages log fits kept = lawful-before pages fits log kept

pub returns-clause-first : goal.returns-clause-first
returns-clause-first c pages log fits kept = first-before pages fits log kept

pub returns-clause-second : goal.returns-clause-second
returns-clause-second c pages log fits kept = second-before pages fits log kept

pub returns-clause-primary : goal.returns-clause-primary
returns-clause-primary c pages log kept = primary-before pages log kept

pub returns-clause-push : goal.returns-clause-push
returns-clause-push c pages log e fits kept grammar made numbered plan space = IsPairLog-push pages fits log kept e made plan grammar numbered space

pub returns-clause-clocks : goal.returns-clause-clocks
returns-clause-clocks c pages log page fits kept ne = clock-le pages fits log page ne kept

pub returns-clause-space_clock : goal.returns-clause-space_clock
returns-clause-space_clock c pages log fits kept = space_clock-le pages fits log kept
