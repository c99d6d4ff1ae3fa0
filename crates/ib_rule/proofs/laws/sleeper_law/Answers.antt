-- The law, clause by clause.
use Rattle.ib_layout.specs.Places.{latches_of}
use Rattle.ib_core.proofs.InWords.{sleeper_signalled, next_signalled, flag_stands}
use Rattle.ib_rule.specs.Rule.{marks_in}
use Rattle.ib_rule.specs.Laws.{sessions_in_state}
use Rattle.ib_rule.proofs.laws.sleeper_law.Goals as goal

pub returns-clause-sleepers : goal.returns-clause-sleepers
returns-clause-sleepers g c sizes s latch i a mode level kept at waits grantable = sleeper_signalled (marks_in (latches_of sizes) s.words) (sessions_in_state s) kept.latches.good latch i a mode level at waits grantable

pub returns-clause-next_writers : goal.returns-clause-next_writers
returns-clause-next_writers g c sizes s latch i a level kept at waits none = next_signalled (marks_in (latches_of sizes) s.words) (sessions_in_state s) kept.latches.good latch i a level at waits none

pub returns-clause-flag : goal.returns-clause-flag
returns-clause-flag g c sizes s latch i a mode level kept at waits = flag_stands (marks_in (latches_of sizes) s.words) (sessions_in_state s) kept.latches.good latch i a mode level at waits
