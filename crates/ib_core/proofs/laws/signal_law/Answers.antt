-- The law of signals, clause by clause.
use Rattle.ib_core.specs.Machine.{marks_at}
use Rattle.ib_core.proofs.InWords.{sleeper_signalled, next_signalled, flag_stands}
use Rattle.ib_core.proofs.laws.signal_law.Goals as goal

pub returns-clause-sleepers : goal.returns-clause-sleepers
returns-clause-sleepers c state latch i a mode level good at waits grantable = sleeper_signalled (marks_at state.marks) state.sessions good latch i a mode level at waits grantable

pub returns-clause-next_writers : goal.returns-clause-next_writers
returns-clause-next_writers c state latch i a level good at waits none = next_signalled (marks_at state.marks) state.sessions good latch i a level at waits none

pub returns-clause-flag : goal.returns-clause-flag
returns-clause-flag c state latch i a mode level good at waits = flag_stands (marks_at state.marks) state.sessions good latch i a mode level at waits
