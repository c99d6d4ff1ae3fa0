-- The law, clause by clause.
use Rattle.std.proofs.Common.{arith}
use Rattle.std.proofs.lemmas.List.{length-replicate}
use mathlib.Core.Logic.{dite}
use native.Mathlib.Decide.{ℕ_discrete}
use Rattle.ib_core.specs.Sessions.{idle}
use Rattle.ib_core.specs.Machine.{marks_at, opening_state}
use Rattle.ib_core.proofs.InWords.{compatible, sx_owner_named, x_owner_named, next_writer_named, word_of_counts, event_kept, run_kept, opening_good}
use Rattle.ib_core.proofs.Totals.{readers_few}
use Rattle.ib_core.proofs.laws.core_law.Goals as goal

pub returns-clause-each : goal.returns-clause-each
returns-clause-each c state action few among good = event_kept state action few among good

pub returns-clause-runs : goal.returns-clause-runs
returns-clause-runs c sessions latches actions few among =
    run_kept (opening_state sessions latches) actions (let n = length-replicate sessions idle in omega arith) among (opening_good sessions latches)

pub returns-clause-readers : goal.returns-clause-readers
returns-clause-readers c state latch good = readers_few latch state.sessions good.proper

pub returns-clause-compatible : goal.returns-clause-compatible
returns-clause-compatible c state latch good = compatible (marks_at state.marks) state.sessions good latch

pub returns-clause-one_next_writer : goal.returns-clause-one_next_writer
returns-clause-one_next_writer c state latch i j a b good at bt next next' = dite (ℕ_discrete i j) (λ e. e)
    (λ n. absurd ((((compatible (marks_at state.marks) state.sessions good latch).beside i j a b at bt n).one_next next).2 next'))

pub returns-clause-sx_owner : goal.returns-clause-sx_owner
returns-clause-sx_owner c state latch i a good at has = sx_owner_named (marks_at state.marks) state.sessions good latch i a at has

pub returns-clause-x_owner : goal.returns-clause-x_owner
returns-clause-x_owner c state latch i a good at has = x_owner_named (marks_at state.marks) state.sessions good latch i a at has

pub returns-clause-next_writer : goal.returns-clause-next_writer
returns-clause-next_writer c state latch i a good at next = next_writer_named (marks_at state.marks) state.sessions good latch i a at next

pub returns-clause-counted : goal.returns-clause-counted
returns-clause-counted c state latch good = word_of_counts (marks_at state.marks) state.sessions latch good

pub returns-clause-orderly : goal.returns-clause-orderly
returns-clause-orderly c state i a good at = (good.proper i a at).orderly
