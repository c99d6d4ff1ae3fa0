-- The law of grants, clause by clause.
use Rattle.std.proofs.Common.{◌≡◌, ℕ, sym, ap, ◌∙◌, subst}
use Rattle.ib_levels.specs.declared.level.Mode.TheVariants.{S, Sx, X}
use Rattle.ib_core.specs.declared.event.Event.{Event}
use Rattle.ib_core.specs.declared.session.Session.{Session}
use Rattle.ib_core.specs.Sessions.{Stands, idle, word_on}
use Rattle.ib_core.specs.Holders.{IsTaken}
use Rattle.ib_core.specs.Takings.{wish}
use Rattle.ib_core.specs.Responses.{latch_of}
use Rattle.ib_core.specs.Table.{response_of}
use Rattle.ib_core.specs.Machine.{CoreState, marks_at, outcome_of}
use Rattle.ib_core.proofs.Steps.{value_at}
use Rattle.ib_core.proofs.Wished.{given_as_grantable, wish_given, wish_refused, sx_never_busy, x_never_busy}
use Rattle.ib_core.proofs.laws.grant_law.Goals as goal

-- the answer of the state is that of the session that stands there
answer_of : (state : CoreState) (i : ℕ) (a : Session) (e : Event) → Stands state.sessions i a
    → (outcome_of state i e).answer ≡ (response_of (word_on (latch_of e) state.sessions) (marks_at state.marks (latch_of e)) e a).answer
answer_of state i a e at = ap (λ (a : Session). (response_of (word_on (latch_of e) state.sessions) (marks_at state.marks (latch_of e)) e a).answer) (value_at state.sessions i a idle at)

pub returns-clause-word : goal.returns-clause-word
returns-clause-word c state latch mode good few = given_as_grantable (marks_at state.marks) state.sessions good latch few mode

pub returns-clause-given : goal.returns-clause-given
returns-clause-given c state latch i S level a good few at can grantable = subst IsTaken (sym (answer_of state i a (wish S latch level) at)) (wish_given (marks_at state.marks) state.sessions good latch i a at level few S can grantable)
returns-clause-given c state latch i Sx level a good few at can grantable = subst IsTaken (sym (answer_of state i a (wish Sx latch level) at)) (wish_given (marks_at state.marks) state.sessions good latch i a at level few Sx can grantable)
returns-clause-given c state latch i X level a good few at can grantable = subst IsTaken (sym (answer_of state i a (wish X latch level) at)) (wish_given (marks_at state.marks) state.sessions good latch i a at level few X can grantable)

pub returns-clause-busy : goal.returns-clause-busy
returns-clause-busy c state latch i S level a good at can not_so = answer_of state i a (wish S latch level) at ∙ wish_refused (marks_at state.marks) state.sessions good latch i a at level S can not_so
returns-clause-busy c state latch i Sx level a good at can not_so = answer_of state i a (wish Sx latch level) at ∙ wish_refused (marks_at state.marks) state.sessions good latch i a at level Sx can not_so
returns-clause-busy c state latch i X level a good at can not_so = answer_of state i a (wish X latch level) at ∙ wish_refused (marks_at state.marks) state.sessions good latch i a at level X can not_so

pub returns-clause-further_sx : goal.returns-clause-further_sx
returns-clause-further_sx c state latch i level a good at free owns = answer_of state i a (wish Sx latch level) at ∙ sx_never_busy (marks_at state.marks) state.sessions good latch i a at level free owns

pub returns-clause-further_x : goal.returns-clause-further_x
returns-clause-further_x c state latch i level a good few at free owns = subst IsTaken (sym (answer_of state i a (wish X latch level) at)) (x_never_busy (marks_at state.marks) state.sessions good latch i a at level few free owns)
