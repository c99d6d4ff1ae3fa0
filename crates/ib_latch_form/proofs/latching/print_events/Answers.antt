use Rattle.std.proofs.Common.{◌≡◌, ◌∙◌, ℕ, ◌-◌, List, ap, sym, subst, arith, take}
use Rattle.std.specs.Prelude.{fold, slice_index_or}
use Rattle.std.proofs.lemmas.List.Sums.{fold_more}
use Rattle.ib_core.specs.Machine.{CoreState, outcome_of}
use Rattle.ib_core.specs.Sessions.{word_on}
use Rattle.ib_core.specs.Responses.{latch_of}
use Rattle.ib_core.specs.declared.event.Event.{Event}
use Rattle.ib_core.specs.declared.event.Event.TheVariants.{S}
use Rattle.ib_levels.specs.declared.level.Level.TheVariants.{Log}
use Rattle.ib_latch_form.specs.EventText.{event_line}
use Rattle.ib_io.specs.Writer.{Puts}
use Rattle.ib_io.proofs.Writing.{puts_on}
use Rattle.ib_latch_form.proofs.EventLines.{line_of, lines_from-more, state_with}
use Rattle.ib_latch_form.proofs.latching.print_events.Goals as goal

pub loop-session-preserved : goal.loop-session-preserved
loop-session-preserved g c =
    let i : ℕ = c.loop-session.session-index in
    let events : List (ℕ × Event) = c.args.events.now in
    let none : ℕ × Event = (0, S 0 Log) in
    let at : ℕ × Event = slice_index_or events i none in
    let start : CoreState = c.args.core.now.state in
    let state : CoreState = c.loop-session.core.state in
    let new : c.step-answer.new.self.state ≡ state_with state at = ap (λ o. o.state) c.step-answer.ensures.event in
    let answer : c.step-answer.result ≡ (outcome_of state (at.0 - 1) at.1).answer = ap (λ o. o.answer) c.step-answer.ensures.event in
    let word : c.word-word.result.0 ≡ word_on (latch_of at.1) (state_with state at).sessions =
    c.word-word.ensures ∙ ap (λ l. word_on l c.step-answer.new.self.state.sessions) c.latch.ensures ∙ ap (λ s. word_on (latch_of at.1) s.sessions) new in
    let line : event_line at.0 at.1 c.step-answer.result c.word-word.result.0 ≡ line_of (fold state_with start (take i events)) at =
    ap (λ a. event_line at.0 at.1 a c.word-word.result.0) answer ∙ ap (event_line at.0 at.1 (outcome_of state (at.0 - 1) at.1).answer) word ∙ ap (λ s. line_of s at) c.loop-session.invariant.state in
    record {
      puts = subst (Puts g.K.Sink.written g.K.Sink.faults c.args.writer.now c.print_event_line.new.writer) (sym (lines_from-more start events i none c.loop-session-test.true))
          (puts_on c.loop-session.invariant.puts (subst (Puts g.K.Sink.written g.K.Sink.faults c.loop-session.writer c.print_event_line.new.writer) line c.print_event_line.ensures.puts));
      state = new ∙ ap (λ s. state_with s at) c.loop-session.invariant.state ∙ sym (fold_more state_with start events i none c.loop-session-test.true);
      steps = omega (arith, c.step-answer.ensures.steps, c.loop-session.invariant.steps);
      sessions = c.step-answer.ensures.sessions ∙ c.loop-session.invariant.sessions;
      latches = c.step-answer.ensures.latches ∙ c.loop-session.invariant.latches;
    }
