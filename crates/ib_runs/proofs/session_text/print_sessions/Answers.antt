use Rattle.std.proofs.Common.{ℕ, List, get_or, sym, subst, arith}
use Rattle.ib_runs.specs.Answers.{KeptAnswers, answers_of}
use Rattle.ib_text.specs.Output.{Telling, session_text_by}
use Rattle.ib_io.specs.Writer.{Puts}
use Rattle.ib_io.proofs.Writing.{puts_none, puts_on}
use Rattle.ib_runs.proofs.Printing.{sessions_from-more}
use Rattle.ib_runs.proofs.session_text.print_sessions.Goals as goal

pub loop-out-init : goal.loop-out-init
loop-out-init g c = record { puts = puts_none _; count = omega arith }

pub loop-out-preserved : goal.loop-out-preserved
loop-out-preserved g c =
    let t : Telling = record { line = g.T.ScanText.line; span = g.T.ScanText.span } in
    let outs : List KeptAnswers = c.args.sessions.now in
    let i : ℕ = c.loop-out.out-index in
    let item : KeptAnswers = c.out-item.result in
    let P : List ℕ → Type 0 = Puts g.K.Sink.written g.K.Sink.faults c.loop-out.writer c.print_session.new.writer in
    let told : P (session_text_by t c.loop-out.number (answers_of item)) = rw (c.parts.ensures.records, c.parts.ensures.chunks) at c.print_session.ensures.puts in
    let named = subst (λ (o : KeptAnswers). P (session_text_by t c.loop-out.number (answers_of o))) c.out-item.is told in
    let numbered = subst (λ (n : ℕ). P (session_text_by t n (answers_of (get_or outs i item)))) c.loop-out.invariant.count named in
    record {
      puts = subst (Puts g.K.Sink.written g.K.Sink.faults c.args.writer.now c.print_session.new.writer) (sym (sessions_from-more t 1 outs i item c.loop-out-test.true)) (puts_on c.loop-out.invariant.puts numbered);
      count = omega (arith, c.loop-out.invariant.count);
    }
