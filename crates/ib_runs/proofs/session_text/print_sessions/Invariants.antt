use Rattle.std.proofs.Common.{◌≡◌, ◌+◌, map, take}
use Rattle.ib_runs.specs.Answers.{answers_of}
use Rattle.ib_text.specs.Output.{sessions_from_by}
use Rattle.ib_io.specs.Writer.{Puts}
use Rattle.ib_runs.proofs.session_text.print_sessions.Given as goal

abbrev pub invariant-loop-out : goal.invariant-loop-out
invariant-loop-out g l = record {
  puts : Puts g.K.Sink.written g.K.Sink.faults l.fn.writer l.writer (sessions_from_by (record { line = g.T.ScanText.line; span = g.T.ScanText.span }) 1 (map answers_of (take l.out-index l.sessions)));
  count : l.number ≡ 1 + l.out-index;
}
