use Rattle.std.proofs.Common.{subst, sym, ◌∙◌}
use Rattle.ib_map.specs.Chunks.{spans_of}
use Rattle.ib_io.specs.Writer.{Puts}
use Rattle.ib_io.proofs.Writing.{puts_none, puts_on}
use Rattle.ib_text.proofs.Records.{no_lines-text, session_lines-text}
use Rattle.ib_text.proofs.session_part.print_session.Goals as goal

pub returns-then-is_empty : goal.returns-then-is_empty
returns-then-is_empty g c = record {
  puts =
      rw (no_lines-text (record { line = g.T.ScanText.line; span = g.T.ScanText.span }) c.args.session c.args.records.now (spans_of c.args.chunks.now.list c.args.chunks.now.pairs) (sym c.is_empty.ensures ∙ c.if-is_empty.true))
      (puts_none _);
}

pub returns : goal.returns
returns g c = record {
  puts =
      subst (Puts g.K.Sink.written g.K.Sink.faults c.args.writer.now c.print_record_lines.new.writer)
      (session_lines-text (record { line = g.T.ScanText.line; span = g.T.ScanText.span }) c.args.session c.args.records.now (spans_of c.args.chunks.now.list c.args.chunks.now.pairs) (sym c.is_empty.ensures ∙ c.if-is_empty.false))
      (puts_on (puts_on (rw c.from.ensures at c.word_and_number.ensures.puts) c.byte.ensures.puts) c.print_record_lines.ensures.puts);
}
