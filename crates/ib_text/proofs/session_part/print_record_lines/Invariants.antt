use Rattle.std.proofs.Common.{◌≡◌, take}
use Rattle.std.specs.Prelude.{flat_map}
use Rattle.ib_map.specs.Chunks.{spans_of}
use Rattle.ib_map.specs.FullRecords.{full_records, total_chunks}
use Rattle.ib_text.specs.Output.{record_text_by}
use Rattle.ib_io.specs.Writer.{Puts}
use Rattle.ib_text.proofs.session_part.print_record_lines.Given as goal

abbrev pub invariant-loop-answered : goal.invariant-loop-answered
invariant-loop-answered g l =
    (l.next ≡ total_chunks (take l.answered-index l.records))
    × Puts g.K.Sink.written g.K.Sink.faults l.fn.writer l.writer (flat_map (record_text_by (record { line = g.T.ScanText.line; span = g.T.ScanText.span })) (full_records (take l.answered-index l.records) (spans_of l.chunks.list l.chunks.pairs)))
