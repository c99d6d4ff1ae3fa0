use Rattle.std.proofs.Common.{List, ℕ, drop}
use Rattle.ib_map.specs.Chunks.{spans_of}
use Rattle.ib_io.specs.Writer.{Puts}
use Rattle.ib_text.proofs.ChunkLines.{IsPrintedUpTo, spans_text}
use Rattle.ib_text.proofs.span_part.print_chunk_lines.Given as goal

abbrev pub invariant-loop-chunk : goal.invariant-loop-chunk
invariant-loop-chunk g l = (printed : List ℕ) × Puts g.K.Sink.written g.K.Sink.faults l.fn.writer l.writer printed × IsPrintedUpTo g.T.ScanText.span (spans_text g.T.ScanText.span (spans_of l.list l.pairs)) l.pairs printed l.first l.last (drop l.chunk-index l.rest)
