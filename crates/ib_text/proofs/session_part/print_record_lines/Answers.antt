use Rattle.std.proofs.Common.{◌≡◌, ◌∙◌, ℕ, ◌+◌, ◌-◌, List, refl, arith, ap, subst, get_or, length, take}
use Rattle.ib_map.specs.Replies.{Span}
use Rattle.ib_map.specs.Chunks.{spans_of}
use Rattle.ib_map.specs.FullRecords.{chunk_count, total_chunks}
use Rattle.ib_map.specs.declared.call.Record.{Record}
use Rattle.ib_io.specs.Writer.{Puts}
use Rattle.ib_text.specs.Output.{Telling}
use Rattle.ib_text.proofs.Neighbours.{AreNeighbours-within, spans_of-within}
use Rattle.ib_text.proofs.Records.{records_text-more, total_chunks-more, total_chunks-within}
use Rattle.ib_io.proofs.Writing.{puts_none, puts_on}
use Rattle.ib_text.proofs.session_part.print_record_lines.Goals as goal

pub slice_bounds-print_chunk_lines-end : goal.slice_bounds-print_chunk_lines-end
slice_bounds-print_chunk_lines-end g c =
    let rs : List Record = c.args.records.now in
    let i : ℕ = c.loop-answered.answered-index in
    let item : Record = c.answered-item.result in
    let count : c.chunk_count.result ≡ chunk_count (get_or rs i item).reply = c.chunk_count.ensures ∙ ap (λ (r : Record). chunk_count r.reply) c.answered-item.is in
    omega (arith, total_chunks-within rs (i + 1), total_chunks-more rs i item c.loop-answered-test.true, count, c.loop-answered.invariant.0, c.requires, ap length c.list-list.ensures.list)

pub print_chunk_lines-requires : goal.print_chunk_lines-requires
print_chunk_lines-requires g c = rw (c.list-list.ensures.list, c.pairs.ensures.pairs) (AreNeighbours-within _ c.loop-answered.next c.args.chunks.now.list c.args.chunks.now.pairs c.list-list.ensures.adjacent)

pub loop-answered-init : goal.loop-answered-init
loop-answered-init g c = (refl, puts_none _)

pub loop-answered-preserved : goal.loop-answered-preserved
loop-answered-preserved g c =
    let rs : List Record = c.args.records.now in
    let i : ℕ = c.loop-answered.answered-index in
    let item : Record = c.answered-item.result in
    let n : ℕ = chunk_count (get_or rs i item).reply in
    let t : Telling = record { line = g.T.ScanText.line; span = g.T.ScanText.span } in
    let spans : List Span = spans_of c.args.chunks.now.list c.args.chunks.now.pairs in
    let count : c.chunk_count.result ≡ n = c.chunk_count.ensures ∙ ap (λ (r : Record). chunk_count r.reply) c.answered-item.is in
    let at : c.loop-answered.next ≡ total_chunks (take i rs) = c.loop-answered.invariant.0 in
    let len : (c.loop-answered.next + c.chunk_count.result) - c.loop-answered.next ≡ n = omega (arith, count) in
    let own = spans_of-within n (total_chunks (take i rs)) c.args.chunks.now.list c.args.chunks.now.pairs in
    let chunks = rw (c.list-list.ensures.list, c.pairs.ensures.pairs, len, at, own) at c.print_chunk_lines.ensures.puts in
    let line = subst (λ (r : Record). Puts g.K.Sink.written g.K.Sink.faults c.loop-answered.writer c.print_line.new.writer (g.T.ScanText.line r.call r.reply r.place)) c.answered-item.is c.print_line.ensures.puts in (
      omega (arith, total_chunks-more rs i item c.loop-answered-test.true, at, count),
      rw (records_text-more t rs i item spans c.loop-answered-test.true) (puts_on c.loop-answered.invariant.1 (puts_on line chunks)),
    )
