use Rattle.std.proofs.Common.{◌≡◌, ◌∙◌, ℕ, ◌+◌, List, ◌∷◌, [], ◌++◌, ap, sym, arith, flat_map, drop, add-one, length, refl}
use Rattle.std.proofs.Math.Seq.{drop-cons}
use Rattle.std.proofs.lemmas.List.{drop_all}
use Rattle.ib_map.specs.Chunks.{spans_of}
use Rattle.ib_map.specs.Pairs.{Pairs}
use Rattle.ib_map.specs.Replies.{Span}
use Rattle.ib_map.specs.declared.chunks.Chunk.{Chunk}
use Rattle.ib_text.specs.Output.{joined_spans}
use Rattle.ib_text.specs.Spans.{span_between}
use Rattle.ib_text.proofs.ChunkLines.{printed_none, printed_together, printed_apart, printed_all, within_pairs}
use Rattle.ib_io.proofs.Writing.{puts_on, puts_none}
use Rattle.ib_text.proofs.span_part.print_chunk_lines.Goals as goal
use Rattle.ib_text.proofs.span_part.print_chunk_lines.Goals.{then-chunk-first, else-chunk-first}

no-chunks : (told : Span → List ℕ) (list : List Chunk) (pairs : Pairs) → length list ≡ 0 → flat_map told (joined_spans (spans_of list pairs)) ≡ []
no-chunks told [] pairs none = refl
no-chunks told (chunk ∷ list) pairs none = absurd (omega arith)

pub returns-in_default : goal.returns-in_default
returns-in_default g c = record { puts = rw (no-chunks g.T.ScanText.span c.args.list.now c.args.pairs.now c.in_default.ensures.cases) (puts_none _) }

pub loop-chunk-init : goal.loop-chunk-init
loop-chunk-init g c =
    let list = c.in-Some.ensures.cases.0 in
    ([], puts_none _, rw list (printed_none g.T.ScanText.span c.in-Some.chunk.now c.in-Some.rest.now c.args.pairs.now (rw list at c.requires)))

pub print_span-requires-clause-within : goal.print_span-requires-clause-within
print_span-requires-clause-within g c = within_pairs g.T.ScanText.span _ _ _ _ _ _ c.loop-chunk.invariant.2

pub loop-chunk-preserved : goal.loop-chunk-preserved
loop-chunk-preserved g c =
    let inv = c.loop-chunk.invariant in
    let chunk : Chunk = c.chunk-item.result in
    let behind : List Chunk = drop (c.loop-chunk.chunk-index + 1) c.in-Some.rest.now in
    let split : drop c.loop-chunk.chunk-index c.in-Some.rest.now ≡ chunk ∷ behind =
    (rw add-one (drop-cons c.in-Some.rest.now c.loop-chunk.chunk-index chunk c.loop-chunk-test.true)) ∙ ap (λ (it : Chunk). it ∷ behind) (sym c.chunk-item.is) in
    let is = rw split at inv.2 in
    elim c.if-chunk-first.branch [
      | then-chunk-first w ↦ (
        inv.0 ++ g.T.ScanText.span (span_between c.loop-chunk.first c.loop-chunk.last c.args.pairs.now),
        rw w.writer-is (puts_on {y = g.T.ScanText.span (span_between c.loop-chunk.first c.loop-chunk.last c.args.pairs.now)} inv.1 w.print_span.ensures.puts),
        rw w.first-is (printed_apart g.T.ScanText.span _ _ inv.0 c.loop-chunk.first c.loop-chunk.last chunk _ is w.if-chunk-first.true),
      )
      | else-chunk-first w ↦ (inv.0, rw w.writer-is inv.1, rw w.first-is (printed_together g.T.ScanText.span _ _ inv.0 c.loop-chunk.first c.loop-chunk.last chunk _ is w.if-chunk-first.false))
    ]

pub print_span-requires-2-clause-within : goal.print_span-requires-2-clause-within
print_span-requires-2-clause-within g c = within_pairs g.T.ScanText.span _ _ _ _ _ _ c.loop-chunk.invariant.2

pub returns : goal.returns
returns g c =
    let inv = c.loop-chunk.invariant in
    let is = rw (drop_all c.loop-chunk.chunk-index c.in-Some.rest.now c.loop-chunk-test.false) at inv.2 in
    record { puts = rw (← printed_all g.T.ScanText.span _ _ inv.0 c.loop-chunk.first c.loop-chunk.last is) (puts_on {y = g.T.ScanText.span (span_between c.loop-chunk.first c.loop-chunk.last c.args.pairs.now)} inv.1 c.print_span-2.ensures.puts) }
