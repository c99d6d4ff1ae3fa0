-- The text of chunks, however they are told, while the last of what is read may still be joined with what follows.
use Rattle.std.proofs.Common.{◌≡◌, ◌∙◌, ℕ, ◌+◌, ◌-◌, ◌≤◌, List, [], ◌∷◌, ◌++◌, ◌≢◌, ap, sym, refl, arith, take, drop, length, append_assoc, append-nil}
use Rattle.std.proofs.Math.Seq.{take-add}
use Rattle.std.proofs.lemmas.List.{drop-drop}
use Rattle.std.specs.Prelude.{flat_map, slice_range}
use Rattle.std.proofs.lemmas.Bool.{eq-eqb, ne_eqb}
use Rattle.ib_map.specs.Pairs.{Pairs}
use Rattle.ib_map.specs.Replies.{Span}
use Rattle.ib_map.specs.Chunks.{AreAdjacent, span_of, spans_of}
use Rattle.ib_map.specs.declared.chunks.Chunk.{Chunk}
use Rattle.ib_map.proofs.ChunkLaws.{AreAdjacent-le}
use Rattle.ib_text.specs.Output.{joined_spans}
use Rattle.ib_text.specs.Spans.{AreNeighbours, span_between}
use Rattle.ib_text.proofs.JoinedSpans.{joined_spans-apart, joined_spans-together, span_with}

-- one chunk as all from itself to itself
span_between-one : (chunk : Chunk) (pairs : Pairs) → span_between chunk chunk pairs ≡ span_of pairs chunk
span_between-one chunk pairs =
    let len : (chunk.start + chunk.len) - chunk.start ≡ chunk.len = omega arith in
    rw len refl

-- the pairs up to a chunk, and the chunk's
slice_range-more : (pairs : Pairs) (from end len : ℕ) → from ≤ end → slice_range pairs from end ++ take len (drop end pairs) ≡ slice_range pairs from (end + len)
slice_range-more pairs from end len le =
    let both : (end + len) - from ≡ (end - from) + len = omega arith in
    let at : from + (end - from) ≡ end = omega arith in
    rw both (sym (take-add (end - from) len (drop from pairs) ∙ ap (λ rest. take (end - from) (drop from pairs) ++ take len rest) (drop-drop (end - from) from pairs ∙ ap (λ n. drop n pairs) at)))

span_between-more : (first last chunk : Chunk) (pairs : Pairs) → first.start ≤ last.start + last.len → chunk.start ≡ last.start + last.len
    → span_with (span_between first last pairs) (span_of pairs chunk) ≡ span_between first chunk pairs
span_between-more first last chunk pairs order at =
    ap (λ held. let span : Span = record { low = first.low; high = chunk.high; place = first.place; pairs = held } in span)
    (rw at (slice_range-more pairs first.start (last.start + last.len) chunk.len order))

module _ (told : Span → List ℕ) where
  abbrev pub spans_text : List Span → List ℕ
  spans_text spans = flat_map told (joined_spans spans)

  -- Of this text a front is printed; the chunks from first to last, which may be joined with the rest, and the rest are not.
  pub record IsPrintedUpTo (text : List ℕ) (pairs : Pairs) (printed : List ℕ) (first last : Chunk) (rest : List Chunk) : Type 0 where
    pub whole : printed ++ spans_text (span_between first last pairs ∷ spans_of rest pairs) ≡ text
    pub order : first.start ≤ last.start + last.len
    pub end : ℕ
    pub adjacent : AreAdjacent (last.start + last.len) rest end
    pub within : end ≤ length pairs

  pub within_pairs : (text : List ℕ) (pairs : Pairs) (printed : List ℕ) (first last : Chunk) (rest : List Chunk) → IsPrintedUpTo text pairs printed first last rest → last.start + last.len ≤ length pairs
  within_pairs text pairs printed first last rest is = omega (arith, AreAdjacent-le (last.start + last.len) rest is.end is.adjacent, is.within)

  -- nothing is printed
  pub printed_none : (chunk : Chunk) (rest : List Chunk) (pairs : Pairs) → AreNeighbours (chunk ∷ rest) pairs → IsPrintedUpTo (spans_text (spans_of (chunk ∷ rest) pairs)) pairs [] chunk chunk rest
  printed_none chunk rest pairs are = record {
    whole = rw (span_between-one chunk pairs) refl;
    order = omega arith;
    end = are.end;
    adjacent = rw are.adjacent.0 are.adjacent.1;
    within = are.within;
  }

  -- the next chunk is at the place of those that are open
  pub printed_together : (text : List ℕ) (pairs : Pairs) (printed : List ℕ) (first last chunk : Chunk) (rest : List Chunk)
      → IsPrintedUpTo text pairs printed first last (chunk ∷ rest) → chunk.place ≡ first.place → IsPrintedUpTo text pairs printed first chunk rest
  printed_together text pairs printed first last chunk rest is one = record {
    whole =
        ap (λ spans. printed ++ flat_map told spans)
        (ap (λ span. joined_spans (span ∷ spans_of rest pairs)) (sym (span_between-more first last chunk pairs is.order is.adjacent.0))
        ∙ sym (joined_spans-together (span_between first last pairs) (span_of pairs chunk) (spans_of rest pairs) (eq-eqb first.place chunk.place (sym one))))
        ∙ is.whole;
    order = omega arith;
    end = is.end;
    adjacent = rw is.adjacent.0 is.adjacent.1;
    within = is.within;
  }

  -- the next chunk is at another place: the open ones are printed
  pub printed_apart : (text : List ℕ) (pairs : Pairs) (printed : List ℕ) (first last chunk : Chunk) (rest : List Chunk)
      → IsPrintedUpTo text pairs printed first last (chunk ∷ rest) → chunk.place ≢ first.place
      → IsPrintedUpTo text pairs (printed ++ told (span_between first last pairs)) chunk chunk rest
  printed_apart text pairs printed first last chunk rest is apart = record {
    whole =
        ap (λ span. (printed ++ told (span_between first last pairs)) ++ spans_text (span ∷ spans_of rest pairs)) (span_between-one chunk pairs)
        ∙ append_assoc printed (told (span_between first last pairs)) (spans_text (span_of pairs chunk ∷ spans_of rest pairs))
        ∙ ap (λ spans. printed ++ flat_map told spans) (sym (joined_spans-apart (span_between first last pairs) (span_of pairs chunk) (spans_of rest pairs) (ne_eqb first.place chunk.place (λ one. apart (sym one)))))
        ∙ is.whole;
    order = omega arith;
    end = is.end;
    adjacent = rw is.adjacent.0 is.adjacent.1;
    within = is.within;
  }

  -- no chunk is left: the open ones are printed last
  pub printed_all : (text : List ℕ) (pairs : Pairs) (printed : List ℕ) (first last : Chunk) → IsPrintedUpTo text pairs printed first last [] → printed ++ told (span_between first last pairs) ≡ text
  printed_all text pairs printed first last is = ap (λ last_text. printed ++ last_text) (sym (append-nil (told (span_between first last pairs)))) ∙ is.whole
