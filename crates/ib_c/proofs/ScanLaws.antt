-- The chunks and pairs that a scan left are no more than there was room for.
use Rattle.std.proofs.Common.{◌≡◌, ◌∙◌, ℕ, ◌+◌, ◌≤◌, List, [], ◌∷◌, ◌++◌, length, Result, Ok, Err, inl, inr, sym, ap, subst, arith, length-drop}
use Rattle.std.proofs.lemmas.Bool.{cases_lt}
use Rattle.std.proofs.lemmas.List.{length-map, length-take-le}
use Rattle.std.proofs.lemmas.List.Sums.{sum_by-cons}
use Rattle.std.specs.Prelude.{drop}
use Rattle.ib_map.specs.Chunks.{HeldChunks, AreAdjacent, pairs_of, span_of, spans_of}
use Rattle.ib_map.specs.Keys.{MapKey, rank}
use Rattle.ib_map.specs.Pairs.{Pairs}
use Rattle.ib_map.specs.Replies.{Span, pair_count}
use Rattle.ib_map.specs.declared.call.Record.{Record}
use Rattle.ib_map.specs.declared.chunks.Chunk.{Chunk}
use Rattle.ib_map.proofs.ChunkLaws.{AreAdjacent-le}
use Rattle.ib_rule.specs.Pass.{PassState}
use Rattle.ib_rule.specs.Space.{SpaceState}
use Rattle.ib_scan.specs.Scanning.{Appends}
use Rattle.ib_scan_nowait.specs.declared.halt.Halt.{Halt}
use Rattle.ib_scan_nowait.specs.declared.halt.Halt.TheVariants.{NoRoom, Refused}
use Rattle.ib_c.specs.declared.status.Status.{Status}
use Rattle.ib_c.specs.declared.status.Status.TheVariants.{BadKey}
use Rattle.ib_c.specs.Scans.{AreShort, IsRefusedRoom, IsRefusedScan, IsScan}

-- the pairs of adjacent chunks are all those between their ends
pairs-counted : (start : ℕ) (list : List Chunk) (end : ℕ) (pairs : Pairs) → AreAdjacent start list end → end ≤ length pairs → start + pair_count (spans_of list pairs) ≡ end
pairs-counted start [] end pairs are le = omega (arith, are)
pairs-counted start (chunk ∷ list) end pairs are le =
    let rest = pairs-counted (start + chunk.len) list end pairs are.1 le in
    let within = AreAdjacent-le (start + chunk.len) list end are.1 in
    let at = are.0 in
    let long = length-drop chunk.start pairs in
    let one : length (pairs_of chunk pairs) ≡ chunk.len = length-take-le chunk.len (drop chunk.start pairs) (omega arith) in
    let all = sum_by-cons (λ (s : Span). length s.pairs) (span_of pairs chunk) (spans_of list pairs) in
    omega arith

-- what is left finds room
abbrev pub FindsRoom : HeldChunks → HeldChunks → Type 0
FindsRoom out new = (length new.list ≤ out.chunk_room) × (length new.pairs ≤ out.pair_room)

appended-fits : (out new : HeldChunks) (spans : List Span) → Appends out new spans → out.list ≡ [] → AreAdjacent 0 new.list (length new.pairs) → FindsRoom out new
appended-fits out new spans a none are =
    let same : spans_of new.list new.pairs ≡ spans = a.spans_are ∙ ap (λ (cs : List Chunk). spans_of cs out.pairs ++ spans) none in
    let some : length spans ≡ length new.list = ap length (sym same) ∙ length-map new.list (span_of new.pairs) in
    let counted = pairs-counted 0 new.list (length new.pairs) new.pairs are (omega arith) in
    let many : pair_count spans ≡ length new.pairs = ap pair_count (sym same) ∙ (omega arith) in
    let chunks = a.chunk_room in let pairs = a.pair_room in
    (omega arith, omega arith)

no_chunk-fits : (new : HeldChunks) → new.list ≡ [] → AreAdjacent 0 new.list (length new.pairs) → (length new.list ≡ 0) × (length new.pairs ≡ 0)
no_chunk-fits new none are =
    let here = subst (λ (cs : List Chunk). AreAdjacent 0 cs (length new.pairs)) none are in
    let empty = ap length none in
    (omega arith, omega (arith, here))

ascending-fits : (low high : MapKey) (space : SpaceState) (out : HeldChunks) (p : PassState) (r : Result Record Halt) (new : HeldChunks) (q : PassState) → rank low ≤ rank high → IsScan low high space out p r new q
    → out.list ≡ [] → AreAdjacent 0 new.list (length new.pairs) → FindsRoom out new
ascending-fits low high space out p (Ok answer) new q le is none are = let h = is.scanned le in appended-fits out new h.gone.spans h.gone.appends none are
ascending-fits low high space out p (Err (NoRoom next)) new q le is none are = let h = is.halted in appended-fits out new h.stopped.gone.spans h.stopped.gone.appends none are
ascending-fits low high space out p (Err (Refused next fault)) new q le is none are = let h = is.halted in appended-fits out new h.gone.spans h.gone.appends none are

pub scan-fits : (low high : MapKey) (space : SpaceState) (out : HeldChunks) (p : PassState) (r : Result Record Halt) (new : HeldChunks) (q : PassState) → IsScan low high space out p r new q
    → out.list ≡ [] → AreAdjacent 0 new.list (length new.pairs) → FindsRoom out new
scan-fits low high space out p r new q is none are =
    elim (cases_lt (rank high) (rank low)) [
      | inl lt ↦
          let empty = no_chunk-fits new (ap (λ (h : HeldChunks). h.list) (is.same_out lt) ∙ none) are in
          (omega (arith, empty.0), omega (arith, empty.1))
      | inr le ↦ ascending-fits low high space out p r new q le is none are
    ]

-- a room that was refused is so for keys that are short
pub room-refused : (low high : List ℕ) (room : HeldChunks) (space : SpaceState) (p : PassState) (s : Status) → AreShort low high → IsRefusedRoom room space p s → IsRefusedScan low high room space p s
room-refused low high room space p BadKey short h = absurd h
room-refused low high room space p s short h = (short, h)

-- a scan between the same keys, into the same room
pub same_scan : (low from high to : MapKey) (space : SpaceState) (out room : HeldChunks) (p : PassState) (r : Result Record Halt) (new : HeldChunks) (q : PassState) → low ≡ from → high ≡ to → out ≡ room → IsScan low high space out p r new q
    → IsScan from to space room p r new q
same_scan low from high to space out room p r new q a b e is =
    subst (λ (h : HeldChunks). IsScan from to space h p r new q) e (subst (λ (k : MapKey). IsScan from k space out p r new q) b (subst (λ (k : MapKey). IsScan k high space out p r new q) a is))
