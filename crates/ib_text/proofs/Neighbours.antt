-- Some of the chunks that stand one behind another.
use Rattle.std.proofs.Common.{◌≡◌, ◌∙◌, ℕ, zero, suc, ◌+◌, ◌≤◌, List, [], ◌∷◌, ap, sym, refl, arith, take, drop, length}
use Rattle.std.proofs.lemmas.List.{take-map, drop-map}
use Rattle.ib_map.specs.Pairs.{Pairs}
use Rattle.ib_map.specs.Chunks.{AreAdjacent, span_of, spans_of}
use Rattle.ib_map.specs.declared.chunks.Chunk.{Chunk}
use Rattle.ib_map.proofs.ChunkLaws.{AreAdjacent-le}
use Rattle.ib_text.specs.Spans.{AreNeighbours}

AreAdjacent-drop : (n start end : ℕ) (list : List Chunk) → AreAdjacent start list end → (middle : ℕ) × AreAdjacent middle (drop n list) end
AreAdjacent-drop zero start end list are = (start, are)
AreAdjacent-drop (suc n) start end [] are = (start, are)
AreAdjacent-drop (suc n) start end (chunk ∷ list) are = AreAdjacent-drop n (start + chunk.len) end list are.1

AreAdjacent-take : (n start end : ℕ) (list : List Chunk) → AreAdjacent start list end → (middle : ℕ) × AreAdjacent start (take n list) middle × (middle ≤ end)
AreAdjacent-take zero start end list are = (start, refl, AreAdjacent-le start list end are)
AreAdjacent-take (suc n) start end [] are = (end, are, omega arith)
AreAdjacent-take (suc n) start end (chunk ∷ list) are =
    let rest = AreAdjacent-take n (start + chunk.len) end list are.1 in
    (rest.0, (are.0, rest.1), rest.2)

-- n chunks behind the first m
pub AreNeighbours-within : (n m : ℕ) (list : List Chunk) (pairs : Pairs) → AreAdjacent 0 list (length pairs) → AreNeighbours (take n (drop m list)) pairs
AreNeighbours-within n m list pairs are =
    let rest = AreAdjacent-drop m 0 (length pairs) list are in
    let front = AreAdjacent-take n rest.0 (length pairs) (drop m list) rest.1 in
    record { start = rest.0; end = front.0; adjacent = front.1; within = front.2 }

pub spans_of-within : (n m : ℕ) (list : List Chunk) (pairs : Pairs) → spans_of (take n (drop m list)) pairs ≡ take n (drop m (spans_of list pairs))
spans_of-within n m list pairs = sym (ap (take n) (drop-map (span_of pairs) m list) ∙ take-map (span_of pairs) n (drop m list))
