-- Words of a fixed number for each element, written one behind another.
use Rattle.std.proofs.Common.{◌≡◌, ◌∙◌, ℕ, ◌+◌, ◌*◌, ◌<◌, List, [], ◌∷◌, ◌++◌, length, take, drop, get_or, refl, sym, ap, arith, append-nil, length-take}
use Rattle.std.proofs.lemmas.List.{drop-drop, drop_at, take_at, take_more}
use Rattle.std.proofs.lemmas.List.Concat.{flat_map-append}
use Rattle.std.specs.List.{flat_map}
use Rattle.ib_map.specs.Keys.{MapKey}
use Rattle.ib_map.specs.Pairs.{Pairs}
use Rattle.ib_map.specs.declared.chunks.Chunk.{Chunk}
use Rattle.ib_c.specs.Replays.{pair_words, pairs_words}
use Rattle.ib_c.specs.ScanWords.{chunk_words, chunks_words}

pub length-pairs_words : (pairs : Pairs) → length (pairs_words pairs) ≡ 3 * length pairs
length-pairs_words [] = refl
length-pairs_words (p ∷ ps) = let rest = length-pairs_words ps in omega arith

pub length-chunks_words : (list : List Chunk) → length (chunks_words list) ≡ 6 * length list
length-chunks_words [] = refl
length-chunks_words (c ∷ cs) = let rest = length-chunks_words cs in omega arith

-- the words of one element more stand in front, behind `n` words; they are `m`
more : {A : Type 0} (words : A → List ℕ) (xs : List A) (before out after : List ℕ) (k n m : ℕ) (x : A) → k < length xs → x ≡ get_or xs k x → length (flat_map words (take k xs)) ≡ n
    → out ≡ flat_map words (take k xs) ++ drop n before → after ≡ take n out ++ words x ++ drop (n + m) out → after ≡ flat_map words (take (k + 1) xs) ++ drop (n + m) before
more {A} words xs before out after k n m x lt is size out-is after-is =
    let front : List ℕ = flat_map words (take k xs) in
    let taken : take n out ≡ front = ap (take n) out-is ∙ take_at front (drop n before) n size in
    let behind : drop (n + m) out ≡ drop (n + m) before =
    sym (drop-drop m n out) ∙ (ap (drop m) (ap (drop n) out-is ∙ drop_at front (drop n before) n size) ∙ drop-drop m n before) in
    let one : flat_map words (take (k + 1) xs) ≡ front ++ words x =
    ap (flat_map words) (take_more xs k x lt) ∙ (flat_map-append words (take k xs) (get_or xs k x ∷ []) ∙ (ap (λ (ws : List ℕ). front ++ ws) (append-nil (words (get_or xs k x))) ∙ ap (λ (y : A). front ++ words y) (sym is))) in
    after-is
    ∙ (ap (λ (ws : List ℕ). ws ++ words x ++ drop (n + m) out) taken
    ∙ (ap (λ (ws : List ℕ). front ++ words x ++ ws) behind ∙ ap (λ (ws : List ℕ). ws ++ drop (n + m) before) (sym one)))

-- one pair more stands in front
pub more_pairs : (pairs : Pairs) (before out after : List ℕ) (k : ℕ) (pair : MapKey × ℕ) → k < length pairs → pair ≡ get_or pairs k pair
    → out ≡ pairs_words (take k pairs) ++ drop (3 * k) before → after ≡ take (3 * k) out ++ pair_words pair ++ drop (3 * k + 3) out
    → after ≡ pairs_words (take (k + 1) pairs) ++ drop (3 * (k + 1)) before
more_pairs pairs before out after k pair lt is out-is after-is =
    let size : length (pairs_words (take k pairs)) ≡ 3 * k = let long = length-pairs_words (take k pairs) in let few = length-take k pairs in omega arith in
    let up : 3 * k + 3 ≡ 3 * (k + 1) = omega arith in
    more pair_words pairs before out after k (3 * k) 3 pair lt is size out-is after-is ∙ ap (λ n. pairs_words (take (k + 1) pairs) ++ drop n before) up

-- .. and one chunk more
pub more_chunks : (list : List Chunk) (before out after : List ℕ) (k : ℕ) (chunk : Chunk) → k < length list → chunk ≡ get_or list k chunk
    → out ≡ chunks_words (take k list) ++ drop (6 * k) before → after ≡ take (6 * k) out ++ chunk_words chunk ++ drop (6 * k + 6) out
    → after ≡ chunks_words (take (k + 1) list) ++ drop (6 * (k + 1)) before
more_chunks list before out after k chunk lt is out-is after-is =
    let size : length (chunks_words (take k list)) ≡ 6 * k = let long = length-chunks_words (take k list) in let few = length-take k list in omega arith in
    let up : 6 * k + 6 ≡ 6 * (k + 1) = omega arith in
    more chunk_words list before out after k (6 * k) 6 chunk lt is size out-is after-is ∙ ap (λ n. chunks_words (take (k + 1) list) ++ drop n before) up
