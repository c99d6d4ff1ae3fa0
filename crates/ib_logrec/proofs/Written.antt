-- The words of writes, put one after another.
use Rattle.std.proofs.Common.{◌≡◌, ℕ, ◌+◌, ◌*◌, ◌<◌, ◌≤◌, List, [], ◌∷◌, ◌++◌, length, get_or, take, drop, sym, ap, ◌∙◌, arith, append_assoc, length-append}
use Rattle.std.proofs.Math.ListN.{set}
use Rattle.std.proofs.lemmas.List.{drop_more, take_more, set_at, length-take-le}
use Rattle.ib_map.specs.declared.write.Write.{Write}
use Rattle.ib_map.specs.Writes.{write_words}
use Rattle.ib_map.proofs.WriteLaws.{length-write_words, write_words-append}

two_set : (front : List ℕ) (x y : ℕ) (rest : List ℕ) (n p v : ℕ) → length front ≡ n → set (set (front ++ x ∷ y ∷ rest) n p) (n + 1) v ≡ front ++ p ∷ v ∷ rest
two_set front x y rest n p v size =
    let first : set (front ++ x ∷ y ∷ rest) n p ≡ (front ++ p ∷ []) ++ y ∷ rest = set_at front x (y ∷ rest) p n size ∙ sym (append_assoc front (p ∷ []) (y ∷ rest)) in
    let second = set_at (front ++ p ∷ []) y rest v (n + 1) (omega (arith, length-append front (p ∷ []))) in
    ap (λ (ws : List ℕ). set ws (n + 1) v) first ∙ second ∙ append_assoc front (p ∷ []) (v ∷ rest)

-- one more write behind those before it
pub write_words-put : (ws : List Write) (out : List ℕ) (i : ℕ) (d : Write) → i < length ws → 2 * length ws ≤ length out
    → set (set (write_words (take i ws) ++ drop (2 * i) out) (2 * i) (get_or ws i d).place) (2 * i + 1) (get_or ws i d).value ≡ write_words (take (i + 1) ws) ++ drop (2 * (i + 1)) out
write_words-put ws out i d lt room =
    let w : Write = get_or ws i d in
    let first : drop (2 * i) out ≡ get_or out (2 * i) 0 ∷ drop (2 * i + 1) out = drop_more out (2 * i) 0 (omega arith) in
    let second : drop (2 * i + 1) out ≡ get_or out (2 * i + 1) 0 ∷ drop (2 * i + 1 + 1) out = drop_more out (2 * i + 1) 0 (omega arith) in
    let behind : 2 * i + 1 + 1 ≡ 2 * (i + 1) = omega arith in
    let size : length (write_words (take i ws)) ≡ 2 * i = omega (arith, length-write_words (take i ws), length-take-le i ws (omega arith)) in
    let more : write_words (take (i + 1) ws) ≡ write_words (take i ws) ++ w.place ∷ w.value ∷ [] = ap write_words (take_more ws i d lt) ∙ write_words-append (take i ws) (w ∷ []) in
    let put = two_set (write_words (take i ws)) (get_or out (2 * i) 0) (get_or out (2 * i + 1) 0) (drop (2 * (i + 1)) out) (2 * i) w.place w.value size in
    rw (first, second, behind, more, append_assoc) put
