-- What a read from a place in a list gives, and what it leaves.
use Rattle.std.proofs.Common.{◌<◌, min, length-append, ◌≡◌, ◌∙◌, ℕ, List, ◌++◌, take, drop, ap, sym, ◌+◌, ◌≤◌, length, arith}
use Rattle.std.proofs.lemmas.List.{take-append-drop, drop-drop, take_at, length-drop, length-take-le, length-take}

-- n bytes were copied into the buffer's front
pub read_some : (xs ys buf : List ℕ) (i n : ℕ) → ys ≡ take n (drop i xs) → i + n ≤ length xs → drop i xs ≡ take n (ys ++ drop n buf) ++ drop (i + n) xs
read_some xs ys buf i n e le =
    let long : length ys ≡ n = ap length e ∙ length-take-le n (drop i xs) (omega (arith, length-drop i xs)) in
    sym (take-append-drop n (drop i xs)) ∙ ap (λ z. take n (drop i xs) ++ z) (drop-drop n i xs) ∙ ap (λ z. z ++ drop (i + n) xs) (sym e ∙ sym (take_at ys (drop n buf) n long))

-- none were, though there was room
pub read_end : (xs ys buf : List ℕ) (i n most : ℕ) → ys ≡ take n (drop i xs) → 0 < most → n ≡ min (min (length (drop i xs)) (length buf)) most → n ≡ 0 → 0 < length (ys ++ drop n buf) → length xs ≤ i + n
read_end xs ys buf i n most e some small none room =
    let short : length ys ≤ n = rw (e, length-take n (drop i xs)) (omega arith) in
    omega (arith, short, length-append ys (drop n buf), length-drop n buf, length-drop i xs)
