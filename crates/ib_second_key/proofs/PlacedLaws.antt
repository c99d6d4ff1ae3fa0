-- Bytes read one by one into a list of a key's bytes.
use Rattle.std.proofs.Common.{◌≡◌, ℕ, zero, suc, ◌+◌, ◌-◌, ◌≤◌, ◌++◌, List, [], ◌∷◌, length, take, drop, get_or, refl, ap, arith, ◌∙◌}
use Rattle.std.proofs.Math.Seq.{take-append-add}
use Rattle.std.specs.Int.{w64, to_be_bytes}
use Rattle.ib_map.specs.Keys.{MapKey}
use Rattle.ib_map.specs.KeyBytes.{bytes_of, key_of_bytes}
use Rattle.ib_map.proofs.ByteLaws.{bytes-key_of_bytes, key-bytes, key-few}
use Rattle.ib_second_key.specs.SecondKeys.{IsPrimary, second_key_of, primary_of}
use Rattle.ib_second_key.proofs.SecondKeyLaws.{AreBytes-drop}

-- seven bytes at most, read one by one
seven : (bs : List ℕ) → length bs ≤ 7 → take (length bs) (get_or bs 0 0 ∷ get_or bs 1 0 ∷ get_or bs 2 0 ∷ get_or bs 3 0 ∷ get_or bs 4 0 ∷ get_or bs 5 0 ∷ get_or bs 6 0 ∷ []) ≡ bs
seven [] le = refl
seven (a ∷ []) le = refl
seven (a ∷ b ∷ []) le = refl
seven (a ∷ b ∷ c ∷ []) le = refl
seven (a ∷ b ∷ c ∷ d ∷ []) le = refl
seven (a ∷ b ∷ c ∷ d ∷ e ∷ []) le = refl
seven (a ∷ b ∷ c ∷ d ∷ e ∷ f ∷ []) le = refl
seven (a ∷ b ∷ c ∷ d ∷ e ∷ f ∷ g ∷ []) le = refl
seven (a ∷ b ∷ c ∷ d ∷ e ∷ f ∷ g ∷ h ∷ rest) le = absurd (omega arith)

-- .. behind the bytes of a value
pub placed-second : (key : MapKey) (value : ℕ) → IsPrimary key → (front : List ℕ) (b0 b1 b2 b3 b4 b5 b6 len : ℕ) → front ≡ to_be_bytes w64 value → len ≡ length (bytes_of key)
    → b0 ≡ get_or (bytes_of key) 0 0 → b1 ≡ get_or (bytes_of key) 1 0 → b2 ≡ get_or (bytes_of key) 2 0 → b3 ≡ get_or (bytes_of key) 3 0
    → b4 ≡ get_or (bytes_of key) 4 0 → b5 ≡ get_or (bytes_of key) 5 0 → b6 ≡ get_or (bytes_of key) 6 0
    → key_of_bytes (take (8 + len) (get_or front 0 0 ∷ get_or front 1 0 ∷ get_or front 2 0 ∷ get_or front 3 0 ∷ get_or front 4 0 ∷ get_or front 5 0 ∷ get_or front 6 0 ∷ get_or front 7 0 ∷ b0 ∷ b1 ∷ b2 ∷ b3 ∷ b4 ∷ b5 ∷ b6 ∷ [])) ≡ second_key_of key value
unfolding second_key_of
placed-second key value is front b0 b1 b2 b3 b4 b5 b6 len ef el e0 e1 e2 e3 e4 e5 e6 =
    let bs = bytes_of key in
    rw (ef, el, e0, e1, e2, e3, e4, e5, e6)
    (ap key_of_bytes (take-append-add (to_be_bytes w64 value) (get_or bs 0 0 ∷ get_or bs 1 0 ∷ get_or bs 2 0 ∷ get_or bs 3 0 ∷ get_or bs 4 0 ∷ get_or bs 5 0 ∷ get_or bs 6 0 ∷ []) (length bs)
    ∙ ap (λ (xs : List ℕ). to_be_bytes w64 value ++ xs) (seven bs is)))

-- .. and those behind the first eight of a key's
pub placed-primary : (second : MapKey) → 8 ≤ length (bytes_of second) → (b0 b1 b2 b3 b4 b5 b6 len : ℕ) → len ≡ length (bytes_of second)
    → b0 ≡ get_or (bytes_of second) 8 0 → b1 ≡ get_or (bytes_of second) 9 0 → b2 ≡ get_or (bytes_of second) 10 0 → b3 ≡ get_or (bytes_of second) 11 0
    → b4 ≡ get_or (bytes_of second) 12 0 → b5 ≡ get_or (bytes_of second) 13 0 → b6 ≡ get_or (bytes_of second) 14 0
    → key_of_bytes (take (len - 8) (b0 ∷ b1 ∷ b2 ∷ b3 ∷ b4 ∷ b5 ∷ b6 ∷ [])) ≡ primary_of second
unfolding primary_of
placed-primary second long b0 b1 b2 b3 b4 b5 b6 len el e0 e1 e2 e3 e4 e5 e6 = ap key_of_bytes (go (bytes_of second) long (key-few second) el e0 e1 e2 e3 e4 e5 e6)
  where
    go : (bs : List ℕ) → 8 ≤ length bs → length bs ≤ 15 → len ≡ length bs → b0 ≡ get_or bs 8 0 → b1 ≡ get_or bs 9 0 → b2 ≡ get_or bs 10 0 → b3 ≡ get_or bs 11 0
        → b4 ≡ get_or bs 12 0 → b5 ≡ get_or bs 13 0 → b6 ≡ get_or bs 14 0 → take (len - 8) (b0 ∷ b1 ∷ b2 ∷ b3 ∷ b4 ∷ b5 ∷ b6 ∷ []) ≡ drop 8 bs
    go (a ∷ b ∷ c ∷ d ∷ e ∷ f ∷ g ∷ h ∷ rest) lo hi l i0 i1 i2 i3 i4 i5 i6 =
        let n : len - 8 ≡ length rest = omega arith in
        rw (n, i0, i1, i2, i3, i4, i5, i6) (seven rest (omega arith))
    go bs lo hi l i0 i1 i2 i3 i4 i5 i6 = absurd (omega arith)

pub bytes-primary : (second : MapKey) → bytes_of (primary_of second) ≡ drop 8 (bytes_of second)
unfolding primary_of
bytes-primary second = bytes-key_of_bytes (drop 8 (bytes_of second)) (let few = key-few second in let le = length-drop_le 8 (bytes_of second) in omega arith) (AreBytes-drop 8 (bytes_of second) (key-bytes second))
  where
    length-drop_le : (n : ℕ) (xs : List ℕ) → length (drop n xs) ≤ length xs
    length-drop_le zero xs = omega arith
    length-drop_le (suc n) [] = omega arith
    length-drop_le (suc n) (x ∷ xs) = let r = length-drop_le n xs in omega arith
