-- What a piece after a piece has sent.
use Rattle.std.proofs.Common.{◌≡◌, ℕ, List, take, drop, length, ◌+◌, ◌-◌, ◌≤◌, Option, sym, subst, arith}
use Rattle.std.proofs.Math.Seq.{take-add}
use Rattle.std.proofs.lemmas.List.{take_rest, take-append-drop, length-drop}
use Rattle.std.specs.Io.KnownBytes.{Appends, Keeps}
use Rattle.std.proofs.KnownBytes.{Appends-trans, Appends-kept}
use Rattle.ib_io.specs.Faults.{AppendsFront}

-- the first i bytes, and then n of the rest
pub Appends-more : (a b c : Option (List ℕ)) (xs : List ℕ) (i n : ℕ) → Appends a b (take i xs) → Appends b c (take n (take (length xs - i) (drop i xs))) → Appends a c (take (i + n) xs)
Appends-more a b c xs i n first next =
    let whole : take (length xs - i) (drop i xs) ≡ drop i xs = take_rest xs i in
    let next_drop : Appends b c (take n (drop i xs)) = subst (λ (z : List ℕ). Appends b c (take n z)) whole next in
    let P : List ℕ → Type 0 = λ z. Appends a c z in
    subst P (sym (take-add i n xs)) (Appends-trans a b c (take i xs) (take n (drop i xs)) first next_drop)

-- the first i bytes, and then none
pub AppendsFront-kept : (a b c : Option (List ℕ)) (xs : List ℕ) (i : ℕ) → Appends a b (take i xs) → Keeps b c → AppendsFront a c xs
AppendsFront-kept a b c xs i first kept =
    (take i xs, drop i xs, Appends-kept a b c (take i xs) first kept, sym (take-append-drop i xs))

-- n bytes of the rest behind the first i end within the whole
pub within_whole : (xs : List ℕ) (i n : ℕ) → n ≤ length (take (length xs - i) (drop i xs)) → i ≤ length xs → i + n ≤ length xs
within_whole xs i n rest le = let k : n ≤ length (drop i xs) = rw take_rest at rest in omega (arith, k, length-drop i xs)
