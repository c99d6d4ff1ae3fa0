-- Hexadecimal digits, many at once.
use Rattle.std.proofs.Common.{◌≡◌, ℕ, zero, suc, ◌+◌, ◌-◌, ◌*◌, ◌%◌, ◌^◌, ◌<◌, ◌≤◌, List, [], ◌∷◌, Option, Some, None, ◌++◌, drop, drop_of_length-le, length-append, length-drop, subst, take, inl, inr, ap, ap₂, refl, cond, leb, length, get_or, replicate, map, arith, ◌∙◌, sym, w8, Fits}
use Rattle.std.specs.Simd.Lanes.{Each1, zip2, sel_l, mask_l, top}
use Rattle.std.proofs.lemmas.Bool.{cases_lt, le-leb, leb-true, leb-false}
use Rattle.std.proofs.lemmas.List.{get_or_append_left, get_or-append_right, get_or-drop, get_or-map, get_or-take, get_or_past, length-map, length-take-le}
use Rattle.std.proofs.lemmas.List.Sums.{fails_before_first, passes_at_first}
use Rattle.std.proofs.lemmas.Simd.{leading_from_mask_l, mask_l-mod, tops_compared, zip2_splat_left}
use Rattle.std.specs.List.{position_or_len}
use Rattle.ib_io.proofs.Places.{some-lane}
use Rattle.ib_text.specs.Keys.{byte_before, byte_of, digit_number, hex_bytes, joined_from, number_or_255, or_255}
use Rattle.ib_text.proofs.SpellingLaws.{gt-leb, number-digit, two-next}

-- steps on a lane of eight bits
abbrev pub at_most : ℕ → ℕ → ℕ
at_most a b = cond (leb a b) 255 0

abbrev pub less : ℕ → ℕ → ℕ
less a b = (a + (256 - b)) % 256

abbrev pub more : ℕ → ℕ → ℕ
more a b = (a + b) % 256

-- the number of one digit
lane-number : (c : ℕ) → c < 256 → cond (top 7 (at_most (less c 48) 9)) (less c 48) (cond (top 7 (at_most (less c 97) 5)) (more (less c 97) 10) 255) ≡ number_or_255 c
lane-number c byte = elim (cases_lt c 58) [
  | inl low ↦ elim (cases_lt c 48) [
    | inl none ↦
        let number : digit_number c ≡ None = rw (gt-leb 48 c none, gt-leb 97 c (omega arith)) refl in
        rw (gt-leb (less c 48) 9 (omega arith), gt-leb (less c 97) 5 (omega arith)) (ap or_255 (sym number))
    | inr some ↦
        let number : digit_number c ≡ Some (c - 48) = rw (le-leb 48 c some, le-leb c 57 (omega arith)) refl in
        let value : less c 48 ≡ c - 48 = omega arith in
        rw (le-leb (less c 48) 9 (omega arith)) (value ∙ ap or_255 (sym number))
  ]
  | inr high ↦ elim (cases_lt c 97) [
    | inl none ↦
        let number : digit_number c ≡ None = rw (le-leb 48 c (omega arith), gt-leb c 57 (omega arith), gt-leb 97 c none) refl in
        rw (gt-leb (less c 48) 9 (omega arith), gt-leb (less c 97) 5 (omega arith)) (ap or_255 (sym number))
    | inr some ↦ elim (cases_lt c 103) [
      | inl few ↦
          let number : digit_number c ≡ Some (c - 87) = rw (le-leb 48 c (omega arith), gt-leb c 57 (omega arith), le-leb 97 c some, le-leb c 102 (omega arith)) refl in
          let value : more (less c 97) 10 ≡ c - 87 = omega arith in
          rw (gt-leb (less c 48) 9 (omega arith), le-leb (less c 97) 5 (omega arith)) (value ∙ ap or_255 (sym number))
      | inr many ↦
          let number : digit_number c ≡ None = rw (le-leb 48 c (omega arith), gt-leb c 57 (omega arith), le-leb 97 c some, gt-leb c 102 (omega arith)) refl in
          rw (gt-leb (less c 48) 9 (omega arith), gt-leb (less c 97) 5 (omega arith)) (ap or_255 (sym number))
    ]
  ]
]

pub lane-numbers : (n : ℕ) (cs : List ℕ) → length cs ≡ n → Each1 (Fits w8) cs
    → sel_l (map (top 7) (zip2 at_most (zip2 less cs (replicate n 48)) (replicate n 9))) (zip2 less cs (replicate n 48))
    (sel_l (map (top 7) (zip2 at_most (zip2 less cs (replicate n 97)) (replicate n 5))) (zip2 more (zip2 less cs (replicate n 97)) (replicate n 10)) (replicate n 255))
    ≡ map number_or_255 cs
lane-numbers zero [] long fits = refl
lane-numbers zero (c ∷ cs) long fits = absurd (omega arith)
lane-numbers (suc n) [] long fits = absurd (omega arith)
lane-numbers (suc n) (c ∷ cs) long fits = ap₂ (λ (x : ℕ) (xs : List ℕ). x ∷ xs) (lane-number c (let small = fits.0.fits in omega arith)) (lane-numbers n cs (omega arith) fits.1)

-- the lanes that have no number of a digit, as bits
abbrev pub large_marks : List ℕ → ℕ
large_marks numbers = mask_l (map (top 7) (zip2 at_most (replicate 16 16) numbers)) % 2 ^ 64

module _ (numbers : List ℕ) (long : length numbers ≡ 16) where
  marks : large_marks numbers ≡ mask_l (map (λ n. leb 16 n) numbers)
  marks = ap (λ ms. mask_l ms % 2 ^ 64) (tops_compared w8 leb (replicate 16 16) numbers ∙ zip2_splat_left leb 16 16 numbers long) ∙ mask_l-mod (map (λ n. leb 16 n) numbers) 64 (omega (arith, length-map numbers (λ n. leb 16 n)))

  pub all-small : large_marks numbers ≡ 0 → (k : ℕ) → k < 16 → get_or numbers k 0 < 16
  all-small none k lt =
      let all = leading_from_mask_l (λ n. leb 16 n) numbers (sym marks ∙ none) in
      leb-false 16 _ (fails_before_first (λ n. leb 16 n) numbers k 0 (omega (arith, all)))

  pub one-large : ¬ (large_marks numbers ≡ 0) → (k : ℕ) × (k < 16) × (16 ≤ get_or numbers k 0)
  one-large some =
      let lt = some-lane (λ n. leb 16 n) numbers (omega (arith, marks, some)) in
      (position_or_len (λ n. leb 16 n) numbers, omega (arith, lt), leb-true 16 _ (passes_at_first (λ n. leb 16 n) numbers 0 lt))

-- a small number is that of a digit, a large one of none
pub small-is : (c : ℕ) → number_or_255 c < 16 → digit_number c ≡ Some (number_or_255 c)
small-is c lt = go (digit_number c) lt
  where
    go : (o : Option ℕ) → or_255 o < 16 → o ≡ Some (or_255 o)
    go (Some n) small = refl
    go None small = absurd (omega arith)

pub large-is : (c : ℕ) → 16 ≤ number_or_255 c → digit_number c ≡ None
large-is c ge = go (digit_number c) refl ge
  where
    go : (o : Option ℕ) → digit_number c ≡ o → 16 ≤ or_255 o → o ≡ None
    go (Some n) is large = absurd (let small = number-digit c n is in omega (arith, small.0))
    go None is large = refl

-- digits that all have numbers are the bytes of these
pub hex-joined : (digits numbers : List ℕ) (len : ℕ) → length digits ≡ 2 * len → ((k : ℕ) → k < length digits → digit_number (get_or digits k 0) ≡ Some (get_or numbers k 0))
    → (m i : ℕ) → i + m ≡ len → hex_bytes (drop (2 * i) digits) ≡ Some (joined_from (2 * i) m numbers)
hex-joined digits numbers len pairs each zero i e = ap hex_bytes (drop_of_length-le digits (omega arith))
hex-joined digits numbers len pairs each (suc m) i e =
    let a = get_or numbers (2 * i) 0 in
    let b = get_or numbers (2 * i + 1) 0 in
    let one = each (2 * i) (omega arith) in
    let two = each (2 * i + 1) (omega arith) in
    let small_a = number-digit (get_or digits (2 * i) 0) a one in
    let small_b = number-digit (get_or digits (2 * i + 1) 0) b two in
    let value : a * 16 + b ≡ (a * 16 % 256 + b) % 256 = omega (arith, small_a.0, small_b.0) in
    let rest = hex-joined digits numbers len pairs each m (i + 1) (omega arith) in
    let on : 2 * (i + 1) ≡ 2 * i + 2 = omega arith in
    two-next digits i (omega arith) ∙ ap₂ byte_before (ap₂ byte_of one two) rest ∙ ap₂ (λ (x : ℕ) (xs : List ℕ). Some (x ∷ xs)) value (ap (λ k. joined_from k m numbers) on)

-- and one that has none spoils all
pub hex-none : (digits : List ℕ) (k : ℕ) → k < length digits → digit_number (get_or digits k 0) ≡ None → hex_bytes digits ≡ None
hex-none [] k lt bad = absurd (omega arith)
hex-none (c ∷ []) k lt bad = refl
hex-none (c ∷ d ∷ rest) zero lt bad = ap (λ (o : Option ℕ). byte_before (byte_of o (digit_number d)) (hex_bytes rest)) bad
hex-none (c ∷ d ∷ rest) (suc zero) lt bad = ap (λ (o : Option ℕ). byte_before (byte_of (digit_number c) o) (hex_bytes rest)) bad ∙ go (digit_number c)
  where
    go : (o : Option ℕ) → byte_before (byte_of o None) (hex_bytes rest) ≡ None
    go (Some n) = refl
    go None = refl
hex-none (c ∷ d ∷ rest) (suc (suc k)) lt bad = ap (byte_before (byte_of (digit_number c) (digit_number d))) (hex-none rest k (omega arith) bad) ∙ go (byte_of (digit_number c) (digit_number d))
  where
    go : (o : Option ℕ) → byte_before o None ≡ None
    go (Some n) = refl
    go None = refl

-- the first bytes, and those behind which all numbers are 0
pub front-joined : (n m k : ℕ) (numbers : List ℕ) → n ≤ m → take n (joined_from k m numbers) ≡ joined_from k n numbers
front-joined zero m k numbers le = refl
front-joined (suc n) zero k numbers le = absurd (omega arith)
front-joined (suc n) (suc m) k numbers le = ap (λ (xs : List ℕ). (get_or numbers k 0 * 16 % 256 + get_or numbers (k + 1) 0) % 256 ∷ xs) (front-joined n m (k + 2) numbers (omega arith))

pub zeros-joined : (n k i : ℕ) (numbers : List ℕ) → ((j : ℕ) → k + 2 * i ≤ j → get_or numbers j 0 ≡ 0) → get_or (joined_from k n numbers) i 0 ≡ 0
zeros-joined zero k i numbers none = refl
zeros-joined (suc n) k zero numbers none = let a = none k (omega arith) in let b = none (k + 1) (omega arith) in omega (arith, a, b)
zeros-joined (suc n) k (suc i) numbers none = zeros-joined n (k + 2) i numbers (λ j le. none j (omega arith))

-- Digits with zeros behind them, and the numbers of all of these, in two halves.
module _ (digits padded front back : List ℕ) (len : ℕ) (pairs : length digits ≡ 2 * len) (few : len ≤ 15) (long : length padded ≡ 32)
    (own : (k : ℕ) → k < length digits → get_or padded k 0 ≡ get_or digits k 0) (others : (k : ℕ) → length digits ≤ k → k < 32 → get_or padded k 0 ≡ 48)
    (front_is : front ≡ map number_or_255 (take 16 padded)) (back_is : back ≡ map number_or_255 (take 16 (take 16 (drop 16 padded)))) where
  front-at : (k : ℕ) → k < 16 → get_or front k 0 ≡ number_or_255 (get_or padded k 0)
  front-at k lt =
      ap (λ (xs : List ℕ). get_or xs k 0) front_is ∙ get_or-map number_or_255 (take 16 padded) k 0 0 (omega (arith, length-take-le 16 padded (omega arith))) ∙ ap number_or_255 (get_or-take 16 padded k 0 lt)

  back-at : (k : ℕ) → k < 16 → get_or back k 0 ≡ number_or_255 (get_or padded (16 + k) 0)
  back-at k lt =
      let rest = drop 16 padded in
      let count : length rest ≡ 16 = omega (arith, length-drop 16 padded) in
      let half = length-take-le 16 rest (omega arith) in
      ap (λ (xs : List ℕ). get_or xs k 0) back_is
      ∙ get_or-map number_or_255 (take 16 (take 16 rest)) k 0 0 (omega (arith, length-take-le 16 (take 16 rest) (omega (arith, half))))
      ∙ ap number_or_255 (get_or-take 16 (take 16 rest) k 0 lt ∙ get_or-take 16 rest k 0 lt ∙ get_or-drop 16 padded k 0)

  front-long : length front ≡ 16
  front-long = ap length front_is ∙ length-map (take 16 padded) number_or_255 ∙ length-take-le 16 padded (omega arith)

  back-long : length back ≡ 16
  back-long =
      let rest = drop 16 padded in
      let count : length rest ≡ 16 = omega (arith, length-drop 16 padded) in
      let half = length-take-le 16 rest (omega arith) in
      ap length back_is ∙ length-map (take 16 (take 16 rest)) number_or_255 ∙ length-take-le 16 (take 16 rest) (omega (arith, half))

  number-at : (k : ℕ) → k < 32 → get_or (front ++ back) k 0 ≡ number_or_255 (get_or padded k 0)
  number-at k lt = elim (cases_lt k 16) [
    | inl low ↦ get_or_append_left front back 0 k (omega (arith, front-long)) ∙ front-at k low
    | inr high ↦
        let same : 16 + (k - 16) ≡ k = omega arith in
        get_or-append_right front back 16 k 0 front-long high ∙ back-at (k - 16) (omega arith) ∙ ap (λ j. number_or_255 (get_or padded j 0)) same
  ]

  pub spoiled : (k : ℕ) → k < 32 → 16 ≤ number_or_255 (get_or padded k 0) → hex_bytes digits ≡ None
  spoiled k lt large = elim (cases_lt k (length digits)) [
    | inl inside ↦ hex-none digits k inside (large-is (get_or digits k 0) (subst (λ c. 16 ≤ number_or_255 c) (own k inside) large))
    | inr behind ↦ absurd (let zero_large : 16 ≤ number_or_255 48 = subst (λ c. 16 ≤ number_or_255 c) (others k behind lt) large in omega arith)
  ]

  pub front-spoiled : (k : ℕ) × (k < 16) × (16 ≤ get_or front k 0) → hex_bytes digits ≡ None
  front-spoiled found = spoiled found.0 (let lt = found.1 in omega arith) (subst (λ (n : ℕ). 16 ≤ n) (front-at found.0 found.1) found.2)

  pub back-spoiled : (k : ℕ) × (k < 16) × (16 ≤ get_or back k 0) → hex_bytes digits ≡ None
  back-spoiled found = spoiled (16 + found.0) (let lt = found.1 in omega arith) (subst (λ (n : ℕ). 16 ≤ n) (back-at found.0 found.1) found.2)

  pub all-read : ((k : ℕ) → k < 16 → get_or front k 0 < 16) → ((k : ℕ) → k < 16 → get_or back k 0 < 16) → hex_bytes digits ≡ Some (take len (joined_from 0 16 (front ++ back)))
  all-read low high = hex-joined digits (front ++ back) len pairs each len 0 (omega arith) ∙ ap (λ (bs : List ℕ). Some bs) (sym (front-joined len 16 0 (front ++ back) (omega arith)))
    where
      small : (k : ℕ) → k < 32 → number_or_255 (get_or padded k 0) < 16
      small k lt = elim (cases_lt k 16) [
        | inl below ↦ subst (λ (n : ℕ). n < 16) (front-at k below) (low k below)
        | inr above ↦
            let same : 16 + (k - 16) ≡ k = omega arith in
            subst (λ j. number_or_255 (get_or padded j 0) < 16) same (subst (λ (n : ℕ). n < 16) (back-at (k - 16) (omega arith)) (high (k - 16) (omega arith)))
      ]

      each : (k : ℕ) → k < length digits → digit_number (get_or digits k 0) ≡ Some (get_or (front ++ back) k 0)
      each k lt =
          let is = own k lt in
          let same : number_or_255 (get_or digits k 0) ≡ get_or (front ++ back) k 0 = sym (number-at k (omega arith) ∙ ap number_or_255 is) in
          small-is (get_or digits k 0) (subst (λ c. number_or_255 c < 16) is (small k (omega arith))) ∙ ap (λ (n : ℕ). Some n) same

  pub zeros-behind : (k : ℕ) → len ≤ k → get_or (joined_from 0 16 (front ++ back)) k 0 ≡ 0
  zeros-behind k le = zeros-joined 16 0 k (front ++ back) (λ j above. elim (cases_lt j 32) [
    | inl lt ↦ number-at j lt ∙ ap number_or_255 (others j (omega arith) lt)
    | inr past ↦ get_or_past (front ++ back) j 0 (omega (arith, length-append front back, front-long, back-long))
  ])
