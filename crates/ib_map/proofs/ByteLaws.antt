-- Keys and their bytes: the sixteen bytes of two words, and the order of bytes.
use Rattle.std.proofs.Common.{◌≡◌, ℕ, zero, suc, ◌+◌, ◌-◌, ◌*◌, ◌/◌, ◌%◌, ◌<◌, ◌≤◌, ◌^◌, ◌++◌, ◌⊎◌, ◌↔◌, List, [], ◌∷◌, length, take, get_or, refl, ap, ap₂, sym, arith, ◌∙◌, true, inl, inr, ⊎_elim, subst, pow-suc, mul-le-mul_right, mul_assoc, add-mul, mod-lt, mod-eq_of_lt, length-take-le}
use Rattle.std.proofs.Math.Nat.{div-div-eq-div-mul}
use Rattle.std.proofs.lemmas.Bool.{cases_eq, cases_lt}
use Rattle.std.proofs.lemmas.Nat.{be_bytes_8, mod-mul-add, div-add-mod'}
use Rattle.std.specs.Int.{w64, byte_at, bytes_high_first, from_be_bytes, to_be_bytes}
use Rattle.ib_map.specs.KeyBytes.{AreBytes, Precedes, bytes_of, first_bytes, key_of_bytes, second_bytes, word_bytes}
use Rattle.ib_map.specs.KeyWords.{number_of, is_key_words, zero_bytes}
use Rattle.ib_map.specs.Keys.{MapKey, rank}
use Rattle.ib_map.proofs.ZeroBytes.{zero-step, zero-stop}
use Rattle.ib_map.proofs.KeyLaws.{AreWords-from, AreWords-is, rank_injective, words-key_in}

-- the bytes of two words are those of their number
each : {x y : ℕ} {xs ys : List ℕ} → x ≡ y → xs ≡ ys → x ∷ xs ≡ y ∷ ys
each x xs = ap₂ (λ (n : ℕ) (ns : List ℕ). n ∷ ns) x xs

pub words-number : (first second : ℕ) → second < 2 ^ 64 → to_be_bytes w64 first ++ to_be_bytes w64 second ≡ bytes_high_first 16 (number_of first second)
words-number first second fits =
    each (omega arith) (each (omega arith) (each (omega arith) (each (omega arith)
    (each (omega arith) (each (omega arith) (each (omega arith) (each (omega arith)
    (each (omega arith) (each (omega arith) (each (omega arith) (each (omega arith)
    (each (omega arith) (each (omega arith) (each (omega arith) (each (omega arith) refl)))))))))))))))

-- byte by byte: without the last one, each stands one lower
shifted : (i n : ℕ) → byte_at i (n / 256) ≡ byte_at (suc i) n
shifted zero n = refl
shifted (suc i) n =
    let e : 256 * 256 ^ suc i ≡ 256 ^ suc (suc i) = let p = pow-suc 256 (suc i) in omega arith in
    ap (λ m. m % 256) (div-div-eq-div-mul n 256 (256 ^ suc i) ∙ ap (λ p. n / p) e)

-- the byte at a place, counted from the highest
pub byte-at : (m i j n : ℕ) → m ≡ i + suc j → get_or (bytes_high_first m n) i 0 ≡ byte_at j n
byte-at zero i j n is = absurd (omega arith)
byte-at (suc m) zero j n is = let e : m ≡ j = omega arith in rw e refl
byte-at (suc m) (suc i) j n is = byte-at m i j n (omega arith)

-- the zeros behind a number are its lowest bytes
pub zeros-from : (j most n : ℕ) → j ≤ most → ((i : ℕ) → i < j → byte_at i n ≡ 0) → j ≤ zero_bytes most n
zeros-from zero most n le zeros = omega arith
zeros-from (suc j) zero n le zeros = absurd (omega arith)
zeros-from (suc j) (suc most) n le zeros =
    let first = zero-step most n (zeros 0 (omega arith)) in
    let rest = zeros-from j most (n / 256) (omega arith) (λ i lt. shifted i n ∙ zeros (suc i) (omega arith)) in
    omega arith

pub zeros-to : (j most n : ℕ) → j ≤ zero_bytes most n → (i : ℕ) → i < j → byte_at i n ≡ 0
unfolding zero_bytes
zeros-to zero most n le i lt = absurd (omega arith)
zeros-to (suc j) zero n le i lt = absurd (omega arith)
zeros-to (suc j) (suc most) n le zero lt = elim (cases_eq (n % 256) 0) [
  | inl z ↦ z
  | inr ne ↦ absurd (let stop = zero-stop most n ne in omega arith)
]
zeros-to (suc j) (suc most) n le (suc i) lt = elim (cases_eq (n % 256) 0) [
  | inl z ↦ let first = zero-step most n z in sym (shifted i n) ∙ zeros-to j most (n / 256) (omega arith) i (omega arith)
  | inr ne ↦ absurd (let stop = zero-stop most n ne in omega arith)
]

-- the value of bytes at so many places, with zeros behind them
abbrev value : ℕ → List ℕ → ℕ
value zero bs = 0
value (suc k) [] = 0
value (suc k) (b ∷ bs) = b * 256 ^ k + value k bs

power_pos : (k : ℕ) → 0 < 256 ^ k
power_pos zero = omega arith
power_pos (suc k) = let p = pow-suc 256 k in let q = power_pos k in omega arith

value_lt : (k : ℕ) (bs : List ℕ) → AreBytes bs → value k bs < 256 ^ k
value_lt zero bs are = omega arith
value_lt (suc k) [] are = power_pos (suc k)
value_lt (suc k) (b ∷ bs) are =
    let p = pow-suc 256 k in
    let rest = value_lt k bs are.1 in
    let most : (b + 1) * 256 ^ k ≤ 256 * 256 ^ k = mul-le-mul_right (256 ^ k) (let lt = are.0 in omega arith) in
    let sum = add-mul b 1 (256 ^ k) in
    omega arith

-- the last places of a number, with one place more
mod_next : (p n : ℕ) → 0 < p → n % (256 * p) ≡ (n / p % 256) * p + n % p
mod_next p n pos =
    let q = n / p in
    let r = n % p in
    let below : r < p = mod-lt n pos in
    let whole : q * p + r ≡ n = div-add-mod' n p in
    let parts : q ≡ q / 256 * 256 + q % 256 = omega arith in
    let split : q * p ≡ q / 256 * (256 * p) + q % 256 * p = ap (λ x. x * p) parts ∙ (add-mul (q / 256 * 256) (q % 256) p ∙ ap (λ x. x + q % 256 * p) (mul_assoc (q / 256) 256 p)) in
    let small : q % 256 * p + r < 256 * p =
    let most : (q % 256 + 1) * p ≤ 256 * p = mul-le-mul_right p (omega arith) in
    let sum = add-mul (q % 256) 1 p in
    omega arith in
    let is : q / 256 * (256 * p) + (q % 256 * p + r) ≡ n = omega arith in
    ap (λ m. m % (256 * p)) (sym is) ∙ mod-mul-add (q / 256) (256 * p) (q % 256 * p + r) small

mod-places : (k n : ℕ) → n % 256 ^ suc k ≡ byte_at k n * 256 ^ k + n % 256 ^ k
mod-places zero n = omega arith
mod-places (suc k) n =
    let e : 256 ^ suc (suc k) ≡ 256 * 256 ^ suc k = let p = pow-suc 256 (suc k) in omega arith in
    ap (λ p. n % p) e ∙ mod_next (256 ^ suc k) n (power_pos (suc k))

value-none : (k : ℕ) → value k [] ≡ 0
value-none zero = refl
value-none (suc k) = refl

-- the bytes of a number in front of its zeros have its value
value-bytes : (k m n : ℕ) → m ≤ k → ((i : ℕ) → i < k - m → byte_at i n ≡ 0) → value k (take m (bytes_high_first k n)) ≡ n % 256 ^ k
value-bytes zero m n le zeros = let one : 0 ≡ n % 1 = omega arith in one
value-bytes (suc k) zero n le zeros =
    let rest = value-bytes k zero n (omega arith) (λ i lt. zeros i (omega arith)) in
    let none = value-none k in
    let places : n % 256 ^ suc k ≡ 0 * 256 ^ k + n % 256 ^ k = mod-places k n ∙ ap (λ b. b * 256 ^ k + n % 256 ^ k) (zeros k (omega arith)) in
    omega arith
value-bytes (suc k) (suc m) n le zeros =
    let rest = value-bytes k m n (omega arith) (λ i lt. zeros i (omega arith)) in
    ap (λ v. byte_at k n * 256 ^ k + v) rest ∙ sym (mod-places k n)

-- the front bytes of a number are those of the number without its last byte
take-front : (m k n : ℕ) → m ≤ k → take m (bytes_high_first (suc k) n) ≡ take m (bytes_high_first k (n / 256))
take-front zero k n le = refl
take-front (suc m) zero n le = absurd (omega arith)
take-front (suc m) (suc k) n le = each (sym (shifted k n)) (take-front m k n (omega arith))

small_byte : (i n : ℕ) → byte_at i n < 256
small_byte zero n = omega arith
small_byte (suc i) n = omega arith

are_bytes : (m k n : ℕ) → AreBytes (take m (bytes_high_first k n))
are_bytes zero k n = tt
are_bytes (suc m) zero n = tt
are_bytes (suc m) (suc k) n = (small_byte k n, are_bytes m k n)

-- the lower value, or of one value fewer bytes
abbrev IsLower : ℕ → List ℕ → List ℕ → Type 0
IsLower k xs ys = (value k xs < value k ys) ⊎ ((value k xs ≡ value k ys) × (length xs < length ys))

-- bytes are ordered by their value, and where that is one by how many they are
lower_first : (x y p v w : ℕ) → x < y → v < p → x * p + v < y * p + w
lower_first x y p v w lt below =
    let most : (x + 1) * p ≤ y * p = mul-le-mul_right p (omega arith) in
    let sum = add-mul x 1 p in
    omega arith

precedes : (k : ℕ) (xs ys : List ℕ) → length xs ≤ k → length ys ≤ k → AreBytes xs → AreBytes ys → IsLower k xs ys → Precedes xs ys
precedes zero [] [] few few' are are' lower = ⊎_elim (λ lt. absurd (omega arith)) (λ both. absurd (let lt = both.1 in omega arith)) lower
precedes zero (x ∷ xs) ys few few' are are' lower = absurd (omega arith)
precedes zero [] (y ∷ ys) few few' are are' lower = tt
precedes (suc k) [] [] few few' are are' lower = ⊎_elim (λ lt. absurd (omega arith)) (λ both. absurd (let lt = both.1 in omega arith)) lower
precedes (suc k) (x ∷ xs) [] few few' are are' lower = ⊎_elim (λ lt. absurd (omega arith)) (λ both. absurd (let lt = both.1 in omega arith)) lower
precedes (suc k) [] (y ∷ ys) few few' are are' lower = tt
precedes (suc k) (x ∷ xs) (y ∷ ys) few few' are are' lower = elim (cases_lt x y) [
  | inl lt ↦ inl lt
  | inr ge ↦ elim (cases_lt y x) [
    | inl gt ↦ absurd (let above = lower_first y x (256 ^ k) (value k ys) (value k xs) gt (value_lt k ys are'.1) in ⊎_elim (λ lt. omega arith) (λ both. let same = both.0 in omega arith) lower)
    | inr le ↦ let same : x ≡ y = omega arith in inr (same, precedes k xs ys (omega arith) (omega arith) are.1 are'.1 (behind same lower))
  ]
]
  where
    behind : x ≡ y → IsLower (suc k) (x ∷ xs) (y ∷ ys) → IsLower k xs ys
    behind same (inl lt) = let first = ap (λ b. b * 256 ^ k) same in inl (omega arith)
    behind same (inr both) = let first = ap (λ b. b * 256 ^ k) same in let value_is = both.0 in let fewer = both.1 in inr (omega arith, omega arith)

lower : (k : ℕ) (xs ys : List ℕ) → length xs ≤ k → length ys ≤ k → AreBytes xs → AreBytes ys → Precedes xs ys → IsLower k xs ys
lower k [] [] few few' are are' before = absurd before
lower k (x ∷ xs) [] few few' are are' before = absurd before
lower zero [] (y ∷ ys) few few' are are' before = absurd (omega arith)
lower zero (x ∷ xs) (y ∷ ys) few few' are are' before = absurd (omega arith)
lower (suc k) [] (y ∷ ys) few few' are are' before = elim (cases_eq (value (suc k) (y ∷ ys)) 0) [
  | inl none ↦ inr (omega arith, omega arith)
  | inr some ↦ inl (omega arith)
]
lower (suc k) (x ∷ xs) (y ∷ ys) few few' are are' (inl lt) = inl (lower_first x y (256 ^ k) (value k xs) (value k ys) lt (value_lt k xs are.1))
lower (suc k) (x ∷ xs) (y ∷ ys) few few' are are' (inr both) =
    let first = ap (λ b. b * 256 ^ k) both.0 in
    ⊎_elim (λ lt. inl (omega arith)) (λ rest. let same = rest.0 in let fewer = rest.1 in inr (omega arith, omega arith)) (lower k xs ys (omega arith) (omega arith) are.1 are'.1 both.1)

-- what the bytes of a key are
record HasBytes (key : MapKey) : Type 0 where
  count : length (bytes_of key) ≡ rank key % 256
  few : length (bytes_of key) ≤ 15
  bytes : AreBytes (bytes_of key)
  value_is : value 15 (bytes_of key) ≡ rank key / 256

has_bytes : (key : MapKey) → HasBytes key
unfolding rank
has_bytes key =
    let are = AreWords-from key.first key.second key.is_key in
    let n = number_of key.first key.second in
    let m = key.second % 256 in
    let few : m ≤ 15 = omega (arith, are.few) in
    let all = words-number key.first key.second are.second in
    let front : bytes_of key ≡ take m (bytes_high_first 15 (n / 256)) = ap (λ (bs : List ℕ). take m bs) all ∙ take-front m 15 n few in
    let zeros : 15 - m ≤ zero_bytes 15 (n / 256) = omega (arith, are.zeros) in
    let small : n / 256 < 256 ^ 15 = omega (arith, are.first, are.second) in
    record {
      count = length-take-le m (word_bytes key) (omega arith) ∙ omega arith;
      few = let count : length (bytes_of key) ≡ m = length-take-le m (word_bytes key) (omega arith) in omega arith;
      bytes = rw front (are_bytes m 15 (n / 256));
      value_is = ap (value 15) front ∙ (value-bytes 15 m (n / 256) few (λ i lt. zeros-to (15 - m) 15 (n / 256) zeros i lt) ∙ mod-eq_of_lt small);
    }

-- the order of ranks is that of the bytes
pub rank-bytes : (a b : MapKey) → (rank a < rank b) ↔ Precedes (bytes_of a) (bytes_of b)
rank-bytes a b =
    let one = has_bytes a in
    let two = has_bytes b in (
      λ lt. precedes 15 (bytes_of a) (bytes_of b) one.few two.few one.bytes two.bytes (elim (cases_lt (rank a / 256) (rank b / 256)) [
        | inl front ↦ inl (omega (arith, one.value_is, two.value_is))
        | inr rest ↦ inr (omega (arith, one.value_is, two.value_is), omega (arith, one.count, two.count))
      ]),
      λ before. ⊎_elim (λ front. omega (arith, one.value_is, two.value_is)) (λ rest. let same = rest.0 in let fewer = rest.1 in omega (arith, one.value_is, two.value_is, one.count, two.count))
          (lower 15 (bytes_of a) (bytes_of b) one.few two.few one.bytes two.bytes before),
    )

-- the bytes stand in front
taken : (bs : List ℕ) → length bs ≤ 15 → take (length bs) (first_bytes bs ++ second_bytes bs) ≡ bs
taken [] le = refl
taken (x0 ∷ []) le = refl
taken (x0 ∷ x1 ∷ []) le = refl
taken (x0 ∷ x1 ∷ x2 ∷ []) le = refl
taken (x0 ∷ x1 ∷ x2 ∷ x3 ∷ []) le = refl
taken (x0 ∷ x1 ∷ x2 ∷ x3 ∷ x4 ∷ []) le = refl
taken (x0 ∷ x1 ∷ x2 ∷ x3 ∷ x4 ∷ x5 ∷ []) le = refl
taken (x0 ∷ x1 ∷ x2 ∷ x3 ∷ x4 ∷ x5 ∷ x6 ∷ []) le = refl
taken (x0 ∷ x1 ∷ x2 ∷ x3 ∷ x4 ∷ x5 ∷ x6 ∷ x7 ∷ []) le = refl
taken (x0 ∷ x1 ∷ x2 ∷ x3 ∷ x4 ∷ x5 ∷ x6 ∷ x7 ∷ x8 ∷ []) le = refl
taken (x0 ∷ x1 ∷ x2 ∷ x3 ∷ x4 ∷ x5 ∷ x6 ∷ x7 ∷ x8 ∷ x9 ∷ []) le = refl
taken (x0 ∷ x1 ∷ x2 ∷ x3 ∷ x4 ∷ x5 ∷ x6 ∷ x7 ∷ x8 ∷ x9 ∷ x10 ∷ []) le = refl
taken (x0 ∷ x1 ∷ x2 ∷ x3 ∷ x4 ∷ x5 ∷ x6 ∷ x7 ∷ x8 ∷ x9 ∷ x10 ∷ x11 ∷ []) le = refl
taken (x0 ∷ x1 ∷ x2 ∷ x3 ∷ x4 ∷ x5 ∷ x6 ∷ x7 ∷ x8 ∷ x9 ∷ x10 ∷ x11 ∷ x12 ∷ []) le = refl
taken (x0 ∷ x1 ∷ x2 ∷ x3 ∷ x4 ∷ x5 ∷ x6 ∷ x7 ∷ x8 ∷ x9 ∷ x10 ∷ x11 ∷ x12 ∷ x13 ∷ []) le = refl
taken (x0 ∷ x1 ∷ x2 ∷ x3 ∷ x4 ∷ x5 ∷ x6 ∷ x7 ∷ x8 ∷ x9 ∷ x10 ∷ x11 ∷ x12 ∷ x13 ∷ x14 ∷ []) le = refl
taken (x0 ∷ x1 ∷ x2 ∷ x3 ∷ x4 ∷ x5 ∷ x6 ∷ x7 ∷ x8 ∷ x9 ∷ x10 ∷ x11 ∷ x12 ∷ x13 ∷ x14 ∷ x15 ∷ bs) le = absurd (omega arith)

-- the front of the words, place by place
placed : (bs : List ℕ) (i : ℕ) → i < 15 → get_or (first_bytes bs ++ second_bytes bs) i 0 ≡ get_or bs i 0
placed bs zero lt = refl
placed bs (suc zero) lt = refl
placed bs (suc (suc zero)) lt = refl
placed bs (suc (suc (suc zero))) lt = refl
placed bs (suc (suc (suc (suc zero)))) lt = refl
placed bs (suc (suc (suc (suc (suc zero))))) lt = refl
placed bs (suc (suc (suc (suc (suc (suc zero)))))) lt = refl
placed bs (suc (suc (suc (suc (suc (suc (suc zero))))))) lt = refl
placed bs (suc (suc (suc (suc (suc (suc (suc (suc zero)))))))) lt = refl
placed bs (suc (suc (suc (suc (suc (suc (suc (suc (suc zero))))))))) lt = refl
placed bs (suc (suc (suc (suc (suc (suc (suc (suc (suc (suc zero)))))))))) lt = refl
placed bs (suc (suc (suc (suc (suc (suc (suc (suc (suc (suc (suc zero))))))))))) lt = refl
placed bs (suc (suc (suc (suc (suc (suc (suc (suc (suc (suc (suc (suc zero)))))))))))) lt = refl
placed bs (suc (suc (suc (suc (suc (suc (suc (suc (suc (suc (suc (suc (suc zero))))))))))))) lt = refl
placed bs (suc (suc (suc (suc (suc (suc (suc (suc (suc (suc (suc (suc (suc (suc zero)))))))))))))) lt = refl
placed bs (suc (suc (suc (suc (suc (suc (suc (suc (suc (suc (suc (suc (suc (suc (suc i))))))))))))))) lt = absurd (omega arith)

small_first : (bs : List ℕ) → ((i : ℕ) → get_or bs i 0 < 256) → (i : ℕ) → get_or (first_bytes bs) i 0 < 256
small_first bs small zero = small 0
small_first bs small (suc zero) = small 1
small_first bs small (suc (suc zero)) = small 2
small_first bs small (suc (suc (suc zero))) = small 3
small_first bs small (suc (suc (suc (suc zero)))) = small 4
small_first bs small (suc (suc (suc (suc (suc zero))))) = small 5
small_first bs small (suc (suc (suc (suc (suc (suc zero)))))) = small 6
small_first bs small (suc (suc (suc (suc (suc (suc (suc zero))))))) = small 7
small_first bs small (suc (suc (suc (suc (suc (suc (suc (suc i)))))))) = omega arith

small_second : (bs : List ℕ) → length bs ≤ 15 → ((i : ℕ) → get_or bs i 0 < 256) → (i : ℕ) → get_or (second_bytes bs) i 0 < 256
small_second bs le small zero = small 8
small_second bs le small (suc zero) = small 9
small_second bs le small (suc (suc zero)) = small 10
small_second bs le small (suc (suc (suc zero))) = small 11
small_second bs le small (suc (suc (suc (suc zero)))) = small 12
small_second bs le small (suc (suc (suc (suc (suc zero))))) = small 13
small_second bs le small (suc (suc (suc (suc (suc (suc zero)))))) = small 14
small_second bs le small (suc (suc (suc (suc (suc (suc (suc zero))))))) = omega arith
small_second bs le small (suc (suc (suc (suc (suc (suc (suc (suc i)))))))) = omega arith

-- the words of at most 15 bytes are a key's, and its bytes are they
pub record AreOfBytes (bs : List ℕ) (first second : ℕ) : Type 0 where
  pub is_key : is_key_words first second ≡ true
  pub bytes : take (second % 256) (to_be_bytes w64 first ++ to_be_bytes w64 second) ≡ bs

pub words-of_bytes : (bs : List ℕ) (first second : ℕ) → length bs ≤ 15 → ((i : ℕ) → get_or bs i 0 < 256) → first < 2 ^ 64 → second < 2 ^ 64
    → first ≡ from_be_bytes w64 (first_bytes bs) → second ≡ from_be_bytes w64 (second_bytes bs) → AreOfBytes bs first second
words-of_bytes bs first second le small fits fits' is is' =
    let n = number_of first second in
    let front = be_bytes_8 (first_bytes bs) first refl (small_first bs small) is in
    let back = be_bytes_8 (second_bytes bs) second refl (small_second bs le small) is' in
    let all : to_be_bytes w64 first ++ to_be_bytes w64 second ≡ first_bytes bs ++ second_bytes bs = ap₂ (λ (xs ys : List ℕ). xs ++ ys) front back in
    let number : bytes_high_first 16 n ≡ first_bytes bs ++ second_bytes bs = sym (words-number first second fits') ∙ all in
    let count : second % 256 ≡ length bs = omega arith in
    let zero_at : (i : ℕ) → i < 15 - length bs → byte_at i (n / 256) ≡ 0 = λ i lt.
    shifted i n ∙ (sym (byte-at 16 (14 - i) (suc i) n (omega arith)) ∙ (ap (λ (xs : List ℕ). get_or xs (14 - i) 0) number ∙ (placed bs (14 - i) (omega arith) ∙ get_or-past bs (14 - i) (omega arith)))) in
    let zeros = zeros-from (15 - length bs) 15 (n / 256) (omega arith) zero_at in
    record {
      is_key = AreWords-is first second (record { first = fits; second = fits'; few = omega arith; zeros = omega arith });
      bytes = ap (λ m. take m (to_be_bytes w64 first ++ to_be_bytes w64 second)) count ∙ (ap (λ (xs : List ℕ). take (length bs) xs) all ∙ taken bs le);
    }
  where
    get_or-past : (xs : List ℕ) (i : ℕ) → length xs ≤ i → get_or xs i 0 ≡ 0
    get_or-past [] i past = refl
    get_or-past (x ∷ xs) zero past = absurd (omega arith)
    get_or-past (x ∷ xs) (suc i) past = get_or-past xs i (omega arith)

small_at : (bs : List ℕ) → AreBytes bs → (i : ℕ) → get_or bs i 0 < 256
small_at [] are i = omega arith
small_at (b ∷ bs) are zero = are.0
small_at (b ∷ bs) are (suc i) = small_at bs are.1 i

-- the bytes of the key of at most 15 bytes are they
pub bytes-key_of_bytes : (bs : List ℕ) → length bs ≤ 15 → AreBytes bs → bytes_of (key_of_bytes bs) ≡ bs
bytes-key_of_bytes bs le are =
    let first = from_be_bytes w64 (first_bytes bs) in
    let second = from_be_bytes w64 (second_bytes bs) in
    let small = small_at bs are in
    let s0 = small 0 in let s1 = small 1 in let s2 = small 2 in let s3 = small 3 in let s4 = small 4 in let s5 = small 5 in let s6 = small 6 in let s7 = small 7 in
    let s8 = small 8 in let s9 = small 9 in let s10 = small 10 in let s11 = small 11 in let s12 = small 12 in let s13 = small 13 in let s14 = small 14 in
    let words = words-of_bytes bs first second le small (omega arith) (omega arith) refl refl in
    let of = words-key_in first second words.is_key in
    ap₂ (λ (m n : ℕ). take (n % 256) (to_be_bytes w64 m ++ to_be_bytes w64 n)) of.0 of.1 ∙ words.bytes

-- nothing is before itself, so keys of the same bytes are one
not_before : (bs : List ℕ) → Precedes bs bs → ⊥
not_before [] before = before
not_before (b ∷ bs) (inl lt) = omega arith
not_before (b ∷ bs) (inr both) = not_before bs both.1

pub bytes-injective : (a b : MapKey) → bytes_of a ≡ bytes_of b → a ≡ b
bytes-injective a b same = rank_injective a b (elim (cases_lt (rank a) (rank b)) [
  | inl lt ↦ absurd (not_before (bytes_of b) (subst (λ (bs : List ℕ). Precedes bs (bytes_of b)) same ((rank-bytes a b).0 lt)))
  | inr ge ↦ elim (cases_lt (rank b) (rank a)) [
    | inl lt ↦ absurd (not_before (bytes_of b) (subst (λ (bs : List ℕ). Precedes (bytes_of b) bs) same ((rank-bytes b a).0 lt)))
    | inr le ↦ omega arith
  ]
])

-- a key has bytes, 15 at most
pub key-bytes : (key : MapKey) → AreBytes (bytes_of key)
key-bytes key = (has_bytes key).bytes

pub key-few : (key : MapKey) → length (bytes_of key) ≤ 15
key-few key = (has_bytes key).few

-- .. and is the key of them
pub key_of_bytes-bytes : (key : MapKey) → key_of_bytes (bytes_of key) ≡ key
key_of_bytes-bytes key = bytes-injective (key_of_bytes (bytes_of key)) key (bytes-key_of_bytes (bytes_of key) (key-few key) (key-bytes key))
