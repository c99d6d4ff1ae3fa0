-- Second keys by their bytes, and by their words.
use Rattle.std.proofs.Common.{◌≡◌, ℕ, zero, suc, ◌+◌, ◌-◌, ◌%◌, ◌<◌, ◌≤◌, ◌^◌, ◌++◌, ◌↔◌, List, [], ◌∷◌, length, take, drop, ap, ap₂, sym, arith, ◌∙◌, inl, inr, length-append, length-take-le}
use Rattle.std.proofs.lemmas.Bool.{cases_lt}
use Rattle.std.proofs.lemmas.Nat.{from_be_bytes-to_be_bytes_8}
use Rattle.std.proofs.Math.Seq.{take-append_seam, take-append-add, drop-append_seam}
use Rattle.std.specs.Prelude.{replicate, true}
use Rattle.std.specs.Int.{w64, from_be_bytes, to_be_bytes}
use Rattle.ib_map.specs.Keys.{MapKey, key_in, rank}
use Rattle.ib_map.specs.KeyBytes.{AreBytes, bytes_of, key_of_bytes, word_bytes}
use Rattle.ib_map.specs.KeyWords.{is_key_words}
use Rattle.ib_map.proofs.ByteLaws.{bytes-key_of_bytes, bytes-injective, key-bytes, key_of_bytes-bytes}
use Rattle.ib_map.proofs.CompareLaws.{rank-pairs}
use Rattle.ib_map.proofs.KeyLaws.{AreWords-from, AreWords-is, key_few, key_second, number_words, words-key_in}
use Rattle.ib_second_key.specs.SecondKeys.{IsPrimary, IsPrimaryPair, second_key_of, primary_of, least_of_value, greatest_of_value}

-- bytes behind bytes
AreBytes-append : (xs ys : List ℕ) → AreBytes xs → AreBytes ys → AreBytes (xs ++ ys)
AreBytes-append [] ys front back = back
AreBytes-append (x ∷ xs) ys front back = (front.0, AreBytes-append xs ys front.1 back)

pub AreBytes-drop : (n : ℕ) (xs : List ℕ) → AreBytes xs → AreBytes (drop n xs)
AreBytes-drop zero xs are = are
AreBytes-drop (suc n) [] are = are
AreBytes-drop (suc n) (x ∷ xs) are = AreBytes-drop n xs are.1

-- the bytes of a word
AreBytes-word : (value : ℕ) → AreBytes (to_be_bytes w64 value)
AreBytes-word value = (omega arith, (omega arith, (omega arith, (omega arith, (omega arith, (omega arith, (omega arith, (omega arith, tt))))))))

AreBytes-high : AreBytes (replicate 7 255)
AreBytes-high = (omega arith, (omega arith, (omega arith, (omega arith, (omega arith, (omega arith, (omega arith, tt)))))))

-- the bytes of a second key, and of the ends of a value
pub bytes-second : (key : MapKey) (value : ℕ) → IsPrimary key → bytes_of (second_key_of key value) ≡ to_be_bytes w64 value ++ bytes_of key
unfolding second_key_of
bytes-second key value is =
    bytes-key_of_bytes (to_be_bytes w64 value ++ bytes_of key) (let l = length-append (to_be_bytes w64 value) (bytes_of key) in omega arith)
    (AreBytes-append (to_be_bytes w64 value) (bytes_of key) (AreBytes-word value) (key-bytes key))

pub bytes-least : (value : ℕ) → bytes_of (least_of_value value) ≡ to_be_bytes w64 value
unfolding least_of_value
bytes-least value = bytes-key_of_bytes (to_be_bytes w64 value) (omega arith) (AreBytes-word value)

bytes-greatest : (value : ℕ) → bytes_of (greatest_of_value value) ≡ to_be_bytes w64 value ++ replicate 7 255
unfolding greatest_of_value
bytes-greatest value =
    bytes-key_of_bytes (to_be_bytes w64 value ++ replicate 7 255) (omega arith)
    (AreBytes-append (to_be_bytes w64 value) (replicate 7 255) (AreBytes-word value) AreBytes-high)

-- the words of the ends of a value
pub least-words : (value : ℕ) → value < 2 ^ 64 → ((least_of_value value).first ≡ value) × ((least_of_value value).second ≡ 8)
least-words value lt =
    let is = number_words value lt in
    let words = words-key_in value 8 is in
    let same : key_in value 8 ≡ least_of_value value = bytes-injective (key_in value 8) (least_of_value value)
    (ap₂ (λ (m n : ℕ). take (n % 256) (to_be_bytes w64 m ++ to_be_bytes w64 n)) words.0 words.1 ∙ sym (bytes-least value)) in
    (ap (λ (k : MapKey). k.first) (sym same) ∙ words.0, ap (λ (k : MapKey). k.second) (sym same) ∙ words.1)

pub greatest-words : (value : ℕ) → value < 2 ^ 64 → ((greatest_of_value value).first ≡ value) × ((greatest_of_value value).second ≡ 2 ^ 64 - 241)
greatest-words value lt =
    let is : is_key_words value (2 ^ 64 - 241) ≡ true = AreWords-is value (2 ^ 64 - 241) (record { first = lt; second = omega arith; few = omega arith; zeros = omega arith }) in
    let words = words-key_in value (2 ^ 64 - 241) is in
    let same : key_in value (2 ^ 64 - 241) ≡ greatest_of_value value = bytes-injective (key_in value (2 ^ 64 - 241)) (greatest_of_value value)
    (ap₂ (λ (m n : ℕ). take (n % 256) (to_be_bytes w64 m ++ to_be_bytes w64 n)) words.0 words.1 ∙ sym (bytes-greatest value)) in
    (ap (λ (k : MapKey). k.first) (sym same) ∙ words.0, ap (λ (k : MapKey). k.second) (sym same) ∙ words.1)

-- how many bytes a key has, by its second word
count-bytes : (key : MapKey) → length (bytes_of key) ≡ key.second % 256
count-bytes key = length-take-le (key.second % 256) (word_bytes key) (let few = key_few key in omega arith)

-- a key whose bytes begin with those of a word has this as its first word, and eight bytes at least
pub first-word : (key : MapKey) (value : ℕ) (back : List ℕ) → value < 2 ^ 64 → bytes_of key ≡ to_be_bytes w64 value ++ back → (key.first ≡ value) × (8 ≤ key.second)
first-word key value back lt is =
    let count : key.second % 256 ≡ 8 + length back = sym (count-bytes key) ∙ (ap length is ∙ length-append (to_be_bytes w64 value) back) in
    let e : key.second % 256 ≡ 8 + (key.second % 256 - 8) = omega arith in
    let whole : bytes_of key ≡ to_be_bytes w64 key.first ++ take (key.second % 256 - 8) (to_be_bytes w64 key.second) =
    ap (λ (n : ℕ). take n (word_bytes key)) e ∙ take-append-add (to_be_bytes w64 key.first) (to_be_bytes w64 key.second) (key.second % 256 - 8) in
    let front : to_be_bytes w64 key.first ≡ to_be_bytes w64 value =
    sym (take-append_seam (to_be_bytes w64 key.first) (take (key.second % 256 - 8) (to_be_bytes w64 key.second)))
    ∙ (ap (take 8) (sym whole ∙ is) ∙ take-append_seam (to_be_bytes w64 value) back) in
    let fits = AreWords-from key.first key.second key.is_key in
    (sym (from_be_bytes-to_be_bytes_8 key.first fits.first) ∙ (ap (from_be_bytes w64) front ∙ from_be_bytes-to_be_bytes_8 value lt), omega arith)

pub second-words : (key : MapKey) (value : ℕ) → IsPrimaryPair key value → ((second_key_of key value).first ≡ value) × (8 ≤ (second_key_of key value).second)
second-words key value is = first-word (second_key_of key value) value (bytes_of key) is.1 (bytes-second key value is.0)

-- the key and the value of a second key
drop-eight : (value : ℕ) (back : List ℕ) → drop 8 (to_be_bytes w64 value ++ back) ≡ back
drop-eight value back = drop-append_seam (to_be_bytes w64 value) back

pub primary-second : (key : MapKey) (value : ℕ) → IsPrimaryPair key value → primary_of (second_key_of key value) ≡ key
unfolding primary_of
primary-second key value is = ap (λ (bs : List ℕ). key_of_bytes (drop 8 bs)) (bytes-second key value is.0) ∙ (ap key_of_bytes (drop-eight value (bytes_of key)) ∙ key_of_bytes-bytes key)

pub second-injective : (a : MapKey) (v : ℕ) (b : MapKey) (w : ℕ) → IsPrimaryPair a v → IsPrimaryPair b w → second_key_of a v ≡ second_key_of b w → (a ≡ b) × (v ≡ w)
second-injective a v b w one two same = (
  sym (primary-second a v one) ∙ (ap primary_of same ∙ primary-second b w two),
  sym (second-words a v one).0 ∙ (ap (λ (k : MapKey). k.first) same ∙ (second-words b w two).0),
)

-- the order of keys, by their words
rank-le : (a b : MapKey) → a.first ≡ b.first → a.second ≤ b.second → rank a ≤ rank b
rank-le a b same le = elim (cases_lt (rank b) (rank a)) [
  | inl lt ↦ elim ((rank-pairs b a).0 lt) [ inl less ↦ absurd (omega arith) | inr both ↦ absurd (let x = both.1 in omega arith) ]
  | inr ge ↦ ge
]

first-le : (a b : MapKey) → rank a ≤ rank b → a.first ≤ b.first
first-le a b le = elim (cases_lt b.first a.first) [
  | inl lt ↦ absurd (let x = (rank-pairs b a).1 (inl lt) in omega arith)
  | inr ge ↦ ge
]

-- a second key stands between the ends of its value, and of no other
pub second-between : (key : MapKey) (value other : ℕ) → IsPrimaryPair key value → other < 2 ^ 64
    → ((rank (least_of_value other) ≤ rank (second_key_of key value)) × (rank (second_key_of key value) ≤ rank (greatest_of_value other))) ↔ (value ≡ other)
second-between key value other is lt =
    let s = second_key_of key value in
    let l = least_of_value other in
    let g = greatest_of_value other in
    let words = second-words key value is in
    let low = least-words other lt in
    let high = greatest-words other lt in (
      λ between. let a = first-le l s between.0 in let b = first-le s g between.1 in let c = words.0 in let d = low.0 in let e = high.0 in omega arith,
      λ same. (
        rank-le l s (low.0 ∙ (sym same ∙ sym words.0)) (let a = words.1 in let b = low.1 in omega arith),
        rank-le s g (words.0 ∙ (same ∙ sym high.0)) (let a = key_second s in let b = key_few s in let c = high.1 in omega arith),
      ),
    )
