-- Keys of 16 bytes: those of the key, zeros, and how many are its own. Only its own can be written as they are.
use Rattle.std.proofs.Common.{◌≡◌, ◌∙◌, ℕ, zero, suc, ◌*◌, ◌%◌, ◌<◌, ◌≤◌, List, [], ◌∷◌, ◌++◌, true, false, inl, inr, ap, ap₂, sym, refl, length, take, drop, get_or, get_or-set_other, get_or-set_same, length-set, set, arith, cond, ◌+◌, ◌&&◌}
use Rattle.std.proofs.lemmas.Bool.{and_parts, cases_lt, ne_eqb, eq-eqb}
use Rattle.std.proofs.lemmas.List.{get_or-take, length-take, length-take-le, take_all, take_min}
use Rattle.std.proofs.lemmas.List.Sums.{count_by-le-length, sum_by-append}
use Rattle.std.proofs.lemmas.Nat.{be_bytes_8}
use Rattle.std.specs.Int.{w64, from_be_bytes, to_be_bytes}
use Rattle.std.specs.List.{list_all}
use Rattle.std.specs.Prelude.{count_by, flat_map, nat_lt, ◌==◌}
use Rattle.ib_map.proofs.ByteLaws.{key-bytes, key-few, key_of_bytes-bytes, words-of_bytes}
use Rattle.ib_map.proofs.KeyLaws.{words-key_in}
use Rattle.ib_map.specs.KeyBytes.{AreBytes, bytes_of, first_bytes, key_of_bytes, second_bytes, word_bytes}
use Rattle.ib_map.specs.Keys.{MapKey, key_in}
use Rattle.ib_text.proofs.SpellingLaws.{either, gt-leb}
use Rattle.ib_text.specs.Keys.{hex_byte, is_plain, is_plain_text}

pub key-front : (key : MapKey) (padded : List ℕ) (len : ℕ) → padded ≡ word_bytes key → len ≡ length (bytes_of key) → take len padded ≡ bytes_of key
key-front key padded len words is =
    let n = key.second % 256 in
    ap (take len) words ∙ ap (λ k. take k (word_bytes key)) (is ∙ length-take n (word_bytes key)) ∙ take_min n (word_bytes key)

-- the digits of bytes in front are in front of the digits
pub digits-front : (len : ℕ) (bytes : List ℕ) → take (2 * len) (flat_map hex_byte bytes) ≡ flat_map hex_byte (take len bytes)
digits-front zero bytes = refl
digits-front (suc len) [] = take_all (2 * suc len) [] (omega arith)
digits-front (suc len) (b ∷ bytes) =
    let two : 2 * suc len ≡ suc (suc (2 * len)) = omega arith in
    rw (two, digits-front len bytes) refl

-- so many bytes from a place on, with zeros behind the last one
abbrev pub from : ℕ → ℕ → List ℕ → List ℕ
from k zero bs = []
from k (suc n) bs = get_or bs k 0 ∷ from (suc k) n bs

from-next : (k n b : ℕ) (bs : List ℕ) → from (suc k) n (b ∷ bs) ≡ from k n bs
from-next k zero b bs = refl
from-next k (suc n) b bs = ap (λ (xs : List ℕ). get_or bs k 0 ∷ xs) (from-next (suc k) n b bs)

count-next : (b : ℕ) (bs : List ℕ) → count_by is_plain (b ∷ bs) ≡ cond (is_plain b) 1 0 + count_by is_plain bs
count-next b bs = let sum = sum_by-append (λ x. cond (is_plain x) 1 0) (b ∷ []) bs in omega (arith, sum)

count-zeros : (k n : ℕ) → count_by is_plain (from k n []) ≡ 0
count-zeros k zero = refl
count-zeros k (suc n) = count-zeros (suc k) n

count-from : (n : ℕ) (bs : List ℕ) → length bs ≤ n → count_by is_plain (from 0 n bs) ≡ count_by is_plain bs
count-from n [] le = count-zeros 0 n
count-from zero (b ∷ bs) le = absurd (omega arith)
count-from (suc n) (b ∷ bs) le =
    count-next b (from 1 n (b ∷ bs)) ∙ ap (λ m. cond (is_plain b) 1 0 + m) (ap (count_by is_plain) (from-next 0 n b bs) ∙ count-from n bs (omega arith)) ∙ sym (count-next b bs)

few-plain : (n : ℕ) → n ≤ 15 → is_plain n ≡ false
few-plain n le = rw (gt-leb 48 n (omega arith), gt-leb 65 n (omega arith), gt-leb 97 n (omega arith), ne_eqb n 95 (λ e. omega arith), ne_eqb n 46 (λ e. omega arith)) refl

count-before : (xs : List ℕ) (n : ℕ) → is_plain n ≡ false → count_by is_plain (xs ++ n ∷ []) ≡ count_by is_plain xs
count-before [] n other = rw other refl
count-before (x ∷ xs) n other = count-next x (xs ++ n ∷ []) ∙ ap (λ m. cond (is_plain x) 1 0 + m) (count-before xs n other) ∙ sym (count-next x xs)

count-padded : (bs : List ℕ) → length bs ≤ 15 → count_by is_plain (first_bytes bs ++ second_bytes bs) ≡ count_by is_plain bs
count-padded bs le = count-before (from 0 15 bs) (length bs) (few-plain (length bs) le) ∙ count-from 15 bs le

-- all are plain where so many are
count-all : (bs : List ℕ) → list_all is_plain bs ≡ true → count_by is_plain bs ≡ length bs
count-all [] all = refl
count-all (b ∷ bs) all =
    let parts = and_parts (is_plain b) (list_all is_plain bs) all in
    let one : count_by is_plain (b ∷ bs) ≡ 1 + count_by is_plain bs = count-next b bs ∙ ap (λ t. cond t 1 0 + count_by is_plain bs) parts.0 in
    omega (arith, one, count-all bs parts.1)

count-fewer : (bs : List ℕ) → list_all is_plain bs ≡ false → count_by is_plain bs < length bs
count-fewer [] other = absurd (let e : true ≡ false = other in cc)
count-fewer (b ∷ bs) other = elim (either (is_plain b)) [
  | inl plain ↦
      let one : count_by is_plain (b ∷ bs) ≡ 1 + count_by is_plain bs = count-next b bs ∙ ap (λ t. cond t 1 0 + count_by is_plain bs) plain in
      let rest : list_all is_plain bs ≡ false = ap (λ t. t && list_all is_plain bs) (sym plain) ∙ other in
      omega (arith, one, count-fewer bs rest)
  | inr not_plain ↦
      let none : count_by is_plain (b ∷ bs) ≡ 0 + count_by is_plain bs = count-next b bs ∙ ap (λ t. cond t 1 0 + count_by is_plain bs) not_plain in
      omega (arith, none, count_by-le-length is_plain bs)
]

counted : (bs : List ℕ) → (count_by is_plain bs == length bs) ≡ list_all is_plain bs
counted bs = elim (either (list_all is_plain bs)) [
  | inl all ↦ eq-eqb (count_by is_plain bs) (length bs) (count-all bs all) ∙ sym all
  | inr other ↦ ne_eqb (count_by is_plain bs) (length bs) (λ e. let lt = count-fewer bs other in omega arith) ∙ sym other
]

pub plain-padded : (bs padded : List ℕ) (len : ℕ) → padded ≡ first_bytes bs ++ second_bytes bs → len ≡ length bs → length bs ≤ 15
    → (nat_lt 0 len && (count_by is_plain padded == len)) ≡ is_plain_text bs
plain-padded bs padded len are is le =
    ap (λ (xs : List ℕ). nat_lt 0 len && (count_by is_plain xs == len)) are
    ∙ ap (λ n. nat_lt 0 len && (n == len)) (count-padded bs le)
    ∙ ap (λ n. nat_lt 0 n && (count_by is_plain bs == n)) is
    ∙ ap (λ t. nat_lt 0 (length bs) && t) (counted bs)

-- the words of a key are its bytes so
small : (bs : List ℕ) → AreBytes bs → (i : ℕ) → get_or bs i 0 < 256
small [] are i = omega arith
small (b ∷ bs) are zero = are.0
small (b ∷ bs) are (suc i) = small bs are.1 i

pub key-padded : (key : MapKey) → word_bytes key ≡ first_bytes (bytes_of key) ++ second_bytes (bytes_of key)
key-padded key =
    let bs = bytes_of key in
    let are = small bs (key-bytes key) in
    let few = key-few key in
    let first = from_be_bytes w64 (first_bytes bs) in
    let second = from_be_bytes w64 (second_bytes bs) in
    let a0 = are 0 in let a1 = are 1 in let a2 = are 2 in let a3 = are 3 in let a4 = are 4 in let a5 = are 5 in let a6 = are 6 in let a7 = are 7 in
    let a8 = are 8 in let a9 = are 9 in let a10 = are 10 in let a11 = are 11 in let a12 = are 12 in let a13 = are 13 in let a14 = are 14 in
    let last : length bs < 256 = omega arith in
    let front = be_bytes_8 (first_bytes bs) first refl (small (first_bytes bs) (a0, (a1, (a2, (a3, (a4, (a5, (a6, (a7, tt))))))))) refl in
    let back = be_bytes_8 (second_bytes bs) second refl (small (second_bytes bs) (a8, (a9, (a10, (a11, (a12, (a13, (a14, (last, tt))))))))) refl in
    let words = words-of_bytes bs first second few are (omega arith) (omega arith) refl refl in
    let of = words-key_in first second words.is_key in
    ap word_bytes (sym (key_of_bytes-bytes key))
    ∙ ap₂ (λ (m n : ℕ). to_be_bytes w64 m ++ to_be_bytes w64 n) of.0 of.1
    ∙ ap₂ (λ (xs ys : List ℕ). xs ++ ys) front back

-- 16 bytes are those of a key where its own stand in front, zeros behind them, and their count at the end
from-all : (n : ℕ) (xs : List ℕ) → length xs ≡ n → from 0 n xs ≡ xs
from-all zero [] is = refl
from-all zero (x ∷ xs) is = absurd (omega arith)
from-all (suc n) [] is = absurd (omega arith)
from-all (suc n) (x ∷ xs) is = ap (λ (ys : List ℕ). x ∷ ys) (from-next 0 n x xs ∙ from-all n xs (omega arith))

from-same : (k n : ℕ) (xs ys : List ℕ) → ((i : ℕ) → k ≤ i → i < k + n → get_or xs i 0 ≡ get_or ys i 0) → from k n xs ≡ from k n ys
from-same k zero xs ys same = refl
from-same k (suc n) xs ys same =
    ap₂ (λ (z : ℕ) (zs : List ℕ). z ∷ zs) (same k (omega arith) (omega arith)) (from-same (suc k) n xs ys (λ i le lt. same i (omega arith) (omega arith)))

padded-from : (bs xs : List ℕ) → length xs ≡ 16 → ((i : ℕ) → i < 15 → get_or xs i 0 ≡ get_or bs i 0) → get_or xs 15 0 ≡ length bs → xs ≡ first_bytes bs ++ second_bytes bs
padded-from bs xs long same last =
    sym (from-all 16 xs long) ∙ ap₂ (λ (ys : List ℕ) (n : ℕ). ys ++ n ∷ []) (from-same 0 15 xs bs (λ i le lt. same i lt)) last

past : (xs : List ℕ) (i : ℕ) → length xs ≤ i → get_or xs i 0 ≡ 0
past [] i le = refl
past (x ∷ xs) zero le = absurd (omega arith)
past (x ∷ xs) (suc i) le = past xs i (omega arith)

pub zeros-at : (k n i : ℕ) → get_or (from k n []) i 0 ≡ 0
zeros-at k zero i = refl
zeros-at k (suc n) zero = refl
zeros-at k (suc n) (suc i) = zeros-at (suc k) n i

pub with-count : (bs xs : List ℕ) (len : ℕ) → length xs ≡ 16 → len ≡ length bs → len ≤ 15 → take len xs ≡ bs → ((i : ℕ) → len ≤ i → get_or xs i 0 ≡ 0)
    → set xs 15 len ≡ first_bytes bs ++ second_bytes bs
with-count bs xs len long is few front zeros =
    padded-from bs (set xs 15 len) (omega (arith, length-set {A = ℕ} xs 15 len)) same (let lt : 15 < length xs = omega arith in get_or-set_same xs 15 len 0 lt ∙ is)
  where
    same : (i : ℕ) → i < 15 → get_or (set xs 15 len) i 0 ≡ get_or bs i 0
    same i lt = get_or-set_other xs 15 i len 0 (λ e. omega arith) ∙ elim (cases_lt i len) [
      | inl own ↦ sym (get_or-take len xs i 0 own) ∙ ap (λ (ys : List ℕ). get_or ys i 0) front
      | inr behind ↦ zeros i behind ∙ sym (past bs i (omega arith))
    ]

-- so its key is read from them
pub padded-key : (bs padded : List ℕ) → padded ≡ first_bytes bs ++ second_bytes bs → key_in (from_be_bytes w64 (take 8 padded)) (from_be_bytes w64 (drop 8 padded)) ≡ key_of_bytes bs
padded-key bs padded are = ap (λ (xs : List ℕ). key_in (from_be_bytes w64 (take 8 xs)) (from_be_bytes w64 (drop 8 xs))) are

-- bytes in front of zeros, with their count put behind
pub front-padded : (bytes : List ℕ) (len : ℕ) → length bytes ≡ 16 → len ≤ 15 → ((i : ℕ) → len ≤ i → get_or bytes i 0 ≡ get_or (from 0 16 []) i 0)
    → set bytes 15 len ≡ first_bytes (take len bytes) ++ second_bytes (take len bytes)
front-padded bytes len long few zeros =
    with-count (take len bytes) bytes len long (sym (length-take-le len bytes (omega arith))) few refl (λ i le. zeros i le ∙ zeros-at 0 16 i)
