-- The order of keys, as all code outside this crate knows it: no other proof opens `rank`, `end_rank` or `key_after`.
use Rattle.std.proofs.Common.{◌≡◌, ℕ, ◌+◌, ◌-◌, ◌*◌, ◌/◌, ◌%◌, ◌<◌, ◌≤◌, ◌^◌, ◌↔◌, Bool, true, false, Some, None, refl, arith, ap, sym, ◌∙◌, Option, SomeIff, IsNone, IfSome, inl, inr}
use mathlib.Core.Path.{path_j}
use Rattle.std.proofs.lemmas.Bool.{cases_lt, cases_eq, true≢false, false_from_ne_true, lt-ltb, le-ltb, le-leb, eq-eqb, ne_eqb, ltb-true, leb-true, and_parts, and_from}
use Rattle.ib_map.specs.KeyWords.{number_of, is_key_words, is_key_number, zero_bytes, number_behind}
use Rattle.ib_map.specs.Keys.{MapKey, rank, end_rank, key_after, key_in, key_by, least, greatest}
use Rattle.ib_map.proofs.ZeroBytes.{zero_bytes-le, zeros-seven, words-full}

-- what the words of a key are
pub record AreWords (a b : ℕ) : Type 0 where
  pub first : a < 2 ^ 64
  pub second : b < 2 ^ 64
  pub few : number_of a b % 256 ≤ 15
  pub zeros : 15 ≤ number_of a b % 256 + zero_bytes 15 (number_of a b / 256)

pub AreWords-from : (a b : ℕ) → is_key_words a b ≡ true → AreWords a b
unfolding is_key_words
AreWords-from a b is =
    let both = and_parts _ _ is in
    let words = and_parts _ _ both.0 in
    let number = and_parts _ _ both.1 in
    record { first = ltb-true _ _ words.0; second = ltb-true _ _ words.1; few = leb-true _ _ number.0; zeros = leb-true _ _ number.1 }

pub AreWords-is : (a b : ℕ) → AreWords a b → is_key_words a b ≡ true
unfolding is_key_words
AreWords-is a b are =
    and_from _ _ (and_from _ _ (lt-ltb _ _ are.first) (lt-ltb _ _ are.second)) (and_from _ _ (le-leb _ _ are.few) (le-leb _ _ are.zeros))

-- the key of the two words of a key is that key
pub key_by-key : (a b : ℕ) (t : Bool) (is : is_key_words a b ≡ t) → key_by a b t is ≡ key_in a b
unfolding key_in
key_by-key a b t is = path_j (λ (t : Bool) (is : is_key_words a b ≡ t). key_by a b t is ≡ key_by a b (is_key_words a b) refl) refl is

pub key_in-words : (key : MapKey) → key_in key.first key.second ≡ key
key_in-words key = sym (key_by-key key.first key.second true key.is_key)

-- the key of words that are a key's has them
pub rank-key_in : (a b : ℕ) → is_key_words a b ≡ true → rank (key_in a b) ≡ number_of a b
unfolding rank
rank-key_in a b is = ap rank (sym (key_by-key a b true is))

-- two words have one number
same_words : (a b c d : ℕ) → is_key_words a b ≡ true → is_key_words c d ≡ true → number_of a b ≡ number_of c d → (a ≡ c) × (b ≡ d)
same_words a b c d first second same =
    let one = AreWords-from a b first in
    let two = AreWords-from c d second in
    (omega (arith, one.second, two.second), omega (arith, one.second, two.second))

-- no two keys have one rank
pub rank_injective : (a b : MapKey) → rank a ≡ rank b → a ≡ b
unfolding rank
rank_injective a b same =
    let words = same_words a.first a.second b.first b.second a.is_key b.is_key same in
    sym (key_in-words a) ∙ (ap (λ n. key_in n a.second) words.0 ∙ (ap (key_in b.first) words.1 ∙ key_in-words b))

-- each rank is below the end
pub rank-lt_end : (key : MapKey) → rank key < end_rank
unfolding rank end_rank
rank-lt_end key = let are = AreWords-from key.first key.second key.is_key in omega (arith, are.first, are.second, are.few)

pub rank-least : rank least ≡ 0
unfolding rank
rank-least = refl

pub rank-greatest : rank greatest + 1 ≡ end_rank
unfolding rank end_rank
rank-greatest = refl

-- what the number of a key is
pub number-parts : (n : ℕ) → is_key_number n ≡ true → (n % 256 ≤ 15) × (15 ≤ n % 256 + zero_bytes 15 (n / 256))
number-parts n is = let parts = and_parts _ _ is in (leb-true _ _ parts.0, leb-true _ _ parts.1)

pub number-from : (len front : ℕ) → len ≤ 15 → 15 ≤ len + zero_bytes 15 front → is_key_number (front * 256 + len) ≡ true
number-from len front few zeros =
    let length : (front * 256 + len) % 256 ≡ len = omega arith in
    let rest : (front * 256 + len) / 256 ≡ front = omega arith in
    rw (length, rest) (and_from _ _ (le-leb len 15 few) (le-leb 15 (len + zero_bytes 15 front) zeros))

-- the number behind that of a key is a key's, is above it, and no number of a key lies between
pub record IsBehind (n next : ℕ) : Type 0 where
  pub above : n < next
  pub key : is_key_number next ≡ true
  pub adjacent : (other : ℕ) → is_key_number other ≡ true → n < other → next ≤ other
  pub fits : n + 241 < 2 ^ 128 → next < 2 ^ 128

pub number_behind-is : (n : ℕ) → is_key_number n ≡ true → IsBehind n (number_behind n)
number_behind-is n is = elim (cases_lt (n % 256) 15) [
  | inl few ↦ rw (lt-ltb (n % 256) 15 few) (longer n is few)
  | inr full ↦ rw (le-ltb (n % 256) 15 full) (raised n is full)
]
  where
    lowest : (n other : ℕ) → 15 ≤ n % 256 → n % 256 ≤ 15 → is_key_number other ≡ true → n < other → (n / 256 + 1) * 256 + (15 - zero_bytes 15 (n / 256 + 1)) ≤ other
    lowest n other full few is lt =
        let parts = number-parts other is in
        let le = zero_bytes-le 15 (n / 256 + 1) in
        elim (cases_eq (other / 256) (n / 256 + 1)) [
          | inl same ↦ let moved = rw same at parts.1 in omega (arith, moved, same, parts.0)
          | inr differs ↦ omega (arith, differs, parts.0)
        ]

    longer : (n : ℕ) → is_key_number n ≡ true → n % 256 < 15 → IsBehind n (n + 1)
    longer n is few =
        let parts = number-parts n is in
        let e : n / 256 * 256 + (n % 256 + 1) ≡ n + 1 = omega arith in
        record {
          above = omega arith;
          key = rw e at (number-from (n % 256 + 1) (n / 256) (omega arith) (omega (arith, parts)));
          adjacent = λ other _ lt. omega arith;
          fits = λ room. omega arith;
        }

    raised : (n : ℕ) → is_key_number n ≡ true → 15 ≤ n % 256 → IsBehind n ((n / 256 + 1) * 256 + (15 - zero_bytes 15 (n / 256 + 1)))
    raised n is full =
        let parts = number-parts n is in
        let le = zero_bytes-le 15 (n / 256 + 1) in
        record {
          above = omega arith;
          key = number-from (15 - zero_bytes 15 (n / 256 + 1)) (n / 256 + 1) (omega arith) (omega (arith, le));
          adjacent = λ other other_is lt. lowest n other full parts.0 other_is lt;
          fits = λ room. omega (arith, parts);
        }

-- the key after a key is a key, is above it, and no key lies between
is_number : (a b : ℕ) → is_key_words a b ≡ true → is_key_number (number_of a b) ≡ true
unfolding is_key_words
is_number a b is = (and_parts _ _ is).1

is_words : (n : ℕ) → is_key_number n ≡ true → n < 2 ^ 128 → is_key_words (n / 2 ^ 64) (n % 2 ^ 64) ≡ true
unfolding is_key_words
is_words n is lt =
    let whole : number_of (n / 2 ^ 64) (n % 2 ^ 64) ≡ n = omega arith in
    and_from _ _ (and_from _ _ (lt-ltb (n / 2 ^ 64) (2 ^ 64) (omega arith)) (lt-ltb (n % 2 ^ 64) (2 ^ 64) (omega arith))) (rw whole is)

rank_number : (key : MapKey) → is_key_number (rank key) ≡ true
unfolding rank
rank_number key = is_number key.first key.second key.is_key

rank_behind : (key : MapKey) → IsBehind (rank key) (number_behind (rank key))
rank_behind key = number_behind-is (rank key) (rank_number key)

pub record IsAfter (key next : MapKey) : Type 0 where
  pub above : rank key < rank next
  pub adjacent : (other : MapKey) → rank key < rank other → rank next ≤ rank other
  pub number : rank next ≡ number_behind (rank key)

pub after-is : (key next : MapKey) → key_after key ≡ Some next → IsAfter key next
unfolding key_after end_rank
after-is key next is = elim (cases_eq (rank key + 1) end_rank) [
  | inl last ↦ let stopped = rw (eq-eqb (rank key + 1) end_rank last) at is in cc
  | inr room ↦
      let stepped = rw (ne_eqb (rank key + 1) end_rank room) at is in
      let e : key_in (number_behind (rank key) / 2 ^ 64) (number_behind (rank key) % 2 ^ 64) ≡ next = cc in
      let behind = rank_behind key in
      let fits = behind.fits (omega (arith, rank-lt_end key, room)) in
      let n = number_behind (rank key) in
      let rank_is : rank next ≡ n = rw (← e) (rank-key_in (n / 2 ^ 64) (n % 2 ^ 64) (is_words n behind.key fits) ∙ omega arith) in
      record {
        above = rw rank_is behind.above;
        adjacent = λ other lt. rw rank_is (behind.adjacent (rank other) (rank_number other) lt);
        number = rank_is;
      }
]

pub after-found : (key : MapKey) (a b : ℕ) → b < 2 ^ 64 → rank key + 241 < 2 ^ 128 → number_of a b ≡ number_behind (rank key) → (is_key_words a b ≡ true) × (key_after key ≡ Some (key_in a b))
unfolding key_after end_rank
after-found key a b fits room number =
    let n = number_behind (rank key) in
    let behind = rank_behind key in
    let first : n / 2 ^ 64 ≡ a = omega arith in
    let second : n % 2 ^ 64 ≡ b = omega arith in
    let words = is_words n behind.key (behind.fits room) in (
      ap (λ x. is_key_words x b) (sym first) ∙ (ap (λ x. is_key_words (n / 2 ^ 64) x) (sym second) ∙ words),
      rw (ne_eqb (rank key + 1) end_rank (λ e. absurd (omega arith))) (ap (λ x. Some (key_in x (n % 2 ^ 64))) first ∙ ap (λ x. Some (key_in a x)) second),
    )

pub after-last : (key : MapKey) → rank key + 241 ≡ 2 ^ 128 → (key_after key ≡ None) × (key ≡ greatest)
unfolding key_after end_rank
after-last key is = (
  (let e : rank key + 1 ≡ end_rank = omega arith in rw (eq-eqb (rank key + 1) end_rank e) refl),
  rank_injective key greatest (let g = rank-greatest in omega arith),
)

pub after-least_above : (key next j : MapKey) → key_after key ≡ Some next → (rank key < rank j) ↔ (rank next ≤ rank j)
after-least_above key next j is = let after = after-is key next is in (λ lt. after.adjacent j lt, λ le. omega (arith, after.above))

pub after-above : (key next : MapKey) → key_after key ≡ Some next → rank key < rank next
after-above key next is = (after-is key next is).above

-- only the greatest key has none after it
pub after-none : (key : MapKey) → key_after key ≡ None → end_rank ≤ rank key + 1
unfolding key_after
after-none key is = elim (cases_eq (rank key + 1) end_rank) [
  | inl last ↦ omega arith
  | inr room ↦ let stepped = rw (ne_eqb (rank key + 1) end_rank room) at is in cc
]

pub after-greatest : key_after greatest ≡ None
unfolding key_after
after-greatest = rw (eq-eqb (rank greatest + 1) end_rank rank-greatest) refl

-- the number of a key, by what is left above it
pub number-le : (key : MapKey) → number_of key.first key.second + 241 ≤ 2 ^ 128
unfolding rank end_rank
number-le key = let lt = rank-lt_end key in omega arith

pub key_second : (key : MapKey) → key.second < 2 ^ 64
key_second key = (AreWords-from key.first key.second key.is_key).second

pub longer-number : (a b : ℕ) → b % 256 < 15 → number_of a (b + 1) ≡ number_behind (number_of a b)
longer-number a b few = let short : number_of a b % 256 < 15 = omega arith in rw (lt-ltb (number_of a b % 256) 15 short) (omega arith)

pub raised-number : (a b c d zeros : ℕ) → 15 ≤ b % 256 → b % 256 ≤ 15 → number_of c d ≡ number_of a b + 241 → zeros ≡ zero_bytes 15 (number_of c d / 256) → number_of c (d + (15 - zeros)) ≡ number_behind (number_of a b)
raised-number a b c d zeros full few is z =
    let long : 15 ≤ number_of a b % 256 = omega arith in
    let front : number_of c d / 256 ≡ number_of a b / 256 + 1 = omega arith in
    let same : zeros ≡ zero_bytes 15 (number_of a b / 256 + 1) = z ∙ ap (λ n. zero_bytes 15 n) front in
    rw (le-ltb (number_of a b % 256) 15 long) (omega arith)

pub key_few : (key : MapKey) → key.second % 256 ≤ 15
key_few key = let are = AreWords-from key.first key.second key.is_key in omega (arith, are.few)

-- what the call behind a key owes, where it finds one
pub record AnswersAfter (key : MapKey) (found : Option MapKey) : Type 0 where
  pub next : found ≡ key_after key
  pub last : IsNone found ↔ (key ≡ greatest)
  pub above : IfSome found (λ next. rank key < rank next)
  pub adjacent : IfSome found (λ next. (other : MapKey) → rank key < rank other → rank next ≤ rank other)

pub answers-after : (key : MapKey) (a b : ℕ) (found : Option MapKey) → b < 2 ^ 64 → number_of key.first key.second + 241 < 2 ^ 128 → number_of a b ≡ number_behind (number_of key.first key.second)
    → SomeIff found (is_key_words a b ≡ true) (key_in a b) → AnswersAfter key found
unfolding rank
answers-after key a b None fits room number is = absurd (is (after-found key a b fits room number).0)
answers-after key a b (Some next) fits room number is =
    let after : key_after key ≡ Some next = (after-found key a b fits room number).1 ∙ ap (λ (k : MapKey). Some k) (sym is.1) in
    let behind = after-is key next after in
    record {
      next = sym after;
      last = (λ none. absurd (true≢false none), λ (same : key ≡ greatest). let n : number_of key.first key.second ≡ number_of (2 ^ 64 - 1) (2 ^ 64 - 241) = ap (λ (k : MapKey). number_of k.first k.second) same in absurd (omega (arith, room)));
      above = behind.above;
      adjacent = λ other lt. behind.adjacent other lt;
    }

pub last-words : (key : MapKey) → number_of key.first key.second + 241 ≡ 2 ^ 128 → (key_after key ≡ None) × (key ≡ greatest)
unfolding rank
last-words key is = after-last key is

-- words that are a key's are those of their key
pub words-key_in : (a b : ℕ) → is_key_words a b ≡ true → ((key_in a b).first ≡ a) × ((key_in a b).second ≡ b)
words-key_in a b is = (ap (λ (k : MapKey). k.first) (sym (key_by-key a b true is)), ap (λ (k : MapKey). k.second) (sym (key_by-key a b true is)))

-- words that are no key's are read as the least one
pub key_in-none : (a b : ℕ) → (is_key_words a b ≡ true → ⊥) → key_in a b ≡ least
key_in-none a b none = sym (key_by-key a b false (false_from_ne_true (is_key_words a b) none))

-- a number before a zero byte for each of 7, and 8 as the length, is a key's
pub number_words : (n : ℕ) → n < 2 ^ 64 → is_key_words n 8 ≡ true
number_words n fits =
    let low : zero_bytes 7 (8 / 256) ≡ 7 = zeros-seven in
    let zeros = words-full n 8 (omega arith) low in
    AreWords-is n 8 (record { first = fits; second = omega arith; few = omega arith; zeros = omega (arith, zeros) })
