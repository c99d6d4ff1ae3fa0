-- The zero bytes behind a number.
use Rattle.std.proofs.Common.{◌≡◌, ℕ, zero, suc, ◌+◌, ◌*◌, ◌/◌, ◌%◌, ◌<◌, ◌≤◌, ◌^◌, ◌==◌, true, false, refl, arith, ap, sym, ◌∙◌, cond, lit≤, zero-add, inl, inr}
use Rattle.std.proofs.lemmas.Bool.{cases_eq, eq-eqb, ne_eqb}
use Rattle.ib_map.specs.KeyWords.{number_of, zero_bytes}

-- how many bytes of a number are 0 is bounded by how many are looked at
pub zero_bytes-le : (most n : ℕ) → zero_bytes most n ≤ most
unfolding zero_bytes
zero_bytes-le zero n = lit≤ tt
zero_bytes-le (suc most) n = let rest = zero_bytes-le most (n / 256) in elim (n % 256 == 0) as (λ b. cond b (1 + zero_bytes most (n / 256)) 0 ≤ suc most) [
  | true ↦ omega arith
  | false ↦ omega arith
]

-- all bytes of 0 are 0
pub zero_bytes-zero : (most : ℕ) → zero_bytes most 0 ≡ most
unfolding zero_bytes
zero_bytes-zero zero = refl
zero_bytes-zero (suc most) = let rest = zero_bytes-zero most in omega arith

pub zero-step : (most n : ℕ) → n % 256 ≡ 0 → zero_bytes (suc most) n ≡ 1 + zero_bytes most (n / 256)
unfolding zero_bytes
zero-step most n z = rw (eq-eqb (n % 256) 0 z) refl

pub zero-stop : (most n : ℕ) → (n % 256 ≡ 0 → ⊥) → zero_bytes (suc most) n ≡ 0
unfolding zero_bytes
zero-stop most n ne = rw (ne_eqb (n % 256) 0 ne) refl

-- a number with k zero bytes behind it
unfoldable pub shift : ℕ → ℕ → ℕ
shift zero hi = hi
shift (suc k) hi = shift k hi * 256

-- the zero bytes of two parts
join-short : (k j hi lo : ℕ) → zero_bytes k lo < k → zero_bytes (k + j) (shift k hi + lo) ≡ zero_bytes k lo
unfolding shift
join-short zero j hi lo lt = absurd (omega arith)
join-short (suc k) j hi lo lt =
    let n = shift k hi * 256 + lo in
    let d : n / 256 ≡ shift k hi + lo / 256 = omega arith in
    let e : zero_bytes (suc k + j) n ≡ zero_bytes (suc (k + j)) n = ap (λ i. zero_bytes i n) (omega arith) in
    elim (cases_eq (lo % 256) 0) [
      | inl z ↦
          let s = zero-step k lo z in
          e ∙ (zero-step (k + j) n (omega arith) ∙ (ap (λ x. 1 + zero_bytes (k + j) x) d ∙ (ap (λ x. 1 + x) (join-short k j hi (lo / 256) (omega arith)) ∙ sym s)))
      | inr ne ↦ e ∙ (zero-stop (k + j) n (λ q. ne (omega arith)) ∙ sym (zero-stop k lo ne))
    ]

join-full : (k j hi lo : ℕ) → lo < shift k 1 → zero_bytes k lo ≡ k → zero_bytes (k + j) (shift k hi + lo) ≡ k + zero_bytes j hi
unfolding shift
join-full zero j hi lo lt full =
    let same : hi + lo ≡ hi = omega arith in
    ap (λ i. zero_bytes i (hi + lo)) (zero-add j) ∙ (ap (λ n. zero_bytes j n) same ∙ sym (zero-add (zero_bytes j hi)))
join-full (suc k) j hi lo lt full =
    let n = shift k hi * 256 + lo in
    let d : n / 256 ≡ shift k hi + lo / 256 = omega arith in
    let e : zero_bytes (suc k + j) n ≡ zero_bytes (suc (k + j)) n = ap (λ i. zero_bytes i n) (omega arith) in
    elim (cases_eq (lo % 256) 0) [
      | inl z ↦
          let s = zero-step k lo z in
          let rest = join-full k j hi (lo / 256) (omega arith) (omega arith) in
          e ∙ (zero-step (k + j) n (omega arith) ∙ (ap (λ x. 1 + zero_bytes (k + j) x) d ∙ omega arith))
      | inr ne ↦ absurd (let s = zero-stop k lo ne in omega arith)
    ]

-- the zero bytes of two words, but for the last byte
pub words-short : (a b : ℕ) → zero_bytes 7 (b / 256) < 7 → zero_bytes 15 (number_of a b / 256) ≡ zero_bytes 7 (b / 256)
unfolding shift
words-short a b lt = let e : number_of a b / 256 ≡ shift 7 a + b / 256 = omega arith in ap (λ n. zero_bytes 15 n) e ∙ join-short 7 8 a (b / 256) lt

pub words-full : (a b : ℕ) → b < 2 ^ 64 → zero_bytes 7 (b / 256) ≡ 7 → zero_bytes 15 (number_of a b / 256) ≡ 7 + zero_bytes 8 a
unfolding shift
words-full a b fits full = let e : number_of a b / 256 ≡ shift 7 a + b / 256 = omega arith in ap (λ n. zero_bytes 15 n) e ∙ join-full 7 8 a (b / 256) (omega arith) full

-- all of seven zero bytes
pub zeros-seven : zero_bytes 7 0 ≡ 7
unfolding zero_bytes
zeros-seven = refl
