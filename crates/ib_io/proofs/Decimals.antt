-- A number that is printed is read again, and cut from what stands behind it.
use Rattle.std.proofs.Common.{◌≡◌, ◌∙◌, ℕ, ◌+◌, ◌-◌, ◌*◌, ◌/◌, ◌%◌, ◌^◌, ◌<◌, ◌≤◌, inl, inr, List, [], ◌∷◌, ◌++◌, Bool, true, false, ap, refl, length, get_or, arith, cond, not}
use Rattle.std.specs.Prelude.{Option, Some, None, Result, Ok, Err, decimal, nat_le, ◌&&◌, ◌==◌}
use Rattle.std.specs.List.{list_all, onto_first, slice_split}
use Rattle.std.proofs.lemmas.Bool.{and_from, and_parts, cases_lt, le-leb, lt-ltb, leb-true, ne_eqb}
use Rattle.std.proofs.lemmas.Fmt.{decimal_by_steps, decimal_digit, decimal_nonempty, first_decimal}
use Rattle.std.proofs.lemmas.List.Folds.{list_all-append}
use Rattle.std.proofs.lemmas.List.Sums.{fold-append}
use Rattle.ib_io.specs.Fields.{◌>>=◌, number_in, session_in}
use Rattle.ib_io.specs.Lines.{fields_of, is_skipped}
use Rattle.ib_io.specs.Numbers.{is_digit, is_headed, number_of, value_of}
use Rattle.ib_io.specs.declared.line_kind.TheConstants.{MOST_SCRIPT_SESSIONS}
use Rattle.ib_io.specs.declared.line_kind.LineKind.{LineKind}
use Rattle.ib_io.specs.declared.line_kind.LineKind.TheVariants.{Number, Session}
use Rattle.ib_io.proofs.Spelling.{all-three}

digit-is : (d : ℕ) → d < 10 → is_digit (48 + d) ≡ true
digit-is d small = and_from _ _ (le-leb 48 (48 + d) (omega arith)) (le-leb (48 + d) 57 (omega arith))

-- these digits spell the number
abbrev Spells : ℕ → List ℕ → Type 0
Spells n text = (list_all is_digit text ≡ true) × (value_of text ≡ n)

spells : (n : ℕ) → n < 2 ^ 64 → Spells n (decimal n)
spells n small = decimal_by_steps Spells one more n small
  where
    one : (n : ℕ) → n < 10 → Spells n ((48 + n) ∷ [])
    one n few = (and_from _ _ (digit-is n few) refl, omega arith)

    more : (n : ℕ) (ds : List ℕ) → 10 ≤ n → Spells (n / 10) ds → Spells n (ds ++ ((48 + n % 10) ∷ []))
    more n ds large front = (
      list_all-append is_digit ds ((48 + n % 10) ∷ []) ∙ and_from _ _ front.0 (and_from _ _ (digit-is (n % 10) (omega arith)) refl),
      let sum : value_of (ds ++ ((48 + n % 10) ∷ [])) ≡ 10 * value_of ds + ((48 + n % 10) - 48) = fold-append (λ v d. 10 * v + (d - 48)) 0 ds ((48 + n % 10) ∷ []) in
          omega (arith, sum, front.1),
    )

headed : (n : ℕ) → n < 2 ^ 64 → is_headed (decimal n) ≡ true
headed n small = elim (cases_lt n 1) [
  | inl zero ↦ ap is_headed (decimal_digit n (omega arith))
  | inr some ↦ go (decimal n) (decimal_nonempty n small) (first_decimal n (omega arith) small)
]
  where
    go : (text : List ℕ) → 0 < length text → 48 < get_or text 0 0 → is_headed text ≡ true
    go [] some first = absurd (omega arith)
    go (d ∷ []) some first = refl
    go (d ∷ e ∷ text) some first = ap not (ne_eqb d 48 (λ same. omega arith))

-- a number that is printed is read
pub number-printed : (n : ℕ) → n < 2 ^ 64 → number_of (decimal n) ≡ Some n
number-printed n small =
    let text = spells n small in
    all-three _ _ _ (value_of (decimal n)) (headed n small) text.0 (lt-ltb (value_of (decimal n)) (2 ^ 64) (omega (arith, text.1))) ∙ ap Some text.1

pub number_in-printed : (n : ℕ) → n < 2 ^ 64 → number_in (decimal n) ≡ Ok n
number_in-printed n small = ap (λ (found : Option ℕ). elim found as (λ _. Result ℕ LineKind) [ Some m ↦ Ok m | None ↦ Err Number ]) (number-printed n small)

-- a number that is printed is read where it passes a test
pub passed-printed : (passes : ℕ → Bool) (kind : LineKind) (n : ℕ) → n < 2 ^ 64 → passes n ≡ true → (number_in (decimal n) >>= (λ m. cond {A = Result ℕ LineKind} (passes m) (Ok m) (Err kind))) ≡ Ok n
passed-printed passes kind n small pass =
    ap (λ (r : Result ℕ LineKind). r >>= (λ m. cond {A = Result ℕ LineKind} (passes m) (Ok m) (Err kind))) (number_in-printed n small)
    ∙ ap (λ b. cond {A = Result ℕ LineKind} b (Ok n) (Err kind)) pass

pub session_in-printed : (n : ℕ) → 1 ≤ n → n ≤ MOST_SCRIPT_SESSIONS → session_in (decimal n) ≡ Ok n
session_in-printed n some few = passed-printed (λ m. nat_le 1 m && nat_le m MOST_SCRIPT_SESSIONS) Session n (omega arith) (and_from _ _ (le-leb 1 n some) (le-leb n MOST_SCRIPT_SESSIONS few))

-- a text without a separator is cut off at the one behind it
module _ (p q : ℕ → Bool) (apart : (x : ℕ) → q x ≡ true → p x ≡ false) where
  pub split-past : (text rest : List ℕ) (by : ℕ) → list_all q text ≡ true → p by ≡ true → slice_split p (text ++ by ∷ rest) ≡ text ∷ slice_split p rest
  split-past [] rest by all is = rw is refl
  split-past (x ∷ text) rest by all is =
      let parts = and_parts (q x) (list_all q text) all in
      rw (apart x parts.0) (ap (onto_first x) (split-past text rest by parts.1 is))

  pub split-alone : (text : List ℕ) → list_all q text ≡ true → slice_split p text ≡ text ∷ []
  split-alone [] all = refl
  split-alone (x ∷ text) all =
      let parts = and_parts (q x) (list_all q text) all in
      rw (apart x parts.0) (ap (onto_first x) (split-alone text parts.1))

no-space : (x : ℕ) → is_digit x ≡ true → (x == 32) ≡ false
no-space x is = ne_eqb x 32 (λ same. let low : 48 ≤ x = leb-true 48 x (and_parts _ _ is).0 in omega arith)

-- a number and what follows it behind a space are fields
pub fields-number : (n : ℕ) (rest : List ℕ) → n < 2 ^ 64 → fields_of (decimal n ++ 32 ∷ rest) ≡ decimal n ∷ fields_of rest
fields-number n rest small = split-past (λ byte. byte == 32) is_digit no-space (decimal n) rest 32 (spells n small).0 refl

-- .. and a number alone is one
pub fields-alone : (n : ℕ) → n < 2 ^ 64 → fields_of (decimal n) ≡ decimal n ∷ []
fields-alone n small = split-alone (λ byte. byte == 32) is_digit no-space (decimal n) (spells n small).0

-- a line that begins with a number says something
pub said-number : (n : ℕ) (rest : List ℕ) → n < 2 ^ 64 → is_skipped (decimal n ++ rest) ≡ false
said-number n rest small = go (decimal n) (decimal_nonempty n small) (spells n small).0
  where
    go : (text : List ℕ) → 0 < length text → list_all is_digit text ≡ true → is_skipped (text ++ rest) ≡ false
    go [] some all = absurd (omega arith)
    go (x ∷ text) some all = ne_eqb x 35 (λ same. let low : 48 ≤ x = leb-true 48 x (and_parts _ _ (and_parts _ _ all).0).0 in omega arith)
