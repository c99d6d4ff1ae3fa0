-- How one key stands to another.
use Rattle.std.proofs.Common.{◌≡◌, ℕ, ◌<◌, ◌≤◌, ◌≢◌, ◌⊎◌, ◌∙◌, true, false, refl, ap, sym, arith, inl, inr, Less, Equal, Greater}
use Rattle.std.specs.declared.cmp.Ordering.{Ordering}
use Rattle.std.specs.Ordering.{is_lt, is_eq, is_ge}
use Rattle.std.proofs.lemmas.Bool.{cases_eq, true≢false, false≢true}
use Rattle.ib_map.specs.Keys.{MapKey, rank, key_in}
use Rattle.ib_map.proofs.KeyLaws.{key_in-words}
use Rattle.ib_heap.specs.Order.{IsOrder}

-- the words are those of the key
pub order-words : (first second : ℕ) (key : MapKey) → first ≡ key.first → second ≡ key.second → key_in first second ≡ key
order-words first second key one two = ap (λ n. key_in n second) one ∙ (ap (λ n. key_in key.first n) two ∙ key_in-words key)

-- what an order says
pub order-below : (a b : MapKey) (order : Ordering) → IsOrder a b order → is_lt order ≡ true → rank a < rank b
order-below a b Less is lt = is
order-below a b Equal is lt = absurd (false≢true lt)
order-below a b Greater is lt = absurd (false≢true lt)

pub order-not_below : (a b : MapKey) (order : Ordering) → IsOrder a b order → is_lt order ≡ false → rank b ≤ rank a
order-not_below a b Less is ge = absurd (true≢false ge)
order-not_below a b Equal is ge = let same = ap rank is in omega arith
order-not_below a b Greater is ge = omega (arith, is)

pub order-same : (a b : MapKey) (order : Ordering) → IsOrder a b order → is_eq order ≡ true → a ≡ b
order-same a b Less is eq = absurd (false≢true eq)
order-same a b Equal is eq = is
order-same a b Greater is eq = absurd (false≢true eq)

pub order-differs : (a b : MapKey) (order : Ordering) → IsOrder a b order → is_eq order ≡ false → rank a ≢ rank b
order-differs a b Less is ne same = omega (arith, is)
order-differs a b Equal is ne same = true≢false ne
order-differs a b Greater is ne same = omega (arith, is)

pub order-ge : (order : Ordering) → is_ge order ≡ true → is_lt order ≡ false
order-ge Less ge = absurd (false≢true ge)
order-ge Equal ge = refl
order-ge Greater ge = refl

pub order-lt : (order : Ordering) → is_ge order ≡ false → is_lt order ≡ true
order-lt Less lt = refl
order-lt Equal lt = absurd (true≢false lt)
order-lt Greater lt = absurd (true≢false lt)

-- .. of the supremum, which stands above each, too
pub standing-from : (offset : ℕ) (a b : MapKey) (order : Ordering) → (offset ≡ 19 → order ≡ Greater) → (offset ≢ 19 → IsOrder a b order) → is_ge order ≡ true → (offset ≡ 19) ⊎ (rank b ≤ rank a)
standing-from offset a b order top is ge = elim (cases_eq offset 19) [
  | inl e ↦ inl e
  | inr ne ↦ inr (order-not_below a b order (is ne) (order-ge order ge))
]

pub standing-record : (offset : ℕ) (order : Ordering) → (offset ≡ 19 → order ≡ Greater) → is_ge order ≡ false → offset ≢ 19
standing-record offset order top lt e = let z : true ≡ false = ap is_ge (sym (top e)) ∙ lt in true≢false z

pub standing-found : (offset : ℕ) (a b : MapKey) (order : Ordering) → (offset ≡ 19 → order ≡ Greater) → (offset ≢ 19 → IsOrder a b order) → is_eq order ≡ true → (offset ≢ 19) × (a ≡ b)
standing-found offset a b order top is eq =
    let ne : offset ≢ 19 = λ e. (let z : false ≡ true = ap is_eq (sym (top e)) ∙ eq in true≢false (sym z)) in
    (ne, order-same a b order (is ne) eq)

pub standing-other : (offset : ℕ) (a b : MapKey) (order : Ordering) → (offset ≢ 19 → IsOrder a b order) → is_eq order ≡ false → (offset ≡ 19) ⊎ ((offset ≢ 19) × (rank a ≢ rank b))
standing-other offset a b order is differ = elim (cases_eq offset 19) [
  | inl e ↦ inl e
  | inr ne ↦ inr (ne, order-differs a b order (is ne) differ)
]
