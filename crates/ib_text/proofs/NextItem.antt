-- The step of a loop over elements that hold keys: its item is the element at its place, with itself as what stands for none.
use Rattle.std.proofs.Common.{◌≡◌, ◌<◌, ◌+◌, ℕ, List, get_or, length, take, subst}
use Rattle.std.specs.Prelude.{Option, flat_map}
use Rattle.ib_io.proofs.Writing.{puts_each}
use Rattle.ib_io.specs.Writer.{Puts}
use Rattle.ib_io.specs.declared.writer.Writer.{Writer}

module _ {K : Type 0} {written : K → Option (List ℕ)} {faults : K → ℕ} where
  -- the texts of the first i were put, and then the item's
  pub puts_item : {A : Type 0} {a b c : Writer K} (f : A → List ℕ) (xs : List A) (i : ℕ) (item : A) → i < length xs → item ≡ get_or xs i item
      → Puts written faults a b (flat_map f (take i xs)) → Puts written faults b c (f item) → Puts written faults a c (flat_map f (take (i + 1) xs))
  puts_item {b = b} {c = c} f xs i item lt is p q = puts_each f xs i item lt p (subst (λ x. Puts written faults b c (f x)) is q)
