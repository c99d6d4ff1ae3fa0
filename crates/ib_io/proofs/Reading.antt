-- What reading means for an input that is known.
use Rattle.std.proofs.Common.{◌≡◌, ◌∙◌, ℕ, List, ◌++◌, ap, sym, ◌<◌, length, length-append, Some, None, Option, arith}
use Rattle.std.proofs.lemmas.List.{append-nil}
use Rattle.ib_io.specs.Input.{ReadsAll, ConsumesMore, ConsumesAtMost}

-- what was read to the end is the whole input
pub ReadsAll-known : (input : List ℕ) (left : Option (List ℕ)) (limit : ℕ) (bs : List ℕ) → ReadsAll (Some input) left limit bs → bs ≡ input
ReadsAll-known input None limit bs all = absurd all.0
ReadsAll-known input (Some rest) limit bs all = sym (all.0 ∙ ap (λ z. bs ++ z) all.1 ∙ append-nil bs)

-- no more than the limit can be taken from an input within it
pub ConsumesMore-known : (input : List ℕ) (left : Option (List ℕ)) (limit : ℕ) → ConsumesMore (Some input) left limit → limit < length input
ConsumesMore-known input None limit more = absurd more.1
ConsumesMore-known input (Some rest) limit more = omega (arith, more.2, ap length more.1, length-append more.0 rest)

-- more than the limit, and no more than the limit, were not both taken
pub ConsumesMore-not_both : (input : List ℕ) (left : Option (List ℕ)) (limit : ℕ) → ConsumesMore (Some input) left limit → ConsumesAtMost (Some input) left limit → ⊥
ConsumesMore-not_both input None limit more less = absurd more.1
ConsumesMore-not_both input (Some rest) limit more less =
    omega (arith, more.2, less.2, ap length more.1, ap length less.1, length-append more.0 rest, length-append less.0 rest)
