-- The eight bytes of the value, and seven bytes 255 behind them.
use Rattle.std.proofs.Common.{◌∙◌, ap, sym, List, ℕ, get_or, ◌∷◌}
use Rattle.std.specs.Prelude.{replicate}
use Rattle.ib_map.specs.KeyBytes.{key_of_bytes}
use Rattle.ib_map.proofs.ByteLaws.{bytes-injective}
use Rattle.ib_second_key.specs.SecondKeys.{greatest_of_value, least_of_value}
use Rattle.ib_second_key.proofs.SecondKeyLaws.{bytes-least}
use Rattle.ib_second_key.proofs.keys.keys_of_value.Goals as goal

pub returns-clause-low : goal.returns-clause-low
returns-clause-low c = bytes-injective c.of_number.result (least_of_value c.args.value) (c.of_number.ensures ∙ sym (bytes-least c.args.value))

pub returns-clause-high : goal.returns-clause-high
unfolding greatest_of_value
returns-clause-high c = c.key_of.ensures
    ∙ ap (λ (xs : List ℕ). key_of_bytes (get_or xs 0 0 ∷ get_or xs 1 0 ∷ get_or xs 2 0 ∷ get_or xs 3 0 ∷ get_or xs 4 0 ∷ get_or xs 5 0 ∷ get_or xs 6 0 ∷ get_or xs 7 0 ∷ replicate 7 255)) c.to_be_bytes-front.ensures
