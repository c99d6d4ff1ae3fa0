-- What is told of a key of the second tree, and of chunks with keys and without.
use Rattle.std.proofs.Common.{◌≡◌, ◌∙◌, ℕ, ◌<◌, [], ◌∷◌, ◌++◌, true, false, ap, arith, refl, length, flat_map}
use Rattle.std.proofs.lemmas.Bool.{eqb-true}
use Rattle.std.proofs.lemmas.List.{drop_all}
use Rattle.std.specs.Prelude.{codes, decimal, ◌==◌}
use Rattle.ib_map.specs.KeyBytes.{bytes_of, key_of_bytes}
use Rattle.ib_map.specs.Keys.{MapKey, least}
use Rattle.ib_map.specs.Pairs.{Pairs}
use Rattle.ib_map.proofs.ByteLaws.{key_of_bytes-bytes}
use Rattle.ib_second_key.specs.SecondKeys.{primary_of}
use Rattle.ib_pair_form.specs.PairOutput.{key_line, keys_text}

-- a key with too few bytes finds the least one
pub short-primary : (second : MapKey) → length (bytes_of second) < 8 → primary_of second ≡ least
unfolding primary_of
short-primary second few = ap key_of_bytes (drop_all 8 (bytes_of second) (omega arith)) ∙ key_of_bytes-bytes least

module _ (low high : MapKey) (place : ℕ) where
  pub no_keys-text : (pairs : Pairs) → (length pairs == 0) ≡ true → keys_text (record { low = low; high = high; place = place; pairs = pairs }) ≡ []
  no_keys-text [] none = refl
  no_keys-text (pair ∷ pairs) none = let empty : length (pair ∷ pairs) ≡ 0 = eqb-true (length (pair ∷ pairs)) 0 none in absurd (omega arith)

  pub some_keys-text : (pairs : Pairs) → (length pairs == 0) ≡ false
      → codes "at " ++ decimal place ++ codes "\n" ++ flat_map (λ pair. key_line pair.0) pairs ≡ keys_text (record { low = low; high = high; place = place; pairs = pairs })
  some_keys-text [] some = absurd (cc)
  some_keys-text (pair ∷ pairs) some = refl
