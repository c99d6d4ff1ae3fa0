-- What a test of an option tells.
use Rattle.std.specs.Prelude.{is_some}
use Rattle.std.proofs.Common.{◌≡◌, ℕ, true, false, Option, Some, None, refl}

pub some-value : (o : Option ℕ) → is_some o ≡ true → (v : ℕ) × (o ≡ Some v)
some-value None is = absurd (let z : false ≡ true = is in cc)
some-value (Some v) is = (v, refl)

pub no-value : (o : Option ℕ) → is_some o ≡ false → o ≡ None
no-value None is = refl
no-value (Some v) is = absurd (let z : true ≡ false = is in cc)
