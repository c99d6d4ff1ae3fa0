-- Numbers as a script spells them.
use Rattle.std.specs.Prelude.{ℕ, ◌+◌, ◌-◌, ◌*◌, ◌^◌, List, [], ◌∷◌, Bool, true, false, Option, Some, None, ◌&&◌, ◌==◌, not, nat_lt, nat_le, fold, if◌then◌else◌}
use Rattle.std.specs.List.{list_all}

abbrev pub is_digit : ℕ → Bool
is_digit byte = nat_le 48 byte && nat_le byte 57

-- the value of a list of digits, in base ten
abbrev pub value_of : List ℕ → ℕ
value_of digits = fold (λ value digit. 10 * value + (digit - 48)) 0 digits

-- there is a first digit, and 0 only where it stands alone
abbrev pub is_headed : List ℕ → Bool
is_headed [] = false
is_headed (digit ∷ []) = true
is_headed (first ∷ next ∷ digits) = not (first == 48)

-- the number that a field spells by digits that don't begin with 0, or by 0 alone: at most the greatest of 64 bits
abbrev pub number_of : List ℕ → Option ℕ
number_of field = if (is_headed field && list_all is_digit field) && nat_lt (value_of field) (2 ^ 64) then Some (value_of field) else None
