-- Fields of a line, read from left to right: the first that is wrong is told.
use Rattle.std.specs.Prelude.{ℕ, List, [], ◌∷◌, Some, None, Result, Ok, Err, nat_le, ◌&&◌, if◌then◌else◌}
use Rattle.ib_io.specs.Numbers.{number_of}
use Rattle.ib_io.specs.declared.line_kind.LineKind.{LineKind}
use Rattle.ib_io.specs.declared.line_kind.LineKind.TheVariants.{Fields, Number, Session}
use Rattle.ib_io.specs.declared.line_kind.TheConstants.{MOST_SCRIPT_SESSIONS}

-- what is behind a result
infixl 10 ◌>>=◌
abbrev pub ◌>>=◌ : {A B : Type 0} → Result A LineKind → (A → Result B LineKind) → Result B LineKind
(Ok a) >>= f = f a
(Err kind) >>= f = Err kind

-- a field that is a number
abbrev pub number_in : List ℕ → Result ℕ LineKind
number_in field = elim (number_of field) [ Some n ↦ Ok n | None ↦ Err Number ]

-- a field that is a session's number: 1 to the most that there may be
abbrev pub session_in : List ℕ → Result ℕ LineKind
session_in field = number_in field >>= (λ n. if nat_le 1 n && nat_le n MOST_SCRIPT_SESSIONS then Ok n else Err Session)

-- one field, read so
abbrev pub one_field : {A : Type 0} → (List ℕ → Result A LineKind) → List (List ℕ) → Result A LineKind
one_field read (field ∷ []) = read field
one_field read _ = Err Fields

-- two fields, each read so
abbrev pub two_fields : {A B : Type 0} → (List ℕ → Result A LineKind) → (List ℕ → Result B LineKind) → List (List ℕ) → Result (A × B) LineKind
two_fields first second (f ∷ s ∷ []) = first f >>= (λ a. second s >>= (λ b. Ok (a, b)))
two_fields first second _ = Err Fields
