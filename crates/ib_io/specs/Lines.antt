-- A text is lines, and a line is fields.
use Rattle.std.specs.Prelude.{ℕ, ◌+◌, List, [], ◌∷◌, ◌++◌, ◌==◌, Bool, true, Option, Some, None, length, map}
use denote.Ref.{Bor}
use Rattle.std.specs.List.{slice_split}
use Rattle.ib_io.specs.declared.line_kind.LineKind.{LineKind}

-- the parts but for an empty one at the end
abbrev pub without_empty_last : List (List ℕ) → List (List ℕ)
without_empty_last [] = []
without_empty_last (part ∷ []) = elim part [ [] ↦ [] | byte ∷ bytes ↦ (byte ∷ bytes) ∷ [] ]
without_empty_last (part ∷ next ∷ parts) = part ∷ without_empty_last (next ∷ parts)

-- the lines of a text: each ends with a line feed, which the last one may lack
abbrev pub lines_of : List ℕ → List (List ℕ)
lines_of text = without_empty_last (slice_split (λ byte. byte == 10) text)

-- the fields of a line: what stands between its spaces
abbrev pub fields_of : List ℕ → List (List ℕ)
fields_of line = slice_split (λ byte. byte == 32) line

-- the fields of what follows a field, where there is more
abbrev pub fields_behind : Option (Bor (List ℕ)) → List (List ℕ)
fields_behind None = []
fields_behind (Some rest) = fields_of rest.now

-- an empty line, or one that begins with `#`
abbrev pub is_skipped : List ℕ → Bool
is_skipped [] = true
is_skipped (byte ∷ bytes) = byte == 35

-- the lines of a text, each read by itself
abbrev pub readings_by : {R : Type 0} → (List ℕ → R) → List ℕ → List R
readings_by reading text = map reading (lines_of text)

-- The first bad line of those behind others, where it is said what is wrong with a line behind others: its number, counted
-- from 1 over all lines, and its kind.
abbrev pub first_bad : {R : Type 0} → (List R → R → Option LineKind) → List R → List R → Option (ℕ × LineKind)
first_bad wrong before [] = None
first_bad wrong before (reading ∷ readings) =
    elim (wrong before reading) [ Some kind ↦ Some (length before + 1, kind) | None ↦ first_bad wrong (before ++ reading ∷ []) readings ]
