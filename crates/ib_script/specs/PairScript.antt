-- Scripts of two trees: what a line says of which the keys have second keys.
use Rattle.std.specs.Prelude.{ℕ, List, [], ◌∷◌, Ok, Err, Result, codes, bytes_eq, length, nat_le, if◌then◌else◌}
use Rattle.ib_map.specs.KeyBytes.{bytes_of}
use Rattle.ib_map.specs.Keys.{MapKey}
use Rattle.ib_map.specs.declared.call.Call.TheVariants.{Insert, Delete, Get, Scan}
use Rattle.ib_second_key.specs.SecondKeys.{least_of_value, greatest_of_value}
use Rattle.ib_second_key.specs.declared.keys.TheConstants.{MOST_PRIMARY_BYTES}
use Rattle.ib_io.specs.Fields.{◌>>=◌, number_in, one_field, session_in, two_fields}
use Rattle.ib_io.specs.Lines.{fields_of, is_skipped}
use Rattle.ib_io.specs.declared.line_kind.LineKind.{LineKind}
use Rattle.ib_io.specs.declared.line_kind.LineKind.TheVariants.{Word, Long}
use Rattle.ib_text.specs.Keys.{key_in}
use Rattle.ib_script.specs.Script.{Reading, space_line}
use Rattle.ib_script.specs.declared.script_line.ScriptLine.TheVariants.{Skipped, Session, Command}

-- the key that a field is, where it has few enough bytes
abbrev pub primary_key_in : List ℕ → Result MapKey LineKind
primary_key_in field = key_in field >>= (λ key. if nat_le (length (bytes_of key)) MOST_PRIMARY_BYTES then Ok key else Err Long)

-- a line by its first field and those behind it: `value V` is the scan of the second keys of V
abbrev pub pair_reading_of_fields : List (List ℕ) → Reading
pair_reading_of_fields [] = Err Word
pair_reading_of_fields (word ∷ fields) =
    if bytes_eq word (codes "insert") then two_fields primary_key_in number_in fields >>= (λ pair. Ok (Command (Insert pair.0 pair.1)))
    else if bytes_eq word (codes "delete") then one_field primary_key_in fields >>= (λ key. Ok (Command (Delete key)))
    else if bytes_eq word (codes "get") then one_field primary_key_in fields >>= (λ key. Ok (Command (Get key)))
    else if bytes_eq word (codes "value") then one_field number_in fields >>= (λ value. Ok (Command (Scan (least_of_value value) (greatest_of_value value))))
    else if bytes_eq word (codes "session") then one_field session_in fields >>= (λ n. Ok (Session n))
    else if bytes_eq word (codes "space") then two_fields number_in number_in fields >>= space_line
    else Err Word

-- what a line says
abbrev pub pair_reading_of : List ℕ → Reading
pair_reading_of line = if is_skipped line then Ok Skipped else pair_reading_of_fields (fields_of line)
