-- The one text of a key, and the one reading of it.
use Rattle.std.specs.Prelude.{ℕ, zero, suc, ◌+◌, ◌-◌, ◌*◌, ◌/◌, ◌%◌, Bool, not, ◌||◌, ◌&&◌, ◌==◌, nat_lt, nat_le, if◌then◌else◌, List, [], ◌∷◌, ◌++◌, flat_map, length, Option, Some, None, Result, Ok, Err, codes, decimal, slice_index}
use Rattle.std.specs.Char.{is_ascii_alphanumeric}
use Rattle.std.specs.List.{list_all}
use Rattle.ib_io.specs.declared.line_kind.LineKind.{LineKind}
use Rattle.ib_io.specs.declared.line_kind.LineKind.TheVariants.{Key as KeyKind}
use Rattle.ib_map.specs.Keys.{MapKey}
use Rattle.ib_map.specs.KeyBytes.{bytes_of, key_of_bytes}

-- a byte that is written as it is: a letter, a digit, `_` or `.`
abbrev pub is_plain : ℕ → Bool
is_plain byte = is_ascii_alphanumeric byte || (byte == 95 || byte == 46)

-- bytes that are written as they are: there are some, and each is
abbrev pub is_plain_text : List ℕ → Bool
is_plain_text bytes = nat_lt 0 (length bytes) && list_all is_plain bytes

-- two hexadecimal digits
abbrev pub hex_digit : ℕ → ℕ
hex_digit n = if nat_lt n 10 then 48 + n else 87 + n

abbrev pub hex_byte : ℕ → List ℕ
hex_byte byte = hex_digit (byte / 16) ∷ hex_digit (byte % 16) ∷ []

-- bytes as they are, or `x:` and two digits for each
abbrev pub bytes_text : List ℕ → List ℕ
bytes_text bytes = if is_plain_text bytes then bytes else codes "x:" ++ flat_map hex_byte bytes

-- a key as it is printed
unfoldable pub key_text : MapKey → List ℕ
key_text key = bytes_text (bytes_of key)

-- the number of a hexadecimal digit, with small letters
abbrev pub digit_number : ℕ → Option ℕ
digit_number c = if nat_le 48 c && nat_le c 57 then Some (c - 48) else if nat_le 97 c && nat_le c 102 then Some (c - 87) else None

-- .. and 255 for any other byte
abbrev pub or_255 : Option ℕ → ℕ
or_255 (Some n) = n
or_255 None = 255

abbrev pub number_or_255 : ℕ → ℕ
number_or_255 c = or_255 (digit_number c)

-- the byte of two digits
abbrev pub byte_of : Option ℕ → Option ℕ → Option ℕ
byte_of (Some high) (Some low) = Some (high * 16 + low)
byte_of _ _ = None

-- so many bytes of the numbers of digits, two for each, from a place on
abbrev pub joined_from : ℕ → ℕ → List ℕ → List ℕ
joined_from k zero numbers = []
joined_from k (suc n) numbers = (slice_index numbers k * 16 % 256 + slice_index numbers (k + 1)) % 256 ∷ joined_from (k + 2) n numbers

-- the bytes of digits, two for each
abbrev pub byte_before : Option ℕ → Option (List ℕ) → Option (List ℕ)
byte_before (Some byte) (Some bytes) = Some (byte ∷ bytes)
byte_before _ _ = None

abbrev pub hex_bytes : List ℕ → Option (List ℕ)
hex_bytes [] = Some []
hex_bytes (c ∷ []) = None
hex_bytes (c ∷ d ∷ rest) = byte_before (byte_of (digit_number c) (digit_number d)) (hex_bytes rest)

-- what stands behind `x:`
abbrev pub hex_part : List ℕ → Option (List ℕ)
hex_part (a ∷ b ∷ digits) = if a == 120 && b == 58 then Some digits else None
hex_part _ = None

-- the key of bytes that are written as they are, and of those that are not
abbrev pub plain_key : List ℕ → Result MapKey LineKind
plain_key bytes = if nat_le (length bytes) 15 && is_plain_text bytes then Ok (key_of_bytes bytes) else Err KeyKind

abbrev pub hex_key : Option (List ℕ) → Result MapKey LineKind
hex_key None = Err KeyKind
hex_key (Some bytes) = if nat_le (length bytes) 15 && not (is_plain_text bytes) then Ok (key_of_bytes bytes) else Err KeyKind

-- the key that a field is, by what stands behind `x:`
abbrev pub key_by : Option (List ℕ) → List ℕ → Result MapKey LineKind
key_by (Some digits) field = hex_key (hex_bytes digits)
key_by None field = plain_key field

-- the key that a field is; each key is one field
unfoldable pub key_in : List ℕ → Result MapKey LineKind
key_in field = key_by (hex_part field) field

-- a key and its value
abbrev pub pair_text : MapKey × ℕ → List ℕ
pair_text pair = key_text pair.0 ++ codes " " ++ decimal pair.1
