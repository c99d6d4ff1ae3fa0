-- A key that is printed is one field of its line.
use Rattle.std.proofs.Common.{◌≡◌, ◌≢◌, ◌∙◌, ℕ, ◌+◌, ◌/◌, ◌%◌, inl, inr, List, [], ◌∷◌, ◌++◌, Bool, true, false, not, ap, refl, arith, append_assoc}
use Rattle.std.specs.Prelude.{codes, flat_map, length, nat_lt, ◌==◌}
use Rattle.std.specs.List.{list_all}
use Rattle.std.proofs.lemmas.Bool.{and_from, and_parts, cases_lt, lt-ltb, le-ltb, ne_eqb}
use Rattle.ib_io.proofs.Decimals.{split-alone, split-past}
use Rattle.ib_io.specs.Lines.{fields_of}
use Rattle.ib_map.specs.KeyBytes.{bytes_of}
use Rattle.ib_map.specs.Keys.{MapKey}
use Rattle.ib_text.specs.Keys.{bytes_text, hex_byte, hex_digit, is_plain, is_plain_text, key_text}
use Rattle.ib_text.proofs.SpellingLaws.{either, plain_byte}

-- a byte that is no space
is_solid : ℕ → Bool
is_solid byte = not (byte == 32)

solid : (byte : ℕ) → byte ≢ 32 → is_solid byte ≡ true
unfolding is_solid
solid byte other = ap not (ne_eqb byte 32 other)

apart : (byte : ℕ) → is_solid byte ≡ true → (byte == 32) ≡ false
unfolding is_solid
apart byte is = elim (either (byte == 32)) [
  | inl space ↦ absurd (let w = rw space at is in cc)
  | inr other ↦ other
]

solid_plain : (bytes : List ℕ) → list_all is_plain bytes ≡ true → list_all is_solid bytes ≡ true
solid_plain [] all = refl
solid_plain (b ∷ bytes) all =
    let parts = and_parts (is_plain b) (list_all is_plain bytes) all in
    and_from _ _ (solid b (plain_byte b parts.0).no_space) (solid_plain bytes parts.1)

solid_digit : (n : ℕ) → is_solid (hex_digit n) ≡ true
solid_digit n = elim (cases_lt n 10) [
  | inl few ↦ rw (lt-ltb n 10 few) (solid (48 + n) (λ e. omega arith))
  | inr more ↦ rw (le-ltb n 10 more) (solid (87 + n) (λ e. omega arith))
]

solid_hex : (bytes : List ℕ) → list_all is_solid (flat_map hex_byte bytes) ≡ true
solid_hex [] = refl
solid_hex (b ∷ bytes) = and_from _ _ (solid_digit (b / 16)) (and_from _ _ (solid_digit (b % 16)) (solid_hex bytes))

solid_text : (bytes : List ℕ) → list_all is_solid (bytes_text bytes) ≡ true
unfolding is_solid
solid_text bytes = elim (either (is_plain_text bytes)) [
  | inl plain ↦ rw plain (solid_plain bytes (and_parts (nat_lt 0 (length bytes)) (list_all is_plain bytes) plain).1)
  | inr other ↦ rw other (solid_hex bytes)
]

-- alone it is the one field
pub key-alone : (key : MapKey) → fields_of (key_text key) ≡ key_text key ∷ []
unfolding key_text
key-alone key = split-alone (λ byte. byte == 32) is_solid apart (bytes_text (bytes_of key)) (solid_text (bytes_of key))

-- what follows it behind a space are further fields
pub key-before : (key : MapKey) (rest : List ℕ) → fields_of (key_text key ++ codes " " ++ rest) ≡ key_text key ∷ fields_of rest
unfolding key_text
key-before key rest = ap fields_of (append_assoc (bytes_text (bytes_of key)) (codes " ") rest) ∙ split-past (λ byte. byte == 32) is_solid apart (bytes_text (bytes_of key)) rest 32 (solid_text (bytes_of key)) refl
