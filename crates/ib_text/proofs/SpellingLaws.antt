-- How keys are written, and that each has one text.
use Rattle.std.proofs.Common.{◌≡◌, ◌≢◌, ◌∙◌, ℕ, suc, ◌+◌, ◌-◌, ◌*◌, ◌/◌, ◌%◌, ◌<◌, ◌⊎◌, inl, inr, List, [], ◌∷◌, ◌++◌, Bool, true, false, ap, ap₂, sym, subst, refl, length, drop, drop-cons, get_or, arith, cond, not, ◌&&◌, true≢false}
use Rattle.std.specs.Prelude.{Option, Some, None, Ok, Err, codes, flat_map, nat_le, nat_lt, ◌==◌}
use Rattle.std.specs.List.{list_all}
use Rattle.std.proofs.lemmas.Bool.{and_parts, cases_lt, cases_eq, le-leb, lt-ltb, le-ltb, leb-true, ne_eqb, eq-eqb}
use Rattle.ib_io.specs.declared.line_kind.LineKind.TheVariants.{Key as KeyKind}
use Rattle.ib_map.specs.KeyBytes.{AreBytes, bytes_of, key_of_bytes}
use Rattle.ib_map.specs.Keys.{MapKey}
use Rattle.ib_map.proofs.ByteLaws.{bytes-key_of_bytes, key-bytes, key-few, key_of_bytes-bytes}
use Rattle.ib_text.specs.Keys.{byte_before, byte_of, bytes_text, digit_number, hex_byte, hex_bytes, hex_digit, hex_key, hex_part, is_plain, is_plain_text, key_by, key_in, key_text, plain_key}

pub either : (b : Bool) → (b ≡ true) ⊎ (b ≡ false)
either true = inl refl
either false = inr refl

-- what is not below is at least, as a test
pub gt-leb : (m n : ℕ) → n < m → nat_le m n ≡ false
gt-leb m n lt = elim (either (nat_le m n)) [
  | inl holds ↦ absurd (let le = leb-true m n holds in omega arith)
  | inr fails ↦ fails
]

-- a digit is read as its number
digit-read : (n : ℕ) → n < 16 → digit_number (hex_digit n) ≡ Some n
digit-read n small = elim (cases_lt n 10) [
  | inl few ↦ rw (lt-ltb n 10 few, le-leb 48 (48 + n) (omega arith), le-leb (48 + n) 57 (omega arith)) (ap Some (omega arith))
  | inr more ↦ rw (le-ltb n 10 more, le-leb 48 (87 + n) (omega arith), gt-leb (87 + n) 57 (omega arith), le-leb 97 (87 + n) (omega arith), le-leb (87 + n) 102 (omega arith)) (ap Some (omega arith))
]

-- .. and what is read as a number is its digit
pub number-digit : (c n : ℕ) → digit_number c ≡ Some n → (n < 16) × (hex_digit n ≡ c)
number-digit c n is = elim (cases_lt c 58) [
  | inl low ↦ elim (cases_lt c 48) [
    | inl none ↦ let s = rw (gt-leb 48 c none, gt-leb 97 c (omega arith)) at is in absurd (let e : None ≡ Some n = s in cc)
    | inr some ↦
        let s = rw (le-leb 48 c some, le-leb c 57 (omega arith)) at is in
        let e : c - 48 ≡ n = cc in
        (omega arith, rw (lt-ltb n 10 (omega arith)) (omega arith))
  ]
  | inr high ↦ elim (cases_lt c 97) [
    | inl none ↦ let s = rw (le-leb 48 c (omega arith), gt-leb c 57 (omega arith), gt-leb 97 c none) at is in absurd (let e : None ≡ Some n = s in cc)
    | inr some ↦ elim (cases_lt c 103) [
      | inl few ↦
          let s = rw (le-leb 48 c (omega arith), gt-leb c 57 (omega arith), le-leb 97 c some, le-leb c 102 (omega arith)) at is in
          let e : c - 87 ≡ n = cc in
          (omega arith, rw (le-ltb n 10 (omega arith)) (omega arith))
      | inr many ↦ let s = rw (le-leb 48 c (omega arith), gt-leb c 57 (omega arith), le-leb 97 c some, gt-leb c 102 (omega arith)) at is in absurd (let e : None ≡ Some n = s in cc)
    ]
  ]
]

-- the digits of bytes are read as them
hex-read : (bytes : List ℕ) → AreBytes bytes → hex_bytes (flat_map hex_byte bytes) ≡ Some bytes
hex-read [] are = refl
hex-read (b ∷ bytes) are =
    let value : b / 16 * 16 + b % 16 ≡ b = omega arith in
    rw (digit-read (b / 16) (let lt = are.0 in omega arith), digit-read (b % 16) (omega arith), hex-read bytes are.1) (ap (λ n. Some (n ∷ bytes)) value)

-- .. and what is read as bytes are their digits
hex-digits : (digits bytes : List ℕ) → hex_bytes digits ≡ Some bytes → AreBytes bytes × (flat_map hex_byte bytes ≡ digits)
hex-digits [] bytes is = let e : [] ≡ bytes = cc in rw (← e) (tt, refl)
hex-digits (c ∷ []) bytes is = absurd (let e : None ≡ Some bytes = is in cc)
hex-digits (c ∷ d ∷ rest) bytes is = go (λ behind others. hex-digits rest behind others) (digit_number c) (digit_number d) (hex_bytes rest) refl refl refl is
  where
    go : ((behind : List ℕ) → hex_bytes rest ≡ Some behind → AreBytes behind × (flat_map hex_byte behind ≡ rest)) → (high low : Option ℕ) (behind : Option (List ℕ)) → digit_number c ≡ high → digit_number d ≡ low → hex_bytes rest ≡ behind → byte_before (byte_of high low) behind ≡ Some bytes
        → AreBytes bytes × (flat_map hex_byte bytes ≡ c ∷ d ∷ rest)
    go hex-rest (Some high) (Some low) (Some behind) first second others is =
        let one = number-digit c high first in
        let two = number-digit d low second in
        let rest_is = hex-rest behind others in
        let e : (high * 16 + low) ∷ behind ≡ bytes = cc in
        let front : (high * 16 + low) / 16 ≡ high = omega (arith, two.0) in
        let back : (high * 16 + low) % 16 ≡ low = omega (arith, two.0) in
        rw (← e) ((omega (arith, one.0, two.0), rest_is.0), ap₂ (λ (x : ℕ) (xs : List ℕ). x ∷ xs) (ap hex_digit front ∙ one.1) (ap₂ (λ (x : ℕ) (xs : List ℕ). x ∷ xs) (ap hex_digit back ∙ two.1) rest_is.1))
    go hex-rest None low behind first second others is = absurd (let e : None ≡ Some bytes = is in cc)
    go hex-rest (Some high) None behind first second others is = absurd (let e : None ≡ Some bytes = is in cc)
    go hex-rest (Some high) (Some low) None first second others is = absurd (let e : None ≡ Some bytes = is in cc)

-- a plain byte is below 123, and neither `:` nor a space
pub record IsPlainByte (b : ℕ) : Type 0 where
  pub small : b < 123
  pub no_colon : b ≢ 58
  pub no_space : b ≢ 32

pub plain_byte : (b : ℕ) → is_plain b ≡ true → IsPlainByte b
plain_byte b is = record {
  small = elim (cases_lt b 123) [
    | inl lt ↦ lt
    | inr ge ↦ absurd (true≢false (sym is ∙ rw (le-leb 48 b (omega arith), gt-leb b 57 (omega arith), le-leb 65 b (omega arith), gt-leb b 90 (omega arith), le-leb 97 b (omega arith), gt-leb b 122 (omega arith), ne_eqb b 95 (λ e. omega arith), ne_eqb b 46 (λ e. omega arith)) refl))
  ];
  no_colon = λ e. true≢false (sym (subst (λ n. is_plain n ≡ true) e is));
  no_space = λ e. true≢false (sym (subst (λ n. is_plain n ≡ true) e is));
}

plain_bytes : (bytes : List ℕ) → list_all is_plain bytes ≡ true → AreBytes bytes
plain_bytes [] all = tt
plain_bytes (b ∷ bytes) all =
    let parts = and_parts (is_plain b) (list_all is_plain bytes) all in
    ((let small = (plain_byte b parts.0).small in omega arith), plain_bytes bytes parts.1)

-- no plain text begins with `x:`
plain-no_hex : (bytes : List ℕ) → list_all is_plain bytes ≡ true → hex_part bytes ≡ None
plain-no_hex [] all = refl
plain-no_hex (a ∷ []) all = refl
plain-no_hex (a ∷ b ∷ bytes) all =
    let first = and_parts (is_plain a) (list_all is_plain (b ∷ bytes)) all in
    let second = and_parts (is_plain b) (list_all is_plain bytes) first.1 in
    rw (ne_eqb b 58 (plain_byte b second.0).no_colon) (elim (a == 120) as (λ t. cond (t && false) (Some bytes) None ≡ None) [ true ↦ refl | false ↦ refl ])

-- what stands behind `x:` stands there
hex_part-is : (field digits : List ℕ) → hex_part field ≡ Some digits → field ≡ 120 ∷ 58 ∷ digits
hex_part-is [] digits is = absurd (let e : None ≡ Some digits = is in cc)
hex_part-is (a ∷ []) digits is = absurd (let e : None ≡ Some digits = is in cc)
hex_part-is (a ∷ b ∷ rest) digits is = elim (cases_eq a 120) [
  | inl first ↦ elim (cases_eq b 58) [
    | inl second ↦ let s = rw (eq-eqb a 120 first, eq-eqb b 58 second) at is in let e : rest ≡ digits = cc in ap₂ (λ (x : ℕ) (xs : List ℕ). x ∷ xs) first (ap₂ (λ (x : ℕ) (xs : List ℕ). x ∷ xs) second e)
    | inr other ↦ let s = rw (eq-eqb a 120 first, ne_eqb b 58 other) at is in absurd (let e : None ≡ Some digits = s in cc)
  ]
  | inr other ↦ let s = rw (ne_eqb a 120 other) at is in absurd (let e : None ≡ Some digits = s in cc)
]

-- a key that is written is read as it
plain-read : (key : MapKey) → is_plain_text (bytes_of key) ≡ true → plain_key (bytes_of key) ≡ Ok key
plain-read key plain = rw (le-leb (length (bytes_of key)) 15 (key-few key), plain) (ap Ok (key_of_bytes-bytes key))

hex-key_read : (key : MapKey) → is_plain_text (bytes_of key) ≡ false → hex_key (Some (bytes_of key)) ≡ Ok key
hex-key_read key other = rw (le-leb (length (bytes_of key)) 15 (key-few key), other) (ap Ok (key_of_bytes-bytes key))

text-read : (key : MapKey) (t : Bool) → is_plain_text (bytes_of key) ≡ t → key_in (cond t (bytes_of key) (codes "x:" ++ flat_map hex_byte (bytes_of key))) ≡ Ok key
unfolding key_in
text-read key true plain =
    let letters = and_parts (nat_lt 0 (length (bytes_of key))) (list_all is_plain (bytes_of key)) plain in
    ap (λ (o : Option (List ℕ)). key_by o (bytes_of key)) (plain-no_hex (bytes_of key) letters.1) ∙ plain-read key plain
text-read key false other = ap hex_key (hex-read (bytes_of key) (key-bytes key)) ∙ hex-key_read key other

pub key-read : (key : MapKey) → key_in (key_text key) ≡ Ok key
unfolding key_text
key-read key = text-read key (is_plain_text (bytes_of key)) refl

-- .. and what is read as a key is how it is written
pub read-key : (field : List ℕ) (key : MapKey) → key_in field ≡ Ok key → key_text key ≡ field
unfolding key_in key_text
read-key field key is = go (hex_part field) refl is
  where
    plain : plain_key field ≡ Ok key → bytes_text (bytes_of key) ≡ field
    plain read = elim (either (nat_le (length field) 15 && is_plain_text field)) [
      | inl holds ↦
          let parts = and_parts (nat_le (length field) 15) (is_plain_text field) holds in
          let letters = and_parts (nat_lt 0 (length field)) (list_all is_plain field) parts.1 in
          let s = rw holds at read in
          let e : key_of_bytes field ≡ key = cc in
          let bytes : bytes_of key ≡ field = ap bytes_of (sym e) ∙ bytes-key_of_bytes field (leb-true (length field) 15 parts.0) (plain_bytes field letters.1) in
          rw (bytes, parts.1) refl
      | inr fails ↦ let s = rw fails at read in absurd (let e : Err KeyKind ≡ Ok key = s in cc)
    ]

    hex : (digits bytes : List ℕ) → hex_part field ≡ Some digits → hex_bytes digits ≡ Some bytes → hex_key (Some bytes) ≡ Ok key → bytes_text (bytes_of key) ≡ field
    hex digits bytes part found read = elim (either (nat_le (length bytes) 15 && not (is_plain_text bytes))) [
      | inl holds ↦
          let parts = and_parts (nat_le (length bytes) 15) (not (is_plain_text bytes)) holds in
          let are = hex-digits digits bytes found in
          let s = rw holds at read in
          let e : key_of_bytes bytes ≡ key = cc in
          let bytes_are : bytes_of key ≡ bytes = ap bytes_of (sym e) ∙ bytes-key_of_bytes bytes (leb-true (length bytes) 15 parts.0) are.0 in
          let other : is_plain_text bytes ≡ false = elim (either (is_plain_text bytes)) [ inl t ↦ absurd (let w = rw t at parts.1 in true≢false (sym w)) | inr f ↦ f ] in
          rw (bytes_are, other) (ap (λ (ds : List ℕ). 120 ∷ 58 ∷ ds) are.1 ∙ sym (hex_part-is field digits part))
      | inr fails ↦ let s = rw fails at read in absurd (let e : Err KeyKind ≡ Ok key = s in cc)
    ]

    found : (digits : List ℕ) (o : Option (List ℕ)) → hex_bytes digits ≡ o → hex_part field ≡ Some digits → hex_key o ≡ Ok key → bytes_text (bytes_of key) ≡ field
    found digits (Some bytes) bytes_are part read = hex digits bytes part bytes_are read
    found digits None none part read = absurd (let e : Err KeyKind ≡ Ok key = read in cc)

    go : (o : Option (List ℕ)) → hex_part field ≡ o → key_by o field ≡ Ok key → bytes_text (bytes_of key) ≡ field
    go (Some digits) part read = found digits (hex_bytes digits) refl part read
    go None part read = plain read

-- the digits from the place 2 i on are the next two and those behind them
pub two-next : (digits : List ℕ) (i : ℕ) → 2 * i + 1 < length digits → hex_bytes (drop (2 * i) digits) ≡ byte_before (byte_of (digit_number (get_or digits (2 * i) 0)) (digit_number (get_or digits (2 * i + 1) 0))) (hex_bytes (drop (2 * (i + 1)) digits))
two-next digits i lt =
    let c = get_or digits (2 * i) 0 in
    let d = get_or digits (2 * i + 1) 0 in
    let one : suc (2 * i) ≡ 2 * i + 1 = omega arith in
    let two : suc (2 * i + 1) ≡ 2 * (i + 1) = omega arith in
    let first : drop (2 * i) digits ≡ c ∷ drop (2 * i + 1) digits = drop-cons digits (2 * i) 0 (omega arith) ∙ ap (λ n. c ∷ drop n digits) one in
    let second : drop (2 * i + 1) digits ≡ d ∷ drop (2 * (i + 1)) digits = drop-cons digits (2 * i + 1) 0 (omega arith) ∙ ap (λ n. d ∷ drop n digits) two in
    ap hex_bytes (first ∙ ap (λ (ds : List ℕ). c ∷ ds) second)

-- digits are twice as many as their bytes
hex-length : (bytes : List ℕ) → length (flat_map hex_byte bytes) ≡ 2 * length bytes
hex-length [] = refl
hex-length (b ∷ bytes) = let rest = hex-length bytes in omega arith

-- so an odd number of digits is no key's, and neither is more than those of 15 bytes
pub hex-refused : (digits : List ℕ) → (length digits % 2 ≢ 0) ⊎ (15 < length digits / 2) → hex_key (hex_bytes digits) ≡ Err KeyKind
hex-refused digits why = go (hex_bytes digits) refl why
  where
    go : (o : Option (List ℕ)) → hex_bytes digits ≡ o → (length digits % 2 ≢ 0) ⊎ (15 < length digits / 2) → hex_key o ≡ Err KeyKind
    go None found why = refl
    go (Some bytes) found (inl odd) =
        let count : length digits ≡ 2 * length bytes = ap length (sym (hex-digits digits bytes found).1) ∙ hex-length bytes in
        absurd (odd (omega arith))
    go (Some bytes) found (inr many) =
        let count : length digits ≡ 2 * length bytes = ap length (sym (hex-digits digits bytes found).1) ∙ hex-length bytes in
        rw (gt-leb (length bytes) 15 (omega arith)) refl
