-- Bits of the space page.
use Rattle.std.proofs.Common.{◌≡◌, ◌≢◌, ℕ, zero, suc, ◌*◌, ◌/◌, ◌%◌, ◌^◌, ◌<◌, ◌≤◌, true, false, cond, eqb, ltb, ◌+◌, ◌-◌, ◌∙◌, List, Option, IsNone, IfSome, ◌↔◌, length, get_or, set, replicate, drop, zero-add, subst, refl, ap, sym, arith, inl, inr}
use Rattle.std.specs.Int.{bit_at, w64, bit_not, trailing_ones}
use Rattle.std.specs.Int.RustNames.{bit_or, count_ones}
use Rattle.std.specs.Bool.{then_some}
use lib.Bits.{bit_and}
use lib.Count.{ones_cat}
use Rattle.std.proofs.Math.Pow.{pow_pos, mod-pow-add}
use Rattle.std.proofs.Math.Nat.{mod-lt, mod-eq_of_lt}
use Rattle.std.proofs.lemmas.Nat.{and_mask, one_shl}
use Rattle.std.proofs.Math.Numerals.{one-add}
use mir.Val.{bits}
use Rattle.std.proofs.lemmas.Bool.{cases_eq, cases_lt, cases_Bool, eq-eqb, ne_eqb, lt-ltb, le-ltb}
use Rattle.std.proofs.lemmas.List.{get_or-set_same, get_or-set_other, get_or-drop, get_or_default, get_or_past, length-set, length-drop}
use Rattle.std.proofs.lemmas.Nat.Bits.{bit_at-lt, bit_at_ones, bit_at-trailing_ones, bit_at_not, bit_at_set_same, bit_at_set_other, bit_at_clear_same, bit_at_clear_other, bit_at_above}
use Rattle.ib_map.specs.declared.TheConstants.{PAGE_WORDS}
use Rattle.ib_page.specs.declared.space.TheConstants.{MAPPED_PAGES}
use Rattle.std.specs.List.{All}
use Rattle.ib_heap.specs.Words.{zeros}
use Rattle.ib_page.specs.Opening.{opening_space_words}
use Rattle.ib_heap.proofs.FreeLaws.{zeros-at}
use Rattle.ib_page.specs.Space.{is_taken, free_below, zeros_below, SetsBit, IsSpacePage}

-- the free pages of one word
pub zeros_below-le : (n word : ℕ) → zeros_below n word ≤ n
unfolding zeros_below
zeros_below-le zero word = omega arith
zeros_below-le (suc n) word = let rest = zeros_below-le n word in elim (cases_Bool (eqb (bit_at word n) 1)) [
  | inl set ↦ rw set (omega arith)
  | inr clear ↦ rw clear (omega arith)
]

pub bit_in_word : (ws : List ℕ) (i n : ℕ) → n < 64 → is_taken ws (64 * i + n) ≡ eqb (bit_at (get_or ws i 0) n) 1
bit_in_word ws i n lt =
    let at_word : (64 * i + n) / 64 ≡ i = omega arith in
    let at_bit : (64 * i + n) % 64 ≡ n = omega arith in
    ap (λ (k : ℕ). eqb (bit_at (get_or ws k 0) ((64 * i + n) % 64)) 1) at_word ∙ ap (λ (k : ℕ). eqb (bit_at (get_or ws i 0) k) 1) at_bit

pub free_below_word : (ws : List ℕ) (i n : ℕ) → n ≤ 64 → free_below ws (64 * i + n) ≡ free_below ws (64 * i) + zeros_below n (get_or ws i 0)
unfolding zeros_below
free_below_word ws i zero le = let same : 64 * i + 0 ≡ 64 * i = omega arith in omega (arith, ap (λ (k : ℕ). free_below ws k) same)
free_below_word ws i (suc n) le =
    let next : 64 * i + suc n ≡ suc (64 * i + n) = omega arith in
    let rest = free_below_word ws i n (omega arith) in
    let here : cond {A = ℕ} (is_taken ws (64 * i + n)) 0 1 ≡ cond {A = ℕ} (eqb (bit_at (get_or ws i 0) n) 1) 0 1 = ap (λ b. cond {A = ℕ} b 0 1) (bit_in_word ws i n (omega arith)) in
    ap (λ (k : ℕ). free_below ws k) next ∙ (let sum : free_below ws (suc (64 * i + n)) ≡ free_below ws (64 * i + n) + cond {A = ℕ} (is_taken ws (64 * i + n)) 0 1 = refl in
    let zeros : zeros_below (suc n) (get_or ws i 0) ≡ zeros_below n (get_or ws i 0) + cond {A = ℕ} (eqb (bit_at (get_or ws i 0) n) 1) 0 1 = refl in
    omega arith)

-- the ones among the lowest bits of a number are the zeros among those of its complement
ones_more : (word n : ℕ) → count_ones (word % 2 ^ suc n) ≡ count_ones (bit_at word n) + count_ones (word % 2 ^ n)
ones_more word n =
    ap (λ (j : ℕ). count_ones (word % 2 ^ j)) (sym (one-add n))
    ∙ (ap (λ (k : ℕ). count_ones k) (mod-pow-add word 1 n) ∙ ones_cat n (word / 2 ^ n % 2 ^ 1) (word % 2 ^ n) (mod-lt word (pow_pos n)))

no_ones : count_ones 0 ≡ 0
unfolding count_ones
no_ones = refl

one_one : count_ones 1 ≡ 1
unfolding count_ones
one_one = refl

pub ones_are_zeros : (other word n : ℕ) → ((i : ℕ) → i < n → bit_at other i ≡ 1 - bit_at word i) → count_ones (other % 2 ^ n) ≡ zeros_below n word
unfolding zeros_below
ones_are_zeros other word zero h = let none : other % 2 ^ 0 ≡ 0 = omega arith in ap (λ (k : ℕ). count_ones k) none ∙ no_ones
ones_are_zeros other word (suc n) h =
    let rest = ones_are_zeros other word n (λ i lt. h i (omega arith)) in
    let here : bit_at other n ≡ 1 - bit_at word n = h n (omega arith) in
    let more = ones_more other n in
    elim (cases_eq (bit_at word n) 1) [
      | inl set ↦
          let clear : count_ones (bit_at other n) ≡ 0 = ap (λ (k : ℕ). count_ones k) (let e : bit_at other n ≡ 0 = omega arith in e) ∙ no_ones in
          rw (eq-eqb (bit_at word n) 1 set) (omega arith)
      | inr unset ↦
          let small = bit_at-lt word n in
          let one : count_ones (bit_at other n) ≡ 1 = ap (λ (k : ℕ). count_ones k) (let e : bit_at other n ≡ 1 = omega arith in e) ∙ one_one in
          rw (ne_eqb (bit_at word n) 1 unset) (omega arith)
    ]

-- the zeros among the lowest bits of a word, and among all its bits
pub zeros_counted : (word n : ℕ) → word < 2 ^ 64 → n < 64 → count_ones (bit_and (bit_not w64 word) (1 * 2 ^ n % 2 ^ 64 - 1)) ≡ zeros_below n word
zeros_counted word n fits lt =
    ap (λ (mask : ℕ). count_ones (bit_and (bit_not w64 word) (mask - 1))) (one_shl n 64 lt)
    ∙ (ap (λ (k : ℕ). count_ones k) (and_mask (bit_not w64 word) n) ∙ ones_are_zeros (bit_not w64 word) word n (λ i below. bit_at_not w64 word i fits (omega arith)))

pub zeros_of_word : (word n : ℕ) → word < 2 ^ 64 → n ≡ 64 → count_ones (bit_not w64 word) ≡ zeros_below n word
zeros_of_word word n fits all =
    let below : bit_not w64 word < 2 ^ n = rw all (omega arith) in
    ap (λ (k : ℕ). count_ones k) (sym (mod-eq_of_lt below)) ∙ ones_are_zeros (bit_not w64 word) word n (λ i lt. bit_at_not w64 word i fits (omega arith))

-- all free pages before a page of a word
pub free_below_pages : (ws : List ℕ) (pages : ℕ) → free_below ws pages ≡ free_below ws (64 * (pages / 64)) + zeros_below (pages % 64) (get_or ws (pages / 64) 0)
free_below_pages ws pages =
    let split : pages ≡ 64 * (pages / 64) + pages % 64 = omega arith in
    ap (λ (n : ℕ). free_below ws n) split ∙ free_below_word ws (pages / 64) (pages % 64) (omega arith)

-- the pages of words that are all ones are taken
pub full_word : (ws : List ℕ) (i lower : ℕ) → get_or ws i 0 ≡ 2 ^ 64 - 1 → ((page : ℕ) → page < 64 * i → is_taken ws page ≡ true) → lower < 64 * (i + 1) → is_taken ws lower ≡ true
full_word ws i lower full before lt = elim (cases_lt lower (64 * i)) [
  | inl earlier ↦ before lower earlier
  | inr here ↦
      let bit = lower - 64 * i in
      let within : bit < 64 = omega arith in
      let split : lower ≡ 64 * i + bit = omega arith in
      ap (λ (page : ℕ). is_taken ws page) split
      ∙ (bit_in_word ws i bit within ∙ (ap (λ (word : ℕ). eqb (bit_at word bit) 1) full ∙ eq-eqb (bit_at (2 ^ 64 - 1) bit) 1 (bit_at_ones 64 bit within)))
]

-- no page is free before this one, which is
pub record IsLowestFree (ws : List ℕ) (page : ℕ) : Type 0 where
  pub free : is_taken ws page ≡ false
  pub before : (lower : ℕ) → lower < page → is_taken ws lower ≡ true

pub lowest_in_word : (ws : List ℕ) (i : ℕ) → get_or ws i 0 + 1 < 2 ^ 64 → ((page : ℕ) → page < 64 * i → is_taken ws page ≡ true) → IsLowestFree ws (64 * i + trailing_ones w64 (get_or ws i 0))
lowest_in_word ws i room before =
    let word = get_or ws i 0 in
    let lowest = bit_at-trailing_ones w64 word room in
    let within = lowest.0 in
    record {
      free = bit_in_word ws i (trailing_ones w64 word) within ∙ ap (λ (b : ℕ). eqb b 1) lowest.1;
      before = λ lower lt. elim (cases_lt lower (64 * i)) [
        | inl earlier ↦ before lower earlier
        | inr here ↦
            let bit = lower - 64 * i in
            let split : lower ≡ 64 * i + bit = omega arith in
            ap (λ (page : ℕ). is_taken ws page) split ∙ (bit_in_word ws i bit (omega arith) ∙ eq-eqb (bit_at word bit) 1 (lowest.2 bit (omega arith)))
      ];
    }

-- the lowest free page, where it is one of so many pages
pub record IsLowestOf (ws : List ℕ) (pages : ℕ) (result : Option ℕ) : Type 0 where
  pub none : IsNone result ↔ ((page : ℕ) → page < pages → is_taken ws page ≡ true)
  pub in_range : IfSome result (λ page. page < pages)
  pub free : IfSome result (λ page. is_taken ws page ≡ false)
  pub lowest : IfSome result (λ page. (lower : ℕ) → lower < page → is_taken ws lower ≡ true)

pub lowest_of : (ws : List ℕ) (pages page : ℕ) → IsLowestFree ws page → IsLowestOf ws pages (then_some (ltb page pages) page)
lowest_of ws pages page found = elim (cases_lt page pages) [
  | inl within ↦ rw (lt-ltb page pages within) (record {
    none = (λ bad. (cc), λ all. absurd (let taken = all page within in let free = found.free in cc));
    in_range = within;
    free = found.free;
    lowest = found.before;
  })
  | inr beyond ↦ rw (le-ltb page pages beyond) (record {
    none = (λ _ lower lt. found.before lower (omega arith), λ _. refl);
    in_range = tt;
    free = tt;
    lowest = tt;
  })
]

-- one word replaced by one that has the same bits but for one
sets_bit : (ws : List ℕ) (page word bit : ℕ) → length ws ≡ PAGE_WORDS → page < MAPPED_PAGES → bit_at word (page % 64) ≡ bit
    → ((i : ℕ) → i < 64 → (i ≡ page % 64 → ⊥) → bit_at word i ≡ bit_at (get_or ws (page / 64) 0) i) → SetsBit ws (set ws (page / 64) word) page (eqb bit 1)
sets_bit ws page word bit size in_range here others = record {
  here = ap (λ (v : ℕ). eqb (bit_at v (page % 64)) 1) (get_or-set_same ws (page / 64) word 0 (omega arith)) ∙ ap (λ (b : ℕ). eqb b 1) here;
  elsewhere = λ other lt differs. elim (cases_eq (other / 64) (page / 64)) [
    | inl same ↦
        ap (λ (i : ℕ). eqb (bit_at (get_or (set ws (page / 64) word) i 0) (other % 64)) 1) same
        ∙ (ap (λ (v : ℕ). eqb (bit_at v (other % 64)) 1) (get_or-set_same ws (page / 64) word 0 (omega arith))
        ∙ (ap (λ (b : ℕ). eqb b 1) (others (other % 64) (omega arith) (λ e. differs (omega arith)))
        ∙ ap (λ (i : ℕ). eqb (bit_at (get_or ws i 0) (other % 64)) 1) (sym same)))
    | inr apart ↦ ap (λ (v : ℕ). eqb (bit_at v (other % 64)) 1) (get_or-set_other ws (page / 64) (other / 64) word 0 apart)
  ];
  behind = λ i le. get_or-set_other ws (page / 64) i word 0 (λ e. omega arith);
  size = length-set ws (page / 64) word;
}

pub sets_taken : (ws : List ℕ) (page : ℕ) → length ws ≡ PAGE_WORDS → page < MAPPED_PAGES
    → SetsBit ws (set ws (page / 64) (bit_or (get_or ws (page / 64) 0) (1 * 2 ^ (page % 64) % 2 ^ bits w64))) page true
sets_taken ws page size in_range = sets_bit ws page _ 1 size in_range
    (bit_at_set_same w64 (get_or ws (page / 64) 0) (page % 64) (omega arith))
    (λ i lt differs. bit_at_set_other w64 (get_or ws (page / 64) 0) (page % 64) (omega arith) i differs)

pub sets_free : (ws : List ℕ) (page : ℕ) → length ws ≡ PAGE_WORDS → page < MAPPED_PAGES
    → SetsBit ws (set ws (page / 64) (bit_and (get_or ws (page / 64) 0) (bit_not w64 (1 * 2 ^ (page % 64) % 2 ^ bits w64)))) page false
sets_free ws page size in_range = sets_bit ws page _ 0 size in_range
    (bit_at_clear_same w64 (get_or ws (page / 64) 0) (page % 64) (omega arith))
    (λ i lt differs. bit_at_clear_other w64 (get_or ws (page / 64) 0) (page % 64) (omega arith) i lt differs)

-- the space page of a new space, word for word
pub space_words : set (replicate PAGE_WORDS 0) 0 3 ≡ opening_space_words 1
unfolding opening_space_words zeros
space_words = refl

pub space_word : (roots index : ℕ) → get_or (opening_space_words roots) index 0 ≡ cond (eqb index 0) (2 ^ (roots + 1) - 1) 0
unfolding opening_space_words
space_word roots zero = refl
space_word roots (suc i) = zeros-at (PAGE_WORDS - 1) i ∙ ap (λ b. cond {A = ℕ} b (2 ^ (roots + 1) - 1) 0) (sym (ne_eqb (suc i) 0 (λ e. omega arith)))

-- .. behind the first word all are 0
space_zero : (roots i : ℕ) → i ≢ 0 → get_or (opening_space_words roots) i 0 ≡ 0
space_zero roots i behind = space_word roots i ∙ ap (λ b. cond {A = ℕ} b (2 ^ (roots + 1) - 1) 0) (ne_eqb i 0 behind)

length-zeros : (n : ℕ) → length {A = ℕ} (zeros n) ≡ n
unfolding zeros
length-zeros n = length-replicate n
  where
    length-replicate : (n : ℕ) → length {A = ℕ} (replicate n 0) ≡ n
    length-replicate zero = refl
    length-replicate (suc n) = ap suc (length-replicate n)

pub length-space : (roots : ℕ) → length (opening_space_words roots) ≡ PAGE_WORDS
unfolding opening_space_words
length-space roots = ap suc (length-zeros (PAGE_WORDS - 1))

-- the bits of the first word
bit_of_three : (i : ℕ) → eqb (bit_at 3 i) 1 ≡ ltb i 2
bit_of_three zero = refl
bit_of_three (suc zero) = refl
bit_of_three (suc (suc i)) = ap (λ (b : ℕ). eqb b 1) (bit_at_above 3 2 (suc (suc i)) (omega arith) (omega arith)) ∙ sym (le-ltb (suc (suc i)) 2 (omega arith))

bit_of_seven : (i : ℕ) → eqb (bit_at 7 i) 1 ≡ ltb i 3
bit_of_seven zero = refl
bit_of_seven (suc zero) = refl
bit_of_seven (suc (suc zero)) = refl
bit_of_seven (suc (suc (suc i))) = ap (λ (b : ℕ). eqb b 1) (bit_at_above 7 3 (suc (suc (suc i))) (omega arith) (omega arith)) ∙ sym (le-ltb (suc (suc (suc i))) 3 (omega arith))

bit_of_first : (roots i : ℕ) → 0 < roots → roots ≤ 2 → eqb (bit_at (2 ^ (roots + 1) - 1) i) 1 ≡ ltb i (roots + 1)
bit_of_first roots i some few = elim (cases_eq roots 1) [
  | inl one ↦ subst (λ (r : ℕ). eqb (bit_at (2 ^ (r + 1) - 1) i) 1 ≡ ltb i (r + 1)) (sym one) (bit_of_three i)
  | inr other ↦ let two : roots ≡ 2 = omega (arith, other) in subst (λ (r : ℕ). eqb (bit_at (2 ^ (r + 1) - 1) i) 1 ≡ ltb i (r + 1)) (sym two) (bit_of_seven i)
]

pub space_taken : (roots page : ℕ) → 0 < roots → roots ≤ 2 → page < MAPPED_PAGES → is_taken (opening_space_words roots) page ≡ ltb page (roots + 1)
space_taken roots page some few lt = elim (cases_eq (page / 64) 0) [
  | inl first ↦
      ap (λ (i : ℕ). eqb (bit_at (get_or (opening_space_words roots) i 0) (page % 64)) 1) first
      ∙ (ap (λ (v : ℕ). eqb (bit_at v (page % 64)) 1) (space_word roots 0)
      ∙ (bit_of_first roots (page % 64) some few ∙ ap (λ (i : ℕ). ltb i (roots + 1)) (let e : page % 64 ≡ page = omega arith in e)))
  | inr later ↦
      ap (λ (v : ℕ). eqb (bit_at v (page % 64)) 1) (space_zero roots (page / 64) later)
      ∙ (ap (λ (b : ℕ). eqb b 1) (bit_at_above 0 0 (page % 64) (omega arith) (omega arith)) ∙ sym (le-ltb page (roots + 1) (omega arith)))
]

pub space_formed : (roots pages : ℕ) → 0 < roots → roots ≤ 2 → roots < pages → IsSpacePage pages (opening_space_words roots)
space_formed roots pages some few many = record {
  size = length-space roots;
  beyond = λ page le lt. space_taken roots page some few lt ∙ le-ltb page (roots + 1) (omega arith);
  behind = λ i lt. space_zero roots i (λ e. omega arith);
}

-- all pages from one on are free exactly where they count as free
free_below-step : (ws : List ℕ) (n k : ℕ) → free_below ws (k + n) ≤ free_below ws n + k
free_below-step ws n zero = let e : free_below ws (0 + n) ≡ free_below ws n = ap (λ j. free_below ws j) (zero-add n) in omega arith
free_below-step ws n (suc k) =
    let rest = free_below-step ws n k in
    let next : free_below ws (suc k + n) ≡ free_below ws (suc (k + n)) = ap (λ j. free_below ws j) (let e : suc k + n ≡ suc (k + n) = omega arith in e) in
    elim (cases_Bool (is_taken ws (k + n))) [
      | inl taken ↦ let one : free_below ws (suc (k + n)) ≡ free_below ws (k + n) + 0 = ap (λ b. free_below ws (k + n) + cond {A = ℕ} b 0 1) taken in omega arith
      | inr free ↦ let one : free_below ws (suc (k + n)) ≡ free_below ws (k + n) + 1 = ap (λ b. free_below ws (k + n) + cond {A = ℕ} b 0 1) free in omega arith
    ]

pub free_from_count : (ws : List ℕ) (n k : ℕ) → free_below ws (k + n) ≡ free_below ws n + k → (page : ℕ) → n ≤ page → page < k + n → is_taken ws page ≡ false
free_from_count ws n zero count page le lt = absurd (omega arith)
free_from_count ws n (suc k) count page le lt =
    let most = free_below-step ws n k in
    let next : free_below ws (suc k + n) ≡ free_below ws (suc (k + n)) = ap (λ j. free_below ws j) (let e : suc k + n ≡ suc (k + n) = omega arith in e) in
    elim (cases_Bool (is_taken ws (k + n))) [
      | inl taken ↦ absurd (let none : free_below ws (suc (k + n)) ≡ free_below ws (k + n) + 0 = ap (λ b. free_below ws (k + n) + cond {A = ℕ} b 0 1) taken in omega arith)
      | inr free ↦
          let one : free_below ws (suc (k + n)) ≡ free_below ws (k + n) + 1 = ap (λ b. free_below ws (k + n) + cond {A = ℕ} b 0 1) free in
          elim (cases_eq page (k + n)) [
            | inl last ↦ ap (λ p. is_taken ws p) last ∙ free
            | inr earlier ↦ free_from_count ws n k (omega arith) page le (omega (arith, earlier))
          ]
    ]

pub count_from_free : (ws : List ℕ) (n k : ℕ) → ((page : ℕ) → n ≤ page → page < k + n → is_taken ws page ≡ false) → free_below ws (k + n) ≡ free_below ws n + k
count_from_free ws n zero free = let e : free_below ws (0 + n) ≡ free_below ws n = ap (λ j. free_below ws j) (zero-add n) in omega arith
count_from_free ws n (suc k) free =
    let rest = count_from_free ws n k (λ page le lt. free page le (omega arith)) in
    let next : free_below ws (suc k + n) ≡ free_below ws (suc (k + n)) = ap (λ j. free_below ws j) (let e : suc k + n ≡ suc (k + n) = omega arith in e) in
    let one : free_below ws (suc (k + n)) ≡ free_below ws (k + n) + 1 = ap (λ b. free_below ws (k + n) + cond {A = ℕ} b 0 1) (free (k + n) (omega arith) (omega arith)) in
    omega arith

-- words behind the clock, by index
pub behind_from : (ws : List ℕ) → All (λ (word : ℕ). word ≡ 0) (drop 65 ws) → (i : ℕ) → 64 < i → get_or ws i 0 ≡ 0
behind_from ws none i lt = elim (cases_lt i (length ws)) [
  | inl within ↦
      let at : get_or (drop 65 ws) (i - 65) 0 ≡ get_or ws (65 + (i - 65)) 0 = get_or-drop 65 ws (i - 65) 0 in
      let e : 65 + (i - 65) ≡ i = omega arith in
      sym (at ∙ ap (λ k. get_or ws k 0) e) ∙ none (i - 65) 0 (omega (arith, length-drop 65 ws))
  | inr past ↦ get_or_past ws i 0 past
]

pub behind_to : (ws : List ℕ) → ((i : ℕ) → 64 < i → get_or ws i 0 ≡ 0) → All (λ (word : ℕ). word ≡ 0) (drop 65 ws)
behind_to ws none k d lt = get_or_default (drop 65 ws) k d 0 lt ∙ (get_or-drop 65 ws k 0 ∙ none (65 + k) (omega arith))

pub free_beyond : (ws : List ℕ) (pages most all few : ℕ) → pages ≤ most → all ≡ free_below ws most → few ≡ free_below ws pages → all ≡ few + (most - pages) → (page : ℕ) → pages ≤ page → page < most → is_taken ws page ≡ false
free_beyond ws pages most all few le counted counted_few same page above below =
    let whole : most - pages + pages ≡ most = omega arith in
    let count : free_below ws (most - pages + pages) ≡ free_below ws pages + (most - pages) =
    ap (λ n. free_below ws n) whole ∙ (sym counted ∙ (same ∙ ap (λ n. n + (most - pages)) counted_few)) in
    free_from_count ws pages (most - pages) count page above (omega arith)

pub count_beyond : (ws : List ℕ) (pages most all few : ℕ) → pages ≤ most → all ≡ free_below ws most → few ≡ free_below ws pages → ((page : ℕ) → pages ≤ page → page < most → is_taken ws page ≡ false) → all ≡ few + (most - pages)
count_beyond ws pages most all few le counted counted_few free =
    let whole : most - pages + pages ≡ most = omega arith in
    counted ∙ (ap (λ n. free_below ws n) (sym whole) ∙ (count_from_free ws pages (most - pages) (λ page above below. free page above (omega arith)) ∙ ap (λ n. n + (most - pages)) (sym counted_few)))
