-- A head is the one that its words spell, and words without a fault are those of the head that they spell.
use Rattle.std.proofs.Common.{◌≡◌, ℕ, ◌+◌, ◌-◌, ◌*◌, ◌^◌, ◌<◌, ◌≤◌, Bool, true, false, cond, eqb, List, [], ◌∷◌, ◌++◌, length, get_or, drop, None, Some, refl, sym, ap, ◌∙◌, arith, inl, inr, ◌⊎◌, append_assoc, length-append}
use Rattle.std.specs.Prelude.{◌||◌, not}
use Rattle.std.proofs.Math.Seq.{get_or-append_seam}
use Rattle.std.proofs.lemmas.Bool.{eqb-true, or_cases, le-leb, lt-leb, leb-true, and_from, and_parts}
use Rattle.std.proofs.lemmas.List.{drop_at, drop_more}
use Rattle.ib_map.specs.Keys.{MapKey}
use Rattle.ib_map.specs.Map.{key_of}
use Rattle.ib_map.specs.declared.call.Change.{Change}
use Rattle.ib_map.specs.declared.call.Change.TheVariants.{Insert, Delete}
use Rattle.ib_logrec.specs.declared.key_words.TheConstants.{KEY_WORDS}
use Rattle.ib_logrec.specs.declared.entry.TheConstants.{HEAD_WORDS, MOST_WRITES, MOST_SESSIONS}
use Rattle.ib_logrec.specs.declared.head.Head.{Head}
use Rattle.ib_logrec.specs.KeyWords.{key_words, spells_key, key_in}
use Rattle.ib_logrec.specs.Heads.{flags_of, value_of, first_word, head_words, session_in, flags_in, count_in, is_delete, is_structural, first_at, number_at, key_part, value_word, head_in}
use Rattle.ib_logrec.specs.declared.fault.LogFault.TheVariants.{Short}
use Rattle.ib_logrec.specs.Grammar.{is_flags, is_counted, is_first, spells_head, head_fault}
use Rattle.ib_logrec.proofs.KeyWordLaws.{length-key_words, key_in-key_words, spells_key-key_words, key_words-key_in}
use Rattle.ib_logrec.proofs.WriteLaws.{unless-none, or-none}

-- ---- the parts of a first word

flags_of-below : (change : Change) (structural : Bool) → flags_of change structural < 2 ^ 16
flags_of-below (Insert key value) true = omega arith
flags_of-below (Insert key value) false = omega arith
flags_of-below (Delete key) true = omega arith
flags_of-below (Delete key) false = omega arith

module _ (session flags count : ℕ) (low : flags < 2 ^ 16) (few : count < 2 ^ 16) where
  session_in-parts : session_in (session * 2 ^ 32 + flags * 2 ^ 16 + count) ≡ session
  session_in-parts = omega arith

  flags_in-parts : flags_in (session * 2 ^ 32 + flags * 2 ^ 16 + count) ≡ flags
  flags_in-parts = omega arith

  count_in-parts : count_in (session * 2 ^ 32 + flags * 2 ^ 16 + count) ≡ count
  count_in-parts = omega arith

first-parts : (first : ℕ) → session_in first * 2 ^ 32 + flags_in first * 2 ^ 16 + count_in first ≡ first
first-parts first = omega arith

-- ---- what the flags say

abbrev says_structural : ℕ → Bool
says_structural flags = eqb flags 5 || eqb flags 6

is_flags-flags_of : (change : Change) (structural : Bool) → is_flags (flags_of change structural) ≡ true
is_flags-flags_of (Insert key value) true = refl
is_flags-flags_of (Insert key value) false = refl
is_flags-flags_of (Delete key) true = refl
is_flags-flags_of (Delete key) false = refl

structural-flags_of : (change : Change) (structural : Bool) → says_structural (flags_of change structural) ≡ structural
structural-flags_of (Insert key value) true = refl
structural-flags_of (Insert key value) false = refl
structural-flags_of (Delete key) true = refl
structural-flags_of (Delete key) false = refl

-- the change that a first word makes of a key and a value
abbrev change_with : ℕ → MapKey → ℕ → Change
change_with first key value = cond (is_delete first) (Delete key) (Insert key value)

change_with-flags : (change : Change) (structural : Bool) (first : ℕ) → flags_in first ≡ flags_of change structural → change_with first (key_of change) (value_of change) ≡ change
change_with-flags (Insert key value) true first is = rw is refl
change_with-flags (Insert key value) false first is = rw is refl
change_with-flags (Delete key) true first is = rw is refl
change_with-flags (Delete key) false first is = rw is refl

-- a delete has no value
delete-no_value : (change : Change) (structural : Bool) (first : ℕ) → flags_in first ≡ flags_of change structural → (not (is_delete first) || eqb (value_of change) 0) ≡ true
delete-no_value (Insert key value) true first is = rw is refl
delete-no_value (Insert key value) false first is = rw is refl
delete-no_value (Delete key) true first is = rw is refl
delete-no_value (Delete key) false first is = rw is refl

one_of : (flags : ℕ) → is_flags flags ≡ true → (flags ≡ 1) ⊎ ((flags ≡ 2) ⊎ ((flags ≡ 5) ⊎ (flags ≡ 6)))
one_of flags is = elim (or_cases _ _ is) [
  | inl three ↦ elim (or_cases _ _ three) [
    | inl two ↦ elim (or_cases _ _ two) [ inl one ↦ inl (eqb-true flags 1 one) | inr other ↦ inr (inl (eqb-true flags 2 other)) ]
    | inr five ↦ inr (inr (inl (eqb-true flags 5 five)))
  ]
  | inr six ↦ inr (inr (inr (eqb-true flags 6 six)))
]

flags_of-change_with : (first : ℕ) (key : MapKey) (value : ℕ) → is_flags (flags_in first) ≡ true → flags_of (change_with first key value) (is_structural first) ≡ flags_in first
flags_of-change_with first key value flags = elim (one_of (flags_in first) flags) [
  | inl is ↦ rw is refl
  | inr rest ↦ elim rest [ inl is ↦ rw is refl | inr more ↦ elim more [ inl is ↦ rw is refl | inr is ↦ rw is refl ] ]
]

key_of-change_with : (first : ℕ) (key : MapKey) (value : ℕ) → key_of (change_with first key value) ≡ key
key_of-change_with first key value = elim (is_delete first) as (λ b. key_of (cond b (Delete key) (Insert key value)) ≡ key) [ true ↦ refl | false ↦ refl ]

value_of-change_with : (first : ℕ) (key : MapKey) (value : ℕ) → (not (is_delete first) || eqb value 0) ≡ true → value_of (change_with first key value) ≡ value
value_of-change_with first key value none = go (is_delete first) none
  where
    go : (b : Bool) → (not b || eqb value 0) ≡ true → value_of (cond b (Delete key) (Insert key value)) ≡ value
    go true is = sym (eqb-true value 0 is)
    go false is = refl

-- ---- the words of a head

pub length-head_words : (h : Head) → length (head_words h) ≡ HEAD_WORDS
unfolding head_words
length-head_words h = omega (arith, length-append (key_words (key_of h.change)) (value_of h.change ∷ []), length-key_words (key_of h.change))

module _ (h : Head) (rest : List ℕ) (few : h.writes ≤ MOST_WRITES) where
  -- the words of the key and the value, with what stands behind the head
  abbrev behind_number : List ℕ
  behind_number = (key_words (key_of h.change) ++ value_of h.change ∷ []) ++ rest

  key_is : key_in ((key_words (key_of h.change) ++ value_of h.change ∷ []) ++ rest) ≡ key_of h.change
  key_is = rw append_assoc (key_in-key_words (key_of h.change) (value_of h.change ∷ rest))

  value_is : get_or ((key_words (key_of h.change) ++ value_of h.change ∷ []) ++ rest) KEY_WORDS 0 ≡ value_of h.change
  value_is = rw (append_assoc, ← length-key_words (key_of h.change)) (get_or-append_seam (key_words (key_of h.change)) (value_of h.change) rest 0)

  flags_is : flags_in (first_word h) ≡ flags_of h.change h.structural
  flags_is = flags_in-parts h.session (flags_of h.change h.structural) h.writes (flags_of-below h.change h.structural) (omega arith)

  pub count_is : count_in (first_word h) ≡ h.writes
  count_is = count_in-parts h.session (flags_of h.change h.structural) h.writes (flags_of-below h.change h.structural) (omega arith)

  session_is : session_in (first_word h) ≡ h.session
  session_is = session_in-parts h.session (flags_of h.change h.structural) h.writes (flags_of-below h.change h.structural) (omega arith)

  pub structural_is : is_structural (first_word h) ≡ h.structural
  structural_is = rw flags_is (structural-flags_of h.change h.structural)

  -- words that begin with a head's are read as the head
  pub head_in-words : head_in (head_words h ++ rest) ≡ h
  unfolding head_in head_words
  head_in-words =
      let change : change_with (first_word h) (key_in behind_number) (get_or behind_number KEY_WORDS 0) ≡ h.change = rw (key_is, value_is) (change_with-flags h.change h.structural (first_word h) flags_is) in
      λ i. record { session = session_is i; number = h.number; change = change i; structural = structural_is i; writes = count_is i }

  pub first_at-words : first_at (head_words h ++ rest) ≡ first_word h
  unfolding head_words
  first_at-words = refl

  pub drop-head_words : drop HEAD_WORDS (head_words h ++ rest) ≡ rest
  drop-head_words = drop_at (head_words h) rest HEAD_WORDS (length-head_words h)

  number_at-words : number_at (head_words h ++ rest) ≡ h.number
  unfolding head_words
  number_at-words = refl

  spells-words : spells_key (key_part (head_words h ++ rest)) ≡ true
  unfolding head_words
  spells-words = rw append_assoc (spells_key-key_words (key_of h.change) (value_of h.change ∷ rest))

  value_word-words : value_word (head_words h ++ rest) ≡ value_of h.change
  unfolding head_words
  value_word-words = value_is

-- ---- which heads have no fault

-- each test of a head's words holds
pub record HeadIsRight (words : List ℕ) : Type 0 where
  pub whole : HEAD_WORDS ≤ length words
  pub first : is_first (first_at words) ≡ true
  pub numbered : is_counted (number_at words) (2 ^ 32 - 1) ≡ true
  pub keyed : spells_key (key_part words) ≡ true
  pub valued : (not (is_delete (first_at words)) || eqb (value_word words) 0) ≡ true
  pub long : 2 * count_in (first_at words) ≤ length (drop HEAD_WORDS words)

pub HeadIsRight-no_fault : (place : ℕ) (words : List ℕ) → head_fault place words ≡ None → HeadIsRight words
unfolding head_fault
HeadIsRight-no_fault place words none =
    let a = or-none _ _ none in
    let b = or-none _ _ a.1 in
    let c = or-none _ _ b.1 in
    let d = or-none _ _ c.1 in
    let e = or-none _ _ d.1 in
    record {
      whole = leb-true _ _ (unless-none _ _ a.0);
      first = unless-none _ _ b.0;
      numbered = unless-none _ _ c.0;
      keyed = unless-none _ _ d.0;
      valued = unless-none _ _ e.0;
      long = leb-true _ _ (unless-none _ _ e.1);
    }

pub no_fault-HeadIsRight : (place : ℕ) (words : List ℕ) → HeadIsRight words → head_fault place words ≡ None
unfolding head_fault
no_fault-HeadIsRight place words right =
    rw (le-leb _ _ right.whole, right.first, right.numbered, right.keyed, right.valued, le-leb _ _ right.long) refl

-- words that spell a head stand each test of a head, ..
module _ (words : List ℕ) (whole : HEAD_WORDS ≤ length words) (spelled : spells_head words ≡ true) where
  four : (((is_first (first_at words) ≡ true) × (is_counted (number_at words) (2 ^ 32 - 1) ≡ true)) × (spells_key (key_part words) ≡ true)) × ((not (is_delete (first_at words)) || eqb (value_word words) 0) ≡ true)
  unfolding spells_head
  four = let d = and_parts _ _ spelled in let c = and_parts _ _ d.0 in let b = and_parts _ _ c.0 in ((b, c.1), d.1)

  -- .. and all of them where so many words stand behind it as its writes have
  pub right-spelled : 2 * count_in (first_at words) ≤ length (drop HEAD_WORDS words) → HeadIsRight words
  right-spelled long = record { whole = whole; first = four.0.0.0; numbered = four.0.0.1; keyed = four.0.1; valued = four.1; long = long }

  pub short-spelled : (place : ℕ) → length (drop HEAD_WORDS words) < 2 * count_in (first_at words) → head_fault place words ≡ Some (Short place)
  unfolding head_fault
  short-spelled place short = rw (le-leb _ _ whole, four.0.0.0, four.0.0.1, four.0.1, four.1, lt-leb _ _ short) refl

-- what a head in the grammar says
pub record HasHead (h : Head) : Type 0 where
  pub session : 1 ≤ h.session
  pub most_session : h.session ≤ MOST_SESSIONS
  pub number : 1 ≤ h.number
  pub most_number : h.number < 2 ^ 32
  pub writes : 1 ≤ h.writes
  pub most_writes : h.writes ≤ MOST_WRITES

-- the words of a head spell one, whatever stands behind them
pub head-spelled : (h : Head) (rest : List ℕ) → HasHead h → spells_head (head_words h ++ rest) ≡ true
unfolding spells_head
head-spelled h rest has =
    let few = has.most_writes in
    let sessions : is_counted (session_in (first_word h)) MOST_SESSIONS ≡ true = rw (session_is h rest few) (and_from _ _ (le-leb 1 h.session has.session) (le-leb h.session MOST_SESSIONS has.most_session)) in
    let known : is_flags (flags_in (first_word h)) ≡ true = rw (flags_is h rest few) (is_flags-flags_of h.change h.structural) in
    let counts : is_counted (count_in (first_word h)) MOST_WRITES ≡ true = rw (count_is h rest few) (and_from _ _ (le-leb 1 h.writes has.writes) (le-leb h.writes MOST_WRITES has.most_writes)) in
    let first : is_first (first_word h) ≡ true = and_from _ _ (and_from _ _ sessions known) counts in
    let number : is_counted h.number (2 ^ 32 - 1) ≡ true = and_from _ _ (le-leb 1 h.number has.number) (le-leb h.number (2 ^ 32 - 1) (let most = has.most_number in omega arith)) in
    let value = delete-no_value h.change h.structural (first_word h) (flags_is h rest few) in
    let words : List ℕ = head_words h ++ rest in
    let first_there : is_first (first_at words) ≡ true = rw (first_at-words h rest few) first in
    let numbered : is_counted (number_at words) (2 ^ 32 - 1) ≡ true = rw (number_at-words h rest few) number in
    let valued : (not (is_delete (first_at words)) || eqb (value_word words) 0) ≡ true = rw (first_at-words h rest few, value_word-words h rest few) value in
    and_from _ _ (and_from _ _ (and_from _ _ first_there numbered) (spells-words h rest few)) valued

pub HeadIsRight-words : (h : Head) (rest : List ℕ) → HasHead h → 2 * h.writes ≤ length rest → HeadIsRight (head_words h ++ rest)
HeadIsRight-words h rest has long =
    let few = has.most_writes in
    let count : 2 * count_in (first_word h) ≤ length rest = rw (count_is h rest few) long in
    right-spelled (head_words h ++ rest) (omega (arith, length-append (head_words h) rest, length-head_words h)) (head-spelled h rest has)
    (rw (first_at-words h rest few, drop-head_words h rest few) count)

module _ (words : List ℕ) (right : HeadIsRight words) where
  -- the head that is read is in the grammar
  pub HasHead-head_in : HasHead (head_in words)
  unfolding head_in
  HasHead-head_in =
      let tests = and_parts _ _ right.first in
      let known = and_parts _ _ tests.0 in
      let session = and_parts _ _ known.0 in
      let count = and_parts _ _ tests.1 in
      let numbered = and_parts _ _ right.numbered in
      let most : number_at words ≤ 2 ^ 32 - 1 = leb-true _ _ numbered.1 in
      record {
        session = leb-true _ _ session.0;
        most_session = leb-true _ _ session.1;
        number = leb-true _ _ numbered.0;
        most_number = omega arith;
        writes = leb-true _ _ count.0;
        most_writes = leb-true _ _ count.1;
      }

-- words are those of the head that they spell, and what stands behind it
pub head_words-head_in : (words : List ℕ) → HeadIsRight words → head_words (head_in words) ++ drop HEAD_WORDS words ≡ words
unfolding head_words head_in
head_words-head_in [] right = absurd (let whole = right.whole in omega arith)
head_words-head_in (first ∷ []) right = absurd (let whole = right.whole in omega arith)
head_words-head_in (first ∷ number ∷ words) right =
    let whole : KEY_WORDS < length words = let long = right.whole in omega arith in
    let key : MapKey = key_in words in
    let value : ℕ = get_or words KEY_WORDS 0 in
    let flags : is_flags (flags_in first) ≡ true = (and_parts _ _ (and_parts _ _ right.first).0).1 in
    let first_is : session_in first * 2 ^ 32 + flags_of (change_with first key value) (is_structural first) * 2 ^ 16 + count_in first ≡ first = rw (flags_of-change_with first key value flags) (first-parts first) in
    let key_is : key_of (change_with first key value) ≡ key = key_of-change_with first key value in
    let value_is : value_of (change_with first key value) ≡ value = value_of-change_with first key value right.valued in
    let behind : drop KEY_WORDS words ≡ value ∷ drop (KEY_WORDS + 1) words = drop_more words KEY_WORDS 0 whole in
    let spelled : key_words key ++ (value ∷ drop (KEY_WORDS + 1) words) ≡ words = ap (λ (ws : List ℕ). key_words key ++ ws) (sym behind) ∙ key_words-key_in words (omega arith) right.keyed in
    let rest : (key_words (key_of (change_with first key value)) ++ value_of (change_with first key value) ∷ []) ++ drop (KEY_WORDS + 1) words ≡ words = rw (key_is, value_is, append_assoc) spelled in
    λ i. first_is i ∷ number ∷ rest i
