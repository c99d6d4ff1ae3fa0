-- An old head is the one that its words spell, and words without a fault are those of the head that they spell.
use Rattle.std.proofs.Common.{◌≡◌, ℕ, ◌+◌, ◌-◌, ◌*◌, ◌^◌, ◌<◌, ◌≤◌, Bool, true, false, cond, eqb, List, [], ◌∷◌, ◌++◌, length, drop, None, refl, sym, arith, inl, inr, ◌⊎◌}
use Rattle.std.specs.Prelude.{◌||◌, not}
use Rattle.std.proofs.lemmas.Bool.{eqb-true, or_cases, le-leb, leb-true, and_from, and_parts}
use Rattle.ib_logrec.specs.declared.entry.TheConstants.{MOST_SESSIONS}
use Rattle.ib_logrec.specs.Heads.{flags_of, session_in, flags_in, count_in, is_delete, is_structural, first_at, number_at}
use Rattle.ib_logrec.specs.Grammar.{is_flags, is_counted}
use Rattle.ib_logrec.proofs.WriteLaws.{unless-none, or-none}
use Rattle.ib_old_log.specs.declared.TheConstants.{OLD_HEAD_WORDS, MOST_OLD_WRITES}
use Rattle.ib_old_log.specs.declared.change.OldChange.{OldChange}
use Rattle.ib_old_log.specs.declared.change.OldChange.TheVariants.{Insert, Delete}
use Rattle.ib_old_log.specs.declared.head.OldHead.{OldHead}
use Rattle.ib_old_log.specs.OldHeads.{brought_change, old_key, old_value, old_first_word, old_head_words, old_value_word, old_head_in}
use Rattle.ib_old_log.specs.OldGrammar.{is_old_first, old_head_fault}

-- the flags of a change
abbrev flags : OldChange → Bool → ℕ
flags change structural = flags_of (brought_change change) structural

flags-below : (change : OldChange) (structural : Bool) → flags change structural < 2 ^ 16
flags-below (Insert key value) true = omega arith
flags-below (Insert key value) false = omega arith
flags-below (Delete key) true = omega arith
flags-below (Delete key) false = omega arith

flags-are : (change : OldChange) (structural : Bool) → is_flags (flags change structural) ≡ true
flags-are (Insert key value) true = refl
flags-are (Insert key value) false = refl
flags-are (Delete key) true = refl
flags-are (Delete key) false = refl

flags-structural : (change : OldChange) (structural : Bool) (first : ℕ) → flags_in first ≡ flags change structural → is_structural first ≡ structural
flags-structural (Insert key value) true first is = rw is refl
flags-structural (Insert key value) false first is = rw is refl
flags-structural (Delete key) true first is = rw is refl
flags-structural (Delete key) false first is = rw is refl

-- the change that a first word makes of a key and a value
abbrev change_with : ℕ → ℕ → ℕ → OldChange
change_with first key value = cond (is_delete first) (Delete key) (Insert key value)

change_with-flags : (change : OldChange) (structural : Bool) (first : ℕ) → flags_in first ≡ flags change structural → change_with first (old_key change) (old_value change) ≡ change
change_with-flags (Insert key value) true first is = rw is refl
change_with-flags (Insert key value) false first is = rw is refl
change_with-flags (Delete key) true first is = rw is refl
change_with-flags (Delete key) false first is = rw is refl

-- a delete has no value
delete-no_value : (change : OldChange) (structural : Bool) (first : ℕ) → flags_in first ≡ flags change structural → (not (is_delete first) || eqb (old_value change) 0) ≡ true
delete-no_value (Insert key value) true first is = rw is refl
delete-no_value (Insert key value) false first is = rw is refl
delete-no_value (Delete key) true first is = rw is refl
delete-no_value (Delete key) false first is = rw is refl

one_of : (n : ℕ) → is_flags n ≡ true → (n ≡ 1) ⊎ ((n ≡ 2) ⊎ ((n ≡ 5) ⊎ (n ≡ 6)))
one_of n is = elim (or_cases _ _ is) [
  | inl three ↦ elim (or_cases _ _ three) [
    | inl two ↦ elim (or_cases _ _ two) [ inl one ↦ inl (eqb-true n 1 one) | inr other ↦ inr (inl (eqb-true n 2 other)) ]
    | inr five ↦ inr (inr (inl (eqb-true n 5 five)))
  ]
  | inr six ↦ inr (inr (inr (eqb-true n 6 six)))
]

flags-change_with : (first key value : ℕ) → is_flags (flags_in first) ≡ true → flags (change_with first key value) (is_structural first) ≡ flags_in first
flags-change_with first key value known = elim (one_of (flags_in first) known) [
  | inl is ↦ rw is refl
  | inr rest ↦ elim rest [ inl is ↦ rw is refl | inr more ↦ elim more [ inl is ↦ rw is refl | inr is ↦ rw is refl ] ]
]

key-change_with : (first key value : ℕ) → old_key (change_with first key value) ≡ key
key-change_with first key value = elim (is_delete first) as (λ b. old_key (cond b (Delete key) (Insert key value)) ≡ key) [ true ↦ refl | false ↦ refl ]

value-change_with : (first key value : ℕ) → (not (is_delete first) || eqb value 0) ≡ true → old_value (change_with first key value) ≡ value
value-change_with first key value none = go (is_delete first) none
  where
    go : (b : Bool) → (not b || eqb value 0) ≡ true → old_value (cond b (Delete key) (Insert key value)) ≡ value
    go true is = sym (eqb-true value 0 is)
    go false is = refl

first-parts : (first : ℕ) → session_in first * 2 ^ 32 + flags_in first * 2 ^ 16 + count_in first ≡ first
first-parts first = omega arith

-- ---- the words of a head

module _ (session n count : ℕ) (low : n < 2 ^ 16) (few : count < 2 ^ 16) where
  session-parts : session_in (session * 2 ^ 32 + n * 2 ^ 16 + count) ≡ session
  session-parts = omega arith

  flags-parts : flags_in (session * 2 ^ 32 + n * 2 ^ 16 + count) ≡ n
  flags-parts = omega arith

  count-parts : count_in (session * 2 ^ 32 + n * 2 ^ 16 + count) ≡ count
  count-parts = omega arith

module _ (h : OldHead) (few : h.writes ≤ MOST_OLD_WRITES) where
  session_is : session_in (old_first_word h) ≡ h.session
  session_is = session-parts h.session (flags h.change h.structural) h.writes (flags-below h.change h.structural) (omega arith)

  flags_is : flags_in (old_first_word h) ≡ flags h.change h.structural
  flags_is = flags-parts h.session (flags h.change h.structural) h.writes (flags-below h.change h.structural) (omega arith)

  pub count_is : count_in (old_first_word h) ≡ h.writes
  count_is = count-parts h.session (flags h.change h.structural) h.writes (flags-below h.change h.structural) (omega arith)

  pub structural_is : is_structural (old_first_word h) ≡ h.structural
  structural_is = flags-structural h.change h.structural (old_first_word h) flags_is

  -- words that begin with a head's are read as the head
  pub old_head_in-words : (rest : List ℕ) → old_head_in (old_head_words h ++ rest) ≡ h
  unfolding old_head_in
  old_head_in-words rest =
      let change : change_with (old_first_word h) (old_key h.change) (old_value h.change) ≡ h.change = change_with-flags h.change h.structural (old_first_word h) flags_is in
      λ i. record { session = session_is i; number = h.number; change = change i; structural = structural_is i; writes = count_is i }

-- ---- which heads have no fault

-- each test of a head's words holds
pub record OldHeadIsRight (words : List ℕ) : Type 0 where
  pub whole : OLD_HEAD_WORDS ≤ length words
  pub first : is_old_first (first_at words) ≡ true
  pub numbered : is_counted (number_at words) (2 ^ 32 - 1) ≡ true
  pub valued : (not (is_delete (first_at words)) || eqb (old_value_word words) 0) ≡ true
  pub long : 2 * count_in (first_at words) ≤ length (drop OLD_HEAD_WORDS words)

pub OldHeadIsRight-no_fault : (place : ℕ) (words : List ℕ) → old_head_fault place words ≡ None → OldHeadIsRight words
unfolding old_head_fault
OldHeadIsRight-no_fault place words none =
    let a = or-none _ _ none in
    let b = or-none _ _ a.1 in
    let c = or-none _ _ b.1 in
    let d = or-none _ _ c.1 in
    record {
      whole = leb-true _ _ (unless-none _ _ a.0);
      first = unless-none _ _ b.0;
      numbered = unless-none _ _ c.0;
      valued = unless-none _ _ d.0;
      long = leb-true _ _ (unless-none _ _ d.1);
    }

no_fault-OldHeadIsRight : (place : ℕ) (words : List ℕ) → OldHeadIsRight words → old_head_fault place words ≡ None
unfolding old_head_fault
no_fault-OldHeadIsRight place words right =
    rw (le-leb _ _ right.whole, right.first, right.numbered, right.valued, le-leb _ _ right.long) refl

-- what a head in the grammar says
pub record HasOldHead (h : OldHead) : Type 0 where
  pub session : 1 ≤ h.session
  pub most_session : h.session ≤ MOST_SESSIONS
  pub number : 1 ≤ h.number
  pub most_number : h.number < 2 ^ 32
  pub writes : 1 ≤ h.writes
  pub most_writes : h.writes ≤ MOST_OLD_WRITES

-- a head in the grammar, with as many words behind it as its writes have, has no fault
pub old_head_fault-words : (place : ℕ) (h : OldHead) (rest : List ℕ) → HasOldHead h → 2 * h.writes ≤ length rest → old_head_fault place (old_head_words h ++ rest) ≡ None
old_head_fault-words place h rest has long =
    let few = has.most_writes in
    let sessions : is_counted (session_in (old_first_word h)) MOST_SESSIONS ≡ true = rw (session_is h few) (and_from _ _ (le-leb 1 h.session has.session) (le-leb h.session MOST_SESSIONS has.most_session)) in
    let known : is_flags (flags_in (old_first_word h)) ≡ true = rw (flags_is h few) (flags-are h.change h.structural) in
    let counts : is_counted (count_in (old_first_word h)) MOST_OLD_WRITES ≡ true = rw (count_is h few) (and_from _ _ (le-leb 1 h.writes has.writes) (le-leb h.writes MOST_OLD_WRITES has.most_writes)) in
    let number : is_counted h.number (2 ^ 32 - 1) ≡ true = and_from _ _ (le-leb 1 h.number has.number) (le-leb h.number (2 ^ 32 - 1) (let most = has.most_number in omega arith)) in
    let count : 2 * count_in (old_first_word h) ≤ length rest = rw (count_is h few) long in
    no_fault-OldHeadIsRight place (old_head_words h ++ rest) (record {
      whole = omega arith;
      first = and_from _ _ (and_from _ _ sessions known) counts;
      numbered = number;
      valued = delete-no_value h.change h.structural (old_first_word h) (flags_is h few);
      long = count;
    })

-- the head that is read is in the grammar
pub HasOldHead-read : (words : List ℕ) → OldHeadIsRight words → HasOldHead (old_head_in words)
unfolding old_head_in
HasOldHead-read words right =
    let tests = and_parts _ _ right.first in
    let known = and_parts _ _ tests.0 in
    let session = and_parts _ _ known.0 in
    let count = and_parts _ _ tests.1 in
    let numbered = and_parts _ _ right.numbered in
    let most : number_at words ≤ 2 ^ 32 - 1 = leb-true _ _ numbered.1 in
    record {
      session = leb-true _ _ session.0;
      most_session = leb-true _ _ session.1;
      number = leb-true _ _ numbered.0;
      most_number = omega arith;
      writes = leb-true _ _ count.0;
      most_writes = leb-true _ _ count.1;
    }

-- words are those of the head that they spell, and what stands behind it
pub old_head_words-read : (words : List ℕ) → OldHeadIsRight words → old_head_words (old_head_in words) ++ drop OLD_HEAD_WORDS words ≡ words
unfolding old_head_in
old_head_words-read [] right = absurd (let whole = right.whole in omega arith)
old_head_words-read (first ∷ []) right = absurd (let whole = right.whole in omega arith)
old_head_words-read (first ∷ number ∷ []) right = absurd (let whole = right.whole in omega arith)
old_head_words-read (first ∷ number ∷ key ∷ []) right = absurd (let whole = right.whole in omega arith)
old_head_words-read (first ∷ number ∷ key ∷ value ∷ words) right =
    let known : is_flags (flags_in first) ≡ true = (and_parts _ _ (and_parts _ _ right.first).0).1 in
    let first_is : session_in first * 2 ^ 32 + flags (change_with first key value) (is_structural first) * 2 ^ 16 + count_in first ≡ first = rw (flags-change_with first key value known) (first-parts first) in
    let key_is : old_key (change_with first key value) ≡ key = key-change_with first key value in
    let value_is : old_value (change_with first key value) ≡ value = value-change_with first key value right.valued in
    λ i. first_is i ∷ number ∷ key_is i ∷ value_is i ∷ words
