-- An entry in the grammar is the one that its words spell, and words without a fault are those of the entry that they spell.
use Rattle.std.proofs.Common.{◌≡◌, ℕ, ◌+◌, ◌*◌, ◌≤◌, Bool, true, false, List, ◌++◌, length, take, drop, Some, None, refl, sym, ap, ◌∙◌, arith, append_assoc, length-append, length-drop, take-append-drop}
use Rattle.std.proofs.Math.Bool.{beq}
use Rattle.std.proofs.lemmas.List.{drop-drop}
use Rattle.ib_map.specs.declared.TheConstants.{PAGE_WORDS}
use Rattle.ib_map.specs.declared.write.Write.{Write}
use Rattle.ib_map.specs.Writes.{spans_pages, PlacesRise, write_words}
use Rattle.ib_logrec.specs.declared.entry.TheConstants.{HEAD_WORDS, MOST_WRITES}
use Rattle.ib_logrec.specs.declared.entry.Entry.{Entry}
use Rattle.ib_logrec.specs.declared.head.Head.{Head}
use Rattle.ib_logrec.specs.declared.fault.LogFault.{LogFault}
use Rattle.ib_logrec.specs.declared.fault.LogFault.TheVariants.{BadHead, OutOfMemory}
use Rattle.ib_logrec.specs.Heads.{head_of, first_word, head_words, count_in, is_structural, first_at, head_in}
use Rattle.ib_logrec.specs.Words.{writes_in, words_of_entry, entry_with, entry_in}
use Rattle.ib_logrec.specs.Grammar.{IsInGrammar, StandsAt, head_fault, place_fault, writes_fault, fault_at, IsFault}
use Rattle.ib_logrec.proofs.HeadLaws.{length-head_words, head_in-words, first_at-words, drop-head_words, count_is, structural_is, HeadIsRight, HeadIsRight-no_fault, no_fault-HeadIsRight, HeadIsRight-words, HasHead, HasHead-head_in, head_words-head_in}
use Rattle.ib_map.proofs.WriteLaws.{length-write_words}
use Rattle.ib_logrec.proofs.WriteLaws.{length-writes_in, writes_in-words, write_words-writes_in, unless-none, or-none, PlacesRise-no_fault, no_fault-PlacesRise}

pub length-words_of_entry : (e : Entry) → length (words_of_entry e) ≡ HEAD_WORDS + 2 * length e.writes
unfolding words_of_entry
length-words_of_entry e = omega (arith, length-append (head_words (head_of e)) (write_words e.writes), length-head_words (head_of e), length-write_words e.writes)

-- an entry's words with others behind them: the head's, and the rest
pub words_of_entry-append : (e : Entry) (rest : List ℕ) → words_of_entry e ++ rest ≡ head_words (head_of e) ++ (write_words e.writes ++ rest)
unfolding words_of_entry
words_of_entry-append e rest = append_assoc (head_words (head_of e)) (write_words e.writes) rest

-- words that begin with an entry's are read as the entry
pub entry_in-words : (e : Entry) (rest : List ℕ) → length e.writes ≤ MOST_WRITES → entry_in (words_of_entry e ++ rest) ≡ e
unfolding entry_in
entry_in-words e rest few =
    let joined = words_of_entry-append e rest in
    let head : head_in (words_of_entry e ++ rest) ≡ head_of e = ap head_in joined ∙ head_in-words (head_of e) (write_words e.writes ++ rest) few in
    let behind : drop HEAD_WORDS (words_of_entry e ++ rest) ≡ write_words e.writes ++ rest = ap (drop HEAD_WORDS) joined ∙ drop-head_words (head_of e) (write_words e.writes ++ rest) few in
    rw (head, behind) (ap (entry_with (head_of e)) (writes_in-words e.writes rest))

beq_same : (a b : Bool) → a ≡ b → beq a b ≡ true
beq_same true b e = rw (← e) refl
beq_same false b e = rw (← e) refl

same_beq : (a b : Bool) → beq a b ≡ true → a ≡ b
same_beq true true e = refl
same_beq true false e = cc
same_beq false true e = cc
same_beq false false e = refl

pub HasHead-entry : (pages : ℕ) (e : Entry) → IsInGrammar pages e → HasHead (head_of e)
HasHead-entry pages e is = record {
  session = is.session;
  most_session = is.most_session;
  number = is.number;
  most_number = is.most_number;
  writes = is.writes;
  most_writes = is.most_writes;
}

-- and have no fault
pub fault_at-words : (pages place : ℕ) (e : Entry) (rest : List ℕ) → IsInGrammar pages e → fault_at pages place (words_of_entry e ++ rest) ≡ None
unfolding fault_at
fault_at-words pages place e rest is =
    let h : Head = head_of e in
    let behind : List ℕ = write_words e.writes ++ rest in
    let few = is.most_writes in
    let long : 2 * length e.writes ≤ length behind = omega (arith, length-append (write_words e.writes) rest, length-write_words e.writes) in
    let head : head_fault place (head_words h ++ behind) ≡ None = no_fault-HeadIsRight place (head_words h ++ behind) (HeadIsRight-words h behind (HasHead-entry pages e is) long) in
    let writes : writes_in (length e.writes) behind ≡ e.writes = writes_in-words e.writes rest in
    let places = no_fault-PlacesRise pages place 0 e.writes is.places in
    let spans : beq (is_structural (first_word h)) (spans_pages e.writes) ≡ true = beq_same _ _ (structural_is h behind few ∙ is.structural) in
    rw (words_of_entry-append e rest, head, first_at-words h behind few, count_is h behind few, drop-head_words h behind few, writes, places, spans) refl

-- ---- back from the words

module _ (pages place : ℕ) (words : List ℕ) (none : fault_at pages place words ≡ None) where
  abbrev spelled_writes : List Write
  spelled_writes = writes_in (count_in (first_at words)) (drop HEAD_WORDS words)

  parts : (head_fault place words ≡ None) × (writes_fault pages place (first_at words) (writes_in (count_in (first_at words)) (drop HEAD_WORDS words)) ≡ None)
  unfolding fault_at
  parts = or-none _ _ none

  right : HeadIsRight words
  right = HeadIsRight-no_fault place words parts.0

  places_right : PlacesRise 0 spelled_writes (pages * PAGE_WORDS)
  places_right = PlacesRise-no_fault pages place 0 _ (or-none _ _ parts.1).0

  spans_right : is_structural (first_at words) ≡ spans_pages spelled_writes
  spans_right = same_beq _ _ (unless-none _ _ (or-none _ _ parts.1).1)

  count_right : length spelled_writes ≡ count_in (first_at words)
  count_right = length-writes_in (count_in (first_at words)) (drop HEAD_WORDS words) right.long

  pub IsInGrammar-entry_in : IsInGrammar pages (entry_in words)
  unfolding entry_in head_in
  IsInGrammar-entry_in =
      let has : HasHead (head_in words) = HasHead-head_in words right in
      let some = has.writes in let few = has.most_writes in let count = count_right in
      record {
        session = has.session;
        most_session = has.most_session;
        number = has.number;
        most_number = has.most_number;
        writes = omega arith;
        most_writes = omega arith;
        places = places_right;
        structural = spans_right;
      }

  pub head_of-entry_in : head_of (entry_in words) ≡ head_in words
  unfolding entry_in head_in
  head_of-entry_in = let count = count_right in λ i. record (head_in words) { writes = count i }

  writes_spelled : write_words (entry_in words).writes ≡ take (2 * count_in (first_at words)) (drop HEAD_WORDS words)
  unfolding entry_in head_in
  writes_spelled = write_words-writes_in (count_in (first_at words)) (drop HEAD_WORDS words) right.long

  sized : length (words_of_entry (entry_in words)) ≡ HEAD_WORDS + 2 * count_in (first_at words)
  unfolding entry_in head_in
  sized = omega (arith, length-words_of_entry (entry_in words), count_right)

  pub words-entry_in : words_of_entry (entry_in words) ++ drop (HEAD_WORDS + 2 * count_in (first_at words)) words ≡ words
  words-entry_in =
      let n : ℕ = count_in (first_at words) in
      let behind : List ℕ = drop HEAD_WORDS words in
      let spelled : write_words (entry_in words).writes ≡ take (2 * n) behind = writes_spelled in
      let rest : drop (HEAD_WORDS + 2 * n) words ≡ drop (2 * n) behind = sym (drop-drop (2 * n) HEAD_WORDS words) in
      words_of_entry-append (entry_in words) (drop (HEAD_WORDS + 2 * n) words)
      ∙ (rw (head_of-entry_in, spelled, rest, take-append-drop (2 * n) behind) (head_words-head_in words right))

-- words at a place without a fault are those of an entry that stands there
pub StandsAt-no_fault : (pages place : ℕ) (words : List ℕ) → fault_at pages place (drop place words) ≡ None
    → StandsAt pages place (place + (HEAD_WORDS + 2 * count_in (first_at (drop place words)))) words (entry_in (drop place words))
StandsAt-no_fault pages place words none =
    let ws : List ℕ = drop place words in
    let n : ℕ = HEAD_WORDS + 2 * count_in (first_at ws) in
    let e : Entry = entry_in ws in
    let spelled : words_of_entry e ++ drop n ws ≡ ws = words-entry_in pages place ws none in
    let behind : drop n ws ≡ drop (place + n) words = drop-drop n place words in
    let size : length (words_of_entry e) ≡ n = sized pages place ws none in
    let whole : length (words_of_entry e ++ drop n ws) ≡ length ws = ap length spelled in
    record {
      grammar = IsInGrammar-entry_in pages place ws none;
      spelled = sym spelled ∙ ap (λ (rest : List ℕ). words_of_entry e ++ rest) behind;
      ends = omega arith;
      within = omega (arith, length-append (words_of_entry e) (drop n ws), length-drop n ws, length-drop place words);
    }

-- ---- the faults of an entry, part by part

module _ (pages place : ℕ) (words : List ℕ) where
  pub fault_at-head : (fault : LogFault) → head_fault place words ≡ Some fault → fault_at pages place words ≡ Some fault
  unfolding fault_at
  fault_at-head fault is = rw is refl

  -- behind a head that was read
  module _ (h : Head) (behind : List ℕ) (none : head_fault place words ≡ None) (read : h ≡ head_in words) (rest : behind ≡ drop HEAD_WORDS words) where
    count_read : h.writes ≡ count_in (first_at words)
    unfolding head_in
    count_read = ap (λ (h : Head). h.writes) read

    structural_read : h.structural ≡ is_structural (first_at words)
    unfolding head_in
    structural_read = ap (λ (h : Head). h.structural) read

    fault_at-writes : fault_at pages place words ≡ writes_fault pages place (first_at words) (writes_in h.writes behind)
    unfolding fault_at
    fault_at-writes = rw (none, count_read, rest) refl

    pub fault_at-places : (fault : LogFault) → place_fault pages place 0 (writes_in h.writes behind) ≡ Some fault → fault_at pages place words ≡ Some fault
    fault_at-places fault is = rw (fault_at-writes, is) refl

    pub fault_at-spans : place_fault pages place 0 (writes_in h.writes behind) ≡ None → beq h.structural (spans_pages (writes_in h.writes behind)) ≡ false → fault_at pages place words ≡ Some (BadHead place (first_at words))
    fault_at-spans right differs = let test = rw structural_read at differs in rw (fault_at-writes, right, test) refl

    pub fault_at-none : place_fault pages place 0 (writes_in h.writes behind) ≡ None → beq h.structural (spans_pages (writes_in h.writes behind)) ≡ true → fault_at pages place words ≡ None
    fault_at-none right same = let test = rw structural_read at same in rw (fault_at-writes, right, test) refl

-- no fault is said to be one only for want of memory
pub IsFault-none : (fault : LogFault) → IsFault None fault → fault ≡ OutOfMemory
IsFault-none OutOfMemory is = refl
IsFault-none fault is = cc
