-- An old entry in the grammar is the one that its words spell, and words without a fault are those of the entry that they spell.
use Rattle.std.proofs.Common.{◌≡◌, ℕ, ◌+◌, ◌*◌, ◌≤◌, Bool, true, false, List, [], ◌∷◌, ◌++◌, length, take, drop, None, Some, refl, sym, ap, ◌∙◌, arith, length-append, length-drop, take-append-drop}
use Rattle.std.specs.Prelude.{nat_lt, nat_le}
use Rattle.std.proofs.Math.Bool.{beq}
use Rattle.std.proofs.lemmas.Bool.{ltb-true, leb-true, lt-ltb, le-leb}
use Rattle.std.proofs.lemmas.List.{append_cancel_left, drop-drop}
use Rattle.ib_map.specs.declared.write.Write.{Write}
use Rattle.ib_map.specs.Writes.{PlacesRise, write_words}
use Rattle.ib_map.proofs.WriteLaws.{length-write_words}
use Rattle.ib_logrec.specs.declared.fault.LogFault.{LogFault}
use Rattle.ib_logrec.specs.declared.fault.LogFault.TheVariants.{BadHead, BadWrite, Outside}
use Rattle.ib_logrec.specs.Heads.{count_in, is_structural, first_at}
use Rattle.ib_logrec.specs.Words.{writes_in}
use Rattle.ib_logrec.proofs.WriteLaws.{length-writes_in, writes_in-words, write_words-writes_in, unless-none, or-none}
use Rattle.ib_old_log.specs.declared.TheConstants.{OLD_HEAD_WORDS, OLD_PAGE_WORDS}
use Rattle.ib_old_log.specs.declared.head.OldHead.{OldHead}
use Rattle.ib_old_log.specs.OldHeads.{old_first_word, old_head_words, old_head_in}
use Rattle.ib_old_log.specs.OldEntries.{OldEntry, old_head_of, old_words, old_entry_in, old_entry_with, spans_old_pages}
use Rattle.ib_old_log.specs.OldGrammar.{IsInOldGrammar, OldStandsAt, old_place_fault, old_head_fault, old_writes_fault, old_fault_at}
use Rattle.ib_old_log.proofs.OldHeadLaws.{count_is, structural_is, old_head_in-words, OldHeadIsRight, OldHeadIsRight-no_fault, HasOldHead, HasOldHead-read, old_head_fault-words, old_head_words-read}

pub length-old_words : (e : OldEntry) → length (old_words e) ≡ OLD_HEAD_WORDS + 2 * length e.writes
unfolding old_words
length-old_words e = omega (arith, length-write_words e.writes)

-- an entry's words with others behind them: the head's, and the rest
old_words-append : (e : OldEntry) (rest : List ℕ) → old_words e ++ rest ≡ old_head_words (old_head_of e) ++ (write_words e.writes ++ rest)
unfolding old_words
old_words-append e rest = refl

-- words that begin with an entry's are read as the entry
pub old_entry_in-words : (pages : ℕ) (e : OldEntry) (rest : List ℕ) → IsInOldGrammar pages e → old_entry_in (old_words e ++ rest) ≡ e
unfolding old_entry_in
old_entry_in-words pages e rest is =
    let joined = old_words-append e rest in
    let head : old_head_in (old_words e ++ rest) ≡ old_head_of e = ap old_head_in joined ∙ old_head_in-words (old_head_of e) is.most_writes (write_words e.writes ++ rest) in
    let behind : drop OLD_HEAD_WORDS (old_words e ++ rest) ≡ write_words e.writes ++ rest = ap (drop OLD_HEAD_WORDS) joined in
    rw (head, behind) (ap (old_entry_with (old_head_of e)) (writes_in-words e.writes rest))

-- a test of two answers tells whether they are the same
beq_same : (a b : Bool) → a ≡ b → beq a b ≡ true
beq_same true b e = rw (← e) refl
beq_same false b e = rw (← e) refl

same_beq : (a b : Bool) → beq a b ≡ true → a ≡ b
same_beq true true e = refl
same_beq true false e = cc
same_beq false true e = cc
same_beq false false e = refl

-- no place is at fault exactly where the places rise on the pages
PlacesRise-no_fault : (pages entry low : ℕ) (ws : List Write) → old_place_fault pages entry low ws ≡ None → PlacesRise low ws (pages * OLD_PAGE_WORDS)
PlacesRise-no_fault pages entry low [] none = tt
PlacesRise-no_fault pages entry low (w ∷ ws) none =
    let first = or-none _ _ none in
    let second = or-none _ _ first.1 in
    let on = unless-none (nat_lt w.place (pages * OLD_PAGE_WORDS)) (Outside entry w.place) first.0 in
    let above = unless-none (nat_le low w.place) (BadWrite entry w.place) second.0 in
    (leb-true low w.place above, ltb-true w.place (pages * OLD_PAGE_WORDS) on, PlacesRise-no_fault pages entry (w.place + 1) ws second.1)

no_fault-PlacesRise : (pages entry low : ℕ) (ws : List Write) → PlacesRise low ws (pages * OLD_PAGE_WORDS) → old_place_fault pages entry low ws ≡ None
no_fault-PlacesRise pages entry low [] rise = refl
no_fault-PlacesRise pages entry low (w ∷ ws) rise =
    rw (lt-ltb w.place (pages * OLD_PAGE_WORDS) rise.1, le-leb low w.place rise.0) (no_fault-PlacesRise pages entry (w.place + 1) ws rise.2)

-- .. and have no fault
pub old_fault_at-words : (pages place : ℕ) (e : OldEntry) (rest : List ℕ) → IsInOldGrammar pages e → old_fault_at pages place (old_words e ++ rest) ≡ None
unfolding old_fault_at
old_fault_at-words pages place e rest is =
    let h : OldHead = old_head_of e in
    let behind : List ℕ = write_words e.writes ++ rest in
    let few = is.most_writes in
    let long : 2 * length e.writes ≤ length behind = omega (arith, length-append (write_words e.writes) rest, length-write_words e.writes) in
    let has : HasOldHead h = record { session = is.session; most_session = is.most_session; number = is.number; most_number = is.most_number; writes = is.writes; most_writes = is.most_writes } in
    let head : old_head_fault place (old_head_words h ++ behind) ≡ None = old_head_fault-words place h behind has long in
    let writes : writes_in (length e.writes) behind ≡ e.writes = writes_in-words e.writes rest in
    let places = no_fault-PlacesRise pages place 0 e.writes is.places in
    let spans : beq (is_structural (old_first_word h)) (spans_old_pages e.writes) ≡ true = beq_same _ _ (structural_is h few ∙ is.structural) in
    rw (old_words-append e rest, head, count_is h few, writes, places, spans) refl

-- ---- back from the words

module _ (pages place : ℕ) (words : List ℕ) (none : old_fault_at pages place words ≡ None) where
  abbrev spelled_writes : List Write
  spelled_writes = writes_in (count_in (first_at words)) (drop OLD_HEAD_WORDS words)

  parts : (old_head_fault place words ≡ None) × (old_writes_fault pages place (first_at words) (writes_in (count_in (first_at words)) (drop OLD_HEAD_WORDS words)) ≡ None)
  unfolding old_fault_at
  parts = or-none _ _ none

  right : OldHeadIsRight words
  right = OldHeadIsRight-no_fault place words parts.0

  count_right : length spelled_writes ≡ count_in (first_at words)
  count_right = length-writes_in (count_in (first_at words)) (drop OLD_HEAD_WORDS words) right.long

  IsInOldGrammar-read : IsInOldGrammar pages (old_entry_in words)
  unfolding old_entry_in old_head_in
  IsInOldGrammar-read =
      let has : HasOldHead (old_head_in words) = HasOldHead-read words right in
      let some = has.writes in let few = has.most_writes in let count = count_right in
      record {
        session = has.session;
        most_session = has.most_session;
        number = has.number;
        most_number = has.most_number;
        writes = omega arith;
        most_writes = omega arith;
        places = PlacesRise-no_fault pages place 0 _ (or-none _ _ parts.1).0;
        structural = same_beq _ _ (unless-none _ _ (or-none _ _ parts.1).1);
      }

  head_of-read : old_head_of (old_entry_in words) ≡ old_head_in words
  unfolding old_entry_in old_head_in
  head_of-read = let count = count_right in λ i. record (old_head_in words) { writes = count i }

  writes_spelled : write_words (old_entry_in words).writes ≡ take (2 * count_in (first_at words)) (drop OLD_HEAD_WORDS words)
  unfolding old_entry_in old_head_in
  writes_spelled = write_words-writes_in (count_in (first_at words)) (drop OLD_HEAD_WORDS words) right.long

  sized : length (old_words (old_entry_in words)) ≡ OLD_HEAD_WORDS + 2 * count_in (first_at words)
  unfolding old_entry_in old_head_in
  sized = omega (arith, length-old_words (old_entry_in words), count_right)

  words-read : old_words (old_entry_in words) ++ drop (OLD_HEAD_WORDS + 2 * count_in (first_at words)) words ≡ words
  words-read =
      let n : ℕ = count_in (first_at words) in
      let behind : List ℕ = drop OLD_HEAD_WORDS words in
      let spelled : write_words (old_entry_in words).writes ≡ take (2 * n) behind = writes_spelled in
      let rest : drop (OLD_HEAD_WORDS + 2 * n) words ≡ drop (2 * n) behind = sym (drop-drop (2 * n) OLD_HEAD_WORDS words) in
      old_words-append (old_entry_in words) (drop (OLD_HEAD_WORDS + 2 * n) words)
      ∙ (ap (λ (ws : List ℕ). old_head_words (old_head_of (old_entry_in words)) ++ (ws ++ drop (OLD_HEAD_WORDS + 2 * n) words)) spelled
      ∙ (ap (λ (ws : List ℕ). old_head_words (old_head_of (old_entry_in words)) ++ (take (2 * n) behind ++ ws)) rest
      ∙ (ap (λ (ws : List ℕ). old_head_words (old_head_of (old_entry_in words)) ++ ws) (take-append-drop (2 * n) behind)
      ∙ (ap (λ (h : OldHead). old_head_words h ++ behind) head_of-read ∙ old_head_words-read words right))))

-- words at a place without a fault are those of an entry that stands there
pub OldStandsAt-no_fault : (pages place : ℕ) (words : List ℕ) → old_fault_at pages place (drop place words) ≡ None
    → OldStandsAt pages place (place + (OLD_HEAD_WORDS + 2 * count_in (first_at (drop place words)))) words (old_entry_in (drop place words))
OldStandsAt-no_fault pages place words none =
    let ws : List ℕ = drop place words in
    let n : ℕ = OLD_HEAD_WORDS + 2 * count_in (first_at ws) in
    let e : OldEntry = old_entry_in ws in
    let spelled : old_words e ++ drop n ws ≡ ws = words-read pages place ws none in
    let behind : drop n ws ≡ drop (place + n) words = drop-drop n place words in
    let size : length (old_words e) ≡ n = sized pages place ws none in
    let whole : length (old_words e ++ drop n ws) ≡ length ws = ap length spelled in
    record {
      grammar = IsInOldGrammar-read pages place ws none;
      spelled = sym spelled ∙ ap (λ (rest : List ℕ). old_words e ++ rest) behind;
      ends = omega arith;
      within = omega (arith, length-append (old_words e) (drop n ws), length-drop n ws, length-drop place words);
    }

pub old_head_of-read : (pages place : ℕ) (words : List ℕ) → old_fault_at pages place words ≡ None → old_head_of (old_entry_in words) ≡ old_head_in words
old_head_of-read pages place words none = head_of-read pages place words none

-- ---- the faults of an entry, part by part

module _ (pages place : ℕ) (words : List ℕ) where
  pub old_fault_at-head : (fault : LogFault) → old_head_fault place words ≡ Some fault → old_fault_at pages place words ≡ Some fault
  unfolding old_fault_at
  old_fault_at-head fault is = rw is refl

  -- behind a head that was read
  module _ (h : OldHead) (behind : List ℕ) (none : old_head_fault place words ≡ None) (read : h ≡ old_head_in words) (rest : behind ≡ drop OLD_HEAD_WORDS words) where
    count_read : h.writes ≡ count_in (first_at words)
    unfolding old_head_in
    count_read = ap (λ (h : OldHead). h.writes) read

    structural_read : h.structural ≡ is_structural (first_at words)
    unfolding old_head_in
    structural_read = ap (λ (h : OldHead). h.structural) read

    fault_at-writes : old_fault_at pages place words ≡ old_writes_fault pages place (first_at words) (writes_in h.writes behind)
    unfolding old_fault_at
    fault_at-writes = rw (none, count_read, rest) refl

    pub old_fault_at-places : (fault : LogFault) → old_place_fault pages place 0 (writes_in h.writes behind) ≡ Some fault → old_fault_at pages place words ≡ Some fault
    old_fault_at-places fault is = rw (fault_at-writes, is) refl

    pub old_fault_at-spans : old_place_fault pages place 0 (writes_in h.writes behind) ≡ None → beq h.structural (spans_old_pages (writes_in h.writes behind)) ≡ false
        → old_fault_at pages place words ≡ Some (BadHead place (first_at words))
    old_fault_at-spans right differs = let test = rw structural_read at differs in rw (fault_at-writes, right, test) refl

    pub old_fault_at-none : old_place_fault pages place 0 (writes_in h.writes behind) ≡ None → beq h.structural (spans_old_pages (writes_in h.writes behind)) ≡ true → old_fault_at pages place words ≡ None
    old_fault_at-none right same = let test = rw structural_read at same in rw (fault_at-writes, right, test) refl

-- what begins with an entry's words goes on with what stands behind them
pub same_old_rest : (pages : ℕ) (e f : OldEntry) (x y : List ℕ) → IsInOldGrammar pages e → IsInOldGrammar pages f → old_words e ++ x ≡ old_words f ++ y → (e ≡ f) × (x ≡ y)
same_old_rest pages e f x y e_is f_is same =
    let is : e ≡ f = sym (old_entry_in-words pages e x e_is) ∙ ap old_entry_in same ∙ old_entry_in-words pages f y f_is in
    (is, append_cancel_left (old_words e) x y (same ∙ ap (λ (g : OldEntry). old_words g ++ y) (sym is)))
