-- What stands at a place of a log's words, read whole or without its writes.
use Rattle.std.proofs.Common.{◌≡◌, ℕ, ◌+◌, ◌-◌, ◌*◌, ◌≤◌, List, ◌++◌, length, take, drop, None, sym, ap, subst, ◌∙◌, arith, length-append}
use Rattle.std.proofs.lemmas.List.{drop-drop, take_rest}
use Rattle.ib_map.specs.declared.TheConstants.{PAGE_WORDS}
use Rattle.ib_map.specs.declared.write.Write.{Write}
use Rattle.ib_map.specs.Writes.{PlacesRise, write_words}
use Rattle.ib_logrec.specs.declared.entry.TheConstants.{HEAD_WORDS}
use Rattle.ib_logrec.specs.declared.entry.Entry.{Entry}
use Rattle.ib_logrec.specs.declared.head.Head.{Head}
use Rattle.ib_logrec.specs.Heads.{head_of, head_in, count_in, first_at}
use Rattle.ib_logrec.specs.Words.{writes_in, words_of_entry, entry_with, entry_in}
use Rattle.ib_logrec.specs.Grammar.{IsInGrammar, StandsAt, HeadStandsAt, fault_at}
use Rattle.ib_logrec.proofs.HeadLaws.{head_in-words, drop-head_words}
use Rattle.ib_logrec.proofs.EntryLaws.{length-words_of_entry, words_of_entry-append, head_of-entry_in, StandsAt-no_fault}
use Rattle.ib_map.proofs.WriteLaws.{length-write_words}
use Rattle.ib_logrec.proofs.WriteLaws.{writes_in-words}

count_read : (h : Head) (words : List ℕ) → h ≡ head_in words → h.writes ≡ count_in (first_at words)
unfolding head_in
count_read h words read = ap (λ (h : Head). h.writes) read

-- a head that was read where there is no fault is that of the entry there
pub HeadStandsAt-read : (pages place : ℕ) (words : List ℕ) (h : Head) → fault_at pages place (drop place words) ≡ None → h ≡ head_in (drop place words)
    → HeadStandsAt pages place (place + (HEAD_WORDS + 2 * h.writes)) words h
HeadStandsAt-read pages place words h none read = record {
  entry = entry_in (drop place words);
  stands = subst (λ (n : ℕ). StandsAt pages place (place + (HEAD_WORDS + 2 * n)) words (entry_in (drop place words))) (sym (count_read h (drop place words) read)) (StandsAt-no_fault pages place words none);
  head = read ∙ sym (head_of-entry_in pages place (drop place words) none);
}

-- the same of the words from the place on, as a part of them
pub HeadStandsAt-part : (pages place : ℕ) (words : List ℕ) (h : Head) → fault_at pages place (take (length words - place) (drop place words)) ≡ None → h ≡ head_in (take (length words - place) (drop place words))
    → HeadStandsAt pages place (place + (HEAD_WORDS + 2 * h.writes)) words h
HeadStandsAt-part pages place words h none read =
    HeadStandsAt-read pages place words h (subst (λ ws. fault_at pages place ws ≡ None) (take_rest words place) none) (read ∙ ap head_in (take_rest words place))

-- and the head of an entry in the grammar is read where its words stand
pub head_in-spelled : (pages : ℕ) (words : List ℕ) (e : Entry) (rest : List ℕ) → IsInGrammar pages e → words ≡ words_of_entry e ++ rest → head_in words ≡ head_of e
head_in-spelled pages words e rest is spelled = ap head_in (spelled ∙ words_of_entry-append e rest) ∙ head_in-words (head_of e) (write_words e.writes ++ rest) is.most_writes

module _ (pages place next : ℕ) (words : List ℕ) (h : Head) (there : HeadStandsAt pages place next words h) where
  abbrev entry : Entry
  entry = there.entry

  count_is : h.writes ≡ length there.entry.writes
  count_is = ap (λ (h : Head). h.writes) there.head

  -- its writes stand behind its head
  behind_head : drop (place + HEAD_WORDS) words ≡ write_words there.entry.writes ++ drop next words
  behind_head =
      sym (drop-drop HEAD_WORDS place words)
      ∙ (ap (drop HEAD_WORDS) (there.stands.spelled ∙ words_of_entry-append there.entry (drop next words))
      ∙ drop-head_words (head_of there.entry) (write_words there.entry.writes ++ drop next words) there.stands.grammar.most_writes)

  pub head_fits : place + HEAD_WORDS ≤ length words
  head_fits = let within = there.stands.within in let ends = there.stands.ends in omega (arith, length-words_of_entry there.entry)

  pub writes_fit : 2 * h.writes ≤ length (take (length words - (place + HEAD_WORDS)) (drop (place + HEAD_WORDS) words))
  writes_fit = rw (take_rest words (place + HEAD_WORDS), behind_head, count_is)
      (omega (arith, length-append (write_words there.entry.writes) (drop next words), length-write_words there.entry.writes))

  pub writes_are : writes_in h.writes (take (length words - (place + HEAD_WORDS)) (drop (place + HEAD_WORDS) words)) ≡ there.entry.writes
  writes_are = rw (take_rest words (place + HEAD_WORDS), behind_head, count_is) (writes_in-words there.entry.writes (drop next words))

  pub writes_rise : PlacesRise 0 (writes_in h.writes (take (length words - (place + HEAD_WORDS)) (drop (place + HEAD_WORDS) words))) (pages * PAGE_WORDS)
  writes_rise = rw writes_are there.stands.grammar.places

  -- an entry with the head and these writes is the one that stands there
  pub StandsAt-with : (writes : List Write) → writes ≡ writes_in h.writes (take (length words - (place + HEAD_WORDS)) (drop (place + HEAD_WORDS) words)) → StandsAt pages place next words (entry_with h writes)
  StandsAt-with writes read =
      let is : entry_with h writes ≡ there.entry = λ i. entry_with (there.head i) ((read ∙ writes_are) i) in
      subst (StandsAt pages place next words) (sym is) there.stands
