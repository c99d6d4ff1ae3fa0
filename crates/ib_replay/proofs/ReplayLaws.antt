-- How far a replay has come, one entry more, and the first fault behind it.
use Rattle.std.proofs.Common.{◌≡◌, ℕ, zero, suc, ◌+◌, ◌*◌, ◌<◌, ◌≤◌, true, List, [], ◌∷◌, ◌++◌, length, get_or, drop, None, Some, Option, All, refl, sym, ap, subst, ◌∙◌, arith, inl, inr, append_assoc, append-nil, length-drop, get_or-set_same, get_or-set_other}
use Rattle.std.proofs.Math.ListN.{set}
use Rattle.std.proofs.lemmas.Bool.{cases_eq, eq-eqb}
use Rattle.std.proofs.lemmas.List.{drop_all, length_push, length-set, length-replicate}
use Rattle.std.specs.Prelude.{replicate, map}
use Rattle.std.specs.List.{range_with_len}
use Rattle.ib_map.specs.Pairs.{Pairs}
use Rattle.ib_map.specs.Map.{answer_of, effect_of, is_made}
use Rattle.ib_map.specs.History.{map_with, map_after, changes_of, IsLegalHistory}
use Rattle.ib_map.specs.Space.{has_pages}
use Rattle.ib_map.specs.declared.TheConstants.{PAGE_WORDS}
use Rattle.ib_map.proofs.HistoryLaws.{map_after-length, map_with-push, changes_of-own, changes_of-other, IsLegalHistory-push}
use Rattle.ib_logrec.specs.declared.entry.Entry.{Entry}
use Rattle.ib_logrec.specs.declared.fault.LogFault.{LogFault}
use Rattle.ib_logrec.specs.declared.fault.LogFault.TheVariants.{Unlawful, OutOfMemory}
use Rattle.ib_logrec.specs.declared.fault.UnlawfulKind.TheVariants.{Tree}
use Rattle.ib_page.specs.Opening.{opening_words}
use Rattle.ib_logrec.specs.Words.{words_of_entry, entry_in}
use Rattle.ib_logrec.specs.Grammar.{IsInGrammar, fault_at, IsFault}
use Rattle.ib_logrec.specs.Log.{log_words, used, logged, history_of, map_of, by_place}
use Rattle.ib_map.proofs.WriteLaws.{PlacesRise-get}
use Rattle.ib_logrec.proofs.EntryLaws.{length-words_of_entry, entry_in-words, fault_at-words}
use Rattle.ib_logrec.proofs.LogLaws.{log_words-push, used-push, history_of-push, length-history_of}
use Rattle.ib_replay.specs.declared.log_replay.TheConstants.{COUNTS}
use Rattle.ib_walk.specs.Opening.{opening_word}
use Rattle.ib_validate.specs.TreeMemory.{TreeMemory, IsSettled, opening_positions}
use Rattle.ib_validate.specs.Positions.{positions_of}
use Rattle.ib_tree.specs.Logs.{IsTreeEntry}
use Rattle.ib_tree.specs.TreeLog.{opening, IsTreeLog, IsLawfulLog-none}
use Rattle.ib_tree.proofs.LogLaws.{map_of-push, map_of-with}
use Rattle.ib_replay.specs.Replays.{change_fault, change_fault_behind, log_fault_behind, IsFirstOf, IsFirstFault, IsReplayFault}
use Rattle.ib_replay.specs.TreeSteps.{AreTreePages, IsNext}
use Rattle.ib_replay.proofs.TreeSteps.{AreTreePages-opening, IsTreeLog-push}

-- the words up to a place are those of a lawful log, and pages, map and counts are what it makes
pub record IsReached (pages : ℕ) (words : List ℕ) (place : ℕ) (log : List Entry) (tree : TreeMemory) (pairs : Pairs) (numbers : List ℕ) : Type 0 where
  pub within : place ≤ length words
  pub size : used log ≡ place
  pub parts : words ≡ log_words log ++ drop place words
  pub lawful : IsTreeLog pages log
  pub pages_are : AreTreePages pages log tree
  pub map : pairs ≡ map_with [] (history_of log)
  pub sessions : length numbers ≡ COUNTS
  pub counts : (session : ℕ) → session < COUNTS → get_or numbers session 0 ≡ length (changes_of session (history_of log))

module _ (pages : ℕ) (words : List ℕ) (place : ℕ) (log : List Entry) (tree : TreeMemory) (map : Pairs) (counts : List ℕ) (reached : IsReached pages words place log tree map counts) where
  -- what an entry in the grammar asks of the memory
  pub places_in : (e : Entry) → IsInGrammar pages e → All (λ w. w.place < length tree.before * PAGE_WORDS) e.writes
  places_in e is k d lt = let place = PlacesRise-get 0 e.writes (pages * PAGE_WORDS) k d is.places lt in omega (arith, place.1, reached.pages_are.memory.size)

  module _ (e : Entry) (next : ℕ) (is : IsInGrammar pages e) (spelled : drop place words ≡ words_of_entry e ++ drop next words) where
    read : entry_in (drop place words) ≡ e
    read = ap entry_in spelled ∙ entry_in-words e (drop next words) is.most_writes

    no-words-fault : fault_at pages (used log) (drop place words) ≡ None
    no-words-fault = ap (fault_at pages (used log)) spelled ∙ fault_at-words pages (used log) e (drop next words) is

    change-here : change_fault place (get_or counts e.session 0) map e ≡ change_fault_behind log e
    change-here = let count = reached.counts e.session (omega (arith, is.most_session)) in rw (reached.size, ← count, ← reached.map) refl

    -- nothing is wrong with the words, so what is wrong there is of the change
    fault-here : log_fault_behind pages log (drop place words) ≡ change_fault place (get_or counts e.session 0) map e
    fault-here = rw (no-words-fault, read) (sym change-here)

    first-here : (fault : LogFault) → place < length words → IsFirstOf pages log (entry_in (drop place words)) (log_fault_behind pages log (drop place words)) fault → IsFirstFault pages words fault
    first-here fault lt found = record {
      front = log;
      rest = drop place words;
      lawful = reached.lawful;
      parts = reached.parts;
      more = omega (arith, length-drop place words);
      found = found;
    }

    -- a fault of the change there is the first one
    pub fault-change : (fault : LogFault) → place < length words → change_fault place (get_or counts e.session 0) map e ≡ Some fault → IsFirstFault pages words fault
    fault-change fault lt found =
        first-here fault lt (subst (λ (o : Option LogFault). IsFirstOf pages log (entry_in (drop place words)) o fault) (sym (fault-here ∙ found)) refl)

    module _ (numbered : e.number ≡ get_or counts e.session 0 + 1) (made : is_made (answer_of map e.change) ≡ true) where
      legal-more : IsLegalHistory (history_of (log ++ e ∷ []))
      legal-more =
          let count = reached.counts e.session (omega (arith, is.most_session)) in
          let number : e.number ≡ length (changes_of e.session (history_of log)) + 1 = omega (arith, numbered, count) in
          let before : map ≡ map_after (history_of log) (length (history_of log)) = reached.map ∙ sym (map_after-length (history_of log)) in
          let legal = IsLegalHistory-push (history_of log) (logged e) reached.lawful.legal (ap (λ m. is_made (answer_of m e.change)) (sym before) ∙ made) number in
          rw (history_of-push log e) legal

      -- the entry is the next one
      pub IsNext-here : (after : Pairs) → has_pages pages ≡ true → after ≡ effect_of map e.change → IsNext pages log e tree after
      IsNext-here after space mapped = record {
        space = space;
        lawful = reached.lawful;
        grammar = is;
        legal = legal-more;
        pages_are = reached.pages_are;
        map_is = mapped ∙ ap (λ (m : Pairs). effect_of m e.change) (reached.map ∙ sym (map_of-with log)) ∙ sym (map_of-push log e);
      }

      -- an entry there that leaves no tree is the first fault
      pub fault-tree : place < length words → (IsTreeEntry pages 1 (opening_word 1) log e → ⊥) → IsFirstFault pages words (Unlawful place Tree)
      fault-tree lt none =
          let calm : change_fault place (get_or counts e.session 0) map e ≡ None = rw (eq-eqb _ _ numbered, made) refl in
          first-here (Unlawful place Tree) lt (subst (λ (o : Option LogFault). IsFirstOf pages log (entry_in (drop place words)) o (Unlawful place Tree)) (sym (fault-here ∙ calm)) (record {
            is = ap (λ n. Unlawful n Tree) (sym reached.size);
            none = λ entry. none (subst (IsTreeEntry pages 1 (opening_word 1) log) read entry);
          }))

      counts-more : (session : ℕ) → session < COUNTS → get_or (set counts e.session e.number) session 0 ≡ length (changes_of session (history_of (log ++ e ∷ [])))
      counts-more session lt = elim (cases_eq session e.session) [
        | inl same ↦
            let own = changes_of-own session (history_of log) (logged e) (sym same) in
            let count = reached.counts session lt in
            rw (history_of-push log e, own, length_push (changes_of session (history_of log)) e.change, ← count, same)
            (get_or-set_same counts e.session e.number 0 (omega (arith, reached.sessions, lt, same)) ∙ numbered)
        | inr other ↦
            let others = changes_of-other session (history_of log) (logged e) (λ is. other (sym is)) in
            rw (history_of-push log e, others) (get_or-set_other counts e.session session e.number 0 other ∙ reached.counts session lt)
      ]

      pub IsReached-more : (tree' : TreeMemory) (after : Pairs) → has_pages pages ≡ true → next ≡ place + length (words_of_entry e) → next ≤ length words → after ≡ effect_of map e.change
          → IsTreeEntry pages 1 (opening_word 1) log e × AreTreePages pages (log ++ e ∷ []) tree' → IsReached pages words next (log ++ e ∷ []) tree' after (set counts e.session e.number)
      IsReached-more tree' after space next_is within mapped entry = record {
        within = within;
        size = omega (arith, used-push log e, length-words_of_entry e, reached.size, next_is);
        parts = reached.parts ∙ ap (λ (ws : List ℕ). log_words log ++ ws) spelled ∙ sym (append_assoc (log_words log) (words_of_entry e) (drop next words)) ∙ ap (λ (ws : List ℕ). ws ++ drop next words) (sym (log_words-push log e));
        lawful = IsTreeLog-push pages log e tree after (IsNext-here after space mapped) entry.0;
        pages_are = entry.1;
        map = mapped ∙ ap (λ (m : Pairs). effect_of m e.change) reached.map ∙ sym (map_with-push [] (history_of log) (logged e)) ∙ ap (map_with []) (sym (history_of-push log e));
        sessions = length-set counts e.session e.number ∙ reached.sessions;
        counts = counts-more;
      }

  -- a fault of the words there is the first one
  pub fault-words : (fault : LogFault) → place < length words → fault_at pages place (drop place words) ≡ Some fault → IsFirstFault pages words fault
  fault-words fault lt found =
      let there : fault_at pages (used log) (drop place words) ≡ Some fault = rw reached.size found in
      record {
        front = log;
        rest = drop place words;
        lawful = reached.lawful;
        parts = reached.parts;
        more = omega (arith, length-drop place words);
        found = rw there refl;
      }

  -- at the end of the words they are those of the log
  pub words-all : length words ≤ place → words ≡ log_words log
  words-all end = reached.parts ∙ ap (λ (ws : List ℕ). log_words log ++ ws) (drop_all place words end) ∙ append-nil (log_words log)

  pub map-all : map ≡ map_of log
  map-all = reached.map ∙ sym (map_after-length (history_of log)) ∙ ap (map_after (history_of log)) (length-history_of log)

-- a fault is the first one where it was found, or want of memory
pub IsReplayFault-found : (pages : ℕ) (words : List ℕ) (found : Option LogFault) (fault : LogFault) → IsFault found fault → (found ≡ Some fault → IsFirstFault pages words fault) → IsReplayFault pages words fault
IsReplayFault-found pages words found OutOfMemory is first = tt
IsReplayFault-found pages words found fault is first = first is

abbrev zeros : ℕ → List ℕ
zeros n = replicate n 0

get_or-zeros : (n i : ℕ) → get_or (zeros n) i 0 ≡ 0
get_or-zeros zero i = refl
get_or-zeros (suc n) zero = refl
get_or-zeros (suc n) (suc i) = get_or-zeros n i

-- nothing is read yet
pub IsReached-none : (pages : ℕ) (words : List ℕ) (tree : TreeMemory) (n : ℕ) → has_pages pages ≡ true → IsSettled tree → tree.before ≡ map (opening_words 1) (range_with_len 0 pages)
    → positions_of tree.met_before ≡ opening_positions → n ≡ COUNTS → IsReached pages words 0 [] tree [] (replicate n 0)
IsReached-none pages words tree n space settled images positions many = record {
  within = omega arith;
  size = refl;
  parts = refl;
  lawful = IsLawfulLog-none pages 1 (by_place opening pages);
  pages_are = AreTreePages-opening pages tree space settled images positions;
  map = refl;
  sessions = length-replicate n 0 ∙ many;
  counts = λ session lt. get_or-zeros n session;
}
