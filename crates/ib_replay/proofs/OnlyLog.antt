-- The words of a lawful log are no other log's, and have no fault.
use Rattle.std.proofs.Common.{◌≡◌, ℕ, ◌+◌, ◌<◌, true, List, [], ◌∷◌, ◌++◌, length, Option, None, refl, sym, ap, subst, ◌∙◌, arith, append_assoc, length-append}
use Rattle.std.specs.Prelude.{Result, Ok, Err, IfOk, IfErr, MatchResult}
use Rattle.std.proofs.Math.Seq.{take-length}
use Rattle.std.proofs.lemmas.Bool.{eq-eqb}
use Rattle.std.proofs.lemmas.List.{append_cancel_left}
use Rattle.ib_map.specs.Pairs.{Pairs}
use Rattle.ib_map.specs.Map.{answer_of, is_made}
use Rattle.ib_map.specs.History.{History, map_with, changes_of, IsLegalEntry, IsLegalHistory}
use Rattle.ib_map.proofs.HistoryLaws.{map_after-length, IsLegalHistory-front, IsLegalEntry-shorter, slice_get-last}
use Rattle.ib_logrec.specs.declared.entry.Entry.{Entry}
use Rattle.ib_logrec.specs.declared.fault.LogFault.{LogFault}
use Rattle.ib_logrec.specs.declared.fault.LogFault.TheVariants.{OutOfMemory}
use Rattle.ib_logrec.specs.Words.{words_of_entry, entry_in}
use Rattle.ib_logrec.specs.Grammar.{IsInGrammar, fault_at}
use Rattle.ib_logrec.specs.Law.{AreInGrammar}
use Rattle.ib_logrec.specs.Log.{log_words, used, logged, history_of}
use Rattle.ib_logrec.proofs.EntryLaws.{length-words_of_entry, entry_in-words, fault_at-words}
use Rattle.ib_logrec.proofs.WordLaws.{words_of_entry-one}
use Rattle.ib_logrec.proofs.LogLaws.{history_of-append}
use Rattle.ib_replay.specs.declared.log_replay.Replayed.{Replayed}
use Rattle.ib_walk.specs.Opening.{opening_word}
use Rattle.ib_tree.specs.Logs.{IsTreeEntry}
use Rattle.ib_tree.specs.TreeLog.{IsTreeLog}
use Rattle.ib_tree.proofs.OpeningLaws.{by_place-opening}
use Rattle.ib_replay.specs.Replays.{change_fault, log_fault_behind, IsFirstOf, IsFirstFault, IsReplayFault}

-- what begins with an entry's words goes on with what stands behind them
pub same_rest : (pages : ℕ) (e f : Entry) (x y : List ℕ) → IsInGrammar pages e → IsInGrammar pages f → words_of_entry e ++ x ≡ words_of_entry f ++ y → (e ≡ f) × (x ≡ y)
same_rest pages e f x y e_is f_is same =
    let is = words_of_entry-one pages e f x y e_is f_is same in
    (is, append_cancel_left (words_of_entry e) x y (same ∙ ap (λ (g : Entry). words_of_entry g ++ y) (sym is)))

pub log_words-one : (pages : ℕ) (xs ys : List Entry) → AreInGrammar pages xs → AreInGrammar pages ys → log_words xs ≡ log_words ys → xs ≡ ys
log_words-one pages [] [] x_is y_is same = refl
log_words-one pages [] (y ∷ ys) x_is y_is same = absurd (omega (arith, ap length same, length-append (words_of_entry y) (log_words ys), length-words_of_entry y))
log_words-one pages (x ∷ xs) [] x_is y_is same = absurd (omega (arith, ap length same, length-append (words_of_entry x) (log_words xs), length-words_of_entry x))
log_words-one pages (x ∷ xs) (y ∷ ys) x_is y_is same =
    let parts = same_rest pages x y (log_words xs) (log_words ys) x_is.0 y_is.0 same in
    let rest = log_words-one pages xs ys x_is.1 y_is.1 parts.1 in
    λ i. parts.0 i ∷ rest i

-- the entry of a log that stands behind a shorter one
next_entry : (pages : ℕ) (front log : List Entry) (rest : List ℕ) → AreInGrammar pages front → AreInGrammar pages log → log_words log ≡ log_words front ++ rest → 0 < length rest
    → (e : Entry) × (more : List Entry) × (log ≡ front ++ e ∷ more) × (rest ≡ words_of_entry e ++ log_words more) × IsInGrammar pages e
next_entry pages [] [] rest front_is is same some = absurd (omega (arith, ap length same))
next_entry pages [] (e ∷ more) rest front_is is same some = (e, more, refl, sym same, is.0)
next_entry pages (f ∷ front) [] rest front_is is same some =
    absurd (omega (arith, ap length same, length-append (words_of_entry f ++ log_words front) rest, length-append (words_of_entry f) (log_words front), length-words_of_entry f))
next_entry pages (f ∷ front) (g ∷ log) rest front_is is same some =
    let parts = same_rest pages g f (log_words log) (log_words front ++ rest) is.0 front_is.0 (same ∙ append_assoc (words_of_entry f) (log_words front) rest) in
    let found = next_entry pages front log rest front_is.1 is.1 parts.1 some in
    (found.0, found.1, λ i. parts.0 i ∷ found.2 i, found.3, found.4)

-- an entry that a legal history has behind a shorter one
legal_next : (front more : List Entry) (e : Entry) → IsLegalHistory (history_of (front ++ e ∷ more)) → IsLegalEntry (history_of front) (length (history_of front)) (logged e)
legal_next front more e legal =
    let whole : history_of (front ++ e ∷ more) ≡ (history_of front ++ logged e ∷ []) ++ history_of more =
    history_of-append front (e ∷ more) ∙ sym (append_assoc (history_of front) (logged e ∷ []) (history_of more)) in
    let shorter = IsLegalHistory-front (history_of front ++ logged e ∷ []) (history_of more) (subst IsLegalHistory whole legal) in
    IsLegalEntry-shorter (history_of front) (logged e ∷ []) (length (history_of front)) (logged e) (omega arith)
    (shorter (length (history_of front)) (logged e) (slice_get-last (history_of front) (logged e)))

no_change_fault : (place : ℕ) (front : List Entry) (e : Entry) → IsLegalEntry (history_of front) (length (history_of front)) (logged e)
    → change_fault place (length (changes_of e.session (history_of front))) (map_with [] (history_of front)) e ≡ None
no_change_fault place front e legal =
    let numbered : e.number ≡ length (changes_of e.session (history_of front)) + 1 = legal.numbered ∙ ap (λ (h : History). length (changes_of e.session h) + 1) (take-length (history_of front)) in
    let made : is_made (answer_of (map_with [] (history_of front)) e.change) ≡ true = ap (λ (m : Pairs). is_made (answer_of m e.change)) (sym (map_after-length (history_of front))) ∙ legal.made in
    rw (eq-eqb _ _ numbered, made) refl

-- behind a front of a lawful log stand the words of its next entry, and nothing is wrong with them
pub no_fault_behind : (pages : ℕ) (front more log : List Entry) (e : Entry) (rest tail : List ℕ) (fault : LogFault) → IsTreeLog pages log → log ≡ front ++ e ∷ more → rest ≡ words_of_entry e ++ tail → IsInGrammar pages e
    → IsFirstOf pages front (entry_in rest) (log_fault_behind pages front rest) fault → ⊥
no_fault_behind pages front more log e rest tail fault lawful parts spelled is first =
    let read : entry_in rest ≡ e = ap entry_in spelled ∙ entry_in-words e tail is.most_writes in
    let words : fault_at pages (used front) rest ≡ None = ap (fault_at pages (used front)) spelled ∙ fault_at-words pages (used front) e tail is in
    let legal = legal_next front more e (subst (λ (l : List Entry). IsLegalHistory (history_of l)) parts lawful.legal) in
    let none : log_fault_behind pages front rest ≡ None = rw (words, read) (no_change_fault (used front) front e legal) in
    let found = subst (λ (o : Option LogFault). IsFirstOf pages front (entry_in rest) o fault) none first in
    let entry : IsTreeEntry pages 1 (opening_word 1) front e = subst (λ (start : ℕ → ℕ). IsTreeEntry pages 1 start front e) (by_place-opening pages) (lawful.entries front e more parts) in
    found.none (subst (IsTreeEntry pages 1 (opening_word 1) front) (sym read) entry)

pub not_first_fault : (pages : ℕ) (log : List Entry) (fault : LogFault) → IsTreeLog pages log → IsFirstFault pages (log_words log) fault → ⊥
not_first_fault pages log fault lawful first =
    let next = next_entry pages first.front log first.rest first.lawful.grammar lawful.grammar first.parts first.more in
    no_fault_behind pages first.front next.1 log next.0 first.rest (log_words next.1) fault lawful next.2 next.3 next.4 first.found

no_fault : (pages : ℕ) (log : List Entry) (fault : LogFault) → IsTreeLog pages log → IsReplayFault pages (log_words log) fault → fault ≡ OutOfMemory
no_fault pages log OutOfMemory lawful is = refl
no_fault pages log fault lawful is = absurd (not_first_fault pages log fault lawful is)

-- what is replayed of a lawful log's words are its entries
pub only_entries : (pages : ℕ) (words : List ℕ) (r : Result Replayed LogFault) → IfOk r (λ replayed. words ≡ log_words replayed.entries.items) → IfOk r (λ replayed. IsTreeLog pages replayed.entries.items)
    → IfErr r (IsReplayFault pages words) → (log : List Entry) → IsTreeLog pages log → words ≡ log_words log
    → MatchResult r (λ replayed. replayed.entries.items ≡ log) (λ fault. fault ≡ OutOfMemory)
only_entries pages words (Ok replayed) found lawful fault log is_lawful is = log_words-one pages replayed.entries.items log lawful.grammar is_lawful.grammar (sym found ∙ is)
only_entries pages words (Err fault) found lawful is_fault log is_lawful is = no_fault pages log fault is_lawful (subst (λ (ws : List ℕ). IsReplayFault pages ws fault) is is_fault)
