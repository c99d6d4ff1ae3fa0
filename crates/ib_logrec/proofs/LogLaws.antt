-- The words of a log, the memory after it, and its history, where the log grows at its end.
use Rattle.std.proofs.Common.{◌≡◌, ℕ, ◌+◌, ◌*◌, ◌≤◌, false, List, [], ◌∷◌, ◌++◌, length, refl, ap, ◌∙◌, arith, length-append, append-nil}
use Rattle.std.proofs.lemmas.Grind.{flat_map-append}
use Rattle.std.proofs.lemmas.List.{map-append, length-map}
use Rattle.ib_logrec.specs.declared.entry.Entry.{Entry}
use Rattle.ib_logrec.specs.declared.entry.TheConstants.{HEAD_WORDS}
use Rattle.ib_map.specs.Writes.{page_at, stored, touches}
use Rattle.ib_logrec.specs.Words.{words_of_entry}
use Rattle.ib_logrec.specs.Log.{log_words, used, after, memory_after, logged, history_of}
use Rattle.ib_logrec.proofs.EntryLaws.{length-words_of_entry}
use Rattle.ib_map.proofs.WriteLaws.{stored-unwritten, writes_at-untouched}

pub log_words-append : (xs ys : List Entry) → log_words (xs ++ ys) ≡ log_words xs ++ log_words ys
log_words-append xs ys = flat_map-append words_of_entry xs ys

-- the words of a log one entry longer
pub log_words-push : (log : List Entry) (e : Entry) → log_words (log ++ e ∷ []) ≡ log_words log ++ words_of_entry e
log_words-push log e = log_words-append log (e ∷ []) ∙ ap (λ (ws : List ℕ). log_words log ++ ws) (append-nil (words_of_entry e))

pub used-append : (xs ys : List Entry) → used (xs ++ ys) ≡ used xs + used ys
used-append xs ys = ap length (log_words-append xs ys) ∙ length-append (log_words xs) (log_words ys)

pub used-push : (log : List Entry) (e : Entry) → used (log ++ e ∷ []) ≡ used log + (HEAD_WORDS + 2 * length e.writes)
used-push log e = ap length (log_words-push log e) ∙ length-append (log_words log) (words_of_entry e) ∙ ap (λ n. used log + n) (length-words_of_entry e)

-- a log has at least the words of a head for each entry
pub used-least : (log : List Entry) → HEAD_WORDS * length log ≤ used log
used-least [] = omega arith
used-least (e ∷ log) = omega (arith, used-least log, length-words_of_entry e, length-append (words_of_entry e) (log_words log))

-- the word at a place after a log one entry longer
pub after-append : (xs ys : List Entry) (place word : ℕ) → after (xs ++ ys) place word ≡ after ys place (after xs place word)
after-append [] ys place word = refl
after-append (e ∷ xs) ys place word = after-append xs ys place (stored e.writes place word)

pub after-push : (log : List Entry) (e : Entry) (place word : ℕ) → after (log ++ e ∷ []) place word ≡ stored e.writes place (after log place word)
after-push log e place word = after-append log (e ∷ []) place word

pub memory_after-push : (opening : ℕ → ℕ) (log : List Entry) (e : Entry) (place : ℕ) → memory_after opening (log ++ e ∷ []) place ≡ stored e.writes place (memory_after opening log place)
memory_after-push opening log e place = after-push log e place (opening place)

-- an entry changes no word of a page that it doesn't touch
pub memory_after-untouched : (opening : ℕ → ℕ) (log : List Entry) (e : Entry) (place : ℕ) → touches (page_at place) e.writes ≡ false
    → memory_after opening (log ++ e ∷ []) place ≡ memory_after opening log place
memory_after-untouched opening log e place none =
    memory_after-push opening log e place ∙ stored-unwritten e.writes place (memory_after opening log place) (writes_at-untouched place e.writes none)

-- the history of a log one entry longer
pub history_of-append : (xs ys : List Entry) → history_of (xs ++ ys) ≡ history_of xs ++ history_of ys
history_of-append xs ys = map-append logged xs ys

pub history_of-push : (log : List Entry) (e : Entry) → history_of (log ++ e ∷ []) ≡ history_of log ++ logged e ∷ []
history_of-push log e = history_of-append log (e ∷ [])

pub length-history_of : (log : List Entry) → length (history_of log) ≡ length log
length-history_of log = length-map log logged
