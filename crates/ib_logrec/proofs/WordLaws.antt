-- The words of an entry one by one, and at the front of a longer list.
use Rattle.std.proofs.Common.{◌≡◌, ℕ, zero, suc, ◌+◌, ◌*◌, ◌<◌, List, [], ◌∷◌, ◌++◌, length, get_or, take, drop, refl, sym, ap, ◌∙◌, arith}
use Rattle.std.proofs.lemmas.List.{take_at, drop_at, get_or-append-add}
use Rattle.ib_map.specs.declared.write.Write.{Write}
use Rattle.ib_map.specs.Writes.{write_words}
use Rattle.ib_logrec.specs.declared.entry.Entry.{Entry}
use Rattle.ib_logrec.specs.declared.entry.TheConstants.{HEAD_WORDS}
use Rattle.ib_logrec.specs.Heads.{head_of, head_words}
use Rattle.ib_logrec.specs.Words.{words_of_entry, entry_in}
use Rattle.ib_logrec.specs.Grammar.{IsInGrammar}
use Rattle.ib_logrec.proofs.HeadLaws.{length-head_words}
use Rattle.ib_logrec.proofs.EntryLaws.{length-words_of_entry, entry_in-words}

place_word : (ws : List Write) (i : ℕ) (d : Write) → i < length ws → get_or (write_words ws) (2 * i) 0 ≡ (get_or ws i d).place
place_word [] i d lt = absurd (omega arith)
place_word (w ∷ ws) zero d lt = refl
place_word (w ∷ ws) (suc i) d lt = let two : 2 * suc i ≡ suc (suc (2 * i)) = omega arith in rw two (place_word ws i d (omega arith))

value_word : (ws : List Write) (i : ℕ) (d : Write) → i < length ws → get_or (write_words ws) (2 * i + 1) 0 ≡ (get_or ws i d).value
value_word [] i d lt = absurd (omega arith)
value_word (w ∷ ws) zero d lt = refl
value_word (w ∷ ws) (suc i) d lt = let two : 2 * suc i + 1 ≡ suc (suc (2 * i + 1)) = omega arith in rw two (value_word ws i d (omega arith))

-- the words of a write, behind those of the head
pub word_of_entry-place : (e : Entry) (i : ℕ) (d : Write) → i < length e.writes → get_or (words_of_entry e) (HEAD_WORDS + 2 * i) 0 ≡ (get_or e.writes i d).place
unfolding words_of_entry
word_of_entry-place e i d lt = rw (← length-head_words (head_of e)) (get_or-append-add (head_words (head_of e)) (write_words e.writes) (2 * i) 0 ∙ place_word e.writes i d lt)

pub word_of_entry-value : (e : Entry) (i : ℕ) (d : Write) → i < length e.writes → get_or (words_of_entry e) (HEAD_WORDS + (2 * i + 1)) 0 ≡ (get_or e.writes i d).value
unfolding words_of_entry
word_of_entry-value e i d lt = rw (← length-head_words (head_of e)) (get_or-append-add (head_words (head_of e)) (write_words e.writes) (2 * i + 1) 0 ∙ value_word e.writes i d lt)

-- an entry's words at the front of a longer list, and what stands behind them
pub take-words_of_entry : (e : Entry) (rest : List ℕ) → take (HEAD_WORDS + 2 * length e.writes) (words_of_entry e ++ rest) ≡ words_of_entry e
take-words_of_entry e rest = take_at (words_of_entry e) rest (HEAD_WORDS + 2 * length e.writes) (length-words_of_entry e)

pub drop-words_of_entry : (e : Entry) (rest : List ℕ) → drop (HEAD_WORDS + 2 * length e.writes) (words_of_entry e ++ rest) ≡ rest
drop-words_of_entry e rest = drop_at (words_of_entry e) rest (HEAD_WORDS + 2 * length e.writes) (length-words_of_entry e)

-- one spelling an entry: no entry's words begin another's
pub words_of_entry-one : (pages : ℕ) (e f : Entry) (x y : List ℕ) → IsInGrammar pages e → IsInGrammar pages f → words_of_entry e ++ x ≡ words_of_entry f ++ y → e ≡ f
words_of_entry-one pages e f x y e_is f_is same =
    sym (entry_in-words e x e_is.most_writes) ∙ ap entry_in same ∙ entry_in-words f y f_is.most_writes
