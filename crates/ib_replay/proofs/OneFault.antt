-- Bytes have one first fault, and those of a lawful log's file have none.
use Rattle.std.proofs.Common.{◌≡◌, ◌⊎◌, ℕ, List, [], ◌∷◌, ◌++◌, Option, None, Some, inl, inr, refl, sym, ap, subst, ◌∙◌, append_assoc}
use Rattle.std.specs.Prelude.{Result, Ok, Err, IfOk, IfErr, MatchResult}
use Rattle.ib_logrec.specs.declared.entry.Entry.{Entry}
use Rattle.ib_logrec.specs.declared.fault.LogFault.{LogFault}
use Rattle.ib_logrec.specs.declared.fault.LogFault.TheVariants.{OutOfMemory}
use Rattle.ib_logrec.specs.Words.{words_of_entry, entry_in}
use Rattle.ib_logrec.specs.Grammar.{IsInGrammar}
use Rattle.ib_logrec.specs.Law.{AreInGrammar}
use Rattle.ib_logrec.specs.Log.{log_words}
use Rattle.ib_replay.specs.declared.log_replay.Replayed.{Replayed}
use Rattle.ib_replay.specs.Files.{file_fault}
use Rattle.ib_replay.specs.Replays.{log_fault_behind, IsFirstOf, IsFirstFault}
use Rattle.ib_replay.specs.RawLogs.{IsRawLog, IsReplayed, IsWordFault, IsRawFault}
use Rattle.ib_replay.proofs.FileLaws.{file_fault-none, file_of-one, has_pages-fits}
use Rattle.ib_replay.proofs.OnlyLog.{same_rest, no_fault_behind, not_first_fault, log_words-one}

-- a log goes on behind a front of it, whose rest of words begins with those of the next entry
pub record GoesOn (pages : ℕ) (front : List Entry) (rest : List ℕ) (log : List Entry) : Type 0 where
  pub entry : Entry
  pub more : List Entry
  pub tail : List ℕ
  pub parts : log ≡ front ++ entry ∷ more
  pub spelled : rest ≡ words_of_entry entry ++ tail
  pub is : IsInGrammar pages entry

GoesOn-behind : (pages : ℕ) (f g : Entry) (front log : List Entry) (rest : List ℕ) → g ≡ f → GoesOn pages front rest log → GoesOn pages (f ∷ front) rest (g ∷ log)
GoesOn-behind pages f g front log rest same on = record {
  entry = on.entry;
  more = on.more;
  tail = on.tail;
  parts = λ i. same i ∷ on.parts i;
  spelled = on.spelled;
  is = on.is;
}

-- two logs at the front of the same words are the same, or one goes on where the other ends
pub fronts : (pages : ℕ) (xs ys : List Entry) (r s : List ℕ) → AreInGrammar pages xs → AreInGrammar pages ys → log_words xs ++ r ≡ log_words ys ++ s
    → ((xs ≡ ys) × (r ≡ s)) ⊎ (GoesOn pages xs r ys ⊎ GoesOn pages ys s xs)
fronts pages [] [] r s x_is y_is same = inl (refl, same)
fronts pages [] (y ∷ ys) r s x_is y_is same =
    inr (inl (record { entry = y; more = ys; tail = log_words ys ++ s; parts = refl; spelled = same ∙ append_assoc (words_of_entry y) (log_words ys) s; is = y_is.0 }))
fronts pages (x ∷ xs) [] r s x_is y_is same =
    inr (inr (record { entry = x; more = xs; tail = log_words xs ++ r; parts = refl; spelled = sym same ∙ append_assoc (words_of_entry x) (log_words xs) r; is = x_is.0 }))
fronts pages (x ∷ xs) (y ∷ ys) r s x_is y_is same =
    let apart = sym (append_assoc (words_of_entry x) (log_words xs) r) ∙ same ∙ append_assoc (words_of_entry y) (log_words ys) s in
    let first = same_rest pages x y (log_words xs ++ r) (log_words ys ++ s) x_is.0 y_is.0 apart in
    elim (fronts pages xs ys r s x_is.1 y_is.1 first.1) [
      | inl both ↦ inl (λ i. first.0 i ∷ both.0 i, both.1)
      | inr (inl on) ↦ inr (inl (GoesOn-behind pages x y xs ys r (sym first.0) on))
      | inr (inr on) ↦ inr (inr (GoesOn-behind pages y x ys xs s first.0 on))
    ]

-- two first faults of the same words are the same
IsFirstOf-one : (pages : ℕ) (front : List Entry) (e : Entry) (found : Option LogFault) (a b : LogFault) → IsFirstOf pages front e found a → IsFirstOf pages front e found b → a ≡ b
IsFirstOf-one pages front e (Some found) a b is_a is_b = sym is_a ∙ is_b
IsFirstOf-one pages front e None a b is_a is_b = is_a.is ∙ sym is_b.is

pub first_fault-one : (pages : ℕ) (words : List ℕ) (a b : LogFault) → IsFirstFault pages words a → IsFirstFault pages words b → a ≡ b
first_fault-one pages words a b is_a is_b =
    elim (fronts pages is_a.front is_b.front is_a.rest is_b.rest is_a.lawful.grammar is_b.lawful.grammar (sym is_a.parts ∙ is_b.parts)) [
      | inl both ↦
          let here = subst (λ (front : List Entry). IsFirstOf pages front (entry_in is_b.rest) (log_fault_behind pages front is_b.rest) a) both.0
          (subst (λ (rest : List ℕ). IsFirstOf pages is_a.front (entry_in rest) (log_fault_behind pages is_a.front rest) a) both.1 is_a.found) in
          IsFirstOf-one pages is_b.front (entry_in is_b.rest) (log_fault_behind pages is_b.front is_b.rest) a b here is_b.found
      | inr (inl on) ↦ absurd (no_fault_behind pages is_a.front on.more is_b.front on.entry is_a.rest on.tail a is_b.lawful on.parts on.spelled on.is is_a.found)
      | inr (inr on) ↦ absurd (no_fault_behind pages is_b.front on.more is_a.front on.entry is_b.rest on.tail b is_a.lawful on.parts on.spelled on.is is_b.found)
    ]

-- the bytes of a lawful log's file have no fault
pub raw_log-no_fault : (bytes : List ℕ) (pages : ℕ) (log : List Entry) (fault : LogFault) → IsRawLog bytes pages log → IsRawFault bytes fault → ⊥
raw_log-no_fault bytes pages log fault is (inl found) = let none = ap file_fault is.file ∙ file_fault-none pages (log_words log) is.space in cc
raw_log-no_fault bytes pages log fault is (inr other) =
    let same = file_of-one other.pages pages other.words (log_words log) (has_pages-fits other.pages other.space) (has_pages-fits pages is.space) other.fits is.fits (sym other.file ∙ is.file) in
    not_first_fault pages log fault is.lawful (subst (λ (p : ℕ). IsFirstFault p (log_words log) fault) same.0 (subst (λ (ws : List ℕ). IsFirstFault other.pages ws fault) same.1 other.first))

word_fault-one : (bytes : List ℕ) (a b : LogFault) → IsWordFault bytes a → IsWordFault bytes b → a ≡ b
word_fault-one bytes a b is_a is_b =
    let same = file_of-one is_a.pages is_b.pages is_a.words is_b.words (has_pages-fits is_a.pages is_a.space) (has_pages-fits is_b.pages is_b.space) is_a.fits is_b.fits (sym is_a.file ∙ is_b.file) in
    let first = subst (λ (p : ℕ). IsFirstFault p is_b.words a) same.0 (subst (λ (ws : List ℕ). IsFirstFault is_a.pages ws a) same.1 is_a.first) in
    first_fault-one is_b.pages is_b.words a b first is_b.first

pub raw_fault-one : (bytes : List ℕ) (a b : LogFault) → IsRawFault bytes a → IsRawFault bytes b → a ≡ b
raw_fault-one bytes a b (inl found_a) (inl found_b) = let same : Some a ≡ Some b = sym found_a ∙ found_b in cc
raw_fault-one bytes a b (inl found) (inr is) = let none = ap file_fault is.file ∙ file_fault-none is.pages is.words is.space in absurd (cc)
raw_fault-one bytes a b (inr is) (inl found) = let none = ap file_fault is.file ∙ file_fault-none is.pages is.words is.space in absurd (cc)
raw_fault-one bytes a b (inr is_a) (inr is_b) = word_fault-one bytes a b is_a is_b

-- bytes are the file of one lawful log
pub raw_log-one : (bytes : List ℕ) (p q : ℕ) (xs ys : List Entry) → IsRawLog bytes p xs → IsRawLog bytes q ys → (p ≡ q) × (xs ≡ ys)
raw_log-one bytes p q xs ys one two =
    let same = file_of-one p q (log_words xs) (log_words ys) (has_pages-fits p one.space) (has_pages-fits q two.space) one.fits two.fits (sym one.file ∙ two.file) in
    (same.0, log_words-one q xs ys (subst (λ (n : ℕ). AreInGrammar n xs) same.0 one.lawful.grammar) two.lawful.grammar same.1)

-- what is read of a lawful log's file is that log
pub only_raw_log : (bytes : List ℕ) (r : Result Replayed LogFault) → IfOk r (λ replayed. IsReplayed bytes replayed.entries.items replayed.memory)
    → IfErr r (λ fault. (fault ≡ OutOfMemory) ⊎ IsRawFault bytes fault) → (pages : ℕ) (log : List Entry) → IsRawLog bytes pages log
    → MatchResult r (λ replayed. replayed.entries.items ≡ log) (λ fault. fault ≡ OutOfMemory)
only_raw_log bytes (Ok replayed) found fault pages log is = (raw_log-one bytes found.0 pages replayed.entries.items log found.1 is).1
only_raw_log bytes (Err e) found (inl memory) pages log is = memory
only_raw_log bytes (Err e) found (inr fault) pages log is = absurd (raw_log-no_fault bytes pages log e is fault)

-- bytes with a fault are refused, and for no other fault
pub only_raw_fault : (bytes : List ℕ) (r : Result Replayed LogFault) → IfOk r (λ replayed. IsReplayed bytes replayed.entries.items replayed.memory)
    → IfErr r (λ fault. (fault ≡ OutOfMemory) ⊎ IsRawFault bytes fault) → (other : LogFault) → IsRawFault bytes other
    → MatchResult r (λ replayed. ⊥) (λ fault. (fault ≡ OutOfMemory) ⊎ (fault ≡ other))
only_raw_fault bytes (Ok replayed) found fault other is = raw_log-no_fault bytes found.0 replayed.entries.items other found.1 is
only_raw_fault bytes (Err e) found (inl memory) other is = inl memory
only_raw_fault bytes (Err e) found (inr fault) other is = inr (raw_fault-one bytes e other fault is)
