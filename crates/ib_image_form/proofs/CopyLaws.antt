-- What a copy with its tail has of the log that it is one of.
use Rattle.std.specs.Prelude.{Result, Ok, Err, IfOk}
use mathlib.Core.List.{IsPrefix}
use Rattle.std.proofs.Common.{◌≡◌, ◌∙◌, ℕ, ◌≤◌, List, [], take, drop, length, inl, inr, ap, sym, subst, arith, take-append-drop}
use Rattle.std.proofs.lemmas.Bool.{cases_lt}
use Rattle.std.proofs.lemmas.List.{nil_from_length, take-append-le}
use Rattle.ib_logrec.specs.declared.entry.Entry.{Entry}
use Rattle.ib_logrec.specs.Log.{by_place, log_words, used}
use Rattle.ib_logrec.proofs.LogLaws.{used-append}
use Rattle.ib_tree.specs.TreeLog.{opening}
use Rattle.ib_image.specs.Copies.{CopyState, first_place, tail_of}
use Rattle.ib_image.proofs.CopyLaws.{copy-longer, tail-words}
use Rattle.ib_image_form.specs.Copying.{IsCopyWithTail}

-- the front of a log has no more words
used-front : (n : ℕ) (log : List Entry) → used (take n log) ≤ used log
used-front n log = let parts = ap used (take-append-drop n log) in let sum = used-append (take n log) (drop n log) in omega arith

module _ (copy : CopyState) (pages : ℕ) (log : List Entry) (is : IsCopyWithTail copy pages log) where
  -- its tail begins within the log's words
  pub tail-fits : copy.tail_word ≤ used log
  tail-fits = let at = is.tail in let front = used-front (first_place copy.pages) log in omega arith

  -- .. and has the words of the entries from the first place on
  pub tail-is : drop copy.tail_word (log_words log) ≡ log_words (tail_of copy.pages log)
  tail-is = ap (λ n. drop n (log_words log)) is.tail ∙ tail-words (first_place copy.pages) log

-- no copy begins behind what it is one of
first-within : (copy : CopyState) (pages : ℕ) (log : List Entry) → IsCopyWithTail copy pages log → first_place copy.pages ≤ length log
first-within copy pages log is = elim (cases_lt 0 pages) [
  | inl some ↦ (let first = is.copied.copied 0 some in first.within)
  | inr none ↦ (
      let size = is.copied.size in
      let empty : copy.pages ≡ [] = nil_from_length copy.pages (omega arith) in
      let first : first_place copy.pages ≡ 0 = ap first_place empty in
      omega arith)
]

-- a copy of what was seen is one of each longer log
pub copy-of-longer : (copy : CopyState) (pages : ℕ) (seen log : List Entry) → IsPrefix seen log → IsCopyWithTail copy pages seen → IsCopyWithTail copy pages log
copy-of-longer copy pages seen log front is = subst (IsCopyWithTail copy pages) front.1 (record {
  copied = copy-longer (by_place opening pages) pages seen front.0 copy.pages is.copied;
  tail = is.tail ∙ ap used (sym (take-append-le (first_place copy.pages) seen front.0 (first-within copy pages seen is)));
})

-- what each of three says of an answer is said by one
pub if_each : {A E : Type 0} (r : Result A E) (P Q R S : A → Type 0) → ((a : A) → P a → Q a → R a → S a) → IfOk r P → IfOk r Q → IfOk r R → IfOk r S
if_each (Ok a) P Q R S f p q r = f a p q r
if_each (Err e) P Q R S f p q r = tt
