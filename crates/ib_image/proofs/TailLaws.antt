-- A tail is read entry by entry.
use Rattle.std.proofs.Common.{◌≡◌, ℕ, ◌<◌, ◌≤◌, ◌∙◌, List, [], ◌∷◌, ◌++◌, length, drop, refl, sym, ap, arith, append_assoc, append-nil, length-append}
use Rattle.std.proofs.Math.ListN.{drop_of_length-le}
use Rattle.std.proofs.lemmas.List.{length-drop}
use Rattle.ib_logrec.specs.declared.entry.Entry.{Entry}
use Rattle.ib_logrec.specs.declared.fault.LogFault.{LogFault}
use Rattle.ib_logrec.specs.declared.fault.LogFault.TheVariants.{OutOfMemory}
use Rattle.ib_logrec.specs.Grammar.{IsFault, StandsAt, fault_at}
use Rattle.ib_logrec.specs.Law.{AreInGrammar}
use Rattle.ib_logrec.specs.Log.{log_words, used}
use Rattle.ib_logrec.specs.Words.{words_of_entry}
use Rattle.ib_logrec.proofs.LogLaws.{log_words-push}
use Rattle.ib_replay.proofs.TreeSteps.{AreInGrammar-push}
use Rattle.ib_image.specs.Tails.{IsTailRefused}

-- so far a tail was read
pub record IsReadTo (pages : ℕ) (words : List ℕ) (place : ℕ) (tail : List Entry) : Type 0 where
  pub grammar : AreInGrammar pages tail
  pub size : place ≡ used tail
  pub parts : words ≡ log_words tail ++ drop place words
  pub within : place ≤ length words

pub read_none : (pages : ℕ) (words : List ℕ) → IsReadTo pages words 0 []
read_none pages words = record { grammar = tt; size = refl; parts = refl; within = omega arith }

module _ (pages : ℕ) (words : List ℕ) (place : ℕ) (tail : List Entry) (r : IsReadTo pages words place tail) where
  pub read_more : (next : ℕ) (e : Entry) → StandsAt pages place next words e → IsReadTo pages words next (tail ++ e ∷ [])
  read_more next e s =
      let push = log_words-push tail e in
      record {
        grammar = AreInGrammar-push pages tail e r.grammar s.grammar;
        size = let a = r.size in let b = s.ends in let c = ap length push in let d = length-append (log_words tail) (words_of_entry e) in omega arith;
        parts = r.parts ∙ (ap (λ ws. log_words tail ++ ws) s.spelled ∙ (sym (append_assoc (log_words tail) (words_of_entry e) (drop next words)) ∙ ap (λ ws. ws ++ drop next words) (sym push)));
        within = s.within;
      }

  pub read_fault : (fault : LogFault) → place < length words → IsFault (fault_at pages place (drop place words)) fault → IsTailRefused pages words fault
  read_fault OutOfMemory lt is = tt
  read_fault fault lt is = record {
    front = tail;
    rest = drop place words;
    grammar = r.grammar;
    parts = r.parts;
    more = let l = length-drop place words in omega arith;
    found = ap (λ n. fault_at pages n (drop place words)) (sym r.size) ∙ is;
  }

  -- all was read
  pub read_all : length words ≤ place → words ≡ log_words tail
  read_all le =
      let none : drop place words ≡ [] = drop_of_length-le words le in
      r.parts ∙ (ap (λ ws. log_words tail ++ ws) none ∙ append-nil (log_words tail))
