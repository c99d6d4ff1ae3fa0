-- The laws that pair-kept logs keep as a law of logs.
use Rattle.std.proofs.Common.{◌≡◌, ℕ, List, [], ◌∷◌, ◌++◌, false, ap, ◌∙◌, append_assoc}
use Rattle.std.specs.Prelude.{◌↔◌}
use Rattle.ib_map.specs.Writes.{touches}
use Rattle.ib_logrec.specs.declared.entry.Entry.{Entry}
use Rattle.ib_logrec.specs.Law.{AreInGrammar, PageRange}
use Rattle.ib_logrec.specs.Log.{by_place}
use Rattle.ib_tree.specs.Logs.{HasRange, pages_after}
use Rattle.ib_tree.specs.TreeLog.{IsLawfulLog-none, IsLawfulLog-front, HasRange-stays}
use Rattle.ib_pair_law.specs.Opening.{pair_opening}
use Rattle.ib_pair_law.specs.PairKept.{IsPairLog}

-- after these entries the walk of one of the two trees meets the page just there
abbrev pub HasPairRange : ℕ → List Entry → ℕ → PageRange → Type 0
HasPairRange pages log page r = HasRange 2 (pages_after (by_place pair_opening pages) log) page r

no-entry : (front : List Entry) (e : Entry) (back : List Entry) → [] ≡ front ++ e ∷ back → ⊥
no-entry [] e back is = cc
no-entry (x ∷ xs) e back is = cc

module _ (pages : ℕ) where
  -- no entries are kept
  pub IsPairLog-none : IsPairLog pages []
  IsPairLog-none = record {
    lawful = IsLawfulLog-none pages 2 (by_place pair_opening pages);
    planned_are = λ front e back is. absurd (no-entry front e back is);
    seconds = λ front e back is. absurd (no-entry front e back is);
  }

  -- the front of a kept log is kept
  pub IsPairLog-front : (xs ys : List Entry) → IsPairLog pages (xs ++ ys) → IsPairLog pages xs
  IsPairLog-front xs ys kept = record {
    lawful = IsLawfulLog-front pages 2 (by_place pair_opening pages) xs ys kept.lawful;
    planned_are = λ front e back is. kept.planned_are front e (back ++ ys) (ap (λ zs. zs ++ ys) is ∙ append_assoc front (e ∷ back) ys);
    seconds = λ front e back is. kept.seconds front e (back ++ ys) (ap (λ zs. zs ++ ys) is ∙ append_assoc front (e ∷ back) ys);
  }

  pub IsPairLog-grammar : (log : List Entry) → IsPairLog pages log → AreInGrammar pages log
  IsPairLog-grammar log kept = let lawful = kept.lawful in lawful.grammar

  -- an entry leaves the range of a page that it doesn't write
  pub IsPairLog-stays : (xs : List Entry) (e : Entry) (page : ℕ) (r : PageRange) → IsPairLog pages (xs ++ e ∷ []) → touches page e.writes ≡ false
      → HasPairRange pages (xs ++ e ∷ []) page r ↔ HasPairRange pages xs page r
  IsPairLog-stays xs e page r kept untouched = HasRange-stays pages 2 (by_place pair_opening pages) xs e page r kept.lawful untouched
