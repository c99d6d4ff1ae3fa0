-- The laws that kept logs keep as a law of logs.
use Rattle.std.proofs.Common.{◌≡◌, ℕ, List, [], ◌∷◌, ◌++◌, false, ap, ◌∙◌, append_assoc}
use Rattle.std.specs.Prelude.{◌↔◌}
use Rattle.ib_map.specs.Writes.{touches}
use Rattle.ib_logrec.specs.declared.entry.Entry.{Entry}
use Rattle.ib_logrec.specs.Law.{AreInGrammar, PageRange}
use Rattle.ib_logrec.specs.Log.{by_place}
use Rattle.ib_tree.specs.TreeLog.{opening, HasTreeRange, IsLawfulLog-none, IsLawfulLog-front, HasRange-stays}
use Rattle.ib_planned_log.specs.Kept.{IsKeptLog}

module _ (pages : ℕ) where
  -- no entries are kept
  pub IsKeptLog-none : IsKeptLog pages []
  IsKeptLog-none = record { lawful = IsLawfulLog-none pages 1 (by_place opening pages); planned_are = λ front e back is. absurd (more front e back is) }
    where
      more : (front : List Entry) (e : Entry) (back : List Entry) → [] ≡ front ++ e ∷ back → ⊥
      more [] e back is = cc
      more (x ∷ xs) e back is = cc

  -- the front of a kept log is kept
  pub IsKeptLog-front : (xs ys : List Entry) → IsKeptLog pages (xs ++ ys) → IsKeptLog pages xs
  IsKeptLog-front xs ys kept = record {
    lawful = IsLawfulLog-front pages 1 (by_place opening pages) xs ys kept.lawful;
    planned_are = λ front e back is. kept.planned_are front e (back ++ ys) (ap (λ zs. zs ++ ys) is ∙ append_assoc front (e ∷ back) ys);
  }

  pub IsKeptLog-grammar : (log : List Entry) → IsKeptLog pages log → AreInGrammar pages log
  IsKeptLog-grammar log kept = let lawful = kept.lawful in lawful.grammar

  -- an entry leaves the range of a page that it doesn't write
  pub IsKeptLog-stays : (xs : List Entry) (e : Entry) (page : ℕ) (r : PageRange) → IsKeptLog pages (xs ++ e ∷ []) → touches page e.writes ≡ false
      → HasTreeRange pages (xs ++ e ∷ []) page r ↔ HasTreeRange pages xs page r
  IsKeptLog-stays xs e page r kept untouched = HasRange-stays pages 1 (by_place opening pages) xs e page r kept.lawful untouched
