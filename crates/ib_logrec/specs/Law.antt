-- What a law may say of pages, and the entries that any law takes for entries.
use Rattle.std.specs.Prelude.{ℕ, List, [], ◌∷◌, ◌++◌}
use Rattle.std.specs.List.{AllByRecursion}
use Rattle.ib_map.specs.Keys.{end_rank}
use Rattle.ib_logrec.specs.declared.entry.Entry.{Entry}
use Rattle.ib_logrec.specs.Grammar.{IsInGrammar}

-- what a page is for: keys whose ranks are from `low` on and below `end`, at its level of the tree of its root, counted from 1
pub record PageRange : Type 0 where
  pub root : ℕ
  pub low : ℕ
  pub end : ℕ
  pub level : ℕ

-- all keys, in a leaf of the first root
abbrev pub all_keys : PageRange
all_keys = record { root = 1; low = 0; end = end_rank; level = 0 }

-- each entry is in the grammar
abbrev pub AreInGrammar : ℕ → List Entry → Type 0
AreInGrammar pages log = AllByRecursion (IsInGrammar pages) log

-- each entry in the grammar is lawful behind each lawful list
abbrev pub AllowsAny : ℕ → (List Entry → Type 0) → Type 0
AllowsAny pages lawful = (log : List Entry) (e : Entry) → lawful log → IsInGrammar pages e → lawful (log ++ e ∷ [])

pub AreInGrammar-front : (pages : ℕ) (xs ys : List Entry) → AreInGrammar pages (xs ++ ys) → AreInGrammar pages xs
AreInGrammar-front pages [] ys are = tt
AreInGrammar-front pages (e ∷ xs) ys are = (are.0, AreInGrammar-front pages xs ys are.1)
