-- The law of one tree over the pages of a new space, and the laws that a law of logs keeps.
use Rattle.std.proofs.Common.{◌≡◌, ℕ, List, [], ◌∷◌, ◌++◌, false, refl, ap, subst, ◌∙◌, append_assoc}
use Rattle.std.specs.Prelude.{◌↔◌, slice_index}
use Rattle.std.proofs.lemmas.List.{map-append}
use Rattle.ib_map.specs.History.{IsLegalHistory}
use Rattle.ib_map.specs.Writes.{touches}
use Rattle.ib_map.proofs.HistoryLaws.{IsLegalHistory-none, IsLegalHistory-front}
use Rattle.ib_page.specs.Opening.{opening_words}
use Rattle.ib_logrec.specs.declared.entry.Entry.{Entry}
use Rattle.ib_logrec.specs.Law.{AreInGrammar-front, PageRange}
use Rattle.ib_logrec.specs.Log.{history_of, logged, by_place}
use Rattle.ib_tree.specs.Logs.{HasRange, pages_after, IsLawfulLog}

-- the words of a new space with so many roots, by page and index
abbrev pub opening_of : ℕ → ℕ → ℕ → ℕ → ℕ
opening_of roots pages page index = slice_index (opening_words roots page) index

-- .. with one root
abbrev pub opening : ℕ → ℕ → ℕ → ℕ
opening pages page index = opening_of 1 pages page index

-- the lawful logs of one tree, whose root is page 1
abbrev pub IsTreeLog : ℕ → List Entry → Type 0
IsTreeLog pages log = IsLawfulLog pages 1 (by_place opening pages) log

-- after these entries the walk of the tree meets the page just there
abbrev pub HasTreeRange : ℕ → List Entry → ℕ → PageRange → Type 0
HasTreeRange pages log page r = HasRange 1 (pages_after (by_place opening pages) log) page r

module _ (pages roots : ℕ) (start : ℕ → ℕ) where
  -- no entries are lawful
  pub IsLawfulLog-none : IsLawfulLog pages roots start []
  IsLawfulLog-none = record { grammar = tt; legal = IsLegalHistory-none; entries = λ front e back is. absurd (more front e back is) }
    where
      more : (front : List Entry) (e : Entry) (back : List Entry) → [] ≡ front ++ e ∷ back → ⊥
      more [] e back is = cc
      more (x ∷ xs) e back is = cc

  -- the front of a lawful log is lawful
  pub IsLawfulLog-front : (xs ys : List Entry) → IsLawfulLog pages roots start (xs ++ ys) → IsLawfulLog pages roots start xs
  IsLawfulLog-front xs ys lawful = record {
    grammar = AreInGrammar-front pages xs ys lawful.grammar;
    legal = IsLegalHistory-front (history_of xs) (history_of ys) (subst IsLegalHistory (map-append logged xs ys) lawful.legal);
    entries = λ front e back is. lawful.entries front e (back ++ ys) (ap (λ zs. zs ++ ys) is ∙ append_assoc front (e ∷ back) ys);
  }

  -- an entry leaves the range of a page that it doesn't write
  pub HasRange-stays : (xs : List Entry) (e : Entry) (page : ℕ) (r : PageRange) → IsLawfulLog pages roots start (xs ++ e ∷ []) → touches page e.writes ≡ false
      → HasRange roots (pages_after start (xs ++ e ∷ [])) page r ↔ HasRange roots (pages_after start xs) page r
  HasRange-stays xs e page r lawful untouched = (lawful.entries xs e [] refl).others page r untouched
