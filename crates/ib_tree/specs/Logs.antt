-- Lawful logs of trees.
use Rattle.std.specs.Prelude.{◌≡◌, ◌↔◌, ℕ, ◌<◌, ◌≤◌, List, [], ◌∷◌, ◌++◌, false}
use Rattle.ib_map.specs.History.{IsLegalHistory}
use Rattle.ib_map.specs.Writes.{touches}
use Rattle.ib_logrec.specs.declared.entry.Entry.{Entry}
use Rattle.ib_logrec.specs.Law.{AreInGrammar, PageRange}
use Rattle.ib_logrec.specs.Log.{memory_after, history_of, map_of}
use Rattle.ib_walk.specs.Pages.{PageMemory}
use Rattle.ib_walk.specs.Walk.{Visit}
use Rattle.ib_walk.specs.Trees.{content_of, IsMetAt}
use Rattle.ib_walk.specs.Words.{pages_of, IsLawfulMemory}

-- the visit that a range says of a page
abbrev pub visit_with : ℕ → PageRange → Visit
visit_with page r = record { page = page; low = r.low; high = r.end }

-- the walk of one of the trees meets the page just there: under its root, at its level, with its range
abbrev pub HasRange : ℕ → PageMemory → ℕ → PageRange → Type 0
HasRange roots memory page r = (0 < r.root) × (r.root ≤ roots) × IsMetAt memory r.root r.level (visit_with page r)

-- the pages after the entries
abbrev pub pages_after : (ℕ → ℕ) → List Entry → PageMemory
pages_after opening log = pages_of (memory_after opening log)

-- an entry behind others leads to lawful trees, of which the first has the map that the whole log gives, and leaves each page that it doesn't write at its root, its level and its range
pub record IsTreeEntry (pages roots : ℕ) (opening : ℕ → ℕ) (front : List Entry) (e : Entry) : Type 0 where
  pub lawful : IsLawfulMemory pages roots (memory_after opening (front ++ e ∷ []))
  pub content : content_of (pages_after opening (front ++ e ∷ [])) 1 ≡ map_of (front ++ e ∷ [])
  pub others : (page : ℕ) (r : PageRange) → touches page e.writes ≡ false
      → HasRange roots (pages_after opening (front ++ e ∷ [])) page r ↔ HasRange roots (pages_after opening front) page r

-- a lawful log of trees: in the grammar, with a legal history, and each entry leads from lawful trees to lawful trees
pub record IsLawfulLog (pages roots : ℕ) (opening : ℕ → ℕ) (log : List Entry) : Type 0 where
  pub grammar : AreInGrammar pages log
  pub legal : IsLegalHistory (history_of log)
  pub entries : (front : List Entry) (e : Entry) (back : List Entry) → log ≡ front ++ e ∷ back → IsTreeEntry pages roots opening front e
