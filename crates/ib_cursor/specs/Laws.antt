-- What lawful entries say of trees, at the sizes of one space.
use Rattle.std.specs.Prelude.{◌≡◌, ℕ, false, List, [], ◌∷◌, ◌++◌}
use Rattle.ib_map.specs.Writes.{touches}
use Rattle.ib_logrec.specs.declared.entry.Entry.{Entry}
use Rattle.ib_logrec.specs.Law.{PageRange}
use Rattle.ib_logrec.specs.Log.{memory_after}
use Rattle.ib_walk.specs.Words.{IsLawfulMemory}
use Rattle.ib_tree.specs.Logs.{HasRange, pages_after}

-- the laws of trees on a space of so many pages: the front of a lawful log is lawful, a lawful log leads to a lawful memory, and an entry leaves the range of a page that it doesn't write
pub record Laws (pages roots : ℕ) (lawful : List Entry → Type 0) (opening : ℕ → ℕ) : Type 0 where
  pub begins : (xs ys : List Entry) → lawful (xs ++ ys) → lawful xs
  pub memory : (log : List Entry) → lawful log → IsLawfulMemory pages roots (memory_after opening log)
  pub stays : (xs : List Entry) (e : Entry) (page : ℕ) (r : PageRange) → lawful (xs ++ e ∷ []) → touches page e.writes ≡ false
      → HasRange roots (pages_after opening xs) page r → HasRange roots (pages_after opening (xs ++ e ∷ [])) page r
