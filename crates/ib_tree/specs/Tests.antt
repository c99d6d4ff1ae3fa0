-- What the tests of a patch, of an entry behind a lawful log and of a whole memory are given, and what they ask.
use Rattle.std.specs.Prelude.{◌≡◌, ◌↔◌, ℕ, zero, suc, ◌<◌, Bool, true, false, List, [], ◌∷◌, ◌++◌, Some, None}
use Rattle.ib_map.specs.Keys.{end_rank}
use Rattle.ib_map.specs.Map.{key_of}
use Rattle.ib_map.specs.History.{IsLegalHistory}
use Rattle.ib_map.specs.Writes.{touches}
use Rattle.ib_page.specs.Space.{IsSpacePage}
use Rattle.ib_logrec.specs.declared.entry.Entry.{Entry}
use Rattle.ib_logrec.specs.Grammar.{IsInGrammar}
use Rattle.ib_logrec.specs.Law.{PageRange}
use Rattle.ib_logrec.specs.Log.{memory_after, history_of, map_of}
use Rattle.ib_walk.specs.Pages.{PageMemory}
use Rattle.ib_walk.specs.Walk.{Visit}
use Rattle.ib_walk.specs.Trees.{IsLawful, opening_pages, opening_bits}
use Rattle.ib_walk.specs.Words.{image_of, pages_of, bits_of}
use Rattle.ib_validate.specs.Patch.{IsGoodAt, IsSliced}
use Rattle.ib_validate.specs.PatchTest.{Position, Positions, set_at, fresh_of, IsListed, IsKeptBeside, PassesTest}
use Rattle.ib_tree.specs.Logs.{HasRange, pages_after, IsLawfulLog}
use Rattle.ib_tree.specs.PageLists.{pages_below, is_below}

-- pages that are not written have the ranges that they had, each under its root and at its level
abbrev pub KeepRanges : (ℕ → Bool) → PageMemory → PageMemory → ℕ → Type 0
KeepRanges written m new roots = (page : ℕ) (r : PageRange) → written page ≡ false → HasRange roots new page r ↔ HasRange roots m page r

-- `good` says of which visits a page of the memory is good: a leaf or a node there
abbrev pub TellsGood : (ℕ → Visit → Bool) → PageMemory → Type 0
TellsGood good memory = (height : ℕ) (v : Visit) → (good height v ≡ true) ↔ IsGoodAt memory height v

-- what the test of a patch is given: lawful trees whose positions are known, and pages of the space, `ps`, beside which nothing has changed
pub record IsPatchGiven (written : ℕ → Bool) (m new : PageMemory) (good : ℕ → Visit → Bool) (bits : ℕ → ℕ) (roots pages : ℕ) (ps : List ℕ) (old : Positions) : Type 0 where
  pub lawful : IsLawful m bits roots
  pub kept : IsKeptBeside m roots pages old
  pub same : (page : ℕ) → written page ≡ false → new page ≡ m page
  pub within : (page : ℕ) → written page ≡ true → page < pages
  pub listed : IsListed written ps pages
  pub tells : TellsGood good new

-- whether a page is written by an entry
abbrev pub writes_page : Entry → ℕ → Bool
writes_page e page = touches page e.writes

-- what the test of an entry is given: a lawful log whose positions are known, and behind it an entry in the grammar, with a legal change, that writes the pages `ps`
pub record IsEntryGiven (pages roots : ℕ) (opening : ℕ → ℕ) (front : List Entry) (e : Entry) (good : ℕ → Visit → Bool) (ps : List ℕ) (old : Positions) : Type 0 where
  pub lawful : IsLawfulLog pages roots opening front
  pub kept : IsKeptBeside (pages_after opening front) roots pages old
  pub grammar : IsInGrammar pages e
  pub legal : IsLegalHistory (history_of (front ++ e ∷ []))
  pub listed : IsListed (writes_page e) ps pages
  pub tells : TellsGood good (pages_after opening (front ++ e ∷ []))

-- All that it asks: page 0, where it is written, is the space page; the written pages pass the test of a patch, and their leaves have what the map has after the entry. `table` are the new positions
pub record PassesEntry (pages roots : ℕ) (opening : ℕ → ℕ) (front : List Entry) (e : Entry) (good : ℕ → Visit → Bool) (ps : List ℕ) (old table : Positions) : Type 0 where
  pub space : writes_page e 0 ≡ true → IsSpacePage pages (image_of (memory_after opening (front ++ e ∷ [])) 0)
  pub patch : PassesTest (writes_page e) (pages_after opening front) (pages_after opening (front ++ e ∷ [])) good
      (bits_of pages (memory_after opening front)) (bits_of pages (memory_after opening (front ++ e ∷ []))) roots end_rank ps old table
  pub content : IsSliced (pages_after opening (front ++ e ∷ [])) (fresh_of ps table 1) (map_of (front ++ e ∷ [])) (key_of e.change)

-- in a new space the roots alone are met: each is a leaf with all keys
abbrev pub root_position : ℕ → Position
root_position root = record { tree = root; height = 0; low = 0; high = end_rank }

abbrev pub root_positions : ℕ → Positions
root_positions zero = λ page. None
root_positions (suc root) = set_at (root_positions root) (suc root) (Some (root_position (suc root)))

-- all that the test of a whole memory asks: page 0 is the space page, and all pages pass the test of a patch over those of a new space
pub record PassesWhole (pages roots : ℕ) (words : ℕ → ℕ) (good : ℕ → Visit → Bool) (table : Positions) : Type 0 where
  pub space : IsSpacePage pages (image_of words 0)
  pub patch : PassesTest (is_below pages) (opening_pages roots) (pages_of words) good (opening_bits roots) (bits_of pages words) roots end_rank (pages_below pages) (root_positions roots) table
