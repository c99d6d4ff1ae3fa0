-- What a test of the words of all pages comes to.
use Rattle.std.specs.Prelude.{◌≡◌, ℕ, ◌*◌, true, List, length, slice_index}
use Rattle.ib_map.specs.declared.TheConstants.{PAGE_WORDS}
use Rattle.ib_map.specs.Space.{has_pages}
use Rattle.ib_walk.specs.Words.{IsLawfulMemory}
use Rattle.ib_c.specs.declared.status.Status.{Status}
use Rattle.ib_c.specs.declared.status.Status.TheVariants.{Done, BadPages, OutOfMemory, Faulty}
use Rattle.ib_c.specs.Statuses.{status_number}

-- the words are those of so many pages, as many as a space may have
pub record ArePages (words : List ℕ) (pages : ℕ) : Type 0 where
  pub space : has_pages pages ≡ true
  pub size : length words ≡ pages * PAGE_WORDS

-- .. by place a lawful memory of one tree, whose root is page 1
abbrev pub IsTree : List ℕ → ℕ → Type 0
IsTree words pages = IsLawfulMemory pages 1 (slice_index words)

-- the words are those of a tree or of none, or of no pages that a space may have, or memory lacks
abbrev pub IsChecked : List ℕ → Status → Type 0
IsChecked words Done = (pages : ℕ) × ArePages words pages × IsTree words pages
IsChecked words Faulty = (pages : ℕ) × ArePages words pages × ¬ IsTree words pages
IsChecked words BadPages = (pages : ℕ) → ¬ ArePages words pages
IsChecked words OutOfMemory = (pages : ℕ) × ArePages words pages
IsChecked words other = ⊥

abbrev pub HasCheckedTree : List ℕ → ℕ → Type 0
HasCheckedTree words r = (s : Status) × (r ≡ status_number s) × IsChecked words s
