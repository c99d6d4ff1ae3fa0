-- The pages of a space before and after an entry, where they are met, and which of them the entry writes.
use Rattle.std.specs.Prelude.{◌≡◌, ℕ, ◌≤◌, Bool, true, false, List, [], length, Option, Some, None, All}
use Rattle.ib_map.specs.Keys.{MapKey, end_rank}
use Rattle.ib_map.specs.Pairs.{Pairs}
use Rattle.ib_map.specs.declared.TheConstants.{LEAST_PAGES, MOST_PAGES}
use Rattle.ib_page.specs.Memory.{image_at, word_at}
use Rattle.ib_page.specs.Space.{IsSpacePage, is_taken}
use Rattle.ib_walk.specs.Words.{image_of, bits_of, memory_of}
use Rattle.ib_validate.specs.declared.position.PagePosition.{PagePosition}
use Rattle.ib_validate.specs.Bits.{KeepsSpace}
use Rattle.ib_validate.specs.PageTests.{PassesAt, bit_of}
use Rattle.ib_validate.specs.Patch.{IsSliced}
use Rattle.ib_validate.specs.PatchTest.{Positions, set_at, PassesTest, IsListed, fresh_of}
use Rattle.ib_validate.specs.Positions.{is_good_at, marks_of, positions_of}

-- an image and a position for each page, before and after an entry, a mark for each, and the list of the marked pages
pub record TreeMemory : Type 0 where
  pub before : List (List ℕ)
  pub after : List (List ℕ)
  pub met_before : List (Option PagePosition)
  pub met_after : List (Option PagePosition)
  pub written : List Bool
  pub pages : List ℕ

-- the lists have one place a page, the marked pages are listed once each, and the others have the same image before and after
pub record IsTreeMemory (t : TreeMemory) : Type 0 where
  pub after : length t.after ≡ length t.before
  pub met_before : length t.met_before ≡ length t.before
  pub met_after : length t.met_after ≡ length t.before
  pub written : length t.written ≡ length t.before
  pub some : LEAST_PAGES ≤ length t.before
  pub few : length t.before ≤ MOST_PAGES
  pub same : (page : ℕ) → marks_of t.written page ≡ false → image_at t.after page ≡ image_at t.before page
  pub listed : IsListed (marks_of t.written) t.pages (length t.before)

-- no entry is under way
pub record IsSettled (t : TreeMemory) : Type 0 where
  pub images : t.after ≡ t.before
  pub positions : positions_of t.met_after ≡ positions_of t.met_before
  pub unwritten : (page : ℕ) → marks_of t.written page ≡ false
  pub pages : t.pages ≡ []

-- where the pages of a new space are met: the root alone, as a leaf with all keys
abbrev pub opening_positions : Positions
opening_positions = set_at (λ page. None) 1 (Some (record { tree = 1; height = 0; low = 0; high = end_rank }))

-- the bits of a space's pages
abbrev pub image_bits : List (List ℕ) → ℕ → ℕ
image_bits images = bits_of (length images) (word_at images)

-- what is asked of the written pages at these positions, beside the visits: each passes by itself, page 0 keeps the bits of the others, and the
-- leaves have what the target has
pub record PassesAtAll (before after : List (List ℕ)) (table : Positions) (written : List Bool) (pages : List ℕ) (key : MapKey) (target : Pairs) : Type 0 where
  pub each : All (λ p. PassesAt (memory_of after) end_rank table (bit_of (is_taken (image_at after 0) p)) p) pages
  pub space : KeepsSpace before after written
  pub sliced : IsSliced (memory_of after) (fresh_of pages table 1) target key

-- The pages after the entry pass the test, with these positions: those that it writes make one tree with the others, have what the
-- target has, and leave a space page
pub record IsTreePatch (t : TreeMemory) (table : Positions) (key : MapKey) (target : Pairs) : Type 0 where
  pub passes : PassesTest (marks_of t.written) (memory_of t.before) (memory_of t.after) (is_good_at (memory_of t.after)) (image_bits t.before) (image_bits t.after)
      1 end_rank t.pages (positions_of t.met_before) table
  pub sliced : IsSliced (memory_of t.after) (fresh_of t.pages table 1) target key
  pub space : marks_of t.written 0 ≡ true → IsSpacePage (length t.after) (image_of (word_at t.after) 0)
