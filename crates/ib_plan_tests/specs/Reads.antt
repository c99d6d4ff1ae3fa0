-- Work sets whose pages were read from one memory.
use Rattle.std.specs.Prelude.{◌≡◌, ℕ, ◌<◌, ◌^◌, List, length, IfSome, MatchOption}
use Rattle.ib_map.specs.Keys.{MapKey}
use Rattle.ib_page.specs.Form.{page_of}
use Rattle.ib_page.specs.Memory.{word_at}
use Rattle.ib_page.specs.Space.{space_clock_of}
use Rattle.ib_page.specs.Work.{WorkPage, changed_of}
use Rattle.ib_walk.specs.Words.{state_of, image_of, memory_of, IsLawfulMemory}
use Rattle.ib_plans.specs.Merge.{siblings_of}
use Rattle.ib_plans.specs.Agreement.{memory_in, path_of}
use Rattle.ib_merge.specs.Deletes.{HasNext}

-- this is a page's image in the memory, and its clock may tick
pub record IsImageAt (memory : List (List ℕ)) (page : ℕ) (image : List ℕ) : Type 0 where
  pub is : image_of (word_at memory) page ≡ image
  pub clock : (state_of (page_of image)).clock < 2 ^ 63
  pub space_clock : space_clock_of image < 2 ^ 63

-- each page of the work set has its image in the memory
abbrev pub IsReadFrom : List (List ℕ) → List WorkPage → Type 0
IsReadFrom memory work = (page : ℕ) → IfSome (changed_of page work) (IsImageAt memory page)

-- a lawful memory of one tree, the path of a key in it, and a work set with images of it
pub record IsRead (memory : List (List ℕ)) (key : MapKey) (path : List ℕ) (work : List WorkPage) : Type 0 where
  pub lawful : IsLawfulMemory (length memory) 1 (word_at memory)
  pub way : path ≡ path_of (memory_of memory) key 1
  pub read : IsReadFrom memory work

-- the leaf behind the right one of the pages beside the key's child under a node is there
abbrev pub HasBehind : MapKey → List WorkPage → ℕ → Type 0
HasBehind key work parent = let t = siblings_of key (memory_in work parent).records in
    MatchOption t.right (HasNext work t.here.1) (λ right. HasNext work right.1)
