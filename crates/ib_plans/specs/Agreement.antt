-- A work set beside memories: of which its pages are those, and when its changed images are those of a plan.
use Rattle.std.specs.Prelude.{◌≡◌, ◌≢◌, ℕ, zero, suc, ◌+◌, ◌<◌, ◌≤◌, Bool, true, false, List, [], ◌∷◌, map, nat_lt, Option, Some, None, IsSome, IsSomeAnd, IfSome, ◌^◌, if◌then◌else◌, length, slice_index}
use Rattle.ib_map.specs.Keys.{MapKey}
use Rattle.ib_page.specs.declared.space.TheConstants.{MAPPED_PAGES}
use Rattle.ib_page.specs.Form.{page_of}
use Rattle.std.specs.List.{All}
use Rattle.ib_page.specs.Image.{IsTreePage, IsFormed}
use Rattle.ib_page.specs.Space.{is_taken, space_clock_of, IsSpacePage}
use Rattle.ib_page.specs.Work.{WorkPage, changed_of, with_changed}
use Rattle.ib_walk.specs.Pages.{PageState, PageMemory}
use Rattle.ib_walk.specs.Words.{state_of}
use Rattle.ib_walk.specs.Search.{child_for}
use Rattle.ib_walk.specs.Trees.{height_of, free_page, IsLawful}
use Rattle.ib_plans.specs.Marks.{ticked, with_bit}
use Rattle.ib_plans.specs.Moves.{Move, HasMoved}

-- the state of an image, where there is one
abbrev pub state_or_free : Option (List ℕ) → PageState
state_or_free None = free_page
state_or_free (Some image) = state_of (page_of image)

-- the pages of a work set as they are changed so far; a page that isn't there counts as free
abbrev pub memory_in : List WorkPage → PageMemory
memory_in work page = state_or_free (changed_of page work)

abbrev pub IsThere : List WorkPage → ℕ → Type 0
IsThere work page = IsSome (changed_of page work)

-- the bits of page 0, 0 or 1 for each page of a space of so many
abbrev pub bits_in : ℕ → List ℕ → ℕ → ℕ
bits_in pages image page = if nat_lt page pages then (if is_taken image page then 1 else 0) else 0

-- an image is the space page with these bits
abbrev pub HasBits : ℕ → (ℕ → ℕ) → List ℕ → Type 0
HasBits pages bits image = IsSpacePage pages image × ((page : ℕ) → bits page ≡ bits_in pages image page)

-- the pages of the key, from this one, which has this height, down to the leaf
abbrev pub path_down : PageMemory → MapKey → ℕ → ℕ → List ℕ
path_down memory key zero page = page ∷ []
path_down memory key (suc height) page = page ∷ path_down memory key height (child_for key 0 (memory page).records)

-- .. from the root down
abbrev pub path_of : PageMemory → MapKey → ℕ → List ℕ
path_of memory key root = path_down memory key (height_of memory root) root

-- the pages of the work set are those of this lawful memory, and the path is the key's in the tree of the root
pub record Agrees (pages roots root : ℕ) (key : MapKey) (path : List ℕ) (work : List WorkPage) (memory : PageMemory) (bits : ℕ → ℕ) : Type 0 where
  pub lawful : IsLawful memory bits roots
  pub few : pages ≤ MAPPED_PAGES
  pub some : 0 < root
  pub within : root ≤ roots
  pub way : path ≡ path_of memory key root
  pub same : (page : ℕ) → page ≢ 0 → IsThere work page → memory_in work page ≡ memory page
  pub space : IfSome (changed_of 0 work) (HasBits pages bits)

-- the pages with their images as read
abbrev pub reads_of : List WorkPage → List (ℕ × List ℕ)
reads_of work = map (λ w. (w.page, w.before)) work

-- how often the space page's clock rises
abbrev pub space_ticks : (ℕ → Bool) → ℕ
space_ticks touched = if touched 0 then 1 else 0

-- the changed images are those of a plan: each page that is touched is there, the pages that are there are as planned, with their clocks ticked, their records stand as the plan moves them, and the space page has the planned bits. The images as read stay, and so does each image of a page that is not touched, word for word
pub record IsPlanned (pages : ℕ) (memory planned : PageMemory) (bits : ℕ → ℕ) (touched : ℕ → Bool) (moves : ℕ → Move) (old new : List WorkPage) : Type 0 where
  pub reads : reads_of new ≡ reads_of old
  pub there : (page : ℕ) → touched page ≡ true → IsThere new page
  pub same : (page : ℕ) → page ≢ 0 → IsThere new page → memory_in new page ≡ ticked memory touched planned page
  pub moved : (page : ℕ) → page ≢ 0 → HasMoved (moves page) (changed_of page old) (changed_of page new)
  pub kept : (page : ℕ) → touched page ≡ false → changed_of page new ≡ changed_of page old
  pub space : IfSome (changed_of 0 new) (HasBits pages bits)
  pub clock : IfSome (changed_of 0 old) (λ was. IfSome (changed_of 0 new) (λ image. space_clock_of image ≡ space_clock_of was + space_ticks touched))

-- only the changed image of one page is another: a page that is formed, in this state
pub record Sets (page : ℕ) (to : PageState) (old new : List WorkPage) : Type 0 where
  pub image : List ℕ
  pub work : new ≡ with_changed page image old
  pub formed : IsFormed image
  pub state : state_of (page_of image) ≡ to

-- the modify clock one higher
abbrev pub tick : PageState → PageState
tick page = record { kind = page.kind; level = page.level; prev = page.prev; next = page.next; clock = page.clock + 1; records = page.records }

-- the last page of a path, 0 where there is none
abbrev pub last_of : List ℕ → ℕ
last_of [] = 0
last_of (page ∷ []) = page
last_of (page ∷ next ∷ pages) = last_of (next ∷ pages)

-- these pages are there, and are pages of a tree
abbrev pub HasTreePages : List ℕ → List WorkPage → Type 0
HasTreePages pages work = All (λ page. IsSomeAnd (changed_of page work) IsTreePage) pages

-- a page's clock, and that of the space page, may rise
abbrev pub MayTick : List WorkPage → Type 0
MayTick work = ((page : ℕ) → (memory_in work page).clock < 2 ^ 63) × IfSome (changed_of 0 work) (λ image. space_clock_of image < 2 ^ 63)

-- the bits of all pages that the space page has one for
abbrev pub taken_bits : List ℕ → ℕ → ℕ
taken_bits image page = if is_taken image page then 1 else 0

-- the bits with these pages taken, or given back
abbrev pub with_bits : List ℕ → ℕ → (ℕ → ℕ) → ℕ → ℕ
with_bits [] bit bits = bits
with_bits (x ∷ xs) bit bits = with_bits xs bit (with_bit x bit bits)

-- page 0 has the bits of these pages set to this, 1 where they are taken and 0 where they are given back, and its clock is one higher
pub record SetsBits (bit : ℕ) (pages : List ℕ) (old new : List WorkPage) : Type 0 where
  pub was : List ℕ
  pub image : List ℕ
  pub before : changed_of 0 old ≡ Some was
  pub work : new ≡ with_changed 0 image old
  pub size : length image ≡ length was
  pub bits : (page : ℕ) → page < MAPPED_PAGES → taken_bits image page ≡ with_bits pages bit (taken_bits was) page
  pub clock : space_clock_of image ≡ space_clock_of was + 1
  pub behind : (i : ℕ) → 64 < i → slice_index image i ≡ slice_index was i

-- a plan without page 0: the tree's pages are those of the plan, and their records stand as it moves them; page 0 and each page that is not touched is as it was; these pages have this bit in the plan, 1 where they were used and 0 where they were freed
pub record IsClimbed (bit : ℕ) (pages : List ℕ) (memory planned : PageMemory) (bits before : ℕ → ℕ) (touched : ℕ → Bool) (moves : ℕ → Move) (old new : List WorkPage) : Type 0 where
  pub reads : reads_of new ≡ reads_of old
  pub there : (page : ℕ) → page ≢ 0 → touched page ≡ true → IsThere new page
  pub same : (page : ℕ) → page ≢ 0 → IsThere new page → memory_in new page ≡ ticked memory touched planned page
  pub moved : (page : ℕ) → page ≢ 0 → HasMoved (moves page) (changed_of page old) (changed_of page new)
  pub kept : (page : ℕ) → page ≢ 0 → touched page ≡ false → changed_of page new ≡ changed_of page old
  pub space : changed_of 0 new ≡ changed_of 0 old
  pub bits_are : (page : ℕ) → bits page ≡ with_bits pages bit before page
  pub zero : touched 0 ≡ nat_lt 0 (length pages)
