-- What a planned delete asks of its work set, and what its steps do to it.
use Rattle.std.specs.Prelude.{◌≡◌, ◌≢◌, ℕ, ◌+◌, ◌<◌, ◌≤◌, ◌^◌, ◌++◌, Bool, List, [], ◌∷◌, length, Option, Some, None, ◌⊎◌, IfSome, IsSomeAnd, MatchOption, slice_get, if◌then◌else◌}
use Rattle.std.specs.List.{All}
use Rattle.ib_map.specs.Keys.{MapKey, rank, end_rank}
use Rattle.ib_map.specs.Pairs.{Rises, without}
use Rattle.ib_merge.specs.declared.edits.Merger.{Merger}
use Rattle.ib_heap.specs.declared.TheConstants.{MOST_RECORDS}
use Rattle.ib_page.specs.declared.space.TheConstants.{MAPPED_PAGES}
use Rattle.ib_page.specs.Image.{IsTreePage}
use Rattle.ib_page.specs.Space.{space_clock_of}
use Rattle.ib_page.specs.Work.{WorkPage, changed_of}
use Rattle.ib_walk.specs.Pages.{PageState, PageMemory}
use Rattle.ib_plans.specs.Marks.{with_bit}
use Rattle.ib_plans.specs.Moves.{Move, Takes, Fills, Frees, unmoved, with_move, HasMoved}
use Rattle.ib_plans.specs.Split.{with_records, with_prev}
use Rattle.ib_plans.specs.Merge.{Siblings, siblings_of, fit_one, freed_page, joined, lowered}
use Rattle.ib_plans.specs.Delete.{planned_delete}
use Rattle.ib_plans.specs.Agreement.{IsThere, memory_in, Agrees, IsPlanned, IsClimbed, Sets, tick, HasTreePages, MayTick, taken_bits}

-- the pages beside the key's child under a node are there
abbrev pub HasSiblings : MapKey → List WorkPage → ℕ → Type 0
HasSiblings key work parent = let t = siblings_of key (memory_in work parent).records in
    IfSome t.left (λ left. IsThere work left.1) × IfSome t.right (λ right. IsThere work right.1)

-- the leaf behind a page is there, where there is one
abbrev pub HasNext : List WorkPage → ℕ → Type 0
HasNext work page = (memory_in work page).next ≢ 0 → IsThere work (memory_in work page).next

-- the nodes of a path, which are all its pages but the last
abbrev pub nodes_on_path : List ℕ → List ℕ
nodes_on_path [] = []
nodes_on_path (page ∷ []) = []
nodes_on_path (page ∷ next ∷ pages) = page ∷ nodes_on_path (next ∷ pages)

-- the images of the path, of the pages beside each page of it under its parent, of the leaf behind the last of the leaves so named, and of page 0 where there are several levels
pub record HasDeleteImages (path : List ℕ) (key : MapKey) (work : List WorkPage) : Type 0 where
  pub path_there : HasTreePages path work
  pub siblings_there : All (HasSiblings key work) (nodes_on_path path)
  pub behind_there : All (λ parent. MatchOption (siblings_of key (memory_in work parent).records).right
      (HasNext work (siblings_of key (memory_in work parent).records).here.1) (λ right. HasNext work right.1)) (nodes_on_path path)
  pub space_there : 1 < length path → IsThere work 0

-- a delete may be planned: for one memory whose pages these are, all that it reads and writes is there
pub record CanDelete (path : List ℕ) (key : MapKey) (work : List WorkPage) : Type 0 where
  pub pages : ℕ
  pub roots : ℕ
  pub root : ℕ
  pub memory : PageMemory
  pub bits : ℕ → ℕ
  pub agrees : Agrees pages roots root key path work memory bits
  pub images : HasDeleteImages path key work
  pub clocks : MayTick work

-- the plan of the delete, for every memory whose pages these are
abbrev pub IsPlannedDeleteForAll : List ℕ → MapKey → List WorkPage → List WorkPage → Type 0
IsPlannedDeleteForAll path key old new = (pages roots root : ℕ) (memory : PageMemory) (bits : ℕ → ℕ)
    → Agrees pages roots root key path old memory bits
    → let s = planned_delete memory bits key root in IsPlanned pages memory s.memory s.bits s.touched s.moves old new

-- a page without the record of a key
abbrev pub without_record : MapKey → PageState → PageState
without_record key page = with_records (without key page.records) page

-- which two children of a node are merged: the left sibling and the child where both fit one page, else the child and the right sibling where both do, else none
abbrev pub merger_right : PageMemory → MapKey × ℕ → Option (MapKey × ℕ) → Option Merger
merger_right memory here None = None
merger_right memory here (Some right) = if fit_one memory here.1 right.1 then Some (record { left = here.1; gone = right; beside = right.1 }) else None

abbrev pub merger_left : PageMemory → Option (MapKey × ℕ) → MapKey × ℕ → Option Merger → Option Merger
merger_left memory None here other = other
merger_left memory (Some left) here other = if fit_one memory left.1 here.1 then Some (record { left = left.1; gone = here; beside = left.1 }) else other

abbrev pub merger_of : PageMemory → Siblings → Option Merger
merger_of memory t = merger_left memory t.left t.here (merger_right memory t.here t.right)

-- a page of the tree is there, whose number fits its type
abbrev pub HasChild : List WorkPage → MapKey × ℕ → Type 0
HasChild work x = IsSomeAnd (changed_of x.1 work) IsTreePage × (x.1 < 2 ^ 32)

-- the key's child under a node and those beside it are there, and the key belongs to the node
pub record CanChoose (parent : ℕ) (key : MapKey) (work : List WorkPage) : Type 0 where
  pub parent_there : IsSomeAnd (changed_of parent work) IsTreePage
  pub first : IsSomeAnd (slice_get (memory_in work parent).records 0) (λ r. rank r.0 ≤ rank key)
  pub left : IfSome (siblings_of key (memory_in work parent).records).left (HasChild work)
  pub here : HasChild work (siblings_of key (memory_in work parent).records).here
  pub right : IfSome (siblings_of key (memory_in work parent).records).right (HasChild work)

-- two pages that fit one may be merged: they, their parent and the leaf behind are there, and are different pages
pub record CanMerge (parent left gone beside : ℕ) (work : List WorkPage) : Type 0 where
  pub parent_there : IsSomeAnd (changed_of parent work) IsTreePage
  pub left_there : IsSomeAnd (changed_of left work) IsTreePage
  pub gone_there : IsSomeAnd (changed_of gone work) IsTreePage
  pub next_there : (memory_in work gone).next ≢ 0 → IsSomeAnd (changed_of (memory_in work gone).next work) IsTreePage
  pub next_level : (memory_in work gone).next ≢ 0 → (memory_in work (memory_in work gone).next).level ≡ 0
  pub level : (memory_in work left).level ≡ (memory_in work gone).level
  pub few : length (memory_in work left).records + length (memory_in work gone).records ≤ MOST_RECORDS
  pub ascends : Rises 0 ((memory_in work left).records ++ (memory_in work gone).records) end_rank
  pub apart : left ≢ gone
  pub parent_left : parent ≢ left
  pub parent_gone : parent ≢ gone
  pub next_left : (memory_in work gone).next ≢ 0 → (memory_in work gone).next ≢ left
  pub next_gone : (memory_in work gone).next ≢ 0 → (memory_in work gone).next ≢ gone
  pub next_parent : (memory_in work gone).next ≢ 0 → (memory_in work gone).next ≢ parent
  pub beside_is : (beside ≡ left) ⊎ (beside ≡ gone)
  pub parent_clock : (memory_in work parent).clock < 2 ^ 63
  pub beside_clock : (memory_in work beside).clock < 2 ^ 63
  pub next_clock : (memory_in work gone).next ≢ 0 → (memory_in work (memory_in work gone).next).clock < 2 ^ 63

-- two pages of the tree as one: the left one has the records of both, and the other one is free
pub record IsJoined (left gone : ℕ) (old new : List WorkPage) : Type 0 where
  pub one : List WorkPage
  pub left_is : Sets left (joined (memory_in old left) (memory_in old gone)) old one
  pub gone_is : Sets gone (freed_page (memory_in old gone)) one new
  pub filled : HasMoved Fills (changed_of left old) (changed_of left one)

-- .. and the parent has lost the record of the page that is gone, a leaf behind is linked back to the left one, and the clock of the sibling has ticked
pub record IsMerged (parent left : ℕ) (gone : MapKey × ℕ) (beside : ℕ) (old new : List WorkPage) : Type 0 where
  pub two : List WorkPage
  pub three : List WorkPage
  pub four : List WorkPage
  pub both : IsJoined left gone.1 old two
  pub parent_is : Sets parent (tick (without_record gone.0 (memory_in old parent))) two three
  pub alone : (memory_in old gone.1).next ≡ 0 → four ≡ three
  pub next : (memory_in old gone.1).next ≢ 0 → Sets (memory_in old gone.1).next (tick (with_prev left (memory_in old (memory_in old gone.1).next))) three four
  pub beside_is : Sets beside (tick (memory_in four beside)) four new
  pub moved : (n : ℕ) → HasMoved (with_move gone.1 Frees (with_move left Fills (with_move parent (Takes gone.0) unmoved)) n) (changed_of n old) (changed_of n new)

-- a root that has one child may be lifted
pub record CanLift (root : ℕ) (work : List WorkPage) : Type 0 where
  pub root_there : IsSomeAnd (changed_of root work) IsTreePage
  pub pair : MapKey × ℕ
  pub one : (memory_in work root).records ≡ pair ∷ []
  pub child_there : HasChild work pair
  pub apart : root ≢ pair.1

-- the root has the records and the level of its child, which is free
pub record IsLifted (root child : ℕ) (old new : List WorkPage) : Type 0 where
  pub one : List WorkPage
  pub root_is : Sets root (lowered (memory_in old root) (memory_in old child)) old one
  pub child_is : Sets child (freed_page (memory_in old child)) one new
  pub moved : (n : ℕ) → HasMoved (with_move child Frees (with_move root Fills unmoved) n) (changed_of n old) (changed_of n new)

-- these pages have their bits set, one after the other
abbrev pub AreTaken : (ℕ → ℕ) → List ℕ → Type 0
AreTaken bits [] = Unit {0}
AreTaken bits (x ∷ xs) = (bits x ≢ 0) × (x < MAPPED_PAGES) × AreTaken (with_bit x 0 bits) xs

-- these pages are taken, and may be given back
pub record MayGivePages (pages : List ℕ) (work : List WorkPage) : Type 0 where
  pub there : IsThere work 0
  pub taken : IfSome (changed_of 0 work) (λ image. AreTaken (taken_bits image) pages)
  pub clock : IfSome (changed_of 0 work) (λ image. space_clock_of image < 2 ^ 63)

-- the plan but for page 0; these pages were freed, and had been taken
pub record IsDeleteClimbed (freed : List ℕ) (memory planned : PageMemory) (bits before : ℕ → ℕ) (touched : ℕ → Bool) (moves : ℕ → Move) (old new : List WorkPage) : Type 0 where
  pub climbed : IsClimbed 0 freed memory planned bits before touched moves old new
  pub taken : AreTaken before freed

-- .. for every memory whose pages these were
abbrev pub IsDeleteClimbedForAll : List ℕ → MapKey → List ℕ → List WorkPage → List WorkPage → Type 0
IsDeleteClimbedForAll path key freed old new = (pages roots root : ℕ) (memory : PageMemory) (bits : ℕ → ℕ)
    → Agrees pages roots root key path old memory bits
    → let s = planned_delete memory bits key root in IsDeleteClimbed freed memory s.memory s.bits bits s.touched s.moves old new
