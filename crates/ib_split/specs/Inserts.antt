-- What a planned insert asks of its work set, and what a split and a raise do to it.
use Rattle.std.specs.Prelude.{◌≡◌, ◌≢◌, ℕ, ◌<◌, ◌≤◌, ◌^◌, true, List, length, take, None, IsSomeAnd, IfSome}
use Rattle.std.specs.List.{All}
use Rattle.ib_map.specs.Keys.{MapKey}
use Rattle.ib_map.specs.Pairs.{put, value_at}
use Rattle.ib_heap.specs.declared.TheConstants.{MOST_LEVEL, MOST_RECORDS}
use Rattle.ib_page.specs.Image.{IsTreePage, IsFormed}
use Rattle.ib_page.specs.Space.{space_clock_of}
use Rattle.ib_page.specs.Work.{WorkPage, changed_of}
use Rattle.ib_walk.specs.Pages.{PageState, PageMemory}
use Rattle.ib_walk.specs.Trees.{height_of, most_height}
use Rattle.ib_walk.specs.Full.{need_of, is_root_full, free_of, chosen}
use Rattle.ib_plans.specs.Split.{with_records, with_prev, right_part, first_key, lower_half, upper_half, raised_left, raised_right, raised_root}
use Rattle.ib_plans.specs.Insert.{planned_insert, AreFresh}
use Rattle.ib_plans.specs.Moves.{Fills, unmoved, with_move, HasMoved}
use Rattle.ib_plans.specs.Agreement.{IsThere, memory_in, Agrees, IsPlanned, IsClimbed, Sets, tick, HasTreePages, MayTick, last_of, taken_bits}

-- the fresh pages are the lowest free ones, as many as the insert takes, and it raises no root that is as high as it may be
pub record HasFresh (pages roots root : ℕ) (key : MapKey) (fresh : List ℕ) (memory : PageMemory) (bits : ℕ → ℕ) : Type 0 where
  pub chosen_are : fresh ≡ chosen bits pages (need_of memory key root)
  pub enough : need_of memory key root ≤ free_of bits pages
  pub low : is_root_full memory key root ≡ true → height_of memory root < most_height roots

-- the images of the path, of the leaf behind the key's leaf where that is full, of the fresh pages, and of page 0 where there are any
pub record HasInsertImages (path fresh : List ℕ) (work : List WorkPage) : Type 0 where
  pub path_there : HasTreePages path work
  pub fresh_there : All (IsThere work) fresh
  pub next_there : length (memory_in work (last_of path)).records ≡ MOST_RECORDS → (memory_in work (last_of path)).next ≢ 0 → IsThere work (memory_in work (last_of path)).next
  pub space_there : 0 < length fresh → IsThere work 0

-- an insert may be planned: for one memory whose pages these are, all that it reads and writes is there
pub record CanInsert (path fresh : List ℕ) (key : MapKey) (work : List WorkPage) : Type 0 where
  pub pages : ℕ
  pub roots : ℕ
  pub root : ℕ
  pub memory : PageMemory
  pub bits : ℕ → ℕ
  pub agrees : Agrees pages roots root key path work memory bits
  pub fits : HasFresh pages roots root key fresh memory bits
  pub images : HasInsertImages path fresh work
  pub clocks : MayTick work

-- the plan of the insert, for a memory whose pages these are
abbrev pub IsPlannedInsert : List ℕ → MapKey → ℕ → ℕ → ℕ → PageMemory → (ℕ → ℕ) → List WorkPage → List WorkPage → Type 0
IsPlannedInsert fresh key value pages root memory bits old new =
    let g = planned_insert memory bits fresh key value root in IsPlanned pages memory g.memory g.bits g.touched g.moves old new

-- .. for every such memory
abbrev pub IsPlannedInsertForAll : List ℕ → List ℕ → MapKey → ℕ → List WorkPage → List WorkPage → Type 0
IsPlannedInsertForAll path fresh key value old new = (pages roots root : ℕ) (memory : PageMemory) (bits : ℕ → ℕ)
    → Agrees pages roots root key path old memory bits → HasFresh pages roots root key fresh memory bits
    → IsPlannedInsert fresh key value pages root memory bits old new

-- a page with one more record
abbrev pub with_record : MapKey → ℕ → PageState → PageState
with_record key value page = with_records (put key value page.records) page

-- a full page was split: with the record it has one too many, of which the first half stays, the other half stands in the fresh page, and a leaf behind it is linked back to that one. `first` is the first key of the fresh page
pub record IsSplit (page fresh : ℕ) (key : MapKey) (value : ℕ) (old : List WorkPage) (first : MapKey) (new : List WorkPage) : Type 0 where
  pub one : List WorkPage
  pub two : List WorkPage
  pub left : Sets page (tick (lower_half (with_record key value (memory_in old page)) fresh)) old one
  pub right : Sets fresh (tick (upper_half (with_record key value (memory_in old page)) page (memory_in old fresh).clock)) one two
  pub alone : (memory_in old page).next ≡ 0 → new ≡ two
  pub next : (memory_in old page).next ≢ 0 → Sets (memory_in old page).next (tick (with_prev fresh (memory_in old (memory_in old page).next))) two new
  pub key_is : first ≡ first_key (right_part (put key value (memory_in old page).records))
  pub moved : (n : ℕ) → HasMoved (with_move fresh Fills (with_move page Fills unmoved) n) (changed_of n old) (changed_of n new)

-- a full root was raised
pub record IsRaised (root left right : ℕ) (key : MapKey) (value : ℕ) (old new : List WorkPage) : Type 0 where
  pub one : List WorkPage
  pub two : List WorkPage
  pub at_root : Sets root (tick (raised_root (with_record key value (memory_in old root)) left right)) old one
  pub at_left : Sets left (tick (raised_left (with_record key value (memory_in old root)) right (memory_in old left).clock)) one two
  pub at_right : Sets right (tick (raised_right (with_record key value (memory_in old root)) left (memory_in old right).clock)) two new
  pub moved : (n : ℕ) → HasMoved (with_move left Fills (with_move right Fills (with_move root Fills unmoved)) n) (changed_of n old) (changed_of n new)

-- the leaf behind a page is there, and is another page than this one and the fresh one
pub record HasNeighbour (page fresh : ℕ) (work : List WorkPage) : Type 0 where
  pub there : (memory_in work page).next ≢ 0 → IsSomeAnd (changed_of (memory_in work page).next work) IsTreePage
  pub level : (memory_in work page).next ≢ 0 → (memory_in work (memory_in work page).next).level ≡ 0
  pub not_page : (memory_in work page).next ≢ page
  pub not_fresh : (memory_in work page).next ≢ 0 → (memory_in work page).next ≢ fresh
  pub clock : (memory_in work (memory_in work page).next).clock < 2 ^ 63

-- a record may be put into a page: it is a page of a tree, with room, without the key, and its clock may tick
pub record CanPut (page : ℕ) (key : MapKey) (work : List WorkPage) : Type 0 where
  pub tree : IsSomeAnd (changed_of page work) IsTreePage
  pub room : length (memory_in work page).records < MOST_RECORDS
  pub absent : value_at key (memory_in work page).records ≡ None
  pub clock : (memory_in work page).clock < 2 ^ 63

-- a full page without the key may be split
pub record CanSplit (page fresh : ℕ) (key : MapKey) (work : List WorkPage) : Type 0 where
  pub tree : IsSomeAnd (changed_of page work) IsTreePage
  pub free : IsSomeAnd (changed_of fresh work) IsFormed
  pub full : length (memory_in work page).records ≡ MOST_RECORDS
  pub absent : value_at key (memory_in work page).records ≡ None
  pub clock : (memory_in work page).clock < 2 ^ 63
  pub fresh_clock : (memory_in work fresh).clock < 2 ^ 63
  pub apart : page ≢ fresh
  pub next : HasNeighbour page fresh work

-- a full root without the key, which is not as high as can be, may be raised
pub record CanRaise (root left right : ℕ) (key : MapKey) (work : List WorkPage) : Type 0 where
  pub tree : IsSomeAnd (changed_of root work) IsTreePage
  pub left_free : IsSomeAnd (changed_of left work) IsFormed
  pub right_free : IsSomeAnd (changed_of right work) IsFormed
  pub full : length (memory_in work root).records ≡ MOST_RECORDS
  pub absent : value_at key (memory_in work root).records ≡ None
  pub low : (memory_in work root).level < MOST_LEVEL
  pub no_prev : (memory_in work root).prev ≡ 0
  pub no_next : (memory_in work root).next ≡ 0
  pub clock : (memory_in work root).clock < 2 ^ 63
  pub left_clock : (memory_in work left).clock < 2 ^ 63
  pub right_clock : (memory_in work right).clock < 2 ^ 63
  pub apart_left : root ≢ left
  pub apart_right : root ≢ right
  pub apart : left ≢ right

-- these pages are free, and may be taken
pub record MayTakePages (pages : List ℕ) (work : List WorkPage) : Type 0 where
  pub there : IsThere work 0
  pub free : IfSome (changed_of 0 work) (λ image. AreFresh (taken_bits image) pages)
  pub clock : IfSome (changed_of 0 work) (λ image. space_clock_of image < 2 ^ 63)

-- the plan of the insert but for page 0, with so many fresh pages used, for every memory whose pages these were
abbrev pub IsInsertClimbedForAll : List ℕ → List ℕ → MapKey → ℕ → ℕ → List WorkPage → List WorkPage → Type 0
IsInsertClimbedForAll path fresh key value used old new = (pages roots root : ℕ) (memory : PageMemory) (bits : ℕ → ℕ)
    → Agrees pages roots root key path old memory bits → HasFresh pages roots root key fresh memory bits
    → let g = planned_insert memory bits fresh key value root in IsClimbed 1 (take used fresh) memory g.memory g.bits bits g.touched g.moves old new
