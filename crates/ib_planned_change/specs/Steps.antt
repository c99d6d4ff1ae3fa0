-- What the steps of a change say of the images, for every kept log that these are behind.
use Rattle.std.specs.Prelude.{◌≡◌, ◌≢◌, ℕ, ◌+◌, ◌<◌, false, List, length, slice_index, unwrap_or, IfSome, Some}
use Rattle.ib_map.specs.Keys.{MapKey}
use Rattle.ib_map.specs.declared.call.Change.TheVariants.{Insert}
use Rattle.ib_logrec.specs.declared.entry.Entry.{Entry}
use Rattle.ib_logrec.specs.declared.fault.FullKind.{FullKind}
use Rattle.ib_logrec.specs.Log.{memory_after, by_place}
use Rattle.ib_page.specs.Work.{WorkPage}
use Rattle.ib_walk.specs.Full.{is_too_high}
use Rattle.ib_walk.specs.Pages.{PageState, PageMemory, Tree}
use Rattle.ib_walk.specs.Search.{page_below}
use Rattle.ib_walk.specs.Trees.{height_of}
use Rattle.ib_walk.specs.Words.{bits_of}
use Rattle.ib_plans.specs.Agreement.{IsThere, path_of}
use Rattle.ib_plans.specs.Merge.{siblings_of}
use Rattle.ib_split.specs.Inserts.{HasFresh}
use Rattle.ib_tree.specs.TreeLog.{opening}
use Rattle.ib_planned_log.specs.LeafChange.{kept_pages, leaf_after}
use Rattle.ib_planned_change.specs.Copies.{IsBehind}
use Rattle.ib_planned_change.specs.Full.{full_behind}

-- what holds of the pages of every such log
abbrev pub ForAllPages : List (List ℕ) → (PageMemory → Type 0) → Type 0
ForAllPages images P = (log : List Entry) → IsBehind log images → P (kept_pages (length images) log)

-- the path is the key's
abbrev pub IsPathForAll : List (List ℕ) → MapKey → List ℕ → Type 0
IsPathForAll images key path = ForAllPages images (λ m. path ≡ path_of m key 1)

-- the page is the key's leaf, and is so
abbrev pub IsLeafForAll : List (List ℕ) → MapKey → ℕ → (PageState → Type 0) → Type 0
IsLeafForAll images key leaf P = (log : List Entry) → IsBehind log images → (leaf ≡ leaf_after (length images) log key) × P (kept_pages (length images) log leaf)

-- the page is a node of the key's path
abbrev pub IsNodeForAll : List (List ℕ) → MapKey → ℕ → Type 0
IsNodeForAll images key page = ForAllPages images (λ m. (depth : ℕ) × (depth < height_of m 1) × (page ≡ page_below m key depth 1))

-- the page is one of the tree, and so is the leaf behind it, where there is one
abbrev pub IsBeforeTree : PageMemory → ℕ → Type 0
IsBeforeTree m page = ((m page).kind ≡ Tree) × ((m page).next ≢ 0 → (m (m page).next).kind ≡ Tree)

-- the leaf behind a page is there, where there is one
abbrev pub HasBehind : PageMemory → List WorkPage → ℕ → Type 0
HasBehind m work page = (m page).next ≢ 0 → IsThere work (m page).next

-- the pages beside the key's child under a node are there
abbrev pub HasBeside : PageMemory → MapKey → List WorkPage → ℕ → Type 0
HasBeside m key work parent = let t = siblings_of key (m parent).records in
    IfSome t.left (λ left. IsThere work left.1) × IfSome t.right (λ right. IsThere work right.1)

-- the rightmost of the key's child under a node and the pages beside it
abbrev pub last_beside : PageMemory → MapKey → ℕ → ℕ
last_beside m key parent = let t = siblings_of key (m parent).records in (unwrap_or t.right t.here).1

-- .. under the lowest node of a path, which stands before the last page
abbrev pub IsLastOf : PageMemory → MapKey → List ℕ → ℕ → Type 0
IsLastOf m key path last = (i : ℕ) → i + 2 ≡ length path → last ≡ last_beside m key (slice_index path i)

-- the leaf behind that one is there
abbrev pub HasLastBehind : PageMemory → MapKey → List WorkPage → List ℕ → Type 0
HasLastBehind m key work path = (i : ℕ) → i + 2 ≡ length path → HasBehind m work (last_beside m key (slice_index path i))

-- the fresh pages are those that an insert of the key takes, and the tree need not grow too high
abbrev pub IsFreshForAll : List (List ℕ) → MapKey → List ℕ → Type 0
IsFreshForAll images key fresh = (log : List Entry) → IsBehind log images
    → (is_too_high 1 (kept_pages (length images) log) key 1 ≡ false)
    × HasFresh (length images) 1 1 key fresh (kept_pages (length images) log) (bits_of (length images) (memory_after (by_place opening (length images)) log))

-- an insert of the key finds this full
abbrev pub IsFullForAll : List (List ℕ) → MapKey → FullKind → Type 0
IsFullForAll images key why = (log : List Entry) (value : ℕ) → IsBehind log images → full_behind (length images) log (Insert key value) ≡ Some why
