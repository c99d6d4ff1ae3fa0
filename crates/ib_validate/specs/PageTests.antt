-- What is asked of each written page by itself, once it is known where all are met.
use Rattle.std.specs.Prelude.{Bool, ◌≡◌, ◌≢◌, ℕ, ◌+◌, ◌≤◌, ◌==◌, if◌then◌else◌, Some}
use Rattle.ib_heap.specs.declared.TheConstants.{MOST_RECORDS}
use Rattle.ib_walk.specs.Pages.{Free, PageMemory, IsSound}
use Rattle.ib_validate.specs.PatchTest.{Position, Positions, is_none, IsLinkedBy}

-- a leaf that ends where another begins, in the same tree
pub record IsLeafBefore (d e : Position) : Type 0 where
  pub tree : d.tree ≡ e.tree
  pub height : d.height ≡ 0
  pub ends : d.high ≡ e.low

-- a leaf that begins where another ends, in the same tree
pub record IsLeafBehind (d e : Position) : Type 0 where
  pub tree : d.tree ≡ e.tree
  pub height : d.height ≡ 0
  pub begins : d.low ≡ e.high

-- a leaf's link names the leaf that ends where it begins, and that leaf's names it. The first leaf has none
pub record IsLinkedLeft (new : PageMemory) (table : Positions) (page : ℕ) (e : Position) : Type 0 where
  pub first : e.low ≡ 0 → (new page).prev ≡ 0
  pub left : e.low ≢ 0 → (d : Position) × (table (new page).prev ≡ Some d) × IsLeafBefore d e × ((new (new page).prev).next ≡ page)

-- a leaf's link names the leaf that begins where it ends, and that leaf's names it. The last leaf has none
pub record IsLinkedRight (new : PageMemory) (end : ℕ) (table : Positions) (page : ℕ) (e : Position) : Type 0 where
  pub last : e.high ≡ end → (new page).next ≡ 0
  pub right : e.high ≢ end → (d : Position) × (table (new page).next ≡ Some d) × IsLeafBehind d e × ((new (new page).next).prev ≡ page)

-- a bit as a number
abbrev pub bit_of : Bool → ℕ
bit_of taken = if taken then 1 else 0

-- a page has its bit exactly where it is met. Page 0 has its bit, and is not met
abbrev pub HasItsBit : Positions → ℕ → ℕ → Type 0
HasItsBit table bit page = bit ≡ (if is_none (table page) then 0 else 1) + (if page == 0 then 1 else 0)

-- a page with the bit that it has: what `PassesTest` asks of each written page
pub record PassesAt (new : PageMemory) (end : ℕ) (table : Positions) (bit page : ℕ) : Type 0 where
  pub linked : (e : Position) → table page ≡ Some e → e.height ≡ 0 → IsLinkedBy new end table page e
  pub sound : page ≢ 0 → IsSound MOST_RECORDS (new page)
  pub taken : HasItsBit table bit page
  pub once : bit ≤ 1
  pub freed : bit ≡ 0 → (new page).kind ≡ Free
