-- Where pages are met, as the code keeps it: a position for each page, and a mark for each page that is written.
use Rattle.std.specs.Prelude.{◌≡◌, ℕ, zero, suc, Bool, true, false, ◌==◌, ◌&&◌, ◌||◌, List, [], ◌∷◌, Option, Some, None}
use Rattle.ib_map.specs.Keys.{MapKey, rank, end_rank}
use Rattle.ib_map.specs.Pairs.{Pairs}
use Rattle.ib_page.specs.Page.{rises}
use Rattle.ib_walk.specs.Pages.{PageKind, Tree, PageState, PageMemory}
use Rattle.ib_walk.specs.Walk.{Visit}
use Rattle.ib_validate.specs.declared.position.PagePosition.{PagePosition}
use Rattle.ib_validate.specs.PatchTest.{Position, Positions}

-- the end of a range: a key, or that of all keys
abbrev pub end_of : Option MapKey → ℕ
end_of None = end_rank
end_of (Some key) = rank key

abbrev pub position_in : PagePosition → Position
position_in p = record { tree = p.tree; height = p.height; low = rank p.low; high = end_of p.high }

abbrev pub position_if : Option PagePosition → Option Position
position_if None = None
position_if (Some p) = Some (position_in p)

-- where each page is met. Pages behind the list are not met
abbrev pub positions_of : List (Option PagePosition) → Positions
positions_of [] n = None
positions_of (x ∷ xs) zero = position_if x
positions_of (x ∷ xs) (suc n) = positions_of xs n

-- which pages have a mark
abbrev pub marks_of : List Bool → ℕ → Bool
marks_of [] n = false
marks_of (x ∷ xs) zero = x
marks_of (x ∷ xs) (suc n) = marks_of xs n

-- a step that may fail: where it says yes it leaves these positions, else there are none
abbrev pub IsStep : Option Positions → Bool → Positions → Type 0
IsStep o true table = o ≡ Some table
IsStep o false table = o ≡ None

-- what the visits answer: where they say yes they leave these positions, at which all old children are met again, else there are none such
abbrev pub AreVisits : Option Positions → (Positions → Bool) → Bool → Positions → Type 0
AreVisits o back true table = (o ≡ Some table) × (back table ≡ true)
AreVisits o back false table = (t : Positions) → o ≡ Some t → back t ≡ false

abbrev pub is_tree_page : PageKind → Bool
is_tree_page Tree = true
is_tree_page _ = false

-- whether the first key is the lowest of the range
abbrev pub starts : Pairs → ℕ → Bool
starts [] low = false
starts (x ∷ xs) low = rank x.0 == low

-- whether a page is a leaf, or a node of this height, with keys in this range: those of a node begin with the lowest
abbrev pub is_good_page : PageState → ℕ → ℕ → ℕ → Bool
is_good_page p height low high = is_tree_page p.kind && ((p.level == height) && (rises low p.records high && ((height == 0) || starts p.records low)))

abbrev pub is_good_at : PageMemory → ℕ → Visit → Bool
is_good_at m height v = is_good_page (m v.page) height v.low v.high
