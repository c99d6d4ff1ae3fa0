-- The test of a patch as it is made: a table of where each page is met, height by height.
use Rattle.ib_validate.specs.Patch.{LevelVisit, on_written}
use Rattle.std.specs.Prelude.{◌≡◌, ◌≢◌, ℕ, zero, suc, ◌+◌, ◌<◌, ◌≤◌, ◌++◌, Bool, true, false, not, ◌&&◌, ◌||◌, List, [], ◌∷◌, ◌==◌, Option, Some, None, if◌then◌else◌}
use Rattle.ib_heap.specs.declared.TheConstants.{MOST_LEVEL, MOST_RECORDS}
use Rattle.ib_page.specs.declared.space.TheConstants.{MAPPED_PAGES}
use Rattle.ib_walk.specs.Pages.{Free, PageMemory, IsSound}
use Rattle.ib_walk.specs.Walk.{Visit, children_of}
use Rattle.std.specs.List.{AllByRecursion}
use Rattle.ib_walk.specs.Trees.{weight_of, most_height}

-- where a page is met: in the tree of a root, at a height, with a range
pub record Position : Type 0 where
  pub tree : ℕ
  pub height : ℕ
  pub low : ℕ
  pub high : ℕ

-- of each page where it is met, or that it isn't
abbrev pub Positions : Type 0
Positions = ℕ → Option Position

abbrev pub visit_of : ℕ → Position → Visit
visit_of page e = record { page = page; low = e.low; high = e.high }

abbrev pub at_page : (ℕ → Visit → ℕ) → ℕ → ℕ → Option Position → ℕ
at_page f root page None = 0
at_page f root page (Some e) = if e.tree == root then f e.height (visit_of page e) else 0

-- what the first n pages weigh in a tree
abbrev pub positions_over : (ℕ → Visit → ℕ) → ℕ → Positions → ℕ → ℕ
positions_over f root table zero = 0
positions_over f root table (suc n) = at_page f root n (table n) + positions_over f root table n

-- the table is that of the memory's trees
abbrev pub ArePositionsOf : PageMemory → ℕ → ℕ → Positions → Type 0
ArePositionsOf m roots pages table = (root : ℕ) → 0 < root → root ≤ roots → (f : ℕ → Visit → ℕ) → weight_of f m root ≡ positions_over f root table pages

abbrev pub set_at : Positions → ℕ → Option Position → Positions
set_at table page met n = if n == page then met else table n

abbrev pub position_of : ℕ → ℕ → Visit → Position
position_of tree height v = record { tree = tree; height = height; low = v.low; high = v.high }

abbrev pub same_position : Option Position → Position → Bool
same_position None e = false
same_position (Some d) e = (d.tree == e.tree) && (d.height == e.height) && (d.low == e.low) && (d.high == e.high)

abbrev pub is_none : Option Position → Bool
is_none None = true
is_none (Some e) = false

-- the children that a written page of the old tree has are met no more
abbrev pub detach : List Visit → Positions → Positions
detach [] now = now
detach (k ∷ ks) now = detach ks (set_at now k.page None)

-- The new children are met: none of them is met already, and a page that isn't written is met where it was.
abbrev pub attach : (ℕ → Bool) → Positions → ℕ → ℕ → List Visit → Positions → Option Positions
attach written old tree height [] now = Some now
attach written old tree height (k ∷ ks) now =
    if is_none (now k.page) && (written k.page || same_position (old k.page) (position_of tree height k))
    then attach written old tree height ks (set_at now k.page (Some (position_of tree height k)))
    else None

abbrev pub children_at : PageMemory → ℕ → Visit → List Visit
children_at m zero v = []
children_at m (suc h) v = children_of (m v.page).records v.high

-- the height below a height
abbrev pub height_below : ℕ → ℕ
height_below zero = 0
height_below (suc h) = h

-- the children of a written page, where it was met, are met no more
abbrev pub detach_at : PageMemory → ℕ → Option Position → Positions → Positions
detach_at m page None now = now
detach_at m page (Some e) now = detach (children_at m e.height (visit_of page e)) now

abbrev pub detach_pages : PageMemory → Positions → List ℕ → Positions → Positions
detach_pages m old [] now = now
detach_pages m old (p ∷ ps) now = detach_pages m old ps (detach_at m p (old p) now)

-- a written root has the height of its new level
abbrev pub root_at : PageMemory → ℕ → ℕ → Position
root_at new root end = record { tree = root; height = (new root).level; low = 0; high = end }

abbrev pub set_roots : (ℕ → Bool) → PageMemory → ℕ → ℕ → Positions → Positions
set_roots written new end zero now = now
set_roots written new end (suc r) now = set_roots written new end r (if written (suc r) then set_at now (suc r) (Some (root_at new (suc r) end)) else now)

-- a written page that is met at this height: it must be good there, and its children are met
abbrev pub visit_at : (ℕ → Bool) → Positions → PageMemory → (ℕ → Visit → Bool) → ℕ → ℕ → Option Position → Positions → Option Positions
visit_at written old new good h page None now = Some now
visit_at written old new good h page (Some e) now =
    if e.height == h then (if good h (visit_of page e) then attach written old e.tree (height_below h) (children_at new h (visit_of page e)) now else None) else Some now

abbrev pub then_do : Option Positions → (Positions → Option Positions) → Option Positions
then_do None f = None
then_do (Some now) f = f now

abbrev pub visit_level : (ℕ → Bool) → Positions → PageMemory → (ℕ → Visit → Bool) → ℕ → List ℕ → Positions → Option Positions
visit_level written old new good h [] now = Some now
visit_level written old new good h (p ∷ ps) now = then_do (visit_at written old new good h p (now p) now) (visit_level written old new good h ps)

abbrev pub visit_levels : (ℕ → Bool) → Positions → PageMemory → (ℕ → Visit → Bool) → ℕ → List ℕ → Positions → Option Positions
visit_levels written old new good zero ps now = visit_level written old new good zero ps now
visit_levels written old new good (suc h) ps now = then_do (visit_level written old new good (suc h) ps now) (visit_levels written old new good h ps)

-- each old child that isn't written is met again
abbrev pub are_back : (ℕ → Bool) → List Visit → Positions → Bool
are_back written [] now = true
are_back written (k ∷ ks) now = (written k.page || not (is_none (now k.page))) && are_back written ks now

abbrev pub back_at : (ℕ → Bool) → PageMemory → ℕ → Option Position → Positions → Bool
back_at written m page None now = true
back_at written m page (Some e) now = are_back written (children_at m e.height (visit_of page e)) now

abbrev pub all_back : (ℕ → Bool) → PageMemory → Positions → List ℕ → Positions → Bool
all_back written m old [] now = true
all_back written m old (p ∷ ps) now = back_at written m p (old p) now && all_back written m old ps now

-- what the listed pages weigh
abbrev pub list_over : (ℕ → Visit → ℕ) → ℕ → List ℕ → Positions → ℕ
list_over f root [] table = 0
list_over f root (p ∷ ps) table = at_page f root p (table p) + list_over f root ps table

-- the new visits of the listed pages in the tree of a root
abbrev pub visit_in : ℕ → ℕ → Option Position → List LevelVisit
visit_in root page None = []
visit_in root page (Some e) = if e.tree == root then record { height = e.height; visit = visit_of page e } ∷ [] else []

abbrev pub fresh_of : List ℕ → Positions → ℕ → List LevelVisit
fresh_of [] table root = []
fresh_of (p ∷ ps) table root = visit_in root p (table p) ++ fresh_of ps table root

-- the table after all heights, where no step of the test failed
abbrev pub visited : (ℕ → Bool) → PageMemory → PageMemory → (ℕ → Visit → Bool) → ℕ → ℕ → List ℕ → Positions → Option Positions
visited written m new good end roots ps old = visit_levels written old new good MOST_LEVEL ps (set_roots written new end roots (detach_pages m old ps old))

-- the listed pages are the written ones, each once
pub record IsListed (written : ℕ → Bool) (ps : List ℕ) (n : ℕ) : Type 0 where
  pub mine : AllByRecursion (λ p. written p ≡ true) ps
  pub all : (f : ℕ → Visit → ℕ) (root : ℕ) (table : Positions) → positions_over (on_written written f) root table n ≡ list_over f root ps table

-- what is kept beside the memory
pub record IsKeptBeside (m : PageMemory) (roots n : ℕ) (old : Positions) : Type 0 where
  pub table : ArePositionsOf m roots n old
  pub few : (p : ℕ) → n ≤ p → old p ≡ None
  pub trees : (p : ℕ) (e : Position) → old p ≡ Some e → (0 < e.tree) × (e.tree ≤ roots)

-- a leaf's links name the leaves of its tree whose ranges touch its own, and theirs name it
pub record IsLinkedBy (new : PageMemory) (end : ℕ) (table : Positions) (page : ℕ) (e : Position) : Type 0 where
  pub first : e.low ≡ 0 → (new page).prev ≡ 0
  pub last : e.high ≡ end → (new page).next ≡ 0
  pub left : e.low ≢ 0 → (d : Position) × (table (new page).prev ≡ Some d) × (d.tree ≡ e.tree) × (d.height ≡ 0) × (d.high ≡ e.low) × ((new (new page).prev).next ≡ page)
  pub right : e.high ≢ end → (d : Position) × (table (new page).next ≡ Some d) × (d.tree ≡ e.tree) × (d.height ≡ 0) × (d.low ≡ e.high) × ((new (new page).next).prev ≡ page)

-- All that the test of a patch asks, page by page. `table` is what is kept afterwards.
pub record PassesTest (written : ℕ → Bool) (m new : PageMemory) (good : ℕ → Visit → Bool) (bits after : ℕ → ℕ) (roots end : ℕ) (ps : List ℕ) (old table : Positions) : Type 0 where
  pub levels : (r : ℕ) → 0 < r → r ≤ roots → (new r).level ≤ most_height roots
  pub visited_as : visited written m new good end roots ps old ≡ Some table
  pub back : all_back written m old ps table ≡ true
  pub linked : (p : ℕ) → written p ≡ true → (e : Position) → table p ≡ Some e → e.height ≡ 0 → IsLinkedBy new end table p e
  pub sound : (p : ℕ) → p ≢ 0 → written p ≡ true → IsSound MOST_RECORDS (new p)
  pub taken : (p : ℕ) → written p ≡ true → after p ≡ (if is_none (table p) then 0 else 1) + (if p == 0 then 1 else 0)
  pub once : (p : ℕ) → written p ≡ true → after p ≤ 1
  pub few : (p : ℕ) → MAPPED_PAGES ≤ p → written p ≡ true → after p ≡ 0
  pub freed : (p : ℕ) → written p ≡ true → after p ≡ 0 → (new p).kind ≡ Free
  pub others : (p : ℕ) → written p ≡ false → after p ≡ bits p

-- heights below n, from the highest down
abbrev pub levels_below_visited : (ℕ → Bool) → Positions → PageMemory → (ℕ → Visit → Bool) → ℕ → List ℕ → Positions → Option Positions
levels_below_visited written old new good zero ps now = Some now
levels_below_visited written old new good (suc n) ps now = then_do (visit_level written old new good n ps now) (levels_below_visited written old new good n ps)
