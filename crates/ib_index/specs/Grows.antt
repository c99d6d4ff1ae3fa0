-- An insert that changes the tree's structure.
use Rattle.std.specs.Prelude.{◌≡◌, ℕ, ◌+◌, ◌/◌, ◌<◌, ◌≤◌, true, false, List, [], ◌∷◌, ◌++◌, length, map, Some}
use Rattle.std.specs.List.{All, AllByRecursion}
use Rattle.ib_map.specs.Keys.{MapKey}
use Rattle.ib_map.specs.declared.TheConstants.{PAGE_WORDS}
use Rattle.ib_map.specs.declared.call.Call.{Call}
use Rattle.ib_map.specs.declared.call.Record.{Record}
use Rattle.ib_levels.specs.declared.level.Level.{Level}
use Rattle.ib_levels.specs.declared.level.Level.TheVariants.{Log, PageNew, Space, TreeNode}
use Rattle.ib_levels.specs.declared.level.Mode.TheVariants.{X}
use Rattle.ib_layout.specs.Geometry.{Sizes}
use Rattle.ib_logrec.specs.Log.{by_place}
use Rattle.ib_logrec.specs.declared.entry.TheConstants.{MOST_WRITES}
use Rattle.ib_page.specs.Work.{WorkPage, changed_of}
use Rattle.ib_plans.specs.declared.fault.TreeFault.{TreeFault}
use Rattle.ib_plans.specs.declared.fault.TreeFault.TheVariants.{NeedPages}
use Rattle.ib_plans.specs.Agreement.{Agrees, HasTreePages, IsThere, bits_in, last_of, memory_in, path_of}
use Rattle.ib_levels.specs.Level.{may_follow}
use Rattle.ib_walk.specs.Full.{chosen, free_of, is_too_high, need_of}
use Rattle.ib_walk.specs.Pages.{PageMemory, Tree}
use Rattle.ib_split.specs.Inserts.{HasFresh}
use Rattle.ib_merge.specs.Deletes.{HasNext}
use Rattle.ib_tree.specs.PageLists.{AreOnce, is_listed}
use Rattle.ib_tree.specs.TreeLog.{opening}
use Rattle.ib_planned_log.specs.Kept.{IsKeptLog}
use Rattle.ib_planned_log.specs.LeafChange.{kept_pages}
use Rattle.ib_rule.specs.Conditions.{HasGrantsLeft}
use Rattle.ib_rule.specs.Pass.{PassState, IsAtRest}
use Rattle.ib_rule.specs.Space.{SpaceState}
use Rattle.ib_rule.specs.Views.{total, with_grant}
use Rattle.ib_cursor.specs.Claims.{claim_grant}
use Rattle.ib_cursor.specs.Going.{IsKnown, WentOn}
use Rattle.ib_cursor.specs.Grants.{Grant, HasGrants}
use Rattle.ib_cursor.specs.Shapes.{is_claimed}
use Rattle.ib_cursor.specs.Takings.{IsHeldPage, is_loaded}
use Rattle.ib_leaf.specs.Calls.{HasCalled}

-- the session stands on the key's path: the index is claimed, each page of the work set is watched and as it was read, and the path is the key's in the tree after all seen
pub record HoldsPath (sizes : Sizes) (key : MapKey) (path : List ℕ) (p : PassState) : Type 0 where
  pub claimed : is_claimed p.view.memory.since ≡ true
  pub read : All (IsHeldPage (by_place opening sizes.pages) p) p.work
  pub on_path : path ≡ path_of (kept_pages sizes.pages p.view.memory.seen) key 1
  pub known : IsKnown sizes (IsKeptLog sizes.pages) p

-- a page that is held in X, taken at this level
abbrev pub held_grant : ℕ × Level → Grant
held_grant h = record { latch = h.0 + 2; mode = X; level = h.1 }

abbrev pub pages_held : List (ℕ × Level) → List ℕ
pages_held held = map (λ h. h.0) held

-- .. and these pages are held in X, in this order: they alone are loaded, among them the pages of the path
pub record IsGrowing (sizes : Sizes) (key : MapKey) (path : List ℕ) (held : List (ℕ × Level)) (p : PassState) : Type 0 where
  pub at : HoldsPath sizes key path p
  pub grants : HasGrants (claim_grant ∷ map held_grant held) p
  pub loaded : (page : ℕ) → is_loaded page p.work ≡ is_listed (pages_held held) page
  pub count : length p.work ≡ length held
  pub within : All (λ w. w.page < sizes.pages) p.work
  pub trees : HasTreePages path p.work
  pub leaf : IsThere p.work (last_of path)

-- one page more was taken so, and loaded
pub record HasGrown (sizes : Sizes) (key : MapKey) (path : List ℕ) (held : List (ℕ × Level)) (page : ℕ) (level : Level) (p q : PassState) : Type 0 where
  pub growing : IsGrowing sizes key path (held ++ (page, level) ∷ []) q
  pub went : WentOn p q
  pub grants : q.view.grants ≡ with_grant (Some X) p.view.grants
  pub there : IsThere q.work page
  pub same : (n : ℕ) → IsThere p.work n → changed_of n q.work ≡ changed_of n p.work

-- pages of the tree, by level downward and from left to right
abbrev pub tree_pages : List ℕ → List (ℕ × Level)
tree_pages held = map (λ page. (page, TreeNode)) held

-- the path, and the leaves beside its last page, are held
pub record HasClaimedPath (sizes : Sizes) (key : MapKey) (path : List ℕ) (p q : PassState) : Type 0 where
  pub held : List ℕ
  pub growing : IsGrowing sizes key path (tree_pages held) q
  pub next : HasNext q.work (last_of path)
  pub kinds : (n : ℕ) → IsThere q.work n → (memory_in q.work n).kind ≡ Tree
  pub zero : is_listed held 0 ≡ false
  pub once : AreOnce held sizes.pages
  pub few : length held ≤ 10
  pub went : WentOn p q
  pub looked : 0 < length went.added
  pub claims : q.view.grants.sx ≡ p.view.grants.sx + 1
  pub grants : total q.view.grants ≤ total p.view.grants + 20

-- .. and page 0 behind them, and fresh pages behind that
abbrev pub space_pages : List ℕ → List (ℕ × Level)
space_pages held = tree_pages held ++ (0, Space) ∷ []

abbrev pub new_pages : List ℕ → List (ℕ × Level)
new_pages fresh = map (λ page. (page, PageNew)) fresh

-- by the image of page 0, which has the bits of so many pages, these are the fresh pages of those that are needed
abbrev pub IsChosen : ℕ → List ℕ → ℕ → List ℕ → Type 0
IsChosen pages image need fresh = (fresh ≡ chosen (bits_in pages image) pages need) × (need ≤ free_of (bits_in pages image) pages)

-- .. or too few are free, and the fault says how many
abbrev pub IsLacking : ℕ → List ℕ → ℕ → TreeFault → Type 0
IsLacking pages image need fault = (fault ≡ NeedPages (free_of (bits_in pages image) pages) need) × (free_of (bits_in pages image) pages < need)

-- these fresh pages were taken
pub record HasTakenNew (sizes : Sizes) (key : MapKey) (path : List ℕ) (held : List (ℕ × Level)) (fresh : List ℕ) (p q : PassState) : Type 0 where
  pub growing : IsGrowing sizes key path (held ++ new_pages fresh) q
  pub went : WentOn p q
  pub claims : q.view.grants.sx ≡ p.view.grants.sx
  pub grants : total q.view.grants ≡ total p.view.grants + length fresh
  pub there : All (IsThere q.work) fresh
  pub same : (n : ℕ) → IsThere p.work n → changed_of n q.work ≡ changed_of n p.work

-- so many pages are needed in every memory that agrees, and the tree need not grow too high
abbrev pub NeedsPages : ℕ → MapKey → List ℕ → ℕ → List WorkPage → Type 0
NeedsPages pages key path need work = (memory : PageMemory) (bits : ℕ → ℕ) → Agrees pages 1 1 key path work memory bits
    → (is_too_high 1 memory key 1 ≡ false) × (need ≡ need_of memory key 1)

-- .. and too few are free
abbrev pub LacksPages : ℕ → MapKey → List ℕ → ℕ → ℕ → List WorkPage → Type 0
LacksPages pages key path free need work = (memory : PageMemory) (bits : ℕ → ℕ) → Agrees pages 1 1 key path work memory bits
    → (is_too_high 1 memory key 1 ≡ false) × (free ≡ free_of bits pages) × (need ≡ need_of memory key 1) × (free < need)

-- the fresh pages are those that the insert takes, in every memory that agrees
abbrev pub IsFreshForAll : ℕ → MapKey → List ℕ → List ℕ → List WorkPage → Type 0
IsFreshForAll pages key path fresh work = (memory : PageMemory) (bits : ℕ → ℕ) → Agrees pages 1 1 key path work memory bits
    → (is_too_high 1 memory key 1 ≡ false) × HasFresh pages 1 1 key fresh memory bits

-- so many pages may be held that all their words are no more than an entry has writes
abbrev pub most_held : ℕ
most_held = MOST_WRITES / PAGE_WORDS

-- all pages that the insert reads and writes are held
pub record HoldsAllPages (sizes : Sizes) (key : MapKey) (path fresh : List ℕ) (p q : PassState) : Type 0 where
  pub held : List (ℕ × Level)
  pub growing : IsGrowing sizes key path held q
  pub short : length held ≤ most_held
  pub follow : AllByRecursion (λ (g : Grant). may_follow g.level Log ≡ true) (claim_grant ∷ map held_grant held)
  pub went : WentOn p q
  pub claims : q.view.grants.sx ≡ p.view.grants.sx
  pub grants : total q.view.grants ≤ total p.view.grants + 20
  pub fresh_are : IsFreshForAll sizes.pages key path fresh q.work
  pub there : All (IsThere q.work) fresh
  pub space : 0 < length fresh → IsThere q.work 0
  pub same : (n : ℕ) → IsThere p.work n → changed_of n q.work ≡ changed_of n p.work

-- too few pages are free: page 0 is held, and says so
pub record IsShort (sizes : Sizes) (key : MapKey) (path : List ℕ) (free need : ℕ) (p q : PassState) : Type 0 where
  pub held : List (ℕ × Level)
  pub growing : IsGrowing sizes key path held q
  pub went : WentOn p q
  pub claims : q.view.grants.sx ≡ p.view.grants.sx
  pub grants : total q.view.grants ≤ total p.view.grants + 20
  pub lacks : LacksPages sizes.pages key path free need q.work
  pub same : (n : ℕ) → IsThere p.work n → changed_of n q.work ≡ changed_of n p.work

-- so many grants more at most, and at most one of them claims the index
pub record TakesAtMost (most : ℕ) (p q : PassState) : Type 0 where
  pub claims : q.view.grants.sx ≤ p.view.grants.sx + 1
  pub all : total q.view.grants ≤ total p.view.grants + most

-- a change of the tree may be made: the pass is at rest, knows of no look, and may take so many grants more
pub record MayChangeTree (space : SpaceState) (p : PassState) : Type 0 where
  pub rest : IsAtRest space p
  pub unwatched : p.view.memory.since ≡ []
  pub room : HasGrantsLeft 8192 p.view

-- .. and was answered, with few grants
pub record HasChangedTree (sizes : Sizes) (call : Call) (answer : Record) (p q : PassState) : Type 0 where
  pub called : HasCalled sizes (IsKeptLog sizes.pages) (by_place opening sizes.pages) call answer p q
  pub grants : TakesAtMost 64 p q
