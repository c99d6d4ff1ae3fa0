-- What a descent keeps, and where it ends.
use Rattle.std.specs.Prelude.{◌≡◌, ◌⊎◌, ℕ, ◌+◌, ◌<◌, ◌≤◌, Bool, true, false, ◌==◌, ◌&&◌, nat_lt, if◌then◌else◌, List, [], ◌∷◌, ◌++◌, length, Option}
use Rattle.ib_map.specs.Keys.{MapKey}
use Rattle.ib_map.specs.Pairs.{value_at}
use Rattle.ib_map.specs.declared.TheConstants.{PAGE_WORDS}
use Rattle.ib_levels.specs.declared.level.Mode.{Mode}
use Rattle.ib_levels.specs.declared.level.Mode.TheVariants.{S, X}
use Rattle.ib_heap.specs.declared.TheConstants.{MOST_LEVEL}
use Rattle.ib_page.specs.Work.{with_read}
use Rattle.ib_layout.specs.Geometry.{Sizes}
use Rattle.ib_logrec.specs.declared.entry.Entry.{Entry}
use Rattle.ib_walk.specs.Trees.{height_of}
use Rattle.ib_walk.specs.Search.{leaf_for}
use Rattle.ib_tree.specs.Logs.{pages_after}
use Rattle.ib_rule.specs.Conditions.{HasGrantsLeft}
use Rattle.ib_rule.specs.Pass.{PassState}
use Rattle.ib_rule.specs.Space.{SpaceState}
use Rattle.ib_rule.specs.Views.{is_watched, total}
use Rattle.ib_mtr.specs.Loads.{IsPageAfter}
use Rattle.ib_mtr.specs.Mtr.{IsMtr}
use Rattle.ib_cursor.specs.Grants.{Grant, page_grant, HasGrants}
use Rattle.ib_cursor.specs.Going.{IsKnown, WentOn}
use Rattle.ib_cursor.specs.Modes.{mode_by}
use Rattle.ib_cursor.specs.OnPath.{IsOnPath}

-- a descent may begin: the mini-transaction holds nothing and has no page loaded, and so many grants may be taken still
pub record MayDescend (space : SpaceState) (p : PassState) : Type 0 where
  pub mtr : IsMtr space p
  pub memo : p.memo ≡ []
  pub none : p.work ≡ []
  pub room : HasGrantsLeft 64 p.view

-- a page is held behind these grants, with a look at the log's end since, and is on the key's path in the tree after all seen; no page is loaded
pub record IsAt (sizes : Sizes) (lawful : List Entry → Type 0) (opening : ℕ → ℕ) (root : ℕ) (key : MapKey) (front : List Grant) (page level : ℕ) (mode : Mode) (p : PassState) : Type 0 where
  pub grants : HasGrants (front ++ page_grant page mode ∷ []) p
  pub watched : is_watched (page + 2) p.view.memory.since ≡ true
  pub work : p.work ≡ []
  pub known : IsKnown sizes lawful p
  pub on_path : IsOnPath (pages_after opening p.view.memory.seen) root key page level

-- .. in some mode
pub record IsHeldAt (sizes : Sizes) (lawful : List Entry → Type 0) (opening : ℕ → ℕ) (root : ℕ) (key : MapKey) (front : List Grant) (page level : ℕ) (p : PassState) : Type 0 where
  pub mode : Mode
  pub here : IsAt sizes lawful opening root key front page level mode p

-- the root was a leaf after some entries, no fewer than those in front, and a node after more
pub record WasRaised (opening : ℕ → ℕ) (root : ℕ) (front seen : List Entry) : Type 0 where
  pub one : List Entry
  pub two : List Entry
  pub three : List Entry
  pub is : seen ≡ (front ++ one ++ two) ++ three
  pub leaf : height_of (pages_after opening (front ++ one)) root ≡ 0
  pub node : 0 < height_of (pages_after opening (front ++ one ++ two)) root

abbrev pub one_if : Bool → ℕ
one_if b = if b then 1 else 0

-- the grants of X that were added: one on the leaf, and one more where the root was looked at as a leaf and became a node
abbrev pub AddsX : (ℕ → ℕ) → ℕ → ℕ → PassState → PassState → Type 0
AddsX opening root level p q = (q.view.grants.x ≡ p.view.grants.x + one_if (level == 0)) ⊎ ((q.view.grants.x ≡ p.view.grants.x + 1 + one_if (level == 0)) × WasRaised opening root p.view.memory.seen q.view.memory.seen)

-- behind no lawful log the tree of this root is higher than this
abbrev pub IsNoHigher : (List Entry → Type 0) → (ℕ → ℕ) → ℕ → ℕ → Type 0
IsNoHigher lawful opening root most = (log : List Entry) → lawful log → height_of (pages_after opening log) root ≤ most

-- a descent has come to this page, with so many pages above it
pub record IsDown (sizes : Sizes) (lawful : List Entry → Type 0) (opening : ℕ → ℕ) (root : ℕ) (key : MapKey) (front : List Grant) (exclusive : Bool) (above page level : ℕ) (p q : PassState) : Type 0 where
  pub mode : Mode
  pub here : IsAt sizes lawful opening root key front page level mode q
  pub shared : exclusive ≡ false → mode ≡ S
  pub alone : exclusive ≡ true → level ≡ 0 → mode ≡ X
  pub went : WentOn p q
  pub looked : 0 < length went.added
  pub short : above + level ≤ MOST_LEVEL
  pub low : (most : ℕ) → IsNoHigher lawful opening root most → above + level ≤ most
  pub sx : q.view.grants.sx ≡ p.view.grants.sx
  pub finds : exclusive ≡ false → (q.view.grants.s ≡ p.view.grants.s + 2 + above) × (q.view.grants.x ≡ p.view.grants.x)
  pub s : q.view.grants.s ≤ p.view.grants.s + 2 + above
  pub changes : exclusive ≡ true → q.view.grants.s + one_if (nat_lt 0 above && (level == 0)) ≡ p.view.grants.s + 2 + above
  pub x : exclusive ≡ true → AddsX opening root level p q
  pub few : total q.view.grants ≤ total p.view.grants + 3 + above

-- one page is loaded more, which stands in the work set as it is after all entries seen
pub record HasPage (opening : ℕ → ℕ) (page : ℕ) (p q : PassState) : Type 0 where
  pub image : List ℕ
  pub size : length image ≡ PAGE_WORDS
  pub is_page : IsPageAfter opening q.view.memory.seen page image
  pub work : q.work ≡ with_read page image p.work

-- a descent has come to the key's leaf: it is the last page of the path, in the tree after all seen. It alone is held, in S or X, with a look at the log's end since. S was taken once of the index and of each page of the path, but not of a leaf below another page that is taken in X
pub record HasReached (sizes : Sizes) (lawful : List Entry → Type 0) (opening : ℕ → ℕ) (root : ℕ) (key : MapKey) (exclusive : Bool) (path : List ℕ) (p q : PassState) : Type 0 where
  pub leaf : ℕ
  pub front : List ℕ
  pub ends : path ≡ front ++ leaf ∷ []
  pub is_leaf : leaf ≡ leaf_for (pages_after opening q.view.memory.seen) key root
  pub grants : HasGrants (page_grant leaf (mode_by exclusive) ∷ []) q
  pub watched : is_watched (leaf + 2) q.view.memory.since ≡ true
  pub went : WentOn p q
  pub looked : 0 < length went.added
  pub known : IsKnown sizes lawful q
  pub sx : q.view.grants.sx ≡ p.view.grants.sx
  pub finds : exclusive ≡ false → (q.view.grants.s ≡ p.view.grants.s + 1 + length path) × (q.view.grants.x ≡ p.view.grants.x)
  pub s : q.view.grants.s ≤ p.view.grants.s + 9
  pub low : (most : ℕ) → IsNoHigher lawful opening root most → q.view.grants.s ≤ p.view.grants.s + 2 + most
  pub changes : exclusive ≡ true → q.view.grants.s + one_if (nat_lt 1 (length path)) ≡ p.view.grants.s + 1 + length path
  pub x : exclusive ≡ true → (q.view.grants.x ≡ p.view.grants.x + 1) ⊎ ((q.view.grants.x ≡ p.view.grants.x + 2) × WasRaised opening root p.view.memory.seen q.view.memory.seen)

-- the descent is over: it has come to the leaf, and the leaf alone is loaded
pub record HasDescended (sizes : Sizes) (lawful : List Entry → Type 0) (opening : ℕ → ℕ) (root : ℕ) (key : MapKey) (exclusive : Bool) (path : List ℕ) (p q : PassState) : Type 0 where
  pub reached : HasReached sizes lawful opening root key exclusive path p q
  pub image : List ℕ
  pub size : length image ≡ PAGE_WORDS
  pub is_page : IsPageAfter opening q.view.memory.seen reached.leaf image
  pub work : q.work ≡ record { page = reached.leaf; before = image; changed = image } ∷ []

-- the key was looked up on its leaf, where it lies: the leaf alone is held, in S, and no page is loaded
pub record HasFound (sizes : Sizes) (lawful : List Entry → Type 0) (opening : ℕ → ℕ) (root : ℕ) (key : MapKey) (value : Option ℕ) (p q : PassState) : Type 0 where
  pub path : List ℕ
  pub reached : HasReached sizes lawful opening root key false path p q
  pub work : q.work ≡ []
  pub is_value : value ≡ value_at key (pages_after opening q.view.memory.seen reached.leaf).records
