-- What a search for a change of a tree's structure comes to: the index claimed, and the pages that may change held in X.
use Rattle.std.specs.Prelude.{◌≡◌, ◌↔◌, ℕ, ◌+◌, ◌<◌, true, List, [], ◌∷◌, ◌++◌, length, map, IsSome, ◌==◌, if◌then◌else◌}
use Rattle.std.specs.List.{All, AllByRecursion}
use Rattle.ib_map.specs.Keys.{MapKey}
use Rattle.ib_map.specs.declared.TheConstants.{PAGE_WORDS}
use Rattle.ib_levels.specs.declared.level.Level.TheVariants.{IndexTree}
use Rattle.ib_levels.specs.declared.level.Mode.TheVariants.{Sx, X}
use Rattle.ib_page.specs.Work.{WorkPage, changed_of}
use Rattle.ib_layout.specs.Geometry.{Sizes}
use Rattle.ib_logrec.specs.declared.entry.Entry.{Entry}
use Rattle.ib_walk.specs.Pages.{PageMemory}
use Rattle.ib_plans.specs.Agreement.{path_of}
use Rattle.ib_tree.specs.Logs.{pages_after}
use Rattle.ib_tree.specs.PageLists.{is_listed}
use Rattle.ib_rule.specs.Pass.{PassState}
use Rattle.ib_rule.specs.Views.{is_watched}
use Rattle.ib_mtr.specs.Loads.{IsPageAfter}
use Rattle.ib_cursor.specs.Grants.{Grant, page_grant, HasGrants}
use Rattle.ib_cursor.specs.Going.{IsKnown, WentOn}

-- the index in SX: nobody else changes the structure of a tree
abbrev pub claim_grant : Grant
claim_grant = record { latch = 1; mode = Sx; level = IndexTree }

-- a page of the work set, unchanged: it was read as it is after all seen
pub record IsAsRead (opening : ℕ → ℕ) (log : List Entry) (w : WorkPage) : Type 0 where
  pub size : length w.before ≡ PAGE_WORDS
  pub is_page : IsPageAfter opening log w.page w.before
  pub unchanged : w.changed ≡ w.before

-- the index is claimed and these pages are held in X, in this order, each latch with a look at the log's end since; they alone are loaded, unchanged. The path is the key's in the tree after all seen
pub record HasClaimed (sizes : Sizes) (lawful : List Entry → Type 0) (opening : ℕ → ℕ) (root : ℕ) (key : MapKey) (path held : List ℕ) (p q : PassState) : Type 0 where
  pub on_path : path ≡ path_of (pages_after opening q.view.memory.seen) key root
  pub grants : HasGrants (claim_grant ∷ map (λ page. page_grant page X) held) q
  pub claimed : is_watched 1 q.view.memory.since ≡ true
  pub watched : AllByRecursion (λ page. is_watched (page + 2) q.view.memory.since ≡ true) held
  pub there : (page : ℕ) → IsSome (changed_of page q.work) ↔ (is_listed held page ≡ true)
  pub count : length q.work ≡ length held
  pub read : All (IsAsRead opening q.view.memory.seen) q.work
  pub went : WentOn p q
  pub looked : 0 < length went.added
  pub known : IsKnown sizes lawful q
  pub s : q.view.grants.s ≡ p.view.grants.s + length path
  pub sx : q.view.grants.sx ≡ p.view.grants.sx + 1
  pub x : q.view.grants.x ≡ p.view.grants.x + length held

-- the page of a link, where there is one
abbrev pub beside : ℕ → List ℕ
beside page = if page == 0 then [] else page ∷ []

-- what an insert holds: the path, and the leaves beside the key's leaf, from left to right
pub record IsPathWithLeaves (memory : PageMemory) (path held : List ℕ) : Type 0 where
  pub front : List ℕ
  pub leaf : ℕ
  pub ends : path ≡ front ++ leaf ∷ []
  pub are : held ≡ front ++ (beside (memory leaf).prev ++ leaf ∷ beside (memory leaf).next)
