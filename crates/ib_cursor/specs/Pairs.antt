-- The paths of two keys in two trees, and their pages taken behind one claim.
use Rattle.std.specs.Prelude.{◌≡◌, ℕ, ◌+◌, ◌<◌, List, ◌++◌, length}
use Rattle.std.specs.List.{AllByRecursion}
use Rattle.ib_map.specs.Keys.{MapKey}
use Rattle.ib_layout.specs.Geometry.{Sizes}
use Rattle.ib_logrec.specs.declared.entry.Entry.{Entry}
use Rattle.ib_walk.specs.Trees.{weight_of}
use Rattle.ib_walk.specs.Walk.{counts_page}
use Rattle.ib_plans.specs.Agreement.{path_of}
use Rattle.ib_tree.specs.Logs.{pages_after}
use Rattle.ib_tree.specs.PageLists.{AreOnce}
use Rattle.ib_rule.specs.Pass.{PassState}
use Rattle.ib_cursor.specs.Claims.{IsPathWithLeaves}
use Rattle.ib_cursor.specs.Going.{WentOn}
use Rattle.ib_cursor.specs.Takings.{HoldsClaimed}

-- the index is claimed and the pages of both paths are held in X and loaded, unchanged, those of the first tree first, each path with the leaves beside its leaf. Each path is its key's in its tree after all seen, and each page is met by that tree
pub record HasClaimedPair (sizes : Sizes) (lawful : List Entry → Type 0) (opening : ℕ → ℕ) (root : ℕ) (key : MapKey) (path : List ℕ) (other_root : ℕ) (other_key : MapKey) (other_path : List ℕ) (p q : PassState) : Type 0 where
  pub held : List ℕ
  pub other_held : List ℕ
  pub on_path : path ≡ path_of (pages_after opening q.view.memory.seen) key root
  pub on_other_path : other_path ≡ path_of (pages_after opening q.view.memory.seen) other_key other_root
  pub holds : HoldsClaimed sizes lawful opening (held ++ other_held) q
  pub leaves : IsPathWithLeaves (pages_after opening q.view.memory.seen) path held
  pub other_leaves : IsPathWithLeaves (pages_after opening q.view.memory.seen) other_path other_held
  pub once : AreOnce (held ++ other_held) sizes.pages
  pub met : AllByRecursion (λ n. 0 < weight_of (counts_page n) (pages_after opening q.view.memory.seen) root) held
  pub other_met : AllByRecursion (λ n. 0 < weight_of (counts_page n) (pages_after opening q.view.memory.seen) other_root) other_held
  pub went : WentOn p q
  pub looked : 0 < length went.added
  pub s : q.view.grants.s ≡ p.view.grants.s + length path + length other_path
  pub sx : q.view.grants.sx ≡ p.view.grants.sx + 1
  pub x : q.view.grants.x ≡ p.view.grants.x + length held + length other_held
