-- A delete that changes the tree's structure.
use Rattle.std.specs.Prelude.{◌≡◌, ℕ, ◌+◌, ◌<◌, ◌≤◌, false, List, length, MatchOption}
use Rattle.std.specs.List.{All}
use Rattle.ib_map.specs.Keys.{MapKey}
use Rattle.ib_layout.specs.Geometry.{Sizes}
use Rattle.ib_page.specs.Work.{WorkPage}
use Rattle.ib_plans.specs.Agreement.{IsThere, memory_in}
use Rattle.ib_plans.specs.Merge.{siblings_of}
use Rattle.ib_merge.specs.Deletes.{HasNext, HasSiblings, nodes_on_path}
use Rattle.ib_tree.specs.PageLists.{is_listed}
use Rattle.ib_rule.specs.Pass.{PassState}
use Rattle.ib_rule.specs.Views.{total}
use Rattle.ib_cursor.specs.Going.{WentOn}
use Rattle.ib_index.specs.Grows.{IsGrowing, tree_pages}

-- a page is there, and the leaf behind it, where there is one
abbrev pub HasWithNext : List WorkPage → ℕ → Type 0
HasWithNext work page = IsThere work page × HasNext work page

-- a node is there, the pages beside the key's child under it, and the leaf behind the last of these
pub record HasChildren (key : MapKey) (work : List WorkPage) (parent : ℕ) : Type 0 where
  pub node : IsThere work parent
  pub siblings : HasSiblings key work parent
  pub last : let t = siblings_of key (memory_in work parent).records in MatchOption t.right (HasWithNext work t.here.1) (λ right. HasWithNext work right.1)

-- the path is held, the pages beside each page of it under the same parent, and the leaf behind the last of these: of the tree, all that a delete reads and writes
pub record HasClaimedSiblings (sizes : Sizes) (key : MapKey) (path : List ℕ) (p q : PassState) : Type 0 where
  pub held : List ℕ
  pub growing : IsGrowing sizes key path (tree_pages held) q
  pub children : All (HasChildren key q.work) (nodes_on_path path)
  pub zero : is_listed held 0 ≡ false
  pub few : length held ≤ 23
  pub went : WentOn p q
  pub looked : 0 < length went.added
  pub claims : q.view.grants.sx ≡ p.view.grants.sx + 1
  pub grants : total q.view.grants ≤ total p.view.grants + 32
