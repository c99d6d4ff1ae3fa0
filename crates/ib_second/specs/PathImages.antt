-- The pages of a path, and the leaves beside its leaf, as a work set has them.
use Rattle.std.specs.Prelude.{◌≡◌, ◌≤◌, ℕ, List, false, length}
use Rattle.ib_page.specs.Work.{WorkPage}
use Rattle.ib_plans.specs.Agreement.{HasTreePages, IsThere, last_of}
use Rattle.ib_merge.specs.Deletes.{HasNext}
use Rattle.ib_tree.specs.PageLists.{is_listed}

-- the pages of the path are pages of a tree, the leaf is there and so is the one behind it, and page 0 is none of them
pub record HasPathImages (path held : List ℕ) (work : List WorkPage) : Type 0 where
  pub trees : HasTreePages path work
  pub leaf : IsThere work (last_of path)
  pub next : HasNext work (last_of path)
  pub zero : is_listed held 0 ≡ false
  pub few : length held ≤ 6
