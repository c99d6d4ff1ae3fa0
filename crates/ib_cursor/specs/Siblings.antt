-- The pages that a delete may change: those of the path, and on each level those beside them under the same parent.
use Rattle.std.specs.Prelude.{◌≡◌, ℕ, List, [], ◌∷◌, ◌++◌, Option, Some, None}
use Rattle.std.specs.List.{flat_map}
use Rattle.ib_map.specs.Keys.{MapKey}
use Rattle.ib_walk.specs.Pages.{PageMemory}
use Rattle.ib_plans.specs.Agreement.{last_of}
use Rattle.ib_plans.specs.Merge.{siblings_of}
use Rattle.ib_cursor.specs.Claims.{beside}

-- the page of a node's record, where there is one
abbrev pub child_if : Option (MapKey × ℕ) → List ℕ
child_if None = []
child_if (Some r) = r.1 ∷ []

-- the key's child under a node and the pages beside it there, from left to right
abbrev pub with_siblings : PageMemory → MapKey → ℕ → List ℕ
with_siblings memory key parent = let t = siblings_of key (memory parent).records in child_if t.left ++ t.here.1 ∷ child_if t.right

-- what a delete holds: the root, level by level below it the key's child with the pages beside it under the same parent, and the leaf behind the last of these
pub record IsPathWithSiblings (memory : PageMemory) (root : ℕ) (key : MapKey) (path held : List ℕ) : Type 0 where
  pub front : List ℕ
  pub leaf : ℕ
  pub ends : path ≡ front ++ leaf ∷ []
  pub levels : List ℕ
  pub are : levels ≡ root ∷ flat_map (with_siblings memory key) front
  pub behind : held ≡ levels ++ beside (memory (last_of levels)).next
