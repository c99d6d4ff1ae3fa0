-- What a delete from both trees comes to first: the value of its key, and the path of the key in the first tree.
use Rattle.std.specs.Prelude.{◌≡◌, ℕ, ◌+◌, ◌<◌, ◌≤◌, List, Option, length}
use Rattle.ib_map.specs.Keys.{MapKey}
use Rattle.ib_map.specs.Pairs.{value_at}
use Rattle.ib_layout.specs.Geometry.{Sizes}
use Rattle.ib_plans.specs.Agreement.{path_of}
use Rattle.ib_rule.specs.Pass.{PassState}
use Rattle.ib_rule.specs.Views.{total}
use Rattle.ib_cursor.specs.Going.{WentOn}
use Rattle.ib_cursor.specs.OnPath.{IsOnPath}
use Rattle.ib_cursor.specs.Shapes.{HasIndex}
use Rattle.ib_pair_law.specs.PairKept.{IsPairLog}
use Rattle.ib_second.specs.PairReady.{pages_seen}

-- the index is claimed, and nothing else is held: the path of the key in the first tree was read, and what its leaf has of the key
pub record HasFoundPair (sizes : Sizes) (key : MapKey) (path : List ℕ) (leaf : ℕ) (value : Option ℕ) (p q : PassState) : Type 0 where
  pub index : HasIndex sizes (IsPairLog sizes.pages) q
  pub on_path : path ≡ path_of (pages_seen sizes q) key 1
  pub leaf_on : IsOnPath (pages_seen sizes q) 1 key leaf 0
  pub found : value ≡ value_at key (pages_seen sizes q leaf).records
  pub went : WentOn p q
  pub looked : 0 < length went.added
  pub claims : q.view.grants.sx ≡ p.view.grants.sx + 1
  pub grants : total q.view.grants ≤ total p.view.grants + 6
