-- The grants of a change of the index.
use Rattle.std.specs.Prelude.{◌⊎◌, ℕ, ◌+◌, ◌≤◌, length, take}
use Rattle.ib_map.specs.Keys.{MapKey}
use Rattle.ib_map.specs.declared.call.Reply.{Reply}
use Rattle.ib_layout.specs.Geometry.{Sizes}
use Rattle.ib_walk.specs.Pages.{PageState}
use Rattle.ib_rule.specs.Pass.{PassState}
use Rattle.ib_rule.specs.Views.{total}
use Rattle.ib_leaf.specs.Leaf.{HasLeaf}
use Rattle.ib_index.specs.Leaf.{TakesFor}

-- after a place of the call the key's leaf was one of this kind
pub record WasLeaf (sizes : Sizes) (why : ℕ → PageState → Type 0) (key : MapKey) (p q : PassState) : Type 0 where
  pub place : ℕ
  pub from : length p.view.memory.seen ≤ place
  pub to : place ≤ length q.view.memory.seen
  pub was : HasLeaf sizes why key (take place q.view.memory.seen)

-- a change takes few grants, none of SX, and of X one on the leaf and one on the log latch where it came as far as the log, unless the key's leaf was one that needs more; the index is claimed once at most; and there are never more than so many
pub record TakesFewUnless (sizes : Sizes) (why : ℕ → PageState → Type 0) (key : MapKey) (reply : Reply) (p q : PassState) : Type 0 where
  pub few : TakesFor sizes reply p q ⊎ WasLeaf sizes why key p q
  pub claims : q.view.grants.sx ≤ p.view.grants.sx + 1
  pub all : total q.view.grants ≤ total p.view.grants + 128
