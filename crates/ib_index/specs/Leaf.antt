-- A change of the index that needs the key's leaf alone: the path to the leaf, and what was tried on it.
use Rattle.std.specs.Prelude.{◌≡◌, ◌⊎◌, ℕ, ◌+◌, ◌<◌, ◌≤◌, [], length, take, Option, IfSome, MatchOption}
use Rattle.ib_map.specs.Keys.{MapKey}
use Rattle.ib_map.specs.declared.call.Call.{Call}
use Rattle.ib_map.specs.declared.call.Record.{Record}
use Rattle.ib_map.specs.declared.call.Reply.{Reply}
use Rattle.ib_layout.specs.Geometry.{Sizes}
use Rattle.ib_logrec.specs.Log.{by_place}
use Rattle.ib_walk.specs.Pages.{PageState}
use Rattle.ib_tree.specs.TreeLog.{opening}
use Rattle.ib_planned_log.specs.Kept.{IsKeptLog}
use Rattle.ib_rule.specs.Pass.{PassState}
use Rattle.ib_cursor.specs.Descent.{WasRaised, one_if}
use Rattle.ib_cursor.specs.Going.{WentOn}
use Rattle.ib_leaf.specs.Calls.{HasCalled}
use Rattle.ib_leaf.specs.Ends.{HasStopped, reaches_log}
use Rattle.ib_leaf.specs.Leaf.{HasLeaf, IsAtLeaf, IsSeated}

-- the X grants of a path to the leaf: one more where the root was looked at as a leaf and became a node
abbrev pub AddsFewX : Sizes → ℕ → PassState → PassState → Type 0
AddsFewX sizes few p q = (q.view.grants.x ≤ p.view.grants.x + few) ⊎ ((q.view.grants.x ≤ p.view.grants.x + few + 1) × WasRaised (by_place opening sizes.pages) 1 p.view.memory.seen q.view.memory.seen)

-- the grants that a call took on its path to the leaf, and so many of X on it
pub record TakesFew (sizes : Sizes) (few : ℕ) (p q : PassState) : Type 0 where
  pub sx : q.view.grants.sx ≡ p.view.grants.sx
  pub s : q.view.grants.s ≤ p.view.grants.s + 9
  pub x : AddsFewX sizes few p q

-- the grants of a change of the leaf alone: X on the leaf, and on the log latch only where it came as far as the log
abbrev pub TakesFor : Sizes → Reply → PassState → PassState → Type 0
TakesFor sizes reply p q = TakesFew sizes (1 + one_if (reaches_log reply)) p q

-- the path to the leaf is over
pub record HasDescendedToLeaf (sizes : Sizes) (key : MapKey) (leaf : ℕ) (p q : PassState) : Type 0 where
  pub went : WentOn p q
  pub looked : 0 < length went.added
  pub at : IsAtLeaf sizes key leaf q
  pub seated : IsSeated sizes q
  pub takes : TakesFew sizes 1 p q

-- the change needed the leaf alone, in the tree at this place of what is seen
pub record NeededLeaf (sizes : Sizes) (why : ℕ → PageState → Type 0) (key : MapKey) (place : ℕ) (q : PassState) : Type 0 where
  pub alone : HasLeaf sizes why key (take place q.view.memory.seen) → ⊥

-- the change needs more than the leaf, in the tree after all seen. Nothing was changed
pub record NeedsTree (sizes : Sizes) (why : ℕ → PageState → Type 0) (key : MapKey) (p q : PassState) : Type 0 where
  pub stopped : HasStopped sizes p q
  pub needs : HasLeaf sizes why key q.view.memory.seen

-- a change of the leaf alone was tried: it was answered, or needs more than the leaf. Few grants were taken for it, and no look is known of afterwards
pub record HasTriedLeaf (sizes : Sizes) (why : ℕ → PageState → Type 0) (key : MapKey) (call : Call) (result : Option Record) (p q : PassState) : Type 0 where
  pub called : MatchOption result (NeedsTree sizes why key p q) (λ answer. HasCalled sizes (IsKeptLog sizes.pages) (by_place opening sizes.pages) call answer p q)
  pub alone : IfSome result (λ answer. NeededLeaf sizes why key answer.place q)
  pub grants : MatchOption result (TakesFew sizes 1 p q) (λ answer. TakesFor sizes answer.reply p q)
  pub forgotten : q.view.memory.since ≡ []
