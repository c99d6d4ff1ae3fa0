-- From a leaf to the next.
use Rattle.std.specs.Prelude.{◌≡◌, ◌≢◌, ℕ, ◌+◌, true, List, [], ◌∷◌, ◌++◌, length, Some}
use Rattle.ib_map.specs.declared.TheConstants.{PAGE_WORDS}
use Rattle.ib_levels.specs.declared.level.Level.TheVariants.{TreeNode}
use Rattle.ib_levels.specs.declared.level.Mode.TheVariants.{S}
use Rattle.ib_page.specs.Image.{next_of}
use Rattle.ib_layout.specs.Geometry.{Sizes}
use Rattle.ib_core.specs.Holders.{CanWish}
use Rattle.ib_logrec.specs.declared.entry.Entry.{Entry}
use Rattle.ib_logrec.specs.Law.{PageRange}
use Rattle.ib_tree.specs.Logs.{HasRange, pages_after}
use Rattle.ib_rule.specs.Conditions.{MayGrow}
use Rattle.ib_rule.specs.Pass.{PassState}
use Rattle.ib_rule.specs.Views.{is_watched, with_grant}
use Rattle.ib_mtr.specs.Loads.{IsPageAfter}
use Rattle.ib_cursor.specs.Grants.{Grant, page_grant, HasGrants, IsAway}
use Rattle.ib_cursor.specs.Going.{IsKnown, WentOn}

-- a leaf is held in S behind these grants, with a look at the log's end since, and it alone is loaded, unchanged: it is the leaf with this range in the tree after all seen
pub record HoldsLeaf (sizes : Sizes) (lawful : List Entry → Type 0) (opening : ℕ → ℕ) (roots : ℕ) (front : List Grant) (leaf : ℕ) (image : List ℕ) (r : PageRange) (p : PassState) : Type 0 where
  pub grants : HasGrants (front ++ page_grant leaf S ∷ []) p
  pub once : IsAway (leaf + 2) front
  pub watched : is_watched (leaf + 2) p.view.memory.since ≡ true
  pub work : p.work ≡ record { page = leaf; before = image; changed = image } ∷ []
  pub size : length image ≡ PAGE_WORDS
  pub is_page : IsPageAfter opening p.view.memory.seen leaf image
  pub known : IsKnown sizes lawful p
  pub lowest : r.level ≡ 0
  pub met : HasRange roots (pages_after opening p.view.memory.seen) leaf r

-- .. and the leaf behind it may be taken
pub record HeldLeaf (sizes : Sizes) (lawful : List Entry → Type 0) (opening : ℕ → ℕ) (roots leaf : ℕ) (p : PassState) : Type 0 where
  pub front : List Grant
  pub image : List ℕ
  pub range : PageRange
  pub holds : HoldsLeaf sizes lawful opening roots front leaf image range p
  pub grows : MayGrow p.view
  pub may : next_of image ≢ 0 → CanWish (next_of image + 2) TreeNode p.view.session

-- the next leaf is held in its place, and its range begins where that of the leaf ends. After all seen the leaf is as it was read, so the next one is what its link names
pub record HoldsNext (sizes : Sizes) (lawful : List Entry → Type 0) (opening : ℕ → ℕ) (roots : ℕ) (front : List Grant) (leaf : ℕ) (image : List ℕ) (r : PageRange) (next : ℕ) (p q : PassState) : Type 0 where
  pub link : next ≡ next_of image
  pub was : IsPageAfter opening q.view.memory.seen leaf image
  pub met : HasRange roots (pages_after opening q.view.memory.seen) leaf r
  pub out : List ℕ
  pub range : PageRange
  pub root : range.root ≡ r.root
  pub begins : range.low ≡ r.end
  pub holds : HoldsLeaf sizes lawful opening roots front next out range q
  pub went : WentOn p q
  pub grants : q.view.grants ≡ with_grant (Some S) p.view.grants
