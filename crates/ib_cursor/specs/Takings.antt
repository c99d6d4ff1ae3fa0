-- Pages that are taken in X behind the claimed index, one after the other, each of them loaded.
use Rattle.std.specs.Prelude.{◌≡◌, ℕ, ◌+◌, ◌<◌, ◌==◌, Bool, true, false, List, [], ◌∷◌, ◌++◌, length, map, Some, ◌≤◌}
use Rattle.std.specs.List.{All, AllByRecursion, list_any}
use Rattle.ib_levels.specs.declared.level.Mode.TheVariants.{X}
use Rattle.ib_page.specs.Work.{WorkPage}
use Rattle.ib_layout.specs.Geometry.{Sizes}
use Rattle.ib_logrec.specs.declared.entry.Entry.{Entry}
use Rattle.ib_walk.specs.Pages.{Tree}
use Rattle.ib_tree.specs.Logs.{pages_after}
use Rattle.ib_tree.specs.PageLists.{is_listed, AreOnce}
use Rattle.ib_rule.specs.Pass.{PassState}
use Rattle.ib_rule.specs.Views.{is_watched, with_grant}
use Rattle.ib_cursor.specs.Grants.{Grant, page_grant, HasGrants}
use Rattle.ib_cursor.specs.Going.{IsKnown, WentOn}
use Rattle.ib_cursor.specs.Claims.{claim_grant, IsAsRead, beside}
use Rattle.ib_cursor.specs.Shapes.{is_claimed, KeepsClaim}

-- whether a page is in the work set
abbrev pub is_loaded : ℕ → List WorkPage → Bool
is_loaded page ws = list_any (λ w. w.page == page) ws

-- the grants of these pages
abbrev pub page_grants : List ℕ → List Grant
page_grants held = map (λ page. page_grant page X) held

-- a page of the work set as it was read, whose latch is watched
pub record IsHeldPage (opening : ℕ → ℕ) (p : PassState) (w : WorkPage) : Type 0 where
  pub read : IsAsRead opening p.view.memory.seen w
  pub watched : is_watched (w.page + 2) p.view.memory.since ≡ true

-- the index is claimed, and these pages are held in X in this order; they alone are loaded, unchanged
pub record HoldsClaimed (sizes : Sizes) (lawful : List Entry → Type 0) (opening : ℕ → ℕ) (held : List ℕ) (p : PassState) : Type 0 where
  pub grants : HasGrants (claim_grant ∷ page_grants held) p
  pub claimed : is_claimed p.view.memory.since ≡ true
  pub watched : AllByRecursion (λ page. is_watched (page + 2) p.view.memory.since ≡ true) held
  pub loaded : (page : ℕ) → is_loaded page p.work ≡ is_listed held page
  pub count : length p.work ≡ length held
  pub read : All (IsHeldPage opening p) p.work
  pub known : IsKnown sizes lawful p

-- .. and one more, which is none of them, may be taken
pub record CanTakePage (sizes : Sizes) (lawful : List Entry → Type 0) (opening : ℕ → ℕ) (held : List ℕ) (page : ℕ) (p : PassState) : Type 0 where
  pub holds : HoldsClaimed sizes lawful opening held p
  pub other : is_listed held page ≡ false
  pub few : length held < 24

-- each of these pages is as it was
abbrev pub AreSteady : (ℕ → ℕ) → List ℕ → PassState → PassState → Type 0
AreSteady opening held p q = AllByRecursion (λ page. pages_after opening q.view.memory.seen page ≡ pages_after opening p.view.memory.seen page) held

-- .. and was, and the others are as they were
pub record HasTakenPage (sizes : Sizes) (lawful : List Entry → Type 0) (opening : ℕ → ℕ) (held : List ℕ) (page : ℕ) (p q : PassState) : Type 0 where
  pub holds : HoldsClaimed sizes lawful opening (held ++ page ∷ []) q
  pub keeps : KeepsClaim p q
  pub steady : AreSteady opening held p q
  pub went : WentOn p q
  pub grants : q.view.grants ≡ with_grant (Some X) p.view.grants

-- these pages more are taken, and the others are as they were
pub record HasTakenMore (sizes : Sizes) (lawful : List Entry → Type 0) (opening : ℕ → ℕ) (held more : List ℕ) (p q : PassState) : Type 0 where
  pub holds : HoldsClaimed sizes lawful opening (held ++ more) q
  pub keeps : KeepsClaim p q
  pub steady : AreSteady opening held p q
  pub went : WentOn p q
  pub s : q.view.grants.s ≡ p.view.grants.s
  pub sx : q.view.grants.sx ≡ p.view.grants.sx
  pub x : q.view.grants.x ≡ p.view.grants.x + length more

-- these pages are held, and more are to be taken, each once
pub record WillTake (sizes : Sizes) (lawful : List Entry → Type 0) (opening : ℕ → ℕ) (held more : List ℕ) (p : PassState) : Type 0 where
  pub holds : HoldsClaimed sizes lawful opening held p
  pub once : AreOnce (held ++ more) sizes.pages
  pub few : length (held ++ more) ≤ 24

-- .. and these are the first of them, where some pages are held and some may come behind
abbrev pub MayTakeFirst : Sizes → (List Entry → Type 0) → (ℕ → ℕ) → List ℕ → PassState → Type 0
MayTakeFirst sizes lawful opening first p = (held : List ℕ) × (more : List ℕ) × WillTake sizes lawful opening held (first ++ more) p

-- whatever was held, and whatever comes behind, these are taken
abbrev pub TakesFirst : Sizes → (List Entry → Type 0) → (ℕ → ℕ) → List ℕ → PassState → PassState → Type 0
TakesFirst sizes lawful opening first p q = (held more : List ℕ) → WillTake sizes lawful opening held (first ++ more) p → HasTakenMore sizes lawful opening held first p q

-- the pages of a path that was read may be taken behind those that are held, and on the leaf level those beside its leaf, from left to right: the leaf's link to the right stays as it is, as long as the index is claimed
pub record MayTakePath (sizes : Sizes) (lawful : List Entry → Type 0) (opening : ℕ → ℕ) (held path : List ℕ) (leaf left : ℕ) (p : PassState) : Type 0 where
  pub front : List ℕ
  pub right : ℕ
  pub ends : path ≡ front ++ leaf ∷ []
  pub will : WillTake sizes lawful opening held (front ++ (beside left ++ leaf ∷ beside right)) p
  pub names : (q : PassState) → IsKnown sizes lawful q → KeepsClaim p q → ((pages_after opening q.view.memory.seen leaf).kind ≡ Tree) × ((pages_after opening q.view.memory.seen leaf).next ≡ right)

-- the leaf level may be taken: the leaf's link to the right stays as it is, as long as the index is claimed
pub record MayTakeLeaves (sizes : Sizes) (lawful : List Entry → Type 0) (opening : ℕ → ℕ) (leaf left : ℕ) (p : PassState) : Type 0 where
  pub held : List ℕ
  pub right : ℕ
  pub will : WillTake sizes lawful opening held (beside left ++ leaf ∷ beside right) p
  pub names : (q : PassState) → IsKnown sizes lawful q → KeepsClaim p q → ((pages_after opening q.view.memory.seen leaf).kind ≡ Tree) × ((pages_after opening q.view.memory.seen leaf).next ≡ right)
