-- Positions of a cursor, stored and restored.
use Rattle.std.specs.Prelude.{◌≡◌, ℕ, ◌+◌, ◌<◌, ◌≤◌, true, false, List, [], ◌∷◌, length, take, drop, Some}
use Rattle.std.specs.List.{AllByRecursion}
use Rattle.ib_map.specs.Keys.{MapKey}
use Rattle.ib_map.specs.Writes.{touches}
use Rattle.ib_map.specs.declared.TheConstants.{PAGE_WORDS}
use Rattle.ib_levels.specs.declared.level.Mode.TheVariants.{S}
use Rattle.ib_layout.specs.Geometry.{Sizes}
use Rattle.ib_page.specs.Work.{changed_of}
use Rattle.ib_logrec.specs.declared.entry.Entry.{Entry}
use Rattle.ib_logrec.specs.Law.{PageRange}
use Rattle.ib_tree.specs.Logs.{HasRange, pages_after}
use Rattle.ib_rule.specs.Pass.{PassState}
use Rattle.ib_rule.specs.Views.{is_watched, with_grant}
use Rattle.ib_mtr.specs.Loads.{IsPageAfter}
use Rattle.ib_cursor.specs.declared.position.Position.{Position}
use Rattle.ib_cursor.specs.declared.position.Restored.{Restored}
use Rattle.ib_cursor.specs.declared.position.Restored.TheVariants.{Same, Moved}
use Rattle.ib_cursor.specs.Grants.{page_grant, HasGrants}
use Rattle.ib_cursor.specs.Going.{IsKnown, WentOn}
use Rattle.ib_cursor.specs.Descent.{HasDescended}
use Rattle.ib_cursor.specs.Nexts.{HoldsLeaf}

-- a leaf is loaded, and unchanged: it is the leaf with this range in the tree after all seen
pub record LoadedLeaf (sizes : Sizes) (lawful : List Entry → Type 0) (opening : ℕ → ℕ) (roots leaf : ℕ) (p : PassState) : Type 0 where
  pub image : List ℕ
  pub loaded : changed_of leaf p.work ≡ Some image
  pub size : length image ≡ PAGE_WORDS
  pub is_page : IsPageAfter opening p.view.memory.seen leaf image
  pub known : IsKnown sizes lawful p
  pub range : PageRange
  pub lowest : range.level ≡ 0
  pub met : HasRange roots (pages_after opening p.view.memory.seen) leaf range

-- a position in what is seen: behind so many entries, which are lawful, its page was a leaf of one of the trees, with this clock
pub record IsPosition (lawful : List Entry → Type 0) (opening : ℕ → ℕ) (roots : ℕ) (seen : List Entry) (at : Position) : Type 0 where
  pub within : at.place ≤ length seen
  pub legal : lawful (take at.place seen)
  pub range : PageRange
  pub lowest : range.level ≡ 0
  pub met : HasRange roots (pages_after opening (take at.place seen)) at.page range
  pub clock : at.clock ≡ (pages_after opening (take at.place seen) at.page).clock

-- a page was taken in S and loaded, as it is after all seen: it alone is held and loaded, one grant was added, and the log's end was looked at once
pub record HasLoadedAlone (sizes : Sizes) (lawful : List Entry → Type 0) (opening : ℕ → ℕ) (page : ℕ) (p q : PassState) : Type 0 where
  pub held : HasGrants (page_grant page S ∷ []) q
  pub watched : is_watched (page + 2) q.view.memory.since ≡ true
  pub image : List ℕ
  pub work : q.work ≡ record { page = page; before = image; changed = image } ∷ []
  pub size : length image ≡ PAGE_WORDS
  pub is_page : IsPageAfter opening q.view.memory.seen page image
  pub known : IsKnown sizes lawful q
  pub went : WentOn p q
  pub one : went.added ≡ length q.view.memory.seen ∷ []
  pub grants : q.view.grants ≡ with_grant (Some S) p.view.grants

-- the clock is as it was stored, so the page was not written since: it is held in S and loaded, with the range that it had, one grant was added, and the log's end was looked at once
pub record HasStayed (sizes : Sizes) (lawful : List Entry → Type 0) (opening : ℕ → ℕ) (roots : ℕ) (at : Position) (range : PageRange) (p q : PassState) : Type 0 where
  pub clock : (pages_after opening q.view.memory.seen at.page).clock ≡ at.clock
  pub unwritten : AllByRecursion (λ e. touches at.page e.writes ≡ false) (drop at.place q.view.memory.seen)
  pub image : List ℕ
  pub holds : HoldsLeaf sizes lawful opening roots [] at.page image range q
  pub went : WentOn p q
  pub one : went.added ≡ length q.view.memory.seen ∷ []
  pub grants : q.view.grants ≡ with_grant (Some S) p.view.grants

-- the clock is higher, so the page was written: after one grant of S on it, which was given back, the key's leaf was descended to
pub record HasMoved (sizes : Sizes) (lawful : List Entry → Type 0) (opening : ℕ → ℕ) (at : Position) (key : MapKey) (path : List ℕ) (p q : PassState) : Type 0 where
  pub clock : at.clock < (pages_after opening q.view.memory.seen at.page).clock
  pub left : PassState
  pub went : WentOn p left
  pub grants : left.view.grants ≡ with_grant (Some S) p.view.grants
  pub descended : HasDescended sizes lawful opening 1 key false path left q

-- a position was restored, of which the page had this range
abbrev pub HasRestored : Sizes → (List Entry → Type 0) → (ℕ → ℕ) → ℕ → Position → PageRange → MapKey → Restored → PassState → PassState → Type 0
HasRestored sizes lawful opening roots at range key Same p q = HasStayed sizes lawful opening roots at range p q
HasRestored sizes lawful opening roots at range key (Moved path) p q = HasMoved sizes lawful opening at key path p q
