-- Guesses at the leaf of a key: a page is latched alone, and tested where it lies.
use Rattle.std.specs.Prelude.{◌≡◌, ℕ, ◌+◌, Bool, true, false, ◌==◌, ◌&&◌, if◌then◌else◌, List, [], ◌∷◌, length, Option, Some, None}
use Rattle.ib_map.specs.Keys.{MapKey}
use Rattle.ib_levels.specs.declared.level.Mode.{Mode}
use Rattle.ib_heap.specs.declared.search.KeyStanding.{KeyStanding}
use Rattle.ib_heap.specs.Standing.{standing_of}
use Rattle.ib_page.specs.Image.{IsFormed}
use Rattle.ib_layout.specs.Geometry.{Sizes}
use Rattle.ib_logrec.specs.declared.entry.Entry.{Entry}
use Rattle.ib_logrec.specs.Log.{memory_after}
use Rattle.ib_walk.specs.Pages.{PageKind, Malformed, Free, Tree, PageState}
use Rattle.ib_walk.specs.Words.{image_of}
use Rattle.ib_rule.specs.Pass.{PassState}
use Rattle.ib_rule.specs.Views.{is_watched, with_grant}
use Rattle.ib_cursor.specs.Grants.{page_grant, HasGrants}
use Rattle.ib_cursor.specs.Going.{IsKnown, WentOn}

-- a page was latched, where nothing was held, and then the log's end looked at: one grant was added and one end, the page's latch alone is held, and no page is loaded. After all seen the page is one of a tree, or free
pub record HasLatchedAlone (sizes : Sizes) (lawful : List Entry → Type 0) (opening : ℕ → ℕ) (page : ℕ) (mode : Mode) (p q : PassState) : Type 0 where
  pub held : HasGrants (page_grant page mode ∷ []) q
  pub watched : is_watched (page + 2) q.view.memory.since ≡ true
  pub work : q.work ≡ []
  pub known : IsKnown sizes lawful q
  pub formed : IsFormed (image_of (memory_after opening q.view.memory.seen) page)
  pub went : WentOn p q
  pub one : went.added ≡ length q.view.memory.seen ∷ []
  pub grants : q.view.grants ≡ with_grant (Some mode) p.view.grants

-- whether a page is one of a tree
abbrev pub is_tree : PageKind → Bool
is_tree Malformed = false
is_tree Free = false
is_tree Tree = true

-- .. and a leaf there
abbrev pub is_leaf : PageState → Bool
is_leaf page = is_tree page.kind && (page.level == 0)

-- where a key stands on a page, if that is a leaf
abbrev pub leaf_standing : MapKey → PageState → Option KeyStanding
leaf_standing key page = if is_leaf page then Some (standing_of key page.records) else None
