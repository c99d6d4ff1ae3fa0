-- Rows of pages that are taken behind the claimed index: the key's child under a node of the path, and the pages beside it there.
use Rattle.std.specs.Prelude.{◌≡◌, ℕ, ◌+◌, ◌*◌, ◌≤◌, true, List, ◌∷◌, ◌++◌, length, slice_get, IsSomeAnd}
use Rattle.std.specs.List.{AllByRecursion, flat_map}
use Rattle.ib_map.specs.Keys.{MapKey, rank}
use Rattle.ib_layout.specs.Geometry.{Sizes}
use Rattle.ib_logrec.specs.declared.entry.Entry.{Entry}
use Rattle.ib_walk.specs.Pages.{Tree}
use Rattle.ib_walk.specs.Trees.{weight_of}
use Rattle.ib_walk.specs.Walk.{counts_page}
use Rattle.ib_plans.specs.Agreement.{last_of, path_of}
use Rattle.ib_tree.specs.Logs.{pages_after}
use Rattle.ib_tree.specs.PageLists.{is_listed, AreOnce}
use Rattle.ib_rule.specs.Pass.{PassState}
use Rattle.ib_cursor.specs.Going.{IsKnown}
use Rattle.ib_cursor.specs.Shapes.{KeepsClaim}
use Rattle.ib_cursor.specs.Siblings.{with_siblings}
use Rattle.ib_cursor.specs.Takings.{HoldsClaimed, WillTake, HasTakenMore}

-- one of the pages that are held is a node of the key, and the pages of its row may be taken
pub record CanTakeRow (sizes : Sizes) (lawful : List Entry → Type 0) (opening : ℕ → ℕ) (key : MapKey) (held : List ℕ) (node : ℕ) (p : PassState) : Type 0 where
  pub will : WillTake sizes lawful opening held (with_siblings (pages_after opening p.view.memory.seen) key node) p
  pub there : is_listed held node ≡ true
  pub kind : (pages_after opening p.view.memory.seen node).kind ≡ Tree
  pub first : IsSomeAnd (slice_get (pages_after opening p.view.memory.seen node).records 0) (λ r. rank r.0 ≤ rank key)

-- none of these pages is met by the tree of the root, as long as the index is claimed
abbrev pub AreApart : Sizes → (List Entry → Type 0) → (ℕ → ℕ) → ℕ → List ℕ → PassState → Type 0
AreApart sizes lawful opening root held p = (q : PassState) → IsKnown sizes lawful q → KeepsClaim p q
    → AllByRecursion (λ page. weight_of (counts_page page) (pages_after opening q.view.memory.seen) root ≡ 0) held

-- rows of a path may be taken behind the pages that are held, which are none of its tree's
pub record MayTakeRows (sizes : Sizes) (lawful : List Entry → Type 0) (opening : ℕ → ℕ) (root : ℕ) (path held : List ℕ) (p : PassState) : Type 0 where
  pub holds : HoldsClaimed sizes lawful opening held p
  pub once : AreOnce held sizes.pages
  pub apart : AreApart sizes lawful opening root held p
  pub few : length held + 3 * length path ≤ 25

-- behind these pages the root is taken, and the rows below so many nodes of the path, in the tree after all seen; this is the last page of them
pub record HasTakenRows (sizes : Sizes) (lawful : List Entry → Type 0) (opening : ℕ → ℕ) (held : List ℕ) (root : ℕ) (key : MapKey) (path : List ℕ) (count last : ℕ) (p q : PassState) : Type 0 where
  pub above : List ℕ
  pub node : ℕ
  pub rest : List ℕ
  pub is : path ≡ above ++ node ∷ rest
  pub many : length above ≡ count
  pub on_path : path ≡ path_of (pages_after opening q.view.memory.seen) key root
  pub taken : HasTakenMore sizes lawful opening held (root ∷ flat_map (with_siblings (pages_after opening q.view.memory.seen) key) above) p q
  pub last_is : last ≡ last_of (root ∷ flat_map (with_siblings (pages_after opening q.view.memory.seen) key) above)
