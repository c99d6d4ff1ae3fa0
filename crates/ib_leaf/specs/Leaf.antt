-- The key's leaf, a session that holds it, and which leaf a change needs more than.
use Rattle.std.specs.Prelude.{◌≡◌, ◌≢◌, ℕ, ◌+◌, ◌^◌, ◌<◌, ◌≤◌, true, List, [], ◌∷◌, length, None, IsSome}
use Rattle.ib_map.specs.Keys.{MapKey}
use Rattle.ib_map.specs.Pairs.{value_at}
use Rattle.ib_map.specs.Space.{has_pages}
use Rattle.ib_map.specs.declared.TheConstants.{PAGE_WORDS}
use Rattle.ib_levels.specs.declared.level.Mode.TheVariants.{X}
use Rattle.ib_heap.specs.declared.TheConstants.{MOST_RECORDS}
use Rattle.ib_layout.specs.Geometry.{Sizes}
use Rattle.ib_logrec.specs.declared.entry.Entry.{Entry}
use Rattle.ib_logrec.specs.declared.entry.TheConstants.{MOST_SESSIONS}
use Rattle.ib_logrec.specs.Log.{by_place}
use Rattle.ib_walk.specs.Pages.{PageState}
use Rattle.ib_plans.specs.declared.TheConstants.{FEWEST_RECORDS}
use Rattle.ib_tree.specs.TreeLog.{opening}
use Rattle.ib_planned_log.specs.Kept.{IsKeptLog}
use Rattle.ib_planned_log.specs.LeafChange.{kept_pages, leaf_after}
use Rattle.ib_rule.specs.declared.view.Role.TheVariants.{Session}
use Rattle.ib_rule.specs.Pass.{PassState}
use Rattle.ib_rule.specs.Space.{SpaceState}
use Rattle.ib_rule.specs.Views.{is_watched}
use Rattle.ib_mtr.specs.Loads.{IsPageAfter}
use Rattle.ib_mtr.specs.Mtr.{IsMtr}
use Rattle.ib_cursor.specs.Going.{IsKnown}
use Rattle.ib_cursor.specs.Grants.{page_grant, HasGrants}

-- the key's leaf in the tree after all seen, as a page
abbrev pub the_leaf : Sizes → MapKey → PassState → ℕ
the_leaf sizes key p = leaf_after sizes.pages p.view.memory.seen key

abbrev pub leaf_page : Sizes → MapKey → PassState → PageState
leaf_page sizes key p = kept_pages sizes.pages p.view.memory.seen (the_leaf sizes key p)

-- the session stands on the key's leaf, which is held in X alone, with a look at the log's end since, and is loaded alone
pub record IsAtLeaf (sizes : Sizes) (key : MapKey) (leaf : ℕ) (p : PassState) : Type 0 where
  pub is_leaf : leaf ≡ the_leaf sizes key p
  pub grants : HasGrants (page_grant leaf X ∷ []) p
  pub watched : is_watched (leaf + 2) p.view.memory.since ≡ true
  pub image : List ℕ
  pub size : length image ≡ PAGE_WORDS
  pub is_page : IsPageAfter (by_place opening sizes.pages) p.view.memory.seen leaf image
  pub work : p.work ≡ record { page = leaf; before = image; changed = image } ∷ []
  pub known : IsKnown sizes (IsKeptLog sizes.pages) p

-- what every session is: of a space, with a number, and with no more entries made or seen than the log has words
pub record IsSeated (sizes : Sizes) (p : PassState) : Type 0 where
  pub fits : has_pages sizes.pages ≡ true
  pub role : p.view.role ≡ Session p.number
  pub number : (1 ≤ p.number) × (p.number ≤ MOST_SESSIONS)
  pub made : length p.view.memory.own ≤ length p.view.memory.seen
  pub few : length p.view.memory.seen < 2 ^ 31

-- a mini-transaction of such a session stands on the key's leaf
pub record WorksOnLeaf (space : SpaceState) (key : MapKey) (leaf : ℕ) (p : PassState) : Type 0 where
  pub mtr : IsMtr space p
  pub at : IsAtLeaf space.sizes key leaf p
  pub seated : IsSeated space.sizes p

-- an insert of the key needs more than this leaf: it is full, and has no pair of the key
abbrev pub IsFullFor : MapKey → ℕ → PageState → Type 0
IsFullFor key leaf page = (value_at key page.records ≡ None) × (length page.records ≡ MOST_RECORDS)

-- a delete of the key needs more than this leaf: it has the pair, is not the root, and would have fewer records than a page is to have
abbrev pub IsShortFor : MapKey → ℕ → PageState → Type 0
IsShortFor key leaf page = IsSome (value_at key page.records) × (leaf ≢ 1) × (length page.records ≤ FEWEST_RECORDS)

-- the key's leaf in the tree after a log is one of this kind
abbrev pub HasLeaf : Sizes → (ℕ → PageState → Type 0) → MapKey → List Entry → Type 0
HasLeaf sizes why key log = why (leaf_after sizes.pages log key) (kept_pages sizes.pages log (leaf_after sizes.pages log key))
