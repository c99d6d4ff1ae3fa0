-- What a change of both trees holds, step by step: the paths of both keys, then page 0 and fresh pages for an insert, or the pages beside those of the paths for a delete.
use Rattle.std.specs.Prelude.{◌≡◌, ◌⊎◌, ℕ, ◌+◌, ◌<◌, ◌≤◌, true, false, List, ◌∷◌, ◌++◌, Some, None, length, map}
use Rattle.std.specs.List.{AllByRecursion}
use Rattle.ib_map.specs.Pairs.{value_at}
use Rattle.ib_map.specs.declared.call.Reply.{Reply}
use Rattle.ib_map.specs.declared.call.Reply.TheVariants.{Duplicate, SpaceFull, TooHigh}
use Rattle.ib_second_key.specs.SecondKeys.{second_key_of}
use Rattle.ib_levels.specs.Level.{may_follow}
use Rattle.ib_levels.specs.declared.level.Level.{Level}
use Rattle.ib_levels.specs.declared.level.Level.TheVariants.{Log}
use Rattle.ib_walk.specs.Full.{chosen, free_of, is_too_high, need_of}
use Rattle.ib_walk.specs.Trees.{weight_of}
use Rattle.ib_walk.specs.Walk.{counts_page}
use Rattle.ib_plans.specs.declared.fault.TreeFault.{TreeFault}
use Rattle.ib_plans.specs.declared.fault.TreeFault.TheVariants.{NeedPages as NeedPagesFault}
use Rattle.ib_plans.specs.Agreement.{HasTreePages, bits_in, last_of, memory_in, path_of, with_bits}
use Rattle.ib_merge.specs.Deletes.{HasDeleteImages}
use Rattle.ib_cursor.specs.Claims.{claim_grant}
use Rattle.ib_cursor.specs.Grants.{Grant}
use Rattle.ib_logrec.specs.Log.{by_place}
use Rattle.ib_cursor.specs.Siblings.{IsPathWithSiblings}
use Rattle.ib_cursor.specs.Takings.{HasTakenMore}
use Rattle.ib_pair_law.specs.Opening.{pair_opening}
use Rattle.ib_pair_law.specs.PairKept.{IsPairLog}
use Rattle.ib_pair_change.specs.PairPlans.{TooHighForPair}
use Rattle.ib_second.specs.PairReady.{IsPairReady, bits_seen, pages_seen}
use Rattle.ib_map.specs.Keys.{MapKey}
use Rattle.ib_layout.specs.Geometry.{Sizes}
use Rattle.ib_tree.specs.PageLists.{AreOnce}
use Rattle.ib_rule.specs.Pass.{PassState}
use Rattle.ib_rule.specs.Views.{total}
use Rattle.ib_cursor.specs.Going.{WentOn}
use Rattle.ib_index.specs.Grows.{held_grant, tree_pages}
use Rattle.ib_second.specs.Stands.{StandsOnPair}
use Rattle.ib_second.specs.PathImages.{HasPathImages}

-- the paths of both keys are held, each with the leaves beside its leaf, and nothing else is held but the claim
pub record HasComeToPair (sizes : Sizes) (key : MapKey) (path : List ℕ) (other_key : MapKey) (other_path : List ℕ) (p q : PassState) : Type 0 where
  pub held : List ℕ
  pub other_held : List ℕ
  pub stands : StandsOnPair sizes key path other_key other_path (tree_pages (held ++ other_held)) q
  pub images : HasPathImages path held q.work
  pub other_images : HasPathImages other_path other_held q.work
  pub once : AreOnce (held ++ other_held) sizes.pages
  pub met : AllByRecursion (λ n. 0 < weight_of (counts_page n) (pages_seen sizes q) 1) held
  pub other_met : AllByRecursion (λ n. 0 < weight_of (counts_page n) (pages_seen sizes q) 2) other_held
  pub went : WentOn p q
  pub looked : 0 < length went.added
  pub claims : q.view.grants.sx ≡ p.view.grants.sx + 1
  pub grants : total q.view.grants ≤ total p.view.grants + 21

-- the fresh pages of both trees are held too, behind page 0 where there are any: an insert of the pair may be planned
pub record HasTakenFresh (sizes : Sizes) (key : MapKey) (value : ℕ) (path other_path fresh other_fresh : List ℕ) (p q : PassState) : Type 0 where
  pub held : List (ℕ × Level)
  pub ready : IsPairReady sizes key value path fresh other_path other_fresh held q
  pub few : length held ≤ 25
  pub follow : AllByRecursion (λ (g : Grant). may_follow g.level Log ≡ true) (claim_grant ∷ map held_grant held)
  pub went : WentOn p q
  pub claims : q.view.grants.sx ≡ p.view.grants.sx
  pub grants : total q.view.grants ≤ total p.view.grants + 9

-- so many pages are needed in each tree after all seen, neither of which need grow too high, and the key is not there
pub record NeedsPages (sizes : Sizes) (key : MapKey) (value : ℕ) (path : List ℕ) (first second : ℕ) (p : PassState) : Type 0 where
  pub low : is_too_high 2 (pages_seen sizes p) key 1 ≡ false
  pub other_low : is_too_high 2 (pages_seen sizes p) (second_key_of key value) 2 ≡ false
  pub first_is : first ≡ need_of (pages_seen sizes p) key 1
  pub second_is : second ≡ need_of (pages_seen sizes p) (second_key_of key value) 2
  pub missing : value_at key (memory_in p.work (last_of path)).records ≡ None

-- by the image of page 0, which has the bits of so many pages, these are the fresh pages of both trees
abbrev pub IsChosenPair : ℕ → List ℕ → ℕ → ℕ → List ℕ → List ℕ → Type 0
IsChosenPair pages image first second one two =
    (one ≡ chosen (bits_in pages image) pages first) × (two ≡ chosen (with_bits one 1 (bits_in pages image)) pages second) × (first + second ≤ free_of (bits_in pages image) pages)

-- .. or too few are free, and the fault says how many
abbrev pub IsLackingPair : ℕ → List ℕ → ℕ → TreeFault → Type 0
IsLackingPair pages image need fault = (fault ≡ NeedPagesFault (free_of (bits_in pages image) pages) need) × (free_of (bits_in pages image) pages < need)

-- so many pages are free after all seen, and both inserts need more
pub record LacksPages (sizes : Sizes) (key : MapKey) (value free need : ℕ) (p : PassState) : Type 0 where
  pub low : is_too_high 2 (pages_seen sizes p) key 1 ≡ false
  pub other_low : is_too_high 2 (pages_seen sizes p) (second_key_of key value) 2 ≡ false
  pub free_is : free ≡ free_of (bits_seen sizes p) sizes.pages
  pub need_is : need ≡ need_of (pages_seen sizes p) key 1 + need_of (pages_seen sizes p) (second_key_of key value) 2
  pub short : free < need

-- page 0 is held too, and too few of the pages that it has are free: the insert is refused
pub record HasFoundTooFew (sizes : Sizes) (key : MapKey) (value : ℕ) (path other_path : List ℕ) (free need : ℕ) (p q : PassState) : Type 0 where
  pub held : List (ℕ × Level)
  pub stands : StandsOnPair sizes key path (second_key_of key value) other_path held q
  pub trees : HasTreePages path q.work
  pub missing : value_at key (memory_in q.work (last_of path)).records ≡ None
  pub lacks : LacksPages sizes key value free need q
  pub went : WentOn p q
  pub claims : q.view.grants.sx ≡ p.view.grants.sx
  pub grants : total q.view.grants ≤ total p.view.grants + 1

-- .. since a state before anything was held
pub record HasTakenAll (sizes : Sizes) (key : MapKey) (value : ℕ) (path other_path fresh other_fresh : List ℕ) (p q : PassState) : Type 0 where
  pub before : PassState
  pub taken : HasTakenFresh sizes key value path other_path fresh other_fresh before q
  pub went : WentOn p q
  pub looked : 0 < length went.added
  pub claims : q.view.grants.sx ≡ p.view.grants.sx + 1
  pub grants : total q.view.grants ≤ total p.view.grants + 30

-- why an insert of the pair is refused: the key is there, or one of the trees would grow too high, or too few pages are free
abbrev pub IsRefusal : Sizes → MapKey → ℕ → List ℕ → PassState → Reply → Type 0
IsRefusal sizes key value path p reply =
    ((reply ≡ Duplicate) × (old : ℕ) × (value_at key (memory_in p.work (last_of path)).records ≡ Some old))
    ⊎ (((reply ≡ TooHigh) × (value_at key (memory_in p.work (last_of path)).records ≡ None) × TooHighForPair (pages_seen sizes p) key (second_key_of key value))
    ⊎ ((free : ℕ) × (need : ℕ) × (reply ≡ SpaceFull free need) × (value_at key (memory_in p.work (last_of path)).records ≡ None) × LacksPages sizes key value free need p))

-- this reply refuses an insert of the pair, since a state before anything was held: the index is claimed, and it is so after all seen
pub record HasRefused (sizes : Sizes) (key : MapKey) (value : ℕ) (reply : Reply) (p q : PassState) : Type 0 where
  pub path : List ℕ
  pub other_path : List ℕ
  pub held : List (ℕ × Level)
  pub stands : StandsOnPair sizes key path (second_key_of key value) other_path held q
  pub trees : HasTreePages path q.work
  pub why : IsRefusal sizes key value path q reply
  pub went : WentOn p q
  pub looked : 0 < length went.added
  pub claims : q.view.grants.sx ≡ p.view.grants.sx + 1
  pub grants : total q.view.grants ≤ total p.view.grants + 22

-- after these pages the path of a key in the tree of a root was taken with the pages beside those of the path, and the leaf behind them
pub record HasTakenTree (sizes : Sizes) (held : List ℕ) (root : ℕ) (key : MapKey) (path : List ℕ) (p q : PassState) : Type 0 where
  pub more : List ℕ
  pub taken : HasTakenMore sizes (IsPairLog sizes.pages) (by_place pair_opening sizes.pages) held more p q
  pub siblings : IsPathWithSiblings (pages_seen sizes q) root key path more
  pub on_path : path ≡ path_of (pages_seen sizes q) key root
  pub once : AreOnce (held ++ more) sizes.pages
  pub met : AllByRecursion (λ n. 0 < weight_of (counts_page n) (pages_seen sizes q) root) more

-- all pages are held that a delete of the pair may change: it may be planned
pub record HasTakenRowsOfBoth (sizes : Sizes) (key : MapKey) (value : ℕ) (path other_path : List ℕ) (p q : PassState) : Type 0 where
  pub held : List (ℕ × Level)
  pub stands : StandsOnPair sizes key path (second_key_of key value) other_path held q
  pub images : HasDeleteImages path key q.work
  pub other_images : HasDeleteImages other_path (second_key_of key value) q.work
  pub found : value_at key (memory_in q.work (last_of path)).records ≡ Some value
  pub few : length held ≤ 25
  pub follow : AllByRecursion (λ (g : Grant). may_follow g.level Log ≡ true) (claim_grant ∷ map held_grant held)
  pub went : WentOn p q
  pub claims : q.view.grants.sx ≡ p.view.grants.sx
  pub grants : total q.view.grants ≤ total p.view.grants + 32
