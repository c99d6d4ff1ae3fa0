-- Where a session stands that changes both trees.
use Rattle.std.specs.Prelude.{◌≡◌, ℕ, ◌+◌, ◌<◌, List, [], ◌∷◌, ◌++◌, length, map, Some, true}
use Rattle.std.specs.List.{All}
use Rattle.ib_map.specs.Keys.{MapKey}
use Rattle.ib_levels.specs.declared.level.Level.{Level}
use Rattle.ib_layout.specs.Geometry.{Sizes}
use Rattle.ib_logrec.specs.Log.{by_place}
use Rattle.ib_page.specs.Work.{changed_of}
use Rattle.ib_plans.specs.Agreement.{IsThere, path_of}
use Rattle.ib_rule.specs.Views.{total, with_grant}
use Rattle.ib_cursor.specs.Going.{WentOn}
use Rattle.ib_tree.specs.Logs.{pages_after}
use Rattle.ib_tree.specs.PageLists.{is_listed}
use Rattle.ib_rule.specs.Pass.{PassState}
use Rattle.ib_cursor.specs.Claims.{claim_grant}
use Rattle.ib_cursor.specs.Going.{IsKnown}
use Rattle.ib_cursor.specs.Grants.{HasGrants}
use Rattle.ib_cursor.specs.Shapes.{is_claimed}
use Rattle.ib_cursor.specs.Takings.{IsHeldPage, is_loaded}
use Rattle.ib_index.specs.Grows.{held_grant, pages_held}
use Rattle.ib_levels.specs.declared.level.Mode.TheVariants.{X}
use Rattle.ib_pair_law.specs.Opening.{pair_opening}
use Rattle.ib_pair_law.specs.PairKept.{IsPairLog}

-- the index is claimed, and these pages are held in X, in this order: they alone are loaded, as they were read, and each latch is watched. The paths are those of the keys in both trees after all seen
pub record StandsOnPair (sizes : Sizes) (key : MapKey) (path : List ℕ) (other_key : MapKey) (other_path : List ℕ) (held : List (ℕ × Level)) (p : PassState) : Type 0 where
  pub claimed : is_claimed p.view.memory.since ≡ true
  pub read : All (IsHeldPage (by_place pair_opening sizes.pages) p) p.work
  pub known : IsKnown sizes (IsPairLog sizes.pages) p
  pub on_path : path ≡ path_of (pages_after (by_place pair_opening sizes.pages) p.view.memory.seen) key 1
  pub on_other_path : other_path ≡ path_of (pages_after (by_place pair_opening sizes.pages) p.view.memory.seen) other_key 2
  pub grants : HasGrants (claim_grant ∷ map held_grant held) p
  pub loaded : (page : ℕ) → is_loaded page p.work ≡ is_listed (pages_held held) page
  pub count : length p.work ≡ length held
  pub within : All (λ w. w.page < sizes.pages) p.work

-- one page more was taken in X at this level, and loaded, and nothing of others was seen
pub record HasTakenAt (sizes : Sizes) (key : MapKey) (path : List ℕ) (other_key : MapKey) (other_path : List ℕ) (held : List (ℕ × Level)) (page : ℕ) (level : Level) (p q : PassState) : Type 0 where
  pub stands : StandsOnPair sizes key path other_key other_path (held ++ (page, level) ∷ []) q
  pub went : WentOn p q
  pub grants : q.view.grants ≡ with_grant (Some X) p.view.grants
  pub seen : q.view.memory.seen ≡ p.view.memory.seen
  pub there : IsThere q.work page
  pub same : (n : ℕ) → IsThere p.work n → changed_of n q.work ≡ changed_of n p.work

-- pages at one level
abbrev pub at_level : Level → List ℕ → List (ℕ × Level)
at_level level pages = map (λ page. (page, level)) pages

-- these pages more were taken so, one after the other
pub record HasTakenEach (sizes : Sizes) (key : MapKey) (path : List ℕ) (other_key : MapKey) (other_path : List ℕ) (held : List (ℕ × Level)) (pages : List ℕ) (level : Level) (p q : PassState) : Type 0 where
  pub stands : StandsOnPair sizes key path other_key other_path (held ++ at_level level pages) q
  pub went : WentOn p q
  pub seen : q.view.memory.seen ≡ p.view.memory.seen
  pub claims : q.view.grants.sx ≡ p.view.grants.sx
  pub grants : total q.view.grants ≡ total p.view.grants + length pages
  pub there : All (IsThere q.work) pages
  pub same : (n : ℕ) → IsThere p.work n → changed_of n q.work ≡ changed_of n p.work
