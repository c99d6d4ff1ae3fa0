-- What a call of a pair of trees leaves.
use Rattle.std.specs.Prelude.{◌≡◌, ℕ, ◌+◌, ◌≤◌}
use Rattle.ib_map.specs.Keys.{MapKey}
use Rattle.ib_map.specs.declared.call.Call.{Call}
use Rattle.ib_map.specs.declared.call.Call.TheVariants.{Get}
use Rattle.ib_map.specs.declared.call.Record.{Record}
use Rattle.ib_layout.specs.Geometry.{Sizes}
use Rattle.ib_logrec.specs.Log.{by_place}
use Rattle.ib_rule.specs.Pass.{PassState}
use Rattle.ib_rule.specs.Views.{total}
use Rattle.ib_cursor.specs.Spaces.{space_of}
use Rattle.ib_leaf.specs.Calls.{CallLaw, HasCalledBy}
use Rattle.ib_pair_law.specs.Opening.{pair_opening}
use Rattle.ib_pair_law.specs.PairFits.{FitsPairLog}
use Rattle.ib_pair_law.specs.PairKept.{IsPairLog}

-- a call was answered, and its record fits the log of the pair: one answer, true of both trees at its place
abbrev pub HasCalledPair : Sizes → Call → Record → PassState → PassState → Type 0
HasCalledPair sizes call answer p q = HasCalledBy (FitsPairLog (space_of sizes (by_place pair_opening sizes.pages))) sizes (IsPairLog sizes.pages) call answer p q

-- a change of both trees claimed the index once, and took no more than so many grants in all
pub record TakesForChange (most : ℕ) (p q : PassState) : Type 0 where
  pub claims : q.view.grants.sx ≡ p.view.grants.sx + 1
  pub all : total q.view.grants ≤ total p.view.grants + most

-- a lookup was answered: from two to five grants of S were taken, for the index and each page of the key's path, and no other
pub record HasLookedUpPair (sizes : Sizes) (key : MapKey) (answer : Record) (p q : PassState) : Type 0 where
  pub called : HasCalledPair sizes (Get key) answer p q
  pub least : p.view.grants.s + 2 ≤ q.view.grants.s
  pub most : q.view.grants.s ≤ p.view.grants.s + 5
  pub sx : q.view.grants.sx ≡ p.view.grants.sx
  pub x : q.view.grants.x ≡ p.view.grants.x

-- under what calls of a pair of trees are answered
abbrev pub pair_calls : Sizes → CallLaw
pair_calls sizes = let start = by_place pair_opening sizes.pages in record { fits = FitsPairLog (space_of sizes start); lawful = IsPairLog sizes.pages; start = start }
