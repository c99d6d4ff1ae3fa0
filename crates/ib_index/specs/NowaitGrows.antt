-- An insert that changes the tree's structure by tries: the fresh pages that it did not get.
use Rattle.std.specs.Prelude.{◌≡◌, ℕ, List, ◌∷◌, length}
use Rattle.ib_map.specs.Keys.{MapKey}
use Rattle.ib_levels.specs.declared.level.Mode.{Mode}
use Rattle.ib_levels.specs.declared.level.Mode.TheVariants.{X}
use Rattle.ib_layout.specs.Geometry.{Sizes}
use Rattle.ib_page.specs.Work.{changed_of}
use Rattle.ib_logrec.specs.declared.entry.Entry.{Entry}
use Rattle.ib_plans.specs.Agreement.{IsThere}
use Rattle.ib_planned_log.specs.Kept.{IsKeptLog}
use Rattle.ib_rule.specs.Pass.{PassState}
use Rattle.ib_cursor.specs.declared.fault.NowaitFault.{NowaitFault}
use Rattle.ib_cursor.specs.Refusals.{IsLatchOf, IsRefusal, TakesPages}
use Rattle.ib_index.specs.declared.nowait_insert.FreshFault.{FreshFault}
use Rattle.ib_index.specs.declared.nowait_insert.FreshFault.TheVariants.{Refused, Short}
use Rattle.ib_index.specs.Grows.{HoldsPath, IsShort}
use Rattle.ib_index.specs.Refusals.{fresh_after}

-- one of the fresh pages was refused behind page 0, and the pages that are held are as they were
pub record IsNewRefused (sizes : Sizes) (key : MapKey) (path fresh : List ℕ) (fault : NowaitFault) (p q : PassState) : Type 0 where
  pub refusal : IsRefusal sizes (IsKeptLog sizes.pages) (TakesPages fresh) (record { s = 0; sx = 0; x = length fresh }) fault p q
  pub at : HoldsPath sizes key path q
  pub same : (n : ℕ) → IsThere p.work n → changed_of n q.work ≡ changed_of n p.work

-- what is taken behind the pages of the tree: page 0, and the fresh pages that the insert needs
abbrev pub TakesFresh : Sizes → MapKey → List Entry → Mode → ℕ → Type 0
TakesFresh sizes key log mode l = (mode ≡ X) × IsLatchOf (0 ∷ fresh_after sizes key log) l

-- the fresh pages were not taken: too few are free, or a page of these was refused
abbrev pub HasNotTakenFresh : Sizes → MapKey → List ℕ → ℕ → FreshFault → PassState → PassState → Type 0
HasNotTakenFresh sizes key path need (Short free) p q = IsShort sizes key path free need p q
HasNotTakenFresh sizes key path need (Refused fault) p q = IsRefusal sizes (IsKeptLog sizes.pages) (TakesFresh sizes key) (record { s = 0; sx = 0; x = 9 }) fault p q
