-- A change that does not wait, and found a latch taken.
use Rattle.std.specs.Prelude.{◌≡◌, ◌⊎◌, ℕ, List, [], ◌∷◌, Option, Result, Ok, Err}
use Rattle.ib_map.specs.Keys.{MapKey}
use Rattle.ib_map.specs.declared.call.Call.{Call}
use Rattle.ib_map.specs.declared.call.Record.{Record}
use Rattle.ib_levels.specs.declared.level.Mode.{Mode}
use Rattle.ib_levels.specs.declared.level.Mode.TheVariants.{X}
use Rattle.ib_layout.specs.Geometry.{Sizes}
use Rattle.ib_logrec.specs.declared.entry.Entry.{Entry}
use Rattle.ib_logrec.specs.Log.{by_place, memory_after}
use Rattle.ib_walk.specs.Full.{chosen, need_of}
use Rattle.ib_walk.specs.Pages.{PageMemory, PageState}
use Rattle.ib_walk.specs.Words.{bits_of}
use Rattle.ib_tree.specs.TreeLog.{opening}
use Rattle.ib_planned_log.specs.Kept.{IsKeptLog}
use Rattle.ib_planned_log.specs.LeafChange.{kept_pages}
use Rattle.ib_frames.specs.declared.appends.LogFull.{LogFull}
use Rattle.ib_rule.specs.declared.looks.Grants.{Grants}
use Rattle.ib_rule.specs.Pass.{PassState}
use Rattle.ib_mtr.specs.declared.commit_nowait.CommitFault.{CommitFault}
use Rattle.ib_mtr.specs.declared.commit_nowait.CommitFault.TheVariants.{Full}
use Rattle.ib_cursor.specs.declared.fault.NowaitFault.{NowaitFault}
use Rattle.ib_cursor.specs.Refusals.{AreFewLooks, HasGivenUp, IsHeldByDelete, IsHeldByInsert, IsLatchOf, TakesFor, TakesForLeaf}
use Rattle.ib_leaf.specs.Leaf.{IsFullFor, IsShortFor}
use Rattle.ib_index.specs.Changes.{WasLeaf}
use Rattle.ib_index.specs.Leaf.{HasTriedLeaf}

-- a change gave up: it was refused one of the latches that it takes, in the tree after all seen, having taken so many grants at most
abbrev pub IsContended : Sizes → (List Entry → Mode → ℕ → Type 0) → Grants → NowaitFault → PassState → PassState → Type 0
IsContended sizes takes most fault p q = HasGivenUp sizes (IsKeptLog sizes.pages) takes most fault p q

-- what a change of the leaf alone takes: what its search takes, and in X the log latch
abbrev pub TakesOnLeaf : Sizes → MapKey → List Entry → Mode → ℕ → Type 0
TakesOnLeaf sizes key log mode l = TakesForLeaf (by_place opening sizes.pages) 1 key log mode l ⊎ ((mode ≡ X) × (l ≡ 0))

-- what a change with the tree takes, whose search ends with such pages held: what the search takes, and behind that in X these pages and the log latch
abbrev pub TakesInTree : Sizes → (PageMemory → List ℕ → Type 0) → List ℕ → MapKey → List Entry → Mode → ℕ → Type 0
TakesInTree sizes holds more key log mode l = TakesFor holds (by_place opening sizes.pages) 1 key log mode l ⊎ ((mode ≡ X) × (IsLatchOf more l ⊎ (l ≡ 0)))

-- the fresh pages that an insert needs in the tree after these entries
abbrev pub fresh_after : Sizes → MapKey → List Entry → List ℕ
fresh_after sizes key log = chosen (bits_of sizes.pages (memory_after (by_place opening sizes.pages) log)) sizes.pages (need_of (kept_pages sizes.pages log) key 1)

-- the pages behind those of the tree are page 0, and for an insert the fresh pages that it needs
abbrev pub TakesToInsert : Sizes → MapKey → List Entry → Mode → ℕ → Type 0
TakesToInsert sizes key log mode l = TakesInTree sizes (IsHeldByInsert 1 key) (0 ∷ fresh_after sizes key log) key log mode l

abbrev pub TakesToDelete : Sizes → MapKey → List Entry → Mode → ℕ → Type 0
TakesToDelete sizes key log mode l = TakesInTree sizes (IsHeldByDelete 1 key) (0 ∷ []) key log mode l

-- the grants of a change of the leaf alone, the second of X where the root was looked at as a leaf and became a node; of an insert with the tree; and of such a delete
abbrev pub most_on_leaf : Grants
most_on_leaf = record { s = 9; sx = 0; x = 2 }

abbrev pub most_to_insert : Grants
most_to_insert = record { s = 8; sx = 1; x = 19 }

abbrev pub most_to_delete : Grants
most_to_delete = record { s = 8; sx = 1; x = 24 }

-- a change was refused on the leaf alone; or with the tree, where the key's leaf was found to be one of this kind
abbrev pub IsContendedUnless : Sizes → (ℕ → PageState → Type 0) → (List Entry → Mode → ℕ → Type 0) → Grants → MapKey → NowaitFault → PassState → PassState → Type 0
IsContendedUnless sizes why takes most key fault p q = IsContended sizes (TakesOnLeaf sizes key) most_on_leaf fault p q ⊎ (WasLeaf sizes why key p q × IsContended sizes takes most fault p q)

abbrev pub IsInsertContended : Sizes → MapKey → NowaitFault → PassState → PassState → Type 0
IsInsertContended sizes key fault p q = IsContendedUnless sizes (IsFullFor key) (TakesToInsert sizes key) (record { s = 17; sx = 1; x = 21 }) key fault p q

abbrev pub IsDeleteContended : Sizes → MapKey → NowaitFault → PassState → PassState → Type 0
IsDeleteContended sizes key fault p q = IsContendedUnless sizes (IsShortFor key) (TakesToDelete sizes key) (record { s = 17; sx = 1; x = 26 }) key fault p q

-- a change of the leaf alone was tried without waiting, and no latch was refused: there were two looks at lock words at most for each grant
pub record HasTriedLeafAtOnce (sizes : Sizes) (why : ℕ → PageState → Type 0) (key : MapKey) (call : Call) (result : Option Record) (p q : PassState) : Type 0 where
  pub tried : HasTriedLeaf sizes why key call result p q
  pub few : AreFewLooks 0 p.view q.view

-- what a commit that does not wait answers, where it came as far as the log
abbrev pub by_log : Result ℕ LogFull → Result ℕ CommitFault
by_log (Ok place) = Ok place
by_log (Err full) = Err (Full full)
