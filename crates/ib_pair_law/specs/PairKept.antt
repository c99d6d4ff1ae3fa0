-- Kept logs of a pair of trees: lawful ones, each of whose entries makes the change that is planned for the first tree, and after it
-- the one that is planned for the second, which finds the pairs of the first by their values.
use Rattle.std.specs.Prelude.{◌≡◌, ◌≢◌, ℕ, List, [], ◌∷◌, ◌++◌}
use Rattle.std.specs.List.{AllByRecursion}
use Rattle.ib_map.specs.declared.call.Change.{Change}
use Rattle.ib_second_key.specs.SecondChanges.{IsPrimaryChange, second_change}
use Rattle.ib_second_key.specs.SecondKeys.{second_of}
use Rattle.ib_logrec.specs.declared.entry.Entry.{Entry}
use Rattle.ib_logrec.specs.Log.{memory_after, map_of, by_place}
use Rattle.ib_walk.specs.Trees.{content_of}
use Rattle.ib_walk.specs.Words.{pages_of, bits_of}
use Rattle.ib_tree.specs.Logs.{pages_after, IsLawfulLog}
use Rattle.ib_planned_log.specs.Kept.{plan_of, MayPlan, IsPlannedStep}
use Rattle.ib_pair_law.specs.Opening.{pair_opening}

-- the plan of a change of one of the two trees leads from these words of all pages to those, and is not refused
pub record IsStepOf (pages root : ℕ) (change : Change) (before after : ℕ → ℕ) : Type 0 where
  pub may : MayPlan 2 root (pages_of before) (bits_of pages before) pages change
  pub step : IsPlannedStep pages before after (pages_of before) (pages_of after) (plan_of root (pages_of before) (bits_of pages before) pages change)

-- an entry after others makes the change that is planned for the first tree, then the one that is planned for the second over the pages that the first leaves, and writes exactly the words that differ. `middle` are the words of all pages between the two
pub record IsPairEntry (pages : ℕ) (start : ℕ → ℕ) (front : List Entry) (e : Entry) : Type 0 where
  pub primary : IsPrimaryChange e.change
  pub middle : ℕ → ℕ
  pub first : IsStepOf pages 1 e.change (memory_after start front) middle
  pub second : IsStepOf pages 2 (second_change (map_of front) e.change) middle (memory_after start (front ++ e ∷ []))
  pub differ : AllByRecursion (λ w. memory_after start front w.place ≢ w.value) e.writes

-- a lawful log of two trees over the pages of a new space, whose entries are all planned so, and after each the second tree has the pairs of the map by their values
pub record IsPairLog (pages : ℕ) (log : List Entry) : Type 0 where
  pub lawful : IsLawfulLog pages 2 (by_place pair_opening pages) log
  pub planned_are : (front : List Entry) (e : Entry) (back : List Entry) → log ≡ front ++ e ∷ back → IsPairEntry pages (by_place pair_opening pages) front e
  pub seconds : (front : List Entry) (e : Entry) (back : List Entry) → log ≡ front ++ e ∷ back
      → content_of (pages_after (by_place pair_opening pages) (front ++ e ∷ [])) 2 ≡ second_of (map_of (front ++ e ∷ []))
