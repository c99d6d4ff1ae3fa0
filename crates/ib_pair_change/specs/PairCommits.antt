-- What an entry asks that makes the changes of both trees, as a work set has them.
use Rattle.std.specs.Prelude.{◌≡◌, ◌≢◌, ℕ, ◌<◌, ◌≤◌, true, List, length, IfSome}
use Rattle.std.specs.List.{All}
use Rattle.ib_map.specs.Map.{answer_of, is_made}
use Rattle.ib_map.specs.declared.call.Change.{Change}
use Rattle.ib_page.specs.Work.{WorkPage, IsWork, changed_of}
use Rattle.ib_logrec.specs.declared.entry.Entry.{Entry}
use Rattle.ib_logrec.specs.Log.{memory_after, map_of, by_place}
use Rattle.ib_walk.specs.Pages.{PageMemory}
use Rattle.ib_walk.specs.Trees.{IsLawful}
use Rattle.ib_walk.specs.Words.{bits_of, image_of, pages_of}
use Rattle.ib_plans.specs.Agreement.{IsPlanned, reads_of}
use Rattle.ib_plans.specs.Marks.{ticked}
use Rattle.ib_planned_log.specs.Kept.{MayPlan}
use Rattle.ib_planned_log.specs.Steps.{planned}
use Rattle.ib_planned_change.specs.Changes.{IsNextEntry, most_changed}
use Rattle.ib_second_key.specs.SecondChanges.{IsPrimaryChange, second_change}
use Rattle.ib_pair_law.specs.Opening.{pair_opening}

-- the words of the pages after a log
abbrev pub words_after : ℕ → List Entry → ℕ → ℕ
words_after pages log = memory_after (by_place pair_opening pages) log

-- the work set as it is changed: in order, within the space, of so few pages that all their words are no more than an entry has writes, with the images as read those of the words, and so were those that it had
pub record IsReadFrom (pages : ℕ) (words : ℕ → ℕ) (old new : List WorkPage) : Type 0 where
  pub work : IsWork new
  pub few : length new ≤ most_changed
  pub within : All (λ w. w.page < pages) new
  pub reads : reads_of new ≡ reads_of old
  pub read : All (λ w. image_of words w.page ≡ w.before) new
  pub was : (page : ℕ) → IfSome (changed_of page old) (λ image. image_of words page ≡ image)

-- the plan of a change of one tree, as a work set has it
abbrev pub HasPlan : ℕ → ℕ → PageMemory → (ℕ → ℕ) → Change → List WorkPage → List WorkPage → Type 0
HasPlan pages root memory bits change old new = let g = planned root memory bits pages change in IsPlanned pages memory g.memory g.bits g.touched g.moves old new

-- both changes are planned, the second in each memory and for each bits that the first leads to
pub record IsPlannedBoth (pages : ℕ) (memory : PageMemory) (bits : ℕ → ℕ) (change other : Change) (old middle new : List WorkPage) : Type 0 where
  pub may : MayPlan 2 1 memory bits pages change
  pub first : HasPlan pages 1 memory bits change old middle
  pub middle_reads : reads_of middle ≡ reads_of old
  pub second : (then : PageMemory) (after : ℕ → ℕ) → IsLawful then after 2
      → ((n : ℕ) → n ≢ 0 → then n ≡ ticked memory (planned 1 memory bits pages change).touched (planned 1 memory bits pages change).memory n)
      → ((n : ℕ) → after n ≡ (planned 1 memory bits pages change).bits n)
      → MayPlan 2 2 then after pages other × HasPlan pages 2 then after other middle new

-- a change of the map may be appended so after a kept log of a pair
pub record IsPairChange (pages : ℕ) (log : List Entry) (change : Change) (old middle new : List WorkPage) (e : Entry) : Type 0 where
  pub primary : IsPrimaryChange change
  pub made : is_made (answer_of (map_of log) change) ≡ true
  pub plans : IsPlannedBoth pages (pages_of (words_after pages log)) (bits_of pages (words_after pages log)) change (second_change (map_of log) change) old middle new
  pub from : IsReadFrom pages (words_after pages log) old new
  pub next : IsNextEntry log change new e
