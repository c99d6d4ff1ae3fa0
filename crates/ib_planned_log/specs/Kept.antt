-- Kept logs: lawful ones, each of whose entries makes just the change that is planned for it.
use Rattle.std.specs.Prelude.{◌≡◌, ◌≢◌, ℕ, ◌+◌, ◌≤◌, Bool, false, nat_lt, List, [], ◌∷◌, ◌++◌}
use Rattle.std.specs.List.{AllByRecursion}
use Rattle.ib_map.specs.declared.call.Change.{Change}
use Rattle.ib_map.specs.declared.call.Change.TheVariants.{Insert, Delete}
use Rattle.ib_heap.specs.Heap.{read_heap}
use Rattle.ib_page.specs.Image.{records_of}
use Rattle.ib_page.specs.Space.{space_clock_of}
use Rattle.ib_logrec.specs.declared.entry.Entry.{Entry}
use Rattle.ib_logrec.specs.Log.{memory_after, by_place}
use Rattle.ib_walk.specs.Pages.{PageMemory}
use Rattle.ib_walk.specs.Full.{run_of, need_of, is_too_high, free_of, chosen}
use Rattle.ib_walk.specs.Words.{image_of, bits_of}
use Rattle.ib_plans.specs.Marks.{ticked}
use Rattle.ib_plans.specs.Moves.{Move, IsMovedHeap}
use Rattle.ib_plans.specs.Agreement.{space_ticks, with_bits}
use Rattle.ib_plans.specs.Changed.{memory_with, bits_with, touched_by, moves_by}
use Rattle.ib_plans.specs.Inserted.{insert_change}
use Rattle.ib_plans.specs.Deleted.{delete_change, merged_levels}
use Rattle.ib_tree.specs.Logs.{pages_after}
use Rattle.ib_tree.specs.TreeLog.{opening, IsTreeLog}

-- what a change is planned to make of the pages and the bits, all but the clocks, which pages it touches, and how their records move
pub record Planned : Type 0 where
  pub memory : PageMemory
  pub bits : ℕ → ℕ
  pub touched : ℕ → Bool
  pub moves : ℕ → Move

-- the plan of a change of the tree of a root, in a space of so many pages: what it makes of each page. An insert takes the lowest free pages
abbrev pub plan_of : ℕ → PageMemory → (ℕ → ℕ) → ℕ → Change → Planned
plan_of root memory bits pages (Insert key value) =
    let fresh = chosen bits pages (need_of memory key root) in
    let change = insert_change memory fresh key value root in
    record { memory = memory_with change memory; bits = with_bits fresh 1 bits; touched = touched_by change (nat_lt 0 (run_of memory key root)); moves = moves_by change }
plan_of root memory bits pages (Delete key) =
    let change = delete_change memory key root in
    record { memory = memory_with change memory; bits = bits_with change bits; touched = touched_by change (nat_lt 0 (merged_levels memory key root)); moves = moves_by change }

-- the change of that tree, one of so many, is not refused: the tree need not grow too high, and there are pages enough
abbrev pub MayPlan : ℕ → ℕ → PageMemory → (ℕ → ℕ) → ℕ → Change → Type 0
MayPlan roots root memory bits pages (Insert key value) = (is_too_high roots memory key root ≡ false) × (need_of memory key root ≤ free_of bits pages)
MayPlan roots root memory bits pages (Delete key) = Unit {0}

-- words of all pages before a planned change and after it: its pages and bits, the clock of each page that it touches one higher, and the records standing as it moves them. Each page that it does not touch is as it was, word for word
pub record IsPlannedStep (pages : ℕ) (before after : ℕ → ℕ) (old new : PageMemory) (p : Planned) : Type 0 where
  pub pages_are : (n : ℕ) → n ≢ 0 → new n ≡ ticked old p.touched p.memory n
  pub moved : (n : ℕ) → n ≢ 0 → IsMovedHeap (p.moves n) (records_of (image_of before n)) (read_heap (image_of before n)) (read_heap (image_of after n))
  pub kept : (n : ℕ) → p.touched n ≡ false → image_of after n ≡ image_of before n
  pub bits_are : (n : ℕ) → bits_of pages after n ≡ p.bits n
  pub clock : space_clock_of (image_of after 0) ≡ space_clock_of (image_of before 0) + space_ticks p.touched

-- an entry behind others makes the change that is planned for it, and writes exactly the words that differ
pub record IsPlannedEntry (pages : ℕ) (start : ℕ → ℕ) (front : List Entry) (e : Entry) : Type 0 where
  pub may : MayPlan 1 1 (pages_after start front) (bits_of pages (memory_after start front)) pages e.change
  pub step : IsPlannedStep pages (memory_after start front) (memory_after start (front ++ e ∷ [])) (pages_after start front) (pages_after start (front ++ e ∷ []))
      (plan_of 1 (pages_after start front) (bits_of pages (memory_after start front)) pages e.change)
  pub differ : AllByRecursion (λ w. memory_after start front w.place ≢ w.value) e.writes

-- a lawful log of one tree over the pages of a new space, whose entries are all planned
pub record IsKeptLog (pages : ℕ) (log : List Entry) : Type 0 where
  pub lawful : IsTreeLog pages log
  pub planned_are : (front : List Entry) (e : Entry) (back : List Entry) → log ≡ front ++ e ∷ back → IsPlannedEntry pages (by_place opening pages) front e
