-- The pages that are left are still taken, and giving them back leads to the whole.
use Rattle.std.proofs.Common.{◌≡◌, ℕ, ◌<◌, ◌≤◌, length, drop}
use Rattle.std.specs.Prelude.{slice_index}
use Rattle.ib_page.specs.declared.space.TheConstants.{MAPPED_PAGES}
use Rattle.ib_plans.specs.Agreement.{taken_bits, with_bits}
use Rattle.ib_merge.specs.Deletes.{AreTaken}
use Rattle.ib_merge.proofs.edits.give_all.Given as goal

abbrev pub invariant-loop-page : goal.invariant-loop-page
invariant-loop-page l =
    AreTaken (taken_bits l.space) (drop l.page-index l.pages)
    × ((page : ℕ) → page < MAPPED_PAGES → with_bits (drop l.page-index l.pages) 0 (taken_bits l.space) page ≡ with_bits l.pages 0 (taken_bits l.initial.space) page)
    × ((i : ℕ) → 64 ≤ i → slice_index l.space i ≡ slice_index l.initial.space i)
    × (length l.space ≡ length l.initial.space)
