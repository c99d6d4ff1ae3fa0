-- The pages that are left are still free, and taking them leads to the whole.
use Rattle.ib_plans.specs.Agreement.{taken_bits, with_bits}
use Rattle.std.proofs.Common.{◌≡◌, ℕ, ◌<◌, ◌≤◌, length, drop}
use Rattle.std.specs.Prelude.{slice_index}
use Rattle.ib_page.specs.declared.space.TheConstants.{MAPPED_PAGES}
use Rattle.ib_plans.specs.Insert.{AreFresh}
use Rattle.ib_split.proofs.edits.take_all.Given as goal

abbrev pub invariant-loop-page : goal.invariant-loop-page
invariant-loop-page l =
    AreFresh (taken_bits l.space) (drop l.page-index l.pages)
    × ((page : ℕ) → page < MAPPED_PAGES → with_bits (drop l.page-index l.pages) 1 (taken_bits l.space) page ≡ with_bits l.pages 1 (taken_bits l.initial.space) page)
    × ((i : ℕ) → 64 ≤ i → slice_index l.space i ≡ slice_index l.initial.space i)
    × (length l.space ≡ length l.initial.space)
