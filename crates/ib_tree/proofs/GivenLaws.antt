-- The test of a patch of lawful trees: it passes exactly where the new trees are lawful and the pages that are not written keep their ranges.
use Rattle.std.proofs.Common.{◌≡◌, ℕ, Bool, List, sym, ◌∙◌}
use Rattle.ib_map.specs.Keys.{end_rank}
use Rattle.ib_walk.specs.Pages.{PageMemory}
use Rattle.ib_walk.specs.Walk.{Visit}
use Rattle.ib_walk.specs.Trees.{IsLawful}
use Rattle.ib_validate.specs.PatchTest.{Positions, IsKeptBeside, PassesTest}
use Rattle.ib_tree.specs.Tests.{KeepRanges, IsPatchGiven}
use Rattle.ib_tree.proofs.KeptLaws.{AreKept-ranges, ranges-AreKept}
use Rattle.ib_tree.proofs.PatchTheorem.{test-complete, test-sound}

-- a test passes in one way
pub passes-once : (written : ℕ → Bool) (m new : PageMemory) (good : ℕ → Visit → Bool) (bits after : ℕ → ℕ) (roots end : ℕ) (ps : List ℕ) (old table other : Positions)
    → PassesTest written m new good bits after roots end ps old table → PassesTest written m new good bits after roots end ps old other → table ≡ other
passes-once written m new good bits after roots end ps old table other a b = let x = sym a.visited_as ∙ b.visited_as in cc

module _ (written : ℕ → Bool) (m new : PageMemory) (good : ℕ → Visit → Bool) (bits after : ℕ → ℕ) (roots pages : ℕ) (ps : List ℕ) (old : Positions)
    (given : IsPatchGiven written m new good bits roots pages ps old) where
  pub IsLawful-passes : (table : Positions) → PassesTest written m new good bits after roots end_rank ps old table
      → IsLawful new after roots × KeepRanges written m new roots × IsKeptBeside new roots pages table
  IsLawful-passes table passes =
      let r = test-sound written m new given.same bits after roots given.lawful pages given.within old given.kept ps given.listed good (λ h v. (given.tells h v).0) table passes in
      (r.0, AreKept-ranges written m new roots r.1, r.2)

  pub passes-IsLawful : IsLawful new after roots → KeepRanges written m new roots → (table : Positions) × PassesTest written m new good bits after roots end_rank ps old table
  passes-IsLawful law ranges =
      test-complete written m new given.same bits after roots given.lawful pages given.within old given.kept ps given.listed good (λ h v. (given.tells h v).1) law
      (ranges-AreKept written m new roots bits after given.lawful law ranges)
