-- What a planned change of a lawful memory leads to.
use Rattle.std.specs.Prelude.{◌≡◌, ◌≢◌, ℕ, ◌<◌, ◌≤◌, Bool, false}
use Rattle.ib_map.specs.Pairs.{Pairs}
use Rattle.ib_walk.specs.Pages.{PageMemory}
use Rattle.ib_walk.specs.Walk.{Visit, counts_visit}
use Rattle.ib_walk.specs.Trees.{content_of, weight_of, IsLawful}

-- lawful trees again, of which that of the root has this content, and every other what it had; and each page that is not touched is as it was, and is met under the roots where it was met, at its level and with its range
pub record LeadsTo (before after : PageMemory) (bits : ℕ → ℕ) (roots root : ℕ) (touched : ℕ → Bool) (content : Pairs) : Type 0 where
  pub lawful : IsLawful after bits roots
  pub content_is : content_of after root ≡ content
  pub others : (r : ℕ) → 0 < r → r ≤ roots → r ≢ root → content_of after r ≡ content_of before r
  pub same : (page : ℕ) → touched page ≡ false → after page ≡ before page
  pub ranges : (r h : ℕ) (v : Visit) → 0 < r → r ≤ roots → touched v.page ≡ false → weight_of (counts_visit h v) after r ≡ weight_of (counts_visit h v) before r
