-- Guesses in the memory after kept logs.
use Rattle.std.specs.List.{AllByRecursion}
use Rattle.std.specs.Prelude.{◌↔◌}
use Rattle.std.proofs.Common.{◌≡◌, ◌≢◌, ℕ, true, false, List, ◌++◌, sym, ap, ◌∙◌}
use Rattle.ib_map.specs.Keys.{MapKey}
use Rattle.ib_map.specs.Space.{has_pages}
use Rattle.ib_map.specs.Writes.{touches}
use Rattle.ib_map.proofs.KeyLaws.{rank-lt_end}
use Rattle.ib_layout.specs.Geometry.{Sizes}
use Rattle.ib_page.specs.Form.{page_of}
use Rattle.ib_logrec.specs.declared.entry.Entry.{Entry}
use Rattle.ib_logrec.specs.Log.{by_place, memory_after}
use Rattle.ib_walk.specs.Pages.{PageState}
use Rattle.ib_walk.specs.Trees.{IsLawful}
use Rattle.ib_walk.specs.Words.{bits_of, state_of}
use Rattle.ib_walk.proofs.ImageLaws.{pages_of-image}
use Rattle.ib_tree.specs.TreeLog.{opening}
use Rattle.ib_planned_log.specs.Kept.{IsKeptLog}
use Rattle.ib_planned_log.specs.LeafChange.{kept_pages, leaf_after}
use Rattle.ib_planned_log.proofs.PushLaws.{lawful-before}
use Rattle.ib_cursor.specs.Guesses.{leaf_standing}
use Rattle.ib_cursor.proofs.StepLaws.{image_stays}
use Rattle.ib_hash.specs.Right.{IsRightAfter, is_right}
use Rattle.ib_hash.proofs.RightLaws.{none-right, right-is, right-stands}

module _ (sizes : Sizes) (fits : has_pages sizes.pages ≡ true) where
  abbrev start : ℕ → ℕ
  start = by_place opening sizes.pages

  module _ (log : List Entry) (kept : IsKeptLog sizes.pages log) where
    law : IsLawful (kept_pages sizes.pages log) (bits_of sizes.pages (memory_after start log)) 1
    law = (lawful-before sizes.pages fits log kept).law

    -- the page alone decides
    pub guess-stands : (page : ℕ) (key : MapKey) → page ≢ 0 → (is_right (leaf_standing key (kept_pages sizes.pages log page)) ≡ true) ↔ IsRightAfter sizes log page key
    guess-stands page key some = right-stands (kept_pages sizes.pages log) (bits_of sizes.pages (memory_after start log)) law page key some

    -- the page of a right guess is the key's leaf
    pub guess-leaf : (page : ℕ) (key : MapKey) → IsRightAfter sizes log page key → page ≡ leaf_after sizes.pages log key
    guess-leaf page key right = right-is (kept_pages sizes.pages log) (bits_of sizes.pages (memory_after start log)) law page key (rank-lt_end key) right

    -- no guess is none that is right
    pub guess-none : (key : MapKey) → IsRightAfter sizes log 0 key → ⊥
    guess-none key right = none-right (kept_pages sizes.pages log) (bits_of sizes.pages (memory_after start log)) law key right

  -- a guess is right where it was, if its page is as it was
  pub guess-same : (log new : List Entry) → IsKeptLog sizes.pages log → IsKeptLog sizes.pages new → (page : ℕ) (key : MapKey) → page ≢ 0
      → kept_pages sizes.pages new page ≡ kept_pages sizes.pages log page → IsRightAfter sizes log page key → IsRightAfter sizes new page key
  guess-same log new kept later page key some same right =
      (guess-stands new later page key some).0 (ap (λ (s : PageState). is_right (leaf_standing key s)) same ∙ (guess-stands log kept page key some).1 right)

  -- a page that no entry writes is as it was
  pub page-calm : (log others : List Entry) (page : ℕ) → AllByRecursion (λ e. touches page e.writes ≡ false) others → kept_pages sizes.pages (log ++ others) page ≡ kept_pages sizes.pages log page
  page-calm log others page calm =
      pages_of-image (memory_after start (log ++ others)) page
      ∙ (ap (λ (ws : List ℕ). state_of (page_of ws)) (image_stays start log others page calm) ∙ sym (pages_of-image (memory_after start log) page))
