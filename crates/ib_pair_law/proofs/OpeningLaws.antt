-- The words of a new space of two trees are those of lawful trees.
use Rattle.std.proofs.Common.{◌≡◌, ◌≢◌, ℕ, ◌<◌, ◌≤◌, true, [], sym, subst, arith}
use Rattle.ib_map.specs.Space.{has_pages}
use Rattle.ib_page.specs.Space.{space_clock_of}
use Rattle.ib_logrec.specs.Log.{by_place}
use Rattle.ib_walk.specs.Trees.{content_of}
use Rattle.ib_walk.specs.Words.{image_of, pages_of, IsLawfulMemory}
use Rattle.ib_walk.proofs.SpaceLaws.{clock-opening, space_clock-opening}
use Rattle.ib_tree.proofs.OpeningLaws.{by_place-opening_of, opens-of, opens_empty-of}
use Rattle.ib_pair_law.specs.Opening.{pair_opening}

module _ (pages : ℕ) where
  abbrev start : ℕ → ℕ
  start = by_place pair_opening pages

  pub clock-start : (page : ℕ) → page ≢ 0 → (pages_of start page).clock ≡ 0
  clock-start page ne = subst (λ (words : ℕ → ℕ). (pages_of words page).clock ≡ 0) (sym (by_place-opening_of 2 pages)) (clock-opening 2 page ne)

  pub space_clock-start : space_clock_of (image_of start 0) ≡ 0
  space_clock-start = subst (λ (words : ℕ → ℕ). space_clock_of (image_of words 0) ≡ 0) (sym (by_place-opening_of 2 pages)) (space_clock-opening 2)

  module _ (fits : has_pages pages ≡ true) where
    pub opens : IsLawfulMemory pages 2 start
    opens = opens-of 2 pages (omega arith) (omega arith) fits

    pub opens-empty : (r : ℕ) → 0 < r → r ≤ 2 → content_of (pages_of start) r ≡ []
    opens-empty r some le = opens_empty-of 2 pages (omega arith) (omega arith) r some le
