-- The test of a whole memory is its visits, and what is asked of each page where it is met.
use Rattle.std.proofs.Common.{◌≡◌, ◌≢◌, ◌↔◌, ℕ, zero, suc, ◌+◌, ◌<◌, ◌≤◌, Bool, true, false, List, [], ◌∷◌, length, take, replicate, Option, Some, None, IsTrue, All, refl, sym, ap, subst, ◌∙◌, arith, inl, inr}
use Rattle.std.proofs.lemmas.Bool.{cases_lt, cases_eq, lt-ltb, le-ltb}
use Rattle.std.proofs.lemmas.Bool.Decides.{nat_tests}
use Rattle.std.specs.List.{range_with_len}
use Rattle.std.proofs.lemmas.List.FromFn.{length-range_with_len, get_or-range_with_len}
use Rattle.ib_map.specs.Keys.{end_rank}
use Rattle.ib_map.specs.Space.{has_pages}
use Rattle.ib_map.specs.declared.TheConstants.{PAGE_WORDS, LEAST_PAGES, MOST_PAGES}
use Rattle.ib_page.specs.Memory.{image_at, word_at}
use Rattle.ib_page.specs.Space.{is_taken, IsSpacePage}
use Rattle.ib_walk.specs.Trees.{most_height, opening_pages, opening_bits}
use Rattle.ib_walk.specs.Words.{memory_of, bits_of, IsLawfulMemory}
use Rattle.ib_validate.specs.declared.position.PagePosition.{PagePosition}
use Rattle.ib_validate.specs.PageTests.{PassesAt, bit_of}
use Rattle.ib_validate.specs.PatchTest.{Positions, IsKeptBeside, detach_pages, set_roots, visited}
use Rattle.ib_validate.specs.Positions.{is_good_at, marks_of, positions_of, IsStep}
use Rattle.ib_tree.specs.PageLists.{is_below, pages_below}
use Rattle.ib_tree.specs.Tests.{TellsGood, root_positions, PassesWhole}
use Rattle.ib_tree.specs.WholeTest.{AreLow, PassesAllPages}
use Rattle.ib_walk.proofs.ChoiceLaws.{Some-same}
use Rattle.ib_walk.proofs.ImageLaws.{image_of-images, memory_of-beyond}
use Rattle.ib_validate.proofs.PositionLaws.{positions-same}
use Rattle.ib_validate.proofs.PassLaws.{image_bits-there, image_bits-past, bit-once, low-level}
use Rattle.ib_validate.proofs.GoodLaws.{good-at, at-good}
use Rattle.ib_validate.proofs.StepLaws.{step-true, step-false}
use Rattle.ib_tree.proofs.RootPositionLaws.{root_positions-above, detach_pages-opening, all_back-opening}
use Rattle.ib_tree.proofs.WholeLaws.{IsLawfulMemory-passes, passes-IsLawfulMemory}

-- the list of all pages
pub All-pages_below : (n : ℕ) (P : ℕ → Type 0) → ((page : ℕ) → page < n → P page) → All P (pages_below n)
All-pages_below n P each k d lt =
    let within : k < n = let size = length-range_with_len 0 n in omega arith in
    subst P (let at = get_or-range_with_len 0 n k d within in omega arith) (each k within)

pub pages_below-at : (n : ℕ) (P : ℕ → Type 0) → All P (pages_below n) → (page : ℕ) → page < n → P page
pages_below-at n P all page lt =
    subst P (let at = get_or-range_with_len 0 n page 0 lt in omega arith) (all page 0 (let size = length-range_with_len 0 n in omega arith))

-- the levels of one root, and of two
pub AreLow-one : (images : List (List ℕ)) (roots : ℕ) → roots ≡ 1 → AreLow images roots
AreLow-one images roots one root some le = let most = ap most_height one in let low = low-level images root in omega arith

two-roots : (roots : ℕ) → 0 < roots → roots ≤ 2 → roots ≢ 1 → roots ≡ 2
two-roots roots some few ne = omega (arith, ne)

pub AreLow-two : (images : List (List ℕ)) (roots : ℕ) → 0 < roots → roots ≤ 2 → roots ≢ 1 → (memory_of images 1).level ≤ 3 → (memory_of images 2).level ≤ 3 → AreLow images roots
AreLow-two images roots some few ne first second root above le =
    let two = two-roots roots some few ne in
    let most = ap most_height two in
    elim (cases_eq root 1) [
      | inl is ↦ let same = ap (λ r. (memory_of images r).level) is in omega arith
      | inr other ↦ let is : root ≡ 2 = omega (arith, other) in let same = ap (λ r. (memory_of images r).level) is in omega arith
    ]

pub two-AreLow : (images : List (List ℕ)) (roots : ℕ) → 0 < roots → roots ≤ 2 → roots ≢ 1 → AreLow images roots → ((memory_of images 1).level ≤ 3) × ((memory_of images 2).level ≤ 3)
two-AreLow images roots some few ne low =
    let two = two-roots roots some few ne in
    let most = ap most_height two in
    (let first = low 1 (omega arith) some in omega arith, let second = low 2 (omega arith) (omega arith) in omega arith)

-- the front of lists that have room for more pages
take-range_with_len : (low n k : ℕ) → k ≤ n → take k (range_with_len low n) ≡ range_with_len low k
take-range_with_len low n zero le = refl
take-range_with_len low zero (suc k) le = absurd (omega arith)
take-range_with_len low (suc n) (suc k) le = ap (λ xs. low ∷ xs) (take-range_with_len (low + 1) n k (omega arith))

pub take-pages_below : (n k : ℕ) → k ≤ n → take k (pages_below n) ≡ pages_below k
take-pages_below n k le = take-range_with_len 0 n k le

positions_of-front : (xs : List (Option PagePosition)) (k page : ℕ) → page < k → positions_of (take k xs) page ≡ positions_of xs page
positions_of-front xs zero page lt = absurd (omega arith)
positions_of-front [] (suc k) page lt = refl
positions_of-front (x ∷ xs) (suc k) zero lt = refl
positions_of-front (x ∷ xs) (suc k) (suc page) lt = positions_of-front xs k page (omega arith)

positions_of-cut : (xs : List (Option PagePosition)) (k page : ℕ) → k ≤ page → positions_of (take k xs) page ≡ None
positions_of-cut xs zero page le = refl
positions_of-cut [] (suc k) page le = refl
positions_of-cut (x ∷ xs) (suc k) zero le = absurd (omega arith)
positions_of-cut (x ∷ xs) (suc k) (suc page) le = positions_of-cut xs k page (omega arith)

pub opening-front : (xs : List (Option PagePosition)) (k roots : ℕ) → roots < k → positions_of xs ≡ root_positions roots → positions_of (take k xs) ≡ root_positions roots
opening-front xs k roots lt is = positions-same (positions_of (take k xs)) (root_positions roots) (λ page. elim (cases_lt page k) [
  | inl within ↦ positions_of-front xs k page within ∙ ap (λ (table : Positions). table page) is
  | inr past ↦ positions_of-cut xs k page past ∙ sym (root_positions-above roots page (omega arith))
])

marks_of-front : (xs : List Bool) (k : ℕ) → k ≤ length xs → ((page : ℕ) → page < length xs → marks_of xs page ≡ true) → (page : ℕ) → marks_of (take k xs) page ≡ is_below k page
marks_of-front xs zero le all page = sym (le-ltb page 0 (omega arith))
marks_of-front [] (suc k) le all page = absurd (omega arith)
marks_of-front (x ∷ xs) (suc k) le all zero = all 0 (omega arith) ∙ sym (lt-ltb 0 (suc k) (omega arith))
marks_of-front (x ∷ xs) (suc k) le all (suc page) =
    marks_of-front xs k (omega arith) (λ p lt. all (suc p) (omega arith)) page ∙ elim (cases_lt page k) [
      | inl lt ↦ lt-ltb page k lt ∙ sym (lt-ltb (suc page) (suc k) (omega arith))
      | inr ge ↦ le-ltb page k ge ∙ sym (le-ltb (suc page) (suc k) (omega arith))
    ]

pub marks-front : (xs : List Bool) (k : ℕ) → k ≤ length xs → ((page : ℕ) → page < length xs → marks_of xs page ≡ true) → marks_of (take k xs) ≡ is_below k
marks-front xs k le all = λ i page. marks_of-front xs k le all page i

-- all pages are marked, and none is met
pub marks_of-all : (n page : ℕ) → page < n → marks_of (replicate n true) page ≡ true
marks_of-all zero page lt = absurd (omega arith)
marks_of-all (suc n) zero lt = refl
marks_of-all (suc n) (suc page) lt = marks_of-all n page (omega arith)

pub positions_of-none : (n page : ℕ) → positions_of (replicate n None) page ≡ None
positions_of-none zero page = refl
positions_of-none (suc n) zero = refl
positions_of-none (suc n) (suc page) = positions_of-none n page

-- the visits take no child off, since in a new space no page has one
pub visited-whole : (images : List (List ℕ)) (n roots : ℕ) (ps : List ℕ)
    → set_roots (is_below n) (memory_of images) end_rank roots (detach_pages (opening_pages roots) (root_positions roots) ps (root_positions roots))
    ≡ set_roots (is_below n) (memory_of images) end_rank roots (root_positions roots)
visited-whole images n roots ps = ap (set_roots (is_below n) (memory_of images) end_rank roots) (detach_pages-opening (is_below n) (opening_pages roots) roots ps (root_positions roots))

-- the visits of a whole memory
abbrev pub whole_visits : List (List ℕ) → ℕ → Option Positions
whole_visits images roots = visited (is_below (length images)) (opening_pages roots) (memory_of images) (is_good_at (memory_of images)) end_rank roots (pages_below (length images)) (root_positions roots)

module _ (images : List (List ℕ)) (least : LEAST_PAGES ≤ length images) (most : length images ≤ MOST_PAGES) (roots : ℕ) (few : roots ≤ 2) where
  fits : has_pages (length images) ≡ true
  fits = grind (arith, nat_tests, least, most)

  tells : TellsGood (is_good_at (memory_of images)) (memory_of images)
  tells height v = (good-at (memory_of images) height v, at-good (memory_of images) height v)

  lawful-passes : (table : Positions) → PassesWhole (length images) roots (word_at images) (is_good_at (memory_of images)) table → IsLawfulMemory (length images) roots (word_at images)
  lawful-passes table passes =
      (IsLawfulMemory-passes (length images) fits roots (omega arith) (word_at images) (memory_of-beyond images) (is_good_at (memory_of images)) tells table passes).0

  passes-lawful : IsLawfulMemory (length images) roots (word_at images) → (table : Positions) × PassesWhole (length images) roots (word_at images) (is_good_at (memory_of images)) table
  passes-lawful = passes-IsLawfulMemory (length images) fits roots (omega arith) (word_at images) (memory_of-beyond images) (is_good_at (memory_of images)) tells

  -- the positions of a lawful memory
  pub lawful-positions : IsLawfulMemory (length images) roots (word_at images) → (table : Positions) × IsKeptBeside (memory_of images) roots (length images) table
  lawful-positions lawful =
      let found = passes-lawful lawful in
      (found.0, (IsLawfulMemory-passes (length images) fits roots (omega arith) (word_at images) (memory_of-beyond images) (is_good_at (memory_of images)) tells found.0 found.1).1)

  -- a lawful memory has no visits that fail
  pub lawful-unvisited : (went : Bool) (table : Positions) → IsStep (whole_visits images roots) went table → went ≡ false → IsLawfulMemory (length images) roots (word_at images) → ⊥
  lawful-unvisited went table step failed lawful =
      let found = passes-lawful lawful in let none = step-false (whole_visits images roots) went table failed step in let both = sym none ∙ found.1.patch.visited_as in cc

  module _ (whole : length (image_at images 0) ≡ PAGE_WORDS) where
    there : (page : ℕ) → page < length images → bits_of (length images) (word_at images) page ≡ bit_of (is_taken (image_at images 0) page)
    there page lt = image_bits-there images page lt whole

    below-lt : (page : ℕ) → is_below (length images) page ≡ true → page < length images
    below-lt page w = elim (cases_lt page (length images)) [ inl lt ↦ lt | inr ge ↦ absurd (let t = le-ltb page (length images) ge in let z = sym t ∙ w in cc) ]

    others : (page : ℕ) → is_below (length images) page ≡ false → bits_of (length images) (word_at images) page ≡ opening_bits roots page
    others page w = elim (cases_lt page (length images)) [
      | inl lt ↦ absurd (let t = lt-ltb page (length images) lt in let z = sym t ∙ w in cc)
      | inr ge ↦ image_bits-past images page ge ∙ sym (let free = lt-ltb roots page (omega arith) in rw free refl)
    ]

    PassesWhole-all : (table : Positions) → whole_visits images roots ≡ Some table → PassesAllPages images roots table → PassesWhole (length images) roots (word_at images) (is_good_at (memory_of images)) table
    PassesWhole-all table went all =
        let n = length images in
        let at = pages_below-at n (λ p. PassesAt (memory_of images) end_rank table (bit_of (is_taken (image_at images 0) p)) p) all.each in
        record {
          space = subst (IsSpacePage n) (sym (image_of-images images 0 whole)) all.space;
          patch = record {
            levels = all.low;
            visited_as = went;
            back = all_back-opening (is_below n) (opening_pages roots) roots (pages_below n) table;
            linked = λ p w. (at p (below-lt p w)).linked;
            sound = λ p ne w. (at p (below-lt p w)).sound ne;
            taken = λ p w. there p (below-lt p w) ∙ (at p (below-lt p w)).taken;
            once = λ p w. let e = there p (below-lt p w) in let o = (at p (below-lt p w)).once in omega arith;
            few = λ p le w. absurd (let lt = below-lt p w in omega arith);
            freed = λ p w e. (at p (below-lt p w)).freed (sym (there p (below-lt p w)) ∙ e);
            others = others;
          };
        }

    all-PassesWhole : (table : Positions) → PassesWhole (length images) roots (word_at images) (is_good_at (memory_of images)) table → PassesAllPages images roots table
    all-PassesWhole table passes =
        let n = length images in
        record {
          space = subst (IsSpacePage n) (image_of-images images 0 whole) passes.space;
          low = passes.patch.levels;
          each = All-pages_below n (λ p. PassesAt (memory_of images) end_rank table (bit_of (is_taken (image_at images 0) p)) p) (λ p lt. let w = lt-ltb p n lt in record {
            linked = passes.patch.linked p w;
            sound = λ ne. passes.patch.sound p ne w;
            taken = sym (there p lt) ∙ passes.patch.taken p w;
            once = bit-once (is_taken (image_at images 0) p);
            freed = λ e. passes.patch.freed p w (there p lt ∙ e);
          });
        }

    -- the visits leave a table, at which all pages pass exactly where the memory is lawful
    pub lawful-visited : (went all : Bool) (table : Positions) → IsStep (whole_visits images roots) went table → went ≡ true → IsTrue all ↔ PassesAllPages images roots table
        → IsTrue all ↔ IsLawfulMemory (length images) roots (word_at images)
    lawful-visited went all table step passed tells_all =
        let visits = step-true (whole_visits images roots) went table passed step in (
          λ t. lawful-passes table (PassesWhole-all table visits (tells_all.0 t)),
          λ lawful.
              let found = passes-lawful lawful in
              let same : found.0 ≡ table = Some-same found.0 table (sym found.1.patch.visited_as ∙ visits) in
              tells_all.1 (subst (PassesAllPages images roots) same (all-PassesWhole found.0 found.1)),
        )
