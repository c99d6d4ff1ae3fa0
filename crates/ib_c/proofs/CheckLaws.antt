-- The words of pages as images, and whether those are a tree.
use Rattle.std.specs.Prelude.{map, slice_index, nat_le}
use Rattle.std.specs.Fork.{slice_chunk}
use Rattle.std.specs.List.{range_with_len}
use Rattle.std.proofs.Common.{◌≡◌, ◌∙◌, ℕ, ◌+◌, ◌*◌, ◌≤◌, List, [], length, drop, sym, ap, subst, arith, inl, inr}
use Rattle.std.proofs.lemmas.Bool.{cases_lt, leb-true, and_parts}
use Rattle.std.proofs.lemmas.List.{get_or-drop, get_or-take, get_or_past}
use Rattle.std.proofs.lemmas.List.FromFn.{length-map-range_with_len, get_or-map-range_with_len}
use Rattle.ib_map.specs.declared.TheConstants.{LEAST_PAGES, MOST_PAGES, PAGE_WORDS}
use Rattle.ib_map.specs.Writes.{index_at, page_at}
use Rattle.ib_page.specs.Memory.{image_at, word_at}
use Rattle.ib_walk.specs.Words.{IsLawfulMemory}
use Rattle.ib_c.specs.Checks.{ArePages, IsTree}

-- the word at a place of the images is that of the list
word_at-images : (words : List ℕ) (pages place : ℕ) → length words ≡ pages * PAGE_WORDS → word_at (map (slice_chunk words PAGE_WORDS) (range_with_len 0 pages)) place ≡ slice_index words place
word_at-images words pages place size =
    let chunk : ℕ → List ℕ = slice_chunk words PAGE_WORDS in
    elim (cases_lt (page_at place) pages) [
      | inl lt ↦
          let at : page_at place * PAGE_WORDS + index_at place ≡ place = omega arith in
          ap (λ (ws : List ℕ). slice_index ws (index_at place)) (get_or-map-range_with_len chunk 0 pages (page_at place) (page_at place) [] lt (omega arith))
          ∙ (get_or-take PAGE_WORDS (drop (page_at place * PAGE_WORDS) words) (index_at place) 0 (omega arith)
          ∙ (get_or-drop (page_at place * PAGE_WORDS) words (index_at place) 0 ∙ ap (slice_index words) at))
      | inr far ↦
          let none : image_at (map chunk (range_with_len 0 pages)) (page_at place) ≡ [] = get_or_past (map chunk (range_with_len 0 pages)) (page_at place) [] (omega (arith, length-map-range_with_len chunk 0 pages, far)) in
          ap (λ (ws : List ℕ). slice_index ws (index_at place)) none ∙ sym (get_or_past words place 0 (omega (arith, far, size)))
    ]

-- the images of pages are a lawful memory exactly where the words are a tree
module _ (words : List ℕ) (pages : ℕ) (are : ArePages words pages) (images : List (List ℕ)) (is : images ≡ map (slice_chunk words PAGE_WORDS) (range_with_len 0 pages)) where
  size : length images ≡ pages
  size = ap length is ∙ length-map-range_with_len (slice_chunk words PAGE_WORDS) 0 pages

  pub least : LEAST_PAGES ≤ length images
  least = let low = leb-true LEAST_PAGES pages (and_parts (nat_le LEAST_PAGES pages) (nat_le pages MOST_PAGES) are.space).0 in omega (arith, low, size)

  pub most : length images ≤ MOST_PAGES
  most = let high = leb-true pages MOST_PAGES (and_parts (nat_le LEAST_PAGES pages) (nat_le pages MOST_PAGES) are.space).1 in omega (arith, high, size)

  same : word_at images ≡ slice_index words
  same = ap word_at is ∙ (λ i place. word_at-images words pages place are.size i)

  pub tree : IsLawfulMemory (length images) 1 (word_at images) → IsTree words pages
  tree lawful = subst (λ (n : ℕ). IsLawfulMemory n 1 (slice_index words)) size (subst (IsLawfulMemory (length images) 1) same lawful)

  pub memory : IsTree words pages → IsLawfulMemory (length images) 1 (word_at images)
  memory lawful = subst (IsLawfulMemory (length images) 1) (sym same) (subst (λ (n : ℕ). IsLawfulMemory n 1 (slice_index words)) (sym size) lawful)
