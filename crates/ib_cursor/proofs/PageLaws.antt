-- A page of page memory by its image: its words, and what a search finds there.
use Rattle.std.proofs.Common.{◌≡◌, inl, inr, ℕ, zero, suc, ◌+◌, ◌-◌, ◌<◌, ◌≤◌, ◌^◌, true, [], ◌∷◌, Option, Some, slice_get, IsSomeAnd, refl, sym, ap, subst, ◌∙◌, arith}
use Rattle.std.specs.Prelude.{unwrap_or, nat_le}
use Rattle.std.proofs.lemmas.Bool.{cases_lt, lt-ltb, le-ltb, le-leb, lt-leb, leb-true, and_parts}
use Rattle.ib_map.specs.Keys.{MapKey, rank}
use Rattle.ib_map.specs.Space.{has_pages}
use Rattle.ib_map.specs.declared.TheConstants.{LEAST_PAGES, MOST_PAGES}
use Rattle.ib_map.specs.Pairs.{Pairs, index_after}
use Rattle.ib_layout.specs.Geometry.{Sizes}
use Rattle.ib_page.specs.Form.{page_of}
use Rattle.ib_page.specs.Image.{IsTreePage, level_of, next_of, records_of}
use Rattle.ib_heap.proofs.RouteLaws.{IsSomeAnd_get}
use Rattle.ib_walk.specs.Pages.{Tree}
use Rattle.ib_walk.specs.Words.{image_of, pages_of}
use Rattle.ib_walk.specs.Search.{child_for}
use Rattle.ib_walk.proofs.ImageLaws.{pages_of-image}
use Rattle.ib_plans.proofs.EditLaws.{state-tree, state-level, state-next, state-records}

-- what a page of the tree says, its image says
pub record IsTreeImage (words : ℕ → ℕ) (page : ℕ) : Type 0 where
  pub tree : IsTreePage (image_of words page)
  pub level : (pages_of words page).level ≡ level_of (image_of words page)
  pub next : (pages_of words page).next ≡ next_of (image_of words page)
  pub records : (pages_of words page).records ≡ records_of (image_of words page)

pub tree_image : (words : ℕ → ℕ) (page : ℕ) → (pages_of words page).kind ≡ Tree → IsTreeImage words page
tree_image words page kind =
    let is = pages_of-image words page in let v = page_of (image_of words page) in
    record {
      tree = state-tree v (ap (λ s. s.kind) (sym is) ∙ kind);
      level = ap (λ s. s.level) is ∙ state-level v;
      next = ap (λ s. s.next) is ∙ state-next v;
      records = ap (λ s. s.records) is ∙ state-records v;
    }

-- the child of a key stands in the last record that is not above the key
no-child : (key : MapKey) (d : ℕ) (xs : Pairs) → index_after key xs ≡ 0 → child_for key d xs ≡ d
no-child key d [] e = refl
no-child key d (x ∷ xs) e = elim (cases_lt (rank key) (rank x.0)) [
  | inl lt ↦ let yes = lt-ltb (rank key) (rank x.0) lt in rw yes refl
  | inr le ↦ let yes = le-leb (rank x.0) (rank key) le in let bad : 1 + index_after key xs ≡ 0 = rw yes at e in absurd (omega arith)
]

child-at-place : (key : MapKey) (d : ℕ) (xs : Pairs) (i : ℕ) (r : MapKey × ℕ) → i + 1 ≡ index_after key xs → slice_get xs i ≡ Some r → child_for key d xs ≡ r.1
child-at-place key d [] i r e g = absurd (omega arith)
child-at-place key d (x ∷ xs) i r e g = elim (cases_lt (rank key) (rank x.0)) [
  | inl lt ↦ let none = lt-leb (rank x.0) (rank key) lt in let bad : i + 1 ≡ 0 = rw none at e in absurd (omega arith)
  | inr le ↦ let yes = le-leb (rank x.0) (rank key) le in
      let more : i + 1 ≡ 1 + index_after key xs = rw yes at e in
      let none = le-ltb (rank key) (rank x.0) le in
      rw none (go i more g (λ j h k. child-at-place key x.1 xs j r h k))
]
  where
    go : (j : ℕ) → j + 1 ≡ 1 + index_after key xs → slice_get (x ∷ xs) j ≡ Some r → ((j : ℕ) → j + 1 ≡ index_after key xs → slice_get xs j ≡ Some r → child_for key x.1 xs ≡ r.1) → child_for key x.1 xs ≡ r.1
    go zero h k later = no-child key x.1 xs (omega (arith, h)) ∙ ap (λ (o : Option (MapKey × ℕ)). (unwrap_or o r).1) k
    go (suc j) h k later = later j (omega (arith, h)) k

some-there : (key : MapKey) (xs : Pairs) → IsSomeAnd (slice_get xs 0) (λ r. rank r.0 ≤ rank key) → 1 ≤ index_after key xs
some-there key [] first = absurd first
some-there key (x ∷ xs) first = rw (le-leb (rank x.0) (rank key) first) (omega arith)

pub child_read : (key : MapKey) (xs : Pairs) (child : ℕ) → IsSomeAnd (slice_get xs 0) (λ r. rank r.0 ≤ rank key)
    → IsSomeAnd (slice_get xs (index_after key xs - 1)) (λ r. r.1 ≡ child) → child ≡ child_for key 0 xs
child_read key xs child first read =
    let some = some-there key xs first in
    let got = IsSomeAnd_get (slice_get xs (index_after key xs - 1)) (λ r. r.1 ≡ child) read in
    sym (child-at-place key 0 xs (index_after key xs - 1) got.0 (omega arith) got.1 ∙ got.2)

-- a space has a number of pages that a space may have, where its sizes were asked for
pub has_told : {n : ℕ} {a s : Sizes} → a ≡ s → n ≡ a.pages → has_pages n ≡ true → has_pages s.pages ≡ true
has_told is told range = subst (λ (s : Sizes). has_pages s.pages ≡ true) is (subst (λ n. has_pages n ≡ true) told range)

-- the pages of a space are few
pub few : (pages n : ℕ) → has_pages pages ≡ true → n < pages → n < 2 ^ 32
few pages n has lt =
    let most = leb-true pages MOST_PAGES (and_parts (nat_le LEAST_PAGES pages) (nat_le pages MOST_PAGES) has).1 in omega arith

pub few_pages : (pages n : ℕ) → has_pages pages ≡ true → n < pages → n < MOST_PAGES
few_pages pages n has lt = let most = leb-true pages MOST_PAGES (and_parts (nat_le LEAST_PAGES pages) (nat_le pages MOST_PAGES) has).1 in omega arith
