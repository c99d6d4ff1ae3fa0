-- A whole memory is a patch of the opening one, in which all pages are written.
use Rattle.std.proofs.Common.{◌≡◌, ℕ, zero, suc, ◌<◌, ◌≤◌, inl, inr, Bool, true, false, cond, List, [], ◌∷◌, refl, sym, ◌∙◌, arith, eqb}
use Rattle.std.proofs.lemmas.Bool.{cases_lt, cases_eq, lt-ltb, le-ltb}
use Rattle.std.proofs.lemmas.Bool.Decides.{nat_tests}
use Rattle.ib_map.specs.Keys.{end_rank}
use Rattle.ib_walk.specs.Pages.{PageMemory}
use Rattle.ib_walk.specs.Walk.{Visit, children, sum_of, weight_along, counts_page}
use Rattle.ib_walk.specs.Trees.{height_of, top_of, weight_of, IsLawful}
use Rattle.ib_validate.specs.Patch.{off_written, IsGoodAt}
use Rattle.ib_walk.specs.Walk.{counts_visit}
use Rattle.ib_validate.specs.PatchTest.{Positions, IsListed, IsKeptBeside, PassesTest}
use Rattle.ib_map.specs.Space.{has_pages}
use Rattle.ib_map.specs.declared.TheConstants.{MOST_PAGES}
use Rattle.ib_page.specs.declared.space.TheConstants.{MAPPED_PAGES}
use Rattle.ib_walk.specs.Trees.{opening_pages, opening_bits, free_page}
use Rattle.ib_walk.specs.Words.{pages_of, bits_of, IsLawfulMemory}
use Rattle.ib_tree.specs.PageLists.{is_below, pages_below}
use Rattle.ib_tree.specs.Tests.{TellsGood, root_positions, PassesWhole}
use Rattle.ib_walk.proofs.MeetLaws.{counts_page-own}
use Rattle.ib_walk.proofs.OpeningLaws.{IsLawful-opening}
use Rattle.ib_walk.proofs.TreeLaws.{weight_of-le}
use Rattle.ib_tree.proofs.ListLaws.{IsListed-below}
use Rattle.ib_tree.proofs.RootPositionLaws.{IsKeptBeside-opening}
use Rattle.ib_tree.proofs.PatchLaws.{counts_visit-other, counts_visit-own}
use Rattle.ib_tree.proofs.PatchTheorem.{test-complete, test-sound}
use Rattle.ib_tree.proofs.WeightLaws.{weight_along-le}
use Rattle.ib_walk.proofs.CountLaws.{bits-met}

sum-none : (f : Visit → ℕ) (h : ℕ) (vs : List Visit) → ((v : Visit) → 0 < sum_of (counts_visit h v h) vs → f v ≡ 0) → sum_of f vs ≡ 0
sum-none f h [] e = refl
sum-none f h (v ∷ vs) e = let a = e v (let s = counts_visit-own h v in omega arith) in let r = sum-none f h vs (λ u l. e u (omega arith)) in omega arith

-- what weighs nothing on any visit
pub weight_along-none : (f : ℕ → Visit → ℕ) (m : PageMemory) (h : ℕ) (vs : List Visit) → ((k : ℕ) (v : Visit) → 0 < weight_along (counts_visit k v) m h vs → f k v ≡ 0) → weight_along f m h vs ≡ 0
weight_along-none f m zero vs e = sum-none (f 0) 0 vs (e 0)
weight_along-none f m (suc h) vs e =
    let a = sum-none (f (suc h)) (suc h) vs (λ v l. e (suc h) v (omega arith)) in
    let b = weight_along-none f m h (children m vs) (λ k v l. e k v (omega arith)) in omega arith

pub counts_visit-le_page : (h : ℕ) (v : Visit) (k : ℕ) (u : Visit) → counts_visit h v k u ≤ counts_page v.page k u
counts_visit-le_page h v k u =
    elim (cases_eq u.page v.page) [
      | inr ne ↦ let z = counts_visit-other h v k u ne in omega arith
      | inl e ↦ let o = counts_page-own v.page k u e in let a = most h v k u in omega arith
    ]
  where
    most : (h : ℕ) (v : Visit) (k : ℕ) (u : Visit) → counts_visit h v k u ≤ 1
    most h v k u = elim (eqb k h) as (λ a. cond {A = ℕ} a (cond {A = ℕ} (eqb u.page v.page) (cond {A = ℕ} (eqb u.low v.low) (cond {A = ℕ} (eqb u.high v.high) 1 0) 0) 0) 0 ≤ 1) [
      | false ↦ omega arith
      | true ↦ elim (eqb u.page v.page) as (λ a. cond {A = ℕ} a (cond {A = ℕ} (eqb u.low v.low) (cond {A = ℕ} (eqb u.high v.high) 1 0) 0) 0 ≤ 1) [
        | false ↦ omega arith
        | true ↦ elim (eqb u.low v.low) as (λ a. cond {A = ℕ} a (cond {A = ℕ} (eqb u.high v.high) 1 0) 0 ≤ 1) [
          | false ↦ omega arith
          | true ↦ elim (eqb u.high v.high) as (λ a. cond {A = ℕ} a 1 0 ≤ 1) [ true ↦ omega arith | false ↦ omega arith ]
        ]
      ]
    ]

-- no walk leaves the space
pub weight_of-beyond : (m : PageMemory) (bits : ℕ → ℕ) (roots n : ℕ) → IsLawful m bits roots → ((p : ℕ) → n ≤ p → bits p ≡ 0) → (root : ℕ) → 0 < root → root ≤ roots
    → (f : ℕ → Visit → ℕ) → weight_of (off_written (is_below n) f) m root ≡ 0
weight_of-beyond m bits roots n law end root s l f =
    weight_along-none (off_written (is_below n) f) m (height_of m root) (top_of root) (λ k v pos.
    let a = weight_along-le (counts_visit k v) (counts_page v.page) m (height_of m root) (top_of root) (counts_visit-le_page k v) in
    let b = weight_of-le (counts_page v.page) m root roots s l in
    let c = bits-met law v.page in
    elim (cases_lt v.page n) [
      | inl lt ↦ let t = lt-ltb v.page n lt in rw t refl
      | inr ge ↦ absurd (let d = end v.page ge in omega arith)
    ])

module _ (m new : PageMemory) (bits after : ℕ → ℕ) (roots n : ℕ) (law : IsLawful m bits roots) (same : (p : ℕ) → n ≤ p → new p ≡ m p)
    (old : Positions) (kept : IsKeptBeside m roots n old) (ps : List ℕ) (listed : IsListed (is_below n) ps n) (good : ℕ → Visit → Bool)
    (end : (p : ℕ) → n ≤ p → bits p ≡ 0) where
  same-off_written : (p : ℕ) → is_below n p ≡ false → new p ≡ m p
  same-off_written p w = elim (cases_lt p n) [ inl lt ↦ absurd (let t = lt-ltb p n lt in let z = sym t ∙ w in cc) | inr ge ↦ same p ge ]

  few-below : (p : ℕ) → is_below n p ≡ true → p < n
  few-below p w = elim (cases_lt p n) [ inl lt ↦ lt | inr ge ↦ absurd (let t = le-ltb p n ge in let z = sym t ∙ w in cc) ]

  pub whole-sound : ((h : ℕ) (v : Visit) → good h v ≡ true → IsGoodAt new h v) → (table : Positions) → PassesTest (is_below n) m new good bits after roots end_rank ps old table
      → IsLawful new after roots × IsKeptBeside new roots n table
  whole-sound is table t = let r = test-sound (is_below n) m new same-off_written bits after roots law n few-below old kept ps listed good is table t in (r.0, r.2)

  pub whole-complete : ((h : ℕ) (v : Visit) → IsGoodAt new h v → good h v ≡ true) → IsLawful new after roots → ((p : ℕ) → n ≤ p → after p ≡ 0)
      → (table : Positions) × PassesTest (is_below n) m new good bits after roots end_rank ps old table
  whole-complete so new-law end-now = test-complete (is_below n) m new same-off_written bits after roots law n few-below old kept ps listed good so new-law
      (λ r s l f. weight_of-beyond new after roots n new-law end-now r s l f ∙ sym (weight_of-beyond m bits roots n law end r s l f))

-- the words of a space's pages, and none beyond them
module _ (pages : ℕ) (fits : has_pages pages ≡ true) (roots : ℕ) (few : roots < pages) (words : ℕ → ℕ)
    (beyond : (page : ℕ) → pages ≤ page → pages_of words page ≡ free_page) (good : ℕ → Visit → Bool) (is_good : TellsGood good (pages_of words)) where
  mapped : roots < MAPPED_PAGES
  mapped = let most : pages ≤ MOST_PAGES = grind (arith, nat_tests, fits) in omega arith

  same : (page : ℕ) → pages ≤ page → pages_of words page ≡ opening_pages roots page
  same page le = let yes = lt-ltb roots page (omega arith) in beyond page le ∙ rw yes refl

  none-open : (page : ℕ) → pages ≤ page → opening_bits roots page ≡ 0
  none-open page le = let yes = lt-ltb roots page (omega arith) in rw yes refl

  none-after : (page : ℕ) → pages ≤ page → bits_of pages words page ≡ 0
  unfolding bits_of
  none-after page le = let no = le-ltb page pages le in rw no refl

  kept-open : IsKeptBeside (opening_pages roots) roots pages (root_positions roots)
  kept-open = IsKeptBeside-opening (opening_pages roots) pages roots (λ r some le. let no = le-ltb roots r le in rw no refl) few

  -- a memory that passes is lawful, and the positions that are left are its own
  pub IsLawfulMemory-passes : (table : Positions) → PassesWhole pages roots words good table → IsLawfulMemory pages roots words × IsKeptBeside (pages_of words) roots pages table
  IsLawfulMemory-passes table passes =
      let found = whole-sound (opening_pages roots) (pages_of words) (opening_bits roots) (bits_of pages words) roots pages (IsLawful-opening roots mapped) same (root_positions roots) kept-open
      (pages_below pages) (IsListed-below pages) good none-open (λ h v. (is_good h v).0) table passes.patch in
      (record { space = passes.space; law = found.0 }, found.1)

  -- a lawful memory passes
  pub passes-IsLawfulMemory : IsLawfulMemory pages roots words → (table : Positions) × PassesWhole pages roots words good table
  passes-IsLawfulMemory lawful =
      let found = whole-complete (opening_pages roots) (pages_of words) (opening_bits roots) (bits_of pages words) roots pages (IsLawful-opening roots mapped) same (root_positions roots) kept-open
      (pages_below pages) (IsListed-below pages) good none-open (λ h v. (is_good h v).1) lawful.law none-after in
      (found.0, record { space = lawful.space; patch = found.1 })
