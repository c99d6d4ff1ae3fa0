-- The pages of a new space are lawful trees, without records.
use Rattle.std.proofs.Common.{◌≡◌, ◌≢◌, ℕ, zero, suc, ◌<◌, ◌≤◌, inl, inr, cond, [], ◌++◌, refl, sym, ap, subst, ◌∙◌, arith, ltb, eqb}
use Rattle.std.proofs.lemmas.Bool.{cases_lt, lt-ltb, le-ltb}
use Rattle.std.proofs.lemmas.Bool.Decides.{nat_tests}
use Rattle.ib_map.specs.Keys.{end_rank}
use Rattle.ib_heap.specs.declared.TheConstants.{MOST_RECORDS}
use Rattle.ib_page.specs.declared.space.TheConstants.{MAPPED_PAGES}
use Rattle.ib_walk.specs.Pages.{PageState, PageMemory, IsSound}
use Rattle.ib_walk.specs.Walk.{Visit, counts_page, weight_along, records_along, below}
use Rattle.ib_walk.specs.Trees.{top_of, height_of, content_of, weight_of, weight_all, IsTreeOf, IsLawful, opening_pages, opening_bits, empty_leaf, free_page}
use Rattle.ib_walk.proofs.CountLaws.{IsPageMap-bits}

-- pages that are those of a new space but for page 0, which no walk meets
module _ (roots : ℕ) (few : roots < MAPPED_PAGES) (m : PageMemory) (same : (n : ℕ) → n ≢ 0 → m n ≡ opening_pages roots n) where
  is_root : (n : ℕ) → n ≢ 0 → n ≤ roots → m n ≡ empty_leaf
  is_root n ne le = same n ne ∙ (let no = le-ltb roots n le in rw no refl)

  is_free : (n : ℕ) → roots < n → m n ≡ free_page
  is_free n lt = same n (λ e. omega arith) ∙ (let yes = lt-ltb roots n lt in rw yes refl)

  root-weight : (f : ℕ → Visit → ℕ) (n : ℕ) → n ≢ 0 → n ≤ roots → weight_of f m n ≡ f 0 (record { page = n; low = 0; high = end_rank })
  root-weight f n ne le =
      ap (λ h. weight_along f m h (top_of n)) (ap (λ (p : PageState). p.level) (is_root n ne le)) ∙ omega arith

  all-weight : (n k : ℕ) → k ≤ roots → n ≤ roots → weight_all (counts_page n) m k ≡ cond (eqb n 0) 0 (cond (ltb k n) 0 1)
  all-weight n zero le at = grind (arith, nat_tests)
  all-weight n (suc k) le at =
      let w = root-weight (counts_page n) (suc k) (λ e. omega arith) le in
      let r = all-weight n k (omega arith) at in
      grind (arith, nat_tests)

  no-weight : (n k : ℕ) → k ≤ roots → roots < n → weight_all (counts_page n) m k ≡ 0
  no-weight n zero le lt = refl
  no-weight n (suc k) le lt =
      let w = root-weight (counts_page n) (suc k) (λ e. omega arith) le in
      let r = no-weight n k (omega arith) lt in
      grind (arith, nat_tests)

  leaf-sound : IsSound MOST_RECORDS empty_leaf
  leaf-sound = record { formed = λ e. cc; ascends = omega arith; short = omega arith; low = omega arith; prev = omega arith; next = omega arith; node = λ up. absurd (omega arith) }

  free-sound : IsSound MOST_RECORDS free_page
  free-sound = record { formed = λ e. cc; ascends = omega arith; short = omega arith; low = omega arith; prev = omega arith; next = omega arith; node = λ up. absurd (omega arith) }

  open-tree : (r : ℕ) → r ≢ 0 → r ≤ roots → IsTreeOf m (height_of m r) r
  open-tree r ne le =
      let e = is_root r ne le in
      subst (λ h. IsTreeOf m h r) (sym (ap (λ p. p.level) e)) (record {
        tree = record { nodes = tt; leaves = (record { kind = ap (λ p. p.kind) e; level = ap (λ p. p.level) e; within = rw e (omega arith) }, tt) };
        linked = (ap (λ p. p.prev) e, ap (λ p. p.next) e, tt);
      })

  pub IsLawful-opens : IsLawful m (opening_bits roots) roots
  IsLawful-opens = record {
    sound = λ n ne. elim (cases_lt roots n) [
      | inl lt ↦ subst (IsSound MOST_RECORDS) (sym (is_free n lt)) free-sound
      | inr le ↦ subst (IsSound MOST_RECORDS) (sym (is_root n ne le)) leaf-sound
    ];
    trees = λ r some le. (open-tree r (λ e. omega arith) le, let e = ap (λ p. p.level) (is_root r (λ e. omega arith) le) in grind (arith, nat_tests));
    met = IsPageMap-bits m (opening_bits roots) roots (λ n. elim (cases_lt roots n) [
      | inl lt ↦ let e = lt-ltb roots n lt in let w = no-weight n roots (omega arith) lt in grind (arith, nat_tests)
      | inr le ↦ let e = le-ltb roots n le in let w = all-weight n roots (omega arith) le in grind (arith, nat_tests)
    ]) (λ n. grind (arith, nat_tests));
    bit = λ n. grind (arith, nat_tests);
    few = λ n big. let e = lt-ltb roots n (omega arith) in rw e refl;
    unmet = λ n none. elim (cases_lt roots n) [
      | inl lt ↦ ap (λ p. p.kind) (is_free n lt)
      | inr le ↦ absurd (let e = le-ltb roots n le in let b : opening_bits roots n ≡ 1 = rw e refl in omega arith)
    ];
  }

  pub content_of-opens : (r : ℕ) → 0 < r → r ≤ roots → content_of m r ≡ []
  content_of-opens r some le = let e = is_root r (λ e. omega arith) le in
      ap (λ h. records_along m (below m h (top_of r))) (ap (λ (p : PageState). p.level) e) ∙ ap (λ (p : PageState). p.records ++ []) e

pub IsLawful-opening : (roots : ℕ) → roots < MAPPED_PAGES → IsLawful (opening_pages roots) (opening_bits roots) roots
IsLawful-opening roots few = IsLawful-opens roots few (opening_pages roots) (λ n ne. refl)
