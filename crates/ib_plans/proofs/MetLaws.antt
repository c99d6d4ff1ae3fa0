-- Who is met by the walks of lawful trees: each root, no page twice, and neither page 0 nor a page whose bit is clear.
use Rattle.std.proofs.Common.{◌≡◌, ◌≢◌, ℕ, zero, suc, ◌+◌, ◌<◌, ◌≤◌, inl, inr, cond, refl, sym, ap, subst, ◌∙◌, arith, ltb, eqb}
use Rattle.std.proofs.lemmas.Bool.{cases_lt, cases_eq, lt-ltb, le-ltb}
use Rattle.std.proofs.lemmas.Bool.Decides.{nat_tests}
use Rattle.ib_map.specs.Keys.{end_rank}
use Rattle.ib_page.specs.declared.space.TheConstants.{MAPPED_PAGES}
use Rattle.ib_walk.specs.Pages.{PageMemory}
use Rattle.ib_walk.specs.Walk.{Visit, weight_along, counts_page}
use Rattle.ib_walk.specs.Trees.{top_of, height_of, weight_of, weight_all, times_met, IsLawfulUpTo}
use Rattle.ib_walk.proofs.MeetLaws.{counts_page-own}
use Rattle.ib_walk.proofs.TreeLaws.{weight_of-le, weight_of-two_le, times_met-le}
use Rattle.ib_walk.proofs.CountLaws.{bits-met}

-- page 0's own bit counts for no other page
pub bit-none : (n : ℕ) → n ≢ 0 → cond {A = ℕ} (eqb n 0) 1 0 ≡ 0
bit-none n ne = grind (arith, nat_tests)

-- a tree meets its root
pub root-met : (m : PageMemory) (r : ℕ) → 1 ≤ weight_of (counts_page r) m r
root-met m r = at-height r (height_of m r)
  where
    at-height : (r h : ℕ) → 1 ≤ weight_along (counts_page r) m h (top_of r)
    at-height r zero = let e = counts_page-own r 0 (record { page = r; low = 0; high = end_rank }) refl in omega arith
    at-height r (suc h) = let e = counts_page-own r (suc h) (record { page = r; low = 0; high = end_rank }) refl in omega arith

-- where one tree weighs so much more, and no other tree does, all trees weigh so much more
pub weight_all-plus : (f : ℕ → Visit → ℕ) (m new : PageMemory) (root roots extra : ℕ) → 0 < root → root ≤ roots → weight_of f new root ≡ weight_of f m root + extra
    → ((r : ℕ) → 0 < r → r ≤ roots → r ≢ root → weight_of f new r ≡ weight_of f m r) → weight_all f new roots ≡ weight_all f m roots + extra
weight_all-plus f m new root roots extra some le own other =
    let run : (k : ℕ) → k ≤ roots → weight_all f new k ≡ weight_all f m k + cond (ltb k root) 0 extra = up-to f m new root roots extra some le own other in
    let r = run roots (omega arith) in let no = le-ltb roots root le in
    r ∙ rw no refl
  where
    up-to : (f : ℕ → Visit → ℕ) (m new : PageMemory) (root roots extra : ℕ) → 0 < root → root ≤ roots → weight_of f new root ≡ weight_of f m root + extra
        → ((r : ℕ) → 0 < r → r ≤ roots → r ≢ root → weight_of f new r ≡ weight_of f m r) → (k : ℕ) → k ≤ roots → weight_all f new k ≡ weight_all f m k + cond (ltb k root) 0 extra
    up-to f m new root roots extra some le own other zero h = let yes = lt-ltb 0 root some in rw yes (omega arith)
    up-to f m new root roots extra some le own other (suc k) h =
        let r = up-to f m new root roots extra some le own other k (omega arith) in
        elim (cases_eq (suc k) root) [
          | inl e ↦ let own' = subst (λ q. weight_of f new q ≡ weight_of f m q + extra) (sym e) own in
              let yes = lt-ltb k root (omega arith) in let no = le-ltb (suc k) root (omega arith) in
              let r' : weight_all f new k ≡ weight_all f m k + 0 = r ∙ rw yes refl in
              rw no (omega arith)
          | inr ne ↦ let o = other (suc k) (omega arith) h ne in
              elim (cases_lt (suc k) root) [
                | inl lt ↦ let yes = lt-ltb k root (omega arith) in let yes' = lt-ltb (suc k) root lt in
                    let r' : weight_all f new k ≡ weight_all f m k + 0 = r ∙ rw yes refl in rw yes' (omega arith)
                | inr ge ↦ let no = le-ltb k root (omega (arith, ne)) in let no' = le-ltb (suc k) root ge in
                    let r' : weight_all f new k ≡ weight_all f m k + extra = r ∙ rw no refl in rw no' (omega arith)
              ]
        ]

module _ (most : ℕ → ℕ) (m : PageMemory) (bits : ℕ → ℕ) (roots : ℕ) (law : IsLawfulUpTo most m bits roots) where
  -- a page whose bit is clear is not met, and is not page 0
  pub clear-unmet : (n : ℕ) → bits n ≡ 0 → times_met m roots n ≡ 0
  clear-unmet n none = let e = bits-met law n in omega arith

  pub clear-some : (n : ℕ) → bits n ≡ 0 → n ≢ 0
  clear-some n none z = let e : bits 0 ≡ times_met m roots 0 + 1 = bits-met law 0 in let b = ap bits z in omega arith

  -- page 0 is not met
  pub zero-unmet : times_met m roots 0 ≡ 0
  zero-unmet = let e : bits 0 ≡ times_met m roots 0 + 1 = bits-met law 0 in let b = law.bit 0 in omega arith

  -- each root is met
  pub root-times_met : (r : ℕ) → 0 < r → r ≤ roots → 1 ≤ times_met m roots r
  root-times_met r some le = let a = weight_of-le (counts_page r) m r roots some le in let b = root-met m r in omega arith

  module _ (root : ℕ) (some : 0 < root) (le : root ≤ roots) where
    -- a page that a tree meets is not page 0, has its bit set, and is one that the bits have
    pub met-some : (n : ℕ) → 1 ≤ weight_of (counts_page n) m root → n ≢ 0
    met-some n h z = let a = zero-unmet in let c = weight_of-le (counts_page n) m root roots some le in let d = ap (times_met m roots) z in omega arith

    pub met-set : (n : ℕ) → 1 ≤ weight_of (counts_page n) m root → bits n ≢ 0
    met-set n h none = let a = bits-met law n in let c = weight_of-le (counts_page n) m root roots some le in omega arith

    pub met-few : (n : ℕ) → 1 ≤ weight_of (counts_page n) m root → n < MAPPED_PAGES
    met-few n h = elim (cases_lt n MAPPED_PAGES) [
      | inl lt ↦ lt
      | inr ge ↦ absurd (met-set n h (law.few n ge))
    ]

    -- a page that it meets is none whose bit is clear
    pub met-clear : (n q : ℕ) → 1 ≤ weight_of (counts_page n) m root → bits q ≡ 0 → n ≢ q
    met-clear n q h none e = met-set n h (ap bits e ∙ none)

    -- no page that another tree meets is one that this tree meets
    pub met-apart : (r : ℕ) → 0 < r → r ≤ roots → r ≢ root → (n q : ℕ) → 0 < weight_of (counts_page n) m r → 1 ≤ weight_of (counts_page q) m root → n ≢ q
    met-apart r s l ne n q at-n at-q e =
        let a = weight_of-two_le (counts_page q) m r root roots s l some le ne in
        let b = times_met-le most m bits roots q law in
        let d = ap (λ k. weight_of (counts_page k) m r) e in omega arith
