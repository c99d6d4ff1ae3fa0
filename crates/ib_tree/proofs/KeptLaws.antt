-- Pages keep range and level where each single visit of them stays. A walk's weights are known by those of single visits.
use Rattle.std.proofs.Common.{◌≡◌, ℕ, ◌+◌, ◌<◌, ◌≤◌, inl, inr, Bool, true, false, cond, List, [], ◌∷◌, refl, sym, ◌∙◌, arith}
use Rattle.std.specs.Prelude.{not}
use Rattle.std.proofs.lemmas.Bool.{cases_lt}
use Rattle.ib_logrec.specs.Law.{PageRange}
use Rattle.ib_walk.specs.Pages.{PageMemory}
use Rattle.ib_walk.specs.Walk.{Visit, counts_page, counts_visit}
use Rattle.ib_walk.specs.Trees.{height_of, top_of, weight_of, IsLawful}
use Rattle.ib_validate.specs.Patch.{LevelVisit, over, on_written, off_written, written_below}
use Rattle.ib_tree.specs.Logs.{visit_with}
use Rattle.ib_tree.specs.Tests.{KeepRanges}
use Rattle.ib_walk.proofs.TreeLaws.{weight_of-le}
use Rattle.ib_tree.proofs.PatchLaws.{counts_visit-own, counts_visit-same, weight_along-off_other, weight_along-off_written}
use Rattle.ib_tree.proofs.PatchedLaws.{AreKept, written-cases}
use Rattle.ib_tree.proofs.WeightLaws.{over-written_below, weight_along-le, weight_along-same}
use Rattle.ib_tree.proofs.WholeLaws.{counts_visit-le_page}
use Rattle.ib_walk.proofs.CountLaws.{bits-met, weight-met, met-weight}

-- the list without a visit that it has
record Without (s : LevelVisit) (ss : List LevelVisit) : Type 0 where
  rest : List LevelVisit
  is : (f : ℕ → Visit → ℕ) → over f ss ≡ f s.height s.visit + over f rest

without : (s : LevelVisit) (ss : List LevelVisit) → 0 < over (counts_visit s.height s.visit) ss → Without s ss
without s [] some = absurd (omega arith)
without s (t ∷ ts) some =
    elim (cases_lt 0 (counts_visit s.height s.visit t.height t.visit)) [
      | inl here ↦ let e = counts_visit-same s.height s.visit t.height t.visit here in
          record { rest = ts; is = λ f. let a : f t.height t.visit ≡ f s.height s.visit = (λ i. f (e.0 i) (e.1 i)) in omega arith }
      | inr other ↦ let r = without s ts (omega arith) in
          record { rest = t ∷ r.rest; is = λ f. let a = r.is f in omega arith }
    ]

-- lists that have each visit as often weigh the same
pub over-counted : (xs ys : List LevelVisit) → ((h : ℕ) (v : Visit) → over (counts_visit h v) xs ≡ over (counts_visit h v) ys) → (f : ℕ → Visit → ℕ) → over f xs ≡ over f ys
over-counted [] [] same f = refl
over-counted [] (y ∷ ys) same f = absurd (let a = same y.height y.visit in let b = counts_visit-own y.height y.visit in omega arith)
over-counted (x ∷ xs) ys same f =
    let r = without x ys (let a = same x.height x.visit in let b = counts_visit-own x.height x.visit in omega arith) in
    let e = over-counted xs r.rest (λ h v. let a = same h v in let b = r.is (counts_visit h v) in omega arith) f in
    let c = r.is f in omega arith

module _ (written : ℕ → Bool) where
  on-other : (f : ℕ → Visit → ℕ) (h : ℕ) (v : Visit) → on_written (λ p. not (written p)) f h v ≡ off_written written f h v
  on-other f h v = elim (written v.page) as (λ b. cond (not b) (f h v) 0 ≡ cond b 0 (f h v)) [ true ↦ refl | false ↦ refl ]

  -- the visits of the pages that are not written
  abbrev other-visits : PageMemory → ℕ → List LevelVisit
  other-visits m root = written_below (λ p. not (written p)) m (height_of m root) (top_of root)

  over-other : (m : PageMemory) (root : ℕ) (f : ℕ → Visit → ℕ) → over f (other-visits m root) ≡ weight_of (off_written written f) m root
  over-other m root f = over-written_below (λ p. not (written p)) f m (height_of m root) (top_of root)
      ∙ weight_along-same (on_written (λ p. not (written p)) f) (off_written written f) m (height_of m root) (top_of root) (on-other f)

  -- where each visit of a page that isn't written weighs what it did, all weights of such pages are as they were
  pub kept-by_visits : (m new : PageMemory) (root : ℕ)
      → ((h : ℕ) (v : Visit) → written v.page ≡ false → weight_of (counts_visit h v) new root ≡ weight_of (counts_visit h v) m root)
      → (f : ℕ → Visit → ℕ) → weight_of (off_written written f) new root ≡ weight_of (off_written written f) m root
  kept-by_visits m new root each f =
      sym (over-other new root f) ∙ (over-counted (other-visits new root) (other-visits m root)
      (λ h v. over-other new root (counts_visit h v) ∙ (counts h v ∙ sym (over-other m root (counts_visit h v)))) f ∙ over-other m root f)
    where
      counts : (h : ℕ) (v : Visit) → weight_of (off_written written (counts_visit h v)) new root ≡ weight_of (off_written written (counts_visit h v)) m root
      counts h v = written-cases written v.page (weight_of (off_written written (counts_visit h v)) new root ≡ weight_of (off_written written (counts_visit h v)) m root)
          (λ w. weight_along-off_written written new (height_of new root) (top_of root) h v w ∙ sym (weight_along-off_written written m (height_of m root) (top_of root) h v w))
          (λ w. weight_along-off_other written new (height_of new root) (top_of root) h v w ∙ (each h v w ∙ sym (weight_along-off_other written m (height_of m root) (top_of root) h v w)))

-- a visit is met once at most
pub counts_visit-once : (m : PageMemory) (bits : ℕ → ℕ) (roots : ℕ) → IsLawful m bits roots → (root : ℕ) → 0 < root → root ≤ roots → (h : ℕ) (v : Visit) → weight_of (counts_visit h v) m root ≤ 1
counts_visit-once m bits roots law root some le h v =
    let a = weight_along-le (counts_visit h v) (counts_page v.page) m (height_of m root) (top_of root) (counts_visit-le_page h v) in
    let b = weight_of-le (counts_page v.page) m root roots some le in
    let c = bits-met law v.page in
    let d = law.bit v.page in omega arith

module _ (written : ℕ → Bool) (m new : PageMemory) (roots : ℕ) where
  pub AreKept-ranges : AreKept written m new roots → KeepRanges written m new roots
  AreKept-ranges kept page r un = (
    λ has. (has.0, has.1, met-weight m r.root r.level (visit_with page r) (let a = same has.0 has.1 in let b = weight-met has.2 in omega arith)),
    λ has. (has.0, has.1, met-weight new r.root r.level (visit_with page r) (let a = same has.0 has.1 in let b = weight-met has.2 in omega arith)),
  )
    where
      same : 0 < r.root → r.root ≤ roots → weight_of (counts_visit r.level (visit_with page r)) new r.root ≡ weight_of (counts_visit r.level (visit_with page r)) m r.root
      same some le =
          let a = weight_along-off_other written new (height_of new r.root) (top_of r.root) r.level (visit_with page r) un in
          let b = weight_along-off_other written m (height_of m r.root) (top_of r.root) r.level (visit_with page r) un in
          sym a ∙ (kept r.root some le (counts_visit r.level (visit_with page r)) ∙ b)

  pub ranges-AreKept : (bits after : ℕ → ℕ) → IsLawful m bits roots → IsLawful new after roots → KeepRanges written m new roots → AreKept written m new roots
  ranges-AreKept bits after law new-law ranges root some le =
      kept-by_visits written m new root (λ h v un.
      let r : PageRange = record { root = root; low = v.low; end = v.high; level = h } in
      let iff = ranges v.page (record { root = root; low = v.low; end = v.high; level = h }) un in
      let a = counts_visit-once m bits roots law root some le h v in
      let b = counts_visit-once new after roots new-law root some le h v in
      elim (cases_lt 0 (weight_of (counts_visit h v) new root)) [
        | inl pos ↦ let c = iff.0 (some, le, met-weight new root h v pos) in let d = weight-met c.2 in omega arith
        | inr none ↦ elim (cases_lt 0 (weight_of (counts_visit h v) m root)) [
          | inl pos ↦ let c = iff.1 (some, le, met-weight m root h v pos) in let d = weight-met c.2 in omega arith
          | inr neither ↦ omega arith
        ]
      ])
