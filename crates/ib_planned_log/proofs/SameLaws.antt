-- Lawful trees stay lawful where page 0 alone, which no walk meets, is another.
use Rattle.std.proofs.Common.{◌≡◌, ◌≢◌, ℕ, ◌<◌, ◌≤◌, ap, sym, subst, ◌∙◌, arith}
use Rattle.ib_heap.specs.declared.TheConstants.{MOST_RECORDS}
use Rattle.ib_walk.specs.Pages.{PageMemory, PageState, IsSound}
use Rattle.ib_walk.specs.Walk.{Visit, counts_page, weight_along, records_along, below, AreLinked}
use Rattle.ib_walk.specs.Trees.{IsLawful, IsTreeOf, content_of, height_of, leaves_of, top_of, weight_of}
use Rattle.ib_walk.proofs.MeetLaws.{AllByRecursion-met, AreLinked-same, HasLinks, IsSameTree-met, lowest-le_weight}
use Rattle.ib_walk.proofs.TreeLaws.{weight_all-same}
use Rattle.ib_walk.proofs.WalkLaws.{IsAlike-same, IsSameTree}
use Rattle.ib_plans.proofs.MetLaws.{clear-some, met-some}
use Rattle.ib_walk.proofs.CountLaws.{bits-met, IsPageMap-bits}

module _ (m new : PageMemory) (bits after : ℕ → ℕ) (roots : ℕ) (law : IsLawful m bits roots) (same : (n : ℕ) → n ≢ 0 → new n ≡ m n) (turned : (n : ℕ) → after n ≡ bits n) where
  met-same : (r : ℕ) → 0 < r → r ≤ roots → (n : ℕ) → 0 < weight_of (counts_page n) m r → new n ≡ m n
  met-same r some le n met = same n (met-some (λ q. MOST_RECORDS) m bits roots law r some le n (omega (arith, met)))

  root-same : (r : ℕ) → 0 < r → height_of new r ≡ height_of m r
  root-same r some = ap (λ (p : PageState). p.level) (same r (omega arith))

  tree-same : (r : ℕ) → 0 < r → r ≤ roots → IsSameTree m new (height_of m r) (top_of r)
  tree-same r some le = IsSameTree-met m new (height_of m r) (top_of r) (λ n met. IsAlike-same (new n) (m n) (met-same r some le n met)) (law.trees r some le).0.tree

  pub weight_of-same : (f : ℕ → Visit → ℕ) (r : ℕ) → 0 < r → r ≤ roots → weight_of f new r ≡ weight_of f m r
  weight_of-same f r some le = ap (λ h. weight_along f new h (top_of r)) (root-same r some) ∙ (tree-same r some le).weighs f

  pub content_of-same : (r : ℕ) → 0 < r → r ≤ roots → content_of new r ≡ content_of m r
  content_of-same r some le = ap (λ h. records_along new (below new h (top_of r))) (root-same r some) ∙ (tree-same r some le).holds

  linked-same : (r : ℕ) → 0 < r → r ≤ roots → AreLinked new 0 (leaves_of m r) 0
  linked-same r some le =
      AreLinked-same m new 0 (leaves_of m r) 0 (AllByRecursion-met (λ n. HasLinks (new n) (m n)) 0 (leaves_of m r) (λ n met.
      let l = lowest-le_weight (counts_page n) m (height_of m r) (top_of r) in
      let e = met-same r some le n (omega arith) in
      record { prev = ap (λ (p : PageState). p.prev) e; next = ap (λ (p : PageState). p.next) e })) (law.trees r some le).0.linked

  pub IsLawful-same : IsLawful new after roots
  IsLawful-same =
      let few-bits : (n : ℕ) → after n ≤ 1 = λ n. let t = turned n in let b = law.bit n in omega arith in
      record {
        sound = λ n ne. subst (IsSound MOST_RECORDS) (sym (same n ne)) (law.sound n ne);
        trees = λ r some le. (
          subst (λ h. IsTreeOf new h r) (sym (root-same r some)) (record {
            tree = (tree-same r some le).tree;
            linked = subst (λ us. AreLinked new 0 us 0) (sym (tree-same r some le).lowest) (linked-same r some le);
          }),
          let e = root-same r some in let b = (law.trees r some le).1 in omega arith,
        );
        met = IsPageMap-bits new after roots (λ n. let e = bits-met law n in let t = turned n in let s = weight_all-same (counts_page n) m new roots (λ r a b. weight_of-same (counts_page n) r a b) in omega arith) few-bits;
        bit = few-bits;
        few = λ n high. turned n ∙ law.few n high;
        unmet = λ n none. let clear = sym (turned n) ∙ none in
            ap (λ (p : PageState). p.kind) (same n (clear-some (λ q. MOST_RECORDS) m bits roots law n clear)) ∙ law.unmet n clear;
      }
