-- No part of what is lawful looks at clocks.
use Rattle.std.proofs.Common.{◌≡◌, ℕ, ◌+◌, ◌<◌, ◌≤◌, ◌∙◌, Bool, true, false, cond, length, refl, sym, ap, subst, arith}
use Rattle.ib_map.specs.Keys.{end_rank}
use Rattle.ib_map.specs.Pairs.{Rises}
use Rattle.ib_walk.specs.Pages.{PageMemory}
use Rattle.ib_walk.specs.Trees.{IsLawfulUpTo, IsTreeOf, content_of, height_of, leaves_of, top_of, weight_of}
use Rattle.ib_walk.specs.Walk.{AreLinked, Visit, below, counts_page, records_along, weight_along}
use Rattle.ib_walk.proofs.MeetLaws.{AllByRecursion-met, AreLinked-same, HasLinks, IsSameTree-met}
use Rattle.ib_walk.proofs.TreeLaws.{weight_all-same}
use Rattle.ib_walk.proofs.WalkLaws.{IsAlike, IsSameTree}
use Rattle.ib_plans.specs.Marks.{ticked, with_clock}
use Rattle.ib_walk.proofs.CountLaws.{bits-met, IsPageMap-bits}

-- a memory whose pages are alike, and have the same links: each visit, the content and what is lawful are the same
module _ (most : ℕ → ℕ) (m new : PageMemory) (bits : ℕ → ℕ) (roots : ℕ) (law : IsLawfulUpTo most m bits roots)
    (alike : (n : ℕ) → IsAlike (new n) (m n)) (links : (n : ℕ) → HasLinks (new n) (m n)) where
  same : (r : ℕ) → 0 < r → r ≤ roots → IsSameTree m new (height_of m r) (top_of r)
  same r s l = IsSameTree-met m new (height_of m r) (top_of r) (λ n h. alike n) (law.trees r s l).0.tree

  pub weight_of-clocks : (f : ℕ → Visit → ℕ) (r : ℕ) → 0 < r → r ≤ roots → weight_of f new r ≡ weight_of f m r
  weight_of-clocks f r s l = ap (λ h. weight_along f new h (top_of r)) (alike r).level ∙ (same r s l).weighs f

  pub content_of-clocks : (r : ℕ) → 0 < r → r ≤ roots → content_of new r ≡ content_of m r
  content_of-clocks r s l = ap (λ h. records_along new (below new h (top_of r))) (alike r).level ∙ (same r s l).holds

  pub IsLawful-clocks : IsLawfulUpTo most new bits roots
  IsLawful-clocks = record {
    sound = λ n ne. let s = law.sound n ne in let a = alike n in let l = links n in record {
      formed = λ bad. s.formed (sym a.kind ∙ bad);
      ascends = subst (λ rs. Rises 0 rs end_rank) (sym a.records) s.ascends;
      short = let y = ap length a.records in let z = s.short in omega arith;
      low = let y = a.level in let z = s.low in omega arith;
      prev = let y = l.prev in let z = s.prev in omega arith;
      next = let y = l.next in let z = s.next in omega arith;
      node = λ up. let q = s.node (let y = a.level in omega arith) in (l.prev ∙ q.0, l.next ∙ q.1);
    };
    trees = λ r s l. (
      subst (λ h. IsTreeOf new h r) (sym (alike r).level) (record {
        tree = (same r s l).tree;
        linked = subst (λ us. AreLinked new 0 us 0) (sym (same r s l).lowest)
            (AreLinked-same m new 0 (leaves_of m r) 0 (AllByRecursion-met (λ n. HasLinks (new n) (m n)) 0 (leaves_of m r) (λ n h. links n)) (law.trees r s l).0.linked);
      }),
      let e = (alike r).level in let b = (law.trees r s l).1 in omega arith,
    );
    met = IsPageMap-bits new bits roots (λ n. let e = bits-met law n in let s = weight_all-same (counts_page n) m new roots (λ r a b. weight_of-clocks (counts_page n) r a b) in omega arith) law.bit;
    bit = law.bit;
    few = law.few;
    unmet = λ n none. (alike n).kind ∙ law.unmet n none;
  }

-- pages with other clocks are alike, and have the same links
pub ticked-alike : (before : PageMemory) (touched : ℕ → Bool) (planned : PageMemory) (n : ℕ) → IsAlike (ticked before touched planned n) (planned n)
ticked-alike before touched planned n = elim (touched n) as (λ b. IsAlike (cond b (with_clock ((before n).clock + 1) (planned n)) (planned n)) (planned n)) [
  | true ↦ record { kind = refl; level = refl; records = refl }
  | false ↦ record { kind = refl; level = refl; records = refl }
]

pub ticked-links : (before : PageMemory) (touched : ℕ → Bool) (planned : PageMemory) (n : ℕ) → HasLinks (ticked before touched planned n) (planned n)
ticked-links before touched planned n = elim (touched n) as (λ b. HasLinks (cond b (with_clock ((before n).clock + 1) (planned n)) (planned n)) (planned n)) [
  | true ↦ record { prev = refl; next = refl }
  | false ↦ record { prev = refl; next = refl }
]

-- a page that is not touched has the clock that was planned
pub ticked-untouched : (before : PageMemory) (touched : ℕ → Bool) (planned : PageMemory) (n : ℕ) → touched n ≡ false → ticked before touched planned n ≡ planned n
ticked-untouched before touched planned n off = rw off refl

-- .. and one that is touched has the clock that it had, and one more
pub ticked-touched : (before : PageMemory) (touched : ℕ → Bool) (planned : PageMemory) (n : ℕ) → touched n ≡ true → ticked before touched planned n ≡ with_clock ((before n).clock + 1) (planned n)
ticked-touched before touched planned n on = ap (λ b. cond b (with_clock ((before n).clock + 1) (planned n)) (planned n)) on
