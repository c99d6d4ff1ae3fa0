-- Lawful trees together: what they weigh, the leaf of a key, and what a tree has.
use Rattle.std.proofs.Common.{◌≡◌, ℕ, zero, suc, ◌+◌, ◌<◌, ◌≤◌, inl, inr, List, [], refl, sym, ap, subst, arith, ◌≢◌, cond, eqb, true, false}
use Rattle.std.proofs.lemmas.Bool.{cases_eq}
use Rattle.ib_map.specs.Keys.{MapKey, rank, end_rank}
use Rattle.ib_map.specs.Pairs.{Rises, value_at}
use Rattle.ib_heap.specs.declared.TheConstants.{MOST_LEVEL}
use Rattle.ib_walk.specs.Pages.{PageMemory}
use Rattle.ib_walk.specs.Walk.{Visit, AreNodes, IsTiled}
use Rattle.ib_walk.specs.Trees.{top_of, height_of, leaves_of, content_of, weight_of, weight_all, times_met, most_height, IsTreeOf, IsLawfulUpTo}
use Rattle.ib_walk.specs.Search.{leaf_for, IsPageFor}
use Rattle.ib_walk.proofs.SearchLaws.{above, above-zero, IsPageFor-below, IsTiled-below, value_at-records_along, Rises-records_along}
use Rattle.ib_walk.proofs.CountLaws.{bits-met}

pub weight_of-le : (f : ℕ → Visit → ℕ) (m : PageMemory) (root roots : ℕ) → 0 < root → root ≤ roots → weight_of f m root ≤ weight_all f m roots
weight_of-le f m root zero some le = absurd (omega arith)
weight_of-le f m root (suc roots) some le =
    elim (cases_eq root (suc roots)) [
      | inl e ↦ let s = ap (weight_of f m) e in omega arith
      | inr ne ↦ let r = weight_of-le f m root roots some (omega arith) in omega arith
    ]

pub weight_of-two_le : (f : ℕ → Visit → ℕ) (m : PageMemory) (a b roots : ℕ) → 0 < a → a ≤ roots → 0 < b → b ≤ roots → a ≢ b
    → weight_of f m a + weight_of f m b ≤ weight_all f m roots
weight_of-two_le f m a b zero sa la sb lb ne = absurd (omega arith)
weight_of-two_le f m a b (suc roots) sa la sb lb ne =
    elim (cases_eq a (suc roots)) [
      | inl e ↦ let s = ap (weight_of f m) e in let r = weight_of-le f m b roots sb (omega arith) in omega arith
      | inr na ↦ elim (cases_eq b (suc roots)) [
        | inl e ↦ let s = ap (weight_of f m) e in let r = weight_of-le f m a roots sa (omega arith) in omega arith
        | inr nb ↦ let r = weight_of-two_le f m a b roots sa (omega arith) sb (omega arith) ne in omega arith
      ]
    ]

pub weight_all-same : (f : ℕ → Visit → ℕ) (m new : PageMemory) (roots : ℕ) → ((root : ℕ) → 0 < root → root ≤ roots → weight_of f new root ≡ weight_of f m root)
    → weight_all f new roots ≡ weight_all f m roots
weight_all-same f m new zero h = refl
weight_all-same f m new (suc roots) h =
    let e = h (suc roots) (omega arith) (omega arith) in
    let r = weight_all-same f m new roots (λ root a b. h root a (omega arith)) in omega arith

pub IsPageFor-top : (key : MapKey) (root : ℕ) → rank key < end_rank → IsPageFor key (top_of root) root
IsPageFor-top key root lt = record {
  before = [];
  visit = record { page = root; low = 0; high = end_rank };
  behind = [];
  is = refl;
  here = refl;
  low = omega arith;
  high = lt;
}

pub AreNodes-above : (m : PageMemory) (height : ℕ) (vs : List Visit) → AreNodes m height vs → AreNodes m (above height 0) vs
AreNodes-above m height vs h = let P : ℕ → Type 0 = λ n. AreNodes m n vs in subst P (sym (above-zero height)) h

pub IsPageFor-leaf : (m : PageMemory) (key : MapKey) (root : ℕ) → rank key < end_rank → IsTreeOf m (height_of m root) root → IsPageFor key (leaves_of m root) (leaf_for m key root)
IsPageFor-leaf m key root lt t =
    IsPageFor-below m (height_of m root) 0 key (top_of root) root (AreNodes-above m (height_of m root) (top_of root) t.tree.nodes) (IsPageFor-top key root lt)

pub IsTiled-leaves : (m : PageMemory) (root : ℕ) → IsTreeOf m (height_of m root) root → IsTiled 0 (leaves_of m root) end_rank
IsTiled-leaves m root t =
    IsTiled-below m (height_of m root) 0 0 (top_of root) end_rank (AreNodes-above m (height_of m root) (top_of root) t.tree.nodes) (refl, refl)

pub Rises-content_of : (m : PageMemory) (root : ℕ) → IsTreeOf m (height_of m root) root → Rises 0 (content_of m root) end_rank
Rises-content_of m root t = Rises-records_along m 0 (leaves_of m root) end_rank t.tree.leaves (IsTiled-leaves m root t)

-- what a search on the key's leaf finds is what the content has
pub value_at-content_of : (m : PageMemory) (key : MapKey) (root : ℕ) → rank key < end_rank → IsTreeOf m (height_of m root) root
    → value_at key (content_of m root) ≡ value_at key (m (leaf_for m key root)).records
value_at-content_of m key root lt t =
    value_at-records_along m key 0 (leaves_of m root) end_rank (leaf_for m key root) t.tree.leaves (IsTiled-leaves m root t) (IsPageFor-leaf m key root lt t)

-- a page is met at most once
pub times_met-le : (most : ℕ → ℕ) (m : PageMemory) (bits : ℕ → ℕ) (roots : ℕ) (n : ℕ) → IsLawfulUpTo most m bits roots → times_met m roots n ≤ 1
times_met-le most m bits roots n law = let e = bits-met law n in let b = law.bit n in omega arith

-- no root may be higher than the highest page
pub most_height-le : (roots : ℕ) → most_height roots ≤ MOST_LEVEL
most_height-le roots = elim (eqb roots 1) as (λ b. cond b MOST_LEVEL 3 ≤ MOST_LEVEL) [ true ↦ omega arith | false ↦ omega arith ]
