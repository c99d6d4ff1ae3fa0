-- An insert that has just as many fresh pages as it needs takes them all.
use Rattle.std.proofs.Common.{◌≡◌, ℕ, ◌<◌, ◌≤◌, ◌∙◌, [], ◌∷◌, zero, suc, inl, inr, List, length, None, refl, sym, ap, arith}
use Rattle.std.proofs.lemmas.Bool.{cases_lt}
use Rattle.ib_map.specs.Keys.{MapKey, end_rank, rank}
use Rattle.ib_map.specs.Pairs.{value_at}
use Rattle.ib_heap.specs.declared.TheConstants.{MOST_RECORDS}
use Rattle.ib_walk.specs.Full.{need_of, run_of}
use Rattle.ib_walk.specs.Pages.{PageMemory}
use Rattle.ib_walk.specs.Search.{child_for}
use Rattle.ib_walk.specs.Trees.{IsLawful, content_of, height_of}
use Rattle.ib_plans.specs.Agreement.{with_bits}
use Rattle.ib_plans.specs.Insert.{AreEnough, AreFresh, Growth, insert_below, planned_insert, split, raised}
use Rattle.ib_plans.proofs.InsertLaws.{split_long-long, split_long-short}
use Rattle.ib_plans.proofs.InsertPlanLaws.{raise_long-long, raise_long-short}
use Rattle.ib_plans.proofs.NeedLaws.{IsCountedWhole-need, need_of-taken, run-le}

-- the bits with all fresh pages taken, those that are left with them
abbrev all_taken : Growth → ℕ → ℕ
all_taken g = with_bits g.fresh 1 g.bits

split-taken : (parent child : ℕ) (g : Growth) → 0 < length g.fresh → all_taken (split parent child g) ≡ all_taken g
split-taken parent child g some = go g.fresh refl
  where
    go : (xs : List ℕ) → g.fresh ≡ xs → all_taken (split parent child g) ≡ all_taken g
    go [] e = absurd (let a = ap length e in omega arith)
    go (x ∷ xs) e = rw e refl

raised-taken : (root : ℕ) (g : Growth) → 1 < length g.fresh → all_taken (raised root g) ≡ all_taken g
raised-taken root g some = go g.fresh refl
  where
    go : (xs : List ℕ) → g.fresh ≡ xs → all_taken (raised root g) ≡ all_taken g
    go [] e = absurd (let a = ap length e in omega arith)
    go (x ∷ []) e = absurd (let a = ap length e in omega arith)
    go (x ∷ y ∷ xs) e = rw e refl

below-taken : (m : PageMemory) (bits : ℕ → ℕ) (fresh : List ℕ) (key : MapKey) (value height page : ℕ) → AreEnough m bits fresh key value height page
    → all_taken (insert_below m bits fresh key value height page) ≡ with_bits fresh 1 bits
below-taken m bits fresh key value zero page enough = refl
below-taken m bits fresh key value (suc height) page enough =
    let g = insert_below m bits fresh key value height (child_for key 0 (m page).records) in
    let before = below-taken m bits fresh key value height (child_for key 0 (m page).records) enough.0 in
    elim (cases_lt MOST_RECORDS (length (g.memory (child_for key 0 (m page).records)).records)) [
      | inl over ↦ ap all_taken (split_long-long page (child_for key 0 (m page).records) g over) ∙ (split-taken page (child_for key 0 (m page).records) g (enough.1 over) ∙ before)
      | inr short ↦ ap all_taken (split_long-short page (child_for key 0 (m page).records) g short) ∙ before
    ]

-- with as many as are needed, the insert has taken just the fresh pages
pub bits-taken : (m : PageMemory) (bits : ℕ → ℕ) (roots : ℕ) (law : IsLawful m bits roots) (key : MapKey) (value : ℕ) (in-range : rank key < end_rank) (root : ℕ) (some : 0 < root) (le : root ≤ roots)
    (fresh : List ℕ) (free : AreFresh bits fresh) → value_at key (content_of m root) ≡ None → need_of m key root ≡ length fresh
    → (planned_insert m bits fresh key value root).bits ≡ with_bits fresh 1 bits
bits-taken m bits roots law key value in-range root some le fresh free missing need =
    let w = IsCountedWhole-need m bits roots law key value in-range root some le fresh free missing (omega arith) in
    let most = run-le m bits roots law key value in-range root some le fresh free missing in
    let g = insert_below m bits fresh key value (height_of m root) root in
    let before = below-taken m bits fresh key value (height_of m root) root w.enough in
    let all : all_taken (planned_insert m bits fresh key value root) ≡ with_bits fresh 1 bits = elim (cases_lt MOST_RECORDS (length (g.memory root).records)) [
      | inr short ↦ ap all_taken (raise_long-short root g short) ∙ before
      | inl over ↦ ap all_taken (raise_long-long root g over) ∙ (raised-taken root g (elim (cases_lt (run_of m key root) (suc (height_of m root))) [
        | inl lt ↦ absurd (let u = (w.under (omega arith)).0 in omega arith)
        | inr ge ↦ (w.over (omega arith)).2
      ]) ∙ before)
    ] in
    let left = need_of-taken m bits roots law key value in-range root some le fresh free missing (omega arith) in
    let none = no-more (planned_insert m bits fresh key value root).fresh (omega arith) in
    sym (ap (λ xs. with_bits xs 1 (planned_insert m bits fresh key value root).bits) none) ∙ all
  where
    no-more : (xs : List ℕ) → length xs ≡ 0 → xs ≡ []
    no-more [] e = refl
    no-more (x ∷ xs) e = absurd (omega arith)
