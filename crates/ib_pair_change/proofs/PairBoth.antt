-- Two inserts that were planned one after the other are planned as an entry asks it.
use Rattle.std.specs.Prelude.{IfSome, ◌&&◌}
use Rattle.std.proofs.Common.{◌≡◌, ◌≢◌, ℕ, ◌<◌, ◌∙◌, Bool, true, false, List, refl, sym, ap, subst, arith, eqb}
use Rattle.std.proofs.lemmas.Bool.{ne_eqb}
use Rattle.ib_map.specs.Keys.{MapKey, end_rank, rank}
use Rattle.ib_map.specs.declared.call.Change.TheVariants.{Insert}
use Rattle.ib_map.proofs.KeyLaws.{rank-lt_end}
use Rattle.ib_second_key.specs.SecondKeys.{second_key_of}
use Rattle.ib_heap.specs.declared.TheConstants.{MOST_RECORDS}
use Rattle.ib_page.specs.Work.{WorkPage, changed_of}
use Rattle.ib_walk.specs.Full.{chosen, free_of, is_root_full, need_of}
use Rattle.ib_walk.specs.Pages.{PageMemory}
use Rattle.ib_walk.specs.Trees.{IsLawful, height_of, most_height, weight_of}
use Rattle.ib_walk.specs.Walk.{counts_page}
use Rattle.ib_plans.specs.Agreement.{Agrees, HasBits}
use Rattle.ib_plans.specs.Insert.{planned_insert}
use Rattle.ib_plans.specs.Marks.{ticked}
use Rattle.ib_plans.proofs.MetLaws.{met-some}
use Rattle.ib_split.specs.Inserts.{HasFresh, IsPlannedInsert}
use Rattle.ib_planned_log.specs.Kept.{MayPlan}
use Rattle.ib_planned_log.specs.Steps.{planned}
use Rattle.ib_pair_plans.proofs.TreeStays.{height-stays, need-stays, root_full-stays, path-stays}
use Rattle.ib_pair_change.specs.PairCommits.{HasPlan, IsPlannedBoth}
use Rattle.ib_pair_change.specs.PairPlans.{CanInsertPair, IsPlannedPair}
use Rattle.ib_pair_change.proofs.PairInserts.{agrees-second, first-fits, fits-mid}

-- a root that is lower than it may be, where it is full, is not too high
not-high : (full : Bool) (height most : ℕ) → (full ≡ true → height < most) → (full && eqb height most) ≡ false
not-high true height most low = ne_eqb height most (λ e. let l = low refl in omega arith)
not-high false height most low = refl

module _ (path fresh : List ℕ) (key : MapKey) (value : ℕ) (path2 fresh2 : List ℕ) (old new : List WorkPage) (can : CanInsertPair path fresh key value path2 fresh2 old)
    (plans : IsPlannedPair path fresh key value path2 fresh2 old new) where
  abbrev key2 : MapKey
  key2 = second_key_of key value

  abbrev mid : List WorkPage
  mid = plans.middle

  may1 : MayPlan 2 1 can.memory can.bits can.pages (Insert key value)
  may1 = (can.low, let e = can.enough in omega arith)

  first-plan : HasPlan can.pages 1 can.memory can.bits (Insert key value) old mid
  first-plan = subst (λ f. IsPlannedInsert f key value can.pages 1 can.memory can.bits old mid) can.fresh_are
      (plans.first can.pages 2 1 can.memory can.bits can.first (first-fits path fresh key value path2 fresh2 old can))

  -- after the first, in each memory that is the same but for page 0
  module _ (then : PageMemory) (after : ℕ → ℕ) (law : IsLawful then after 2)
      (same : (n : ℕ) → n ≢ 0 → then n ≡ ticked can.memory (planned 1 can.memory can.bits can.pages (Insert key value)).touched (planned 1 can.memory can.bits can.pages (Insert key value)).memory n)
      (turned : (n : ℕ) → after n ≡ (planned 1 can.memory can.bits can.pages (Insert key value)).bits n) where
    abbrev was : PageMemory
    was = ticked can.memory (planned_insert can.memory can.bits fresh key value 1).touched (planned_insert can.memory can.bits fresh key value 1).memory

    abbrev bits : ℕ → ℕ
    bits = (planned_insert can.memory can.bits fresh key value 1).bits

    same-was : (n : ℕ) → n ≢ 0 → then n ≡ was n
    same-was n ne = subst (λ f. then n ≡ ticked can.memory (planned_insert can.memory can.bits f key value 1).touched (planned_insert can.memory can.bits f key value 1).memory n) (sym can.fresh_are) (same n ne)

    same-bits : bits ≡ after
    same-bits = λ i n. sym (subst (λ f. after n ≡ (planned_insert can.memory can.bits f key value 1).bits n) (sym can.fresh_are) (turned n)) i

    second : Agrees can.pages 2 2 key2 path2 mid was bits
    second = agrees-second path fresh key value path2 fresh2 old can mid plans.first

    fits : HasFresh can.pages 2 2 key2 fresh2 was bits
    fits = fits-mid path fresh key value path2 fresh2 old can mid plans.first

    in-range : rank key2 < end_rank
    in-range = rank-lt_end key2

    met-same : (n : ℕ) → 0 < weight_of (counts_page n) was 2 → then n ≡ was n
    met-same n met = same-was n (met-some (λ q. MOST_RECORDS) was bits 2 second.lawful 2 (omega arith) (omega arith) n (omega arith))

    agrees : Agrees can.pages 2 2 key2 path2 mid then after
    agrees = record {
      lawful = law;
      few = second.few;
      some = omega arith;
      within = omega arith;
      way = second.way ∙ sym (path-stays (λ n. MOST_RECORDS) was then bits 2 second.lawful 2 (omega arith) (omega arith) met-same key2 in-range);
      same = λ page ne there. second.same page ne there ∙ sym (same-was page ne);
      space = subst (λ (b : ℕ → ℕ). IfSome (changed_of 0 mid) (HasBits can.pages b)) same-bits second.space;
    }

    need2 : need_of then key2 2 ≡ need_of was key2 2
    need2 = need-stays (λ n. MOST_RECORDS) was then bits 2 second.lawful 2 (omega arith) (omega arith) met-same key2 in-range (law.trees 2 (omega arith) (omega arith)).0

    full2 : is_root_full then key2 2 ≡ is_root_full was key2 2
    full2 = root_full-stays (λ n. MOST_RECORDS) was then bits 2 second.lawful 2 (omega arith) (omega arith) met-same key2 in-range (law.trees 2 (omega arith) (omega arith)).0

    height2 : height_of then 2 ≡ height_of was 2
    height2 = height-stays (λ n. MOST_RECORDS) was then bits 2 second.lawful 2 (omega arith) (omega arith) met-same

    fits-then : HasFresh can.pages 2 2 key2 fresh2 then after
    fits-then = record {
      chosen_are = fits.chosen_are ∙ (ap (λ (b : ℕ → ℕ). chosen b can.pages (need_of was key2 2)) same-bits ∙ ap (chosen after can.pages) (sym need2));
      enough = let e = fits.enough in let n = need2 in let b = ap (λ (b : ℕ → ℕ). free_of b can.pages) same-bits in omega arith;
      low = λ full. let l = fits.low (sym full2 ∙ full) in let h = height2 in omega arith;
    }

    pub both-second : MayPlan 2 2 then after can.pages (Insert key2 0) × HasPlan can.pages 2 then after (Insert key2 0) mid new
    both-second = (
      (not-high (is_root_full then key2 2) (height_of then 2) (most_height 2) fits-then.low, fits-then.enough),
      subst (λ f. IsPlannedInsert f key2 0 can.pages 2 then after mid new) fits-then.chosen_are (plans.second can.pages 2 2 then after agrees fits-then),
    )

  pub both-insert : IsPlannedBoth can.pages can.memory can.bits (Insert key value) (Insert key2 0) old mid new
  both-insert = record { may = may1; first = first-plan; middle_reads = plans.first_reads; second = both-second }
