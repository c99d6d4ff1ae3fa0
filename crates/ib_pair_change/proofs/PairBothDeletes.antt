-- Two deletes that were planned one after the other are planned as an entry asks it.
use Rattle.std.specs.Prelude.{IfSome}
use Rattle.std.proofs.Common.{◌≡◌, ◌≢◌, ℕ, ◌<◌, ◌∙◌, List, sym, subst, arith}
use Rattle.ib_map.specs.Keys.{MapKey}
use Rattle.ib_map.specs.declared.call.Change.TheVariants.{Delete}
use Rattle.ib_map.proofs.KeyLaws.{rank-lt_end}
use Rattle.ib_second_key.specs.SecondKeys.{second_key_of}
use Rattle.ib_heap.specs.declared.TheConstants.{MOST_RECORDS}
use Rattle.ib_page.specs.Work.{WorkPage, changed_of}
use Rattle.ib_walk.specs.Pages.{PageMemory}
use Rattle.ib_walk.specs.Trees.{IsLawful, weight_of}
use Rattle.ib_walk.specs.Walk.{counts_page}
use Rattle.ib_plans.specs.Agreement.{Agrees, HasBits}
use Rattle.ib_plans.specs.Delete.{planned_delete}
use Rattle.ib_plans.specs.Marks.{ticked}
use Rattle.ib_plans.proofs.MetLaws.{met-some}
use Rattle.ib_planned_log.specs.Kept.{MayPlan}
use Rattle.ib_planned_log.specs.Steps.{planned}
use Rattle.ib_pair_plans.proofs.TreeStays.{path-stays}
use Rattle.ib_pair_change.specs.PairCommits.{HasPlan, IsPlannedBoth}
use Rattle.ib_pair_change.specs.PairPlans.{CanDeletePair, IsPlannedPairDelete}
use Rattle.ib_pair_change.proofs.PairDeletes.{agrees-second}

module _ (path : List ℕ) (key : MapKey) (value : ℕ) (path2 : List ℕ) (old new : List WorkPage) (can : CanDeletePair path key value path2 old)
    (plans : IsPlannedPairDelete path key value path2 old new) where
  abbrev key2 : MapKey
  key2 = second_key_of key value

  abbrev mid : List WorkPage
  mid = plans.middle

  first-plan : HasPlan can.pages 1 can.memory can.bits (Delete key) old mid
  first-plan = plans.first can.pages 2 1 can.memory can.bits can.first

  -- after the first, in each memory that is the same but for page 0
  module _ (then : PageMemory) (after : ℕ → ℕ) (law : IsLawful then after 2)
      (same : (n : ℕ) → n ≢ 0 → then n ≡ ticked can.memory (planned 1 can.memory can.bits can.pages (Delete key)).touched (planned 1 can.memory can.bits can.pages (Delete key)).memory n)
      (turned : (n : ℕ) → after n ≡ (planned 1 can.memory can.bits can.pages (Delete key)).bits n) where
    abbrev was : PageMemory
    was = ticked can.memory (planned_delete can.memory can.bits key 1).touched (planned_delete can.memory can.bits key 1).memory

    abbrev bits : ℕ → ℕ
    bits = (planned_delete can.memory can.bits key 1).bits

    same-bits : bits ≡ after
    same-bits = λ i n. sym (turned n) i

    second : Agrees can.pages 2 2 key2 path2 mid was bits
    second = agrees-second path key value path2 old can mid plans.first

    met-same : (n : ℕ) → 0 < weight_of (counts_page n) was 2 → then n ≡ was n
    met-same n met = same n (met-some (λ q. MOST_RECORDS) was bits 2 second.lawful 2 (omega arith) (omega arith) n (omega arith))

    agrees : Agrees can.pages 2 2 key2 path2 mid then after
    agrees = record {
      lawful = law;
      few = second.few;
      some = omega arith;
      within = omega arith;
      way = second.way ∙ sym (path-stays (λ n. MOST_RECORDS) was then bits 2 second.lawful 2 (omega arith) (omega arith) met-same key2 (rank-lt_end key2));
      same = λ page ne there. second.same page ne there ∙ sym (same page ne);
      space = subst (λ (b : ℕ → ℕ). IfSome (changed_of 0 mid) (HasBits can.pages b)) same-bits second.space;
    }

    pub both-second : MayPlan 2 2 then after can.pages (Delete key2) × HasPlan can.pages 2 then after (Delete key2) mid new
    both-second = (tt, plans.second can.pages 2 2 then after agrees)

  pub both-delete : IsPlannedBoth can.pages can.memory can.bits (Delete key) (Delete key2) old mid new
  both-delete = record { may = tt; first = first-plan; middle_reads = plans.first_reads; second = both-second }
