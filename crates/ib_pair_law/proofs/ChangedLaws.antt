-- What a planned change of one of two trees leaves of both.
use Rattle.std.proofs.Common.{◌≡◌, ◌≢◌, ℕ, ◌+◌, ◌<◌, ◌≤◌, ◌∙◌, Bool, true, false, refl, ap, subst}
use Rattle.ib_map.specs.Map.{answer_of, effect_of, is_made}
use Rattle.ib_map.specs.declared.call.Change.{Change}
use Rattle.ib_page.specs.declared.space.TheConstants.{MAPPED_PAGES}
use Rattle.ib_walk.specs.Pages.{PageMemory, PageState}
use Rattle.ib_walk.specs.Trees.{IsLawful, content_of, weight_of}
use Rattle.ib_walk.specs.Walk.{Visit, counts_visit}
use Rattle.ib_walk.specs.Words.{pages_of, bits_of}
use Rattle.ib_plans.specs.Marks.{ticked}
use Rattle.ib_planned_log.specs.Kept.{Planned, IsPlannedStep}
use Rattle.ib_planned_log.specs.Steps.{planned}
use Rattle.ib_planned_log.proofs.LeadLaws.{planned-leads}
use Rattle.ib_planned_log.proofs.SameLaws.{IsLawful-same, content_of-same, weight_of-same}
use Rattle.ib_pair_law.specs.PairKept.{IsStepOf}
use Rattle.ib_planned_log.proofs.PlanIs.{plan_of-is}

-- what a step says of the trees after it: they are lawful, the one that is changed has the content that the change makes, the other has what it had, a page that is not touched is as it was and where it was, and a clock rises by one where it is touched
pub record IsChanged (pages root : ℕ) (change : Change) (before after : ℕ → ℕ) (touched : ℕ → Bool) : Type 0 where
  pub lawful : IsLawful (pages_of after) (bits_of pages after) 2
  pub content_is : content_of (pages_of after) root ≡ effect_of (content_of (pages_of before) root) change
  pub others : (r : ℕ) → 0 < r → r ≤ 2 → r ≢ root → content_of (pages_of after) r ≡ content_of (pages_of before) r
  pub ranges : (r h : ℕ) (v : Visit) → 0 < r → r ≤ 2 → touched v.page ≡ false → weight_of (counts_visit h v) (pages_of after) r ≡ weight_of (counts_visit h v) (pages_of before) r
  pub clock_same : (n : ℕ) → n ≢ 0 → touched n ≡ false → (pages_of after n).clock ≡ (pages_of before n).clock
  pub clock_more : (n : ℕ) → n ≢ 0 → touched n ≡ true → (pages_of after n).clock ≡ (pages_of before n).clock + 1

module _ (pages root : ℕ) (few : pages ≤ MAPPED_PAGES) (some : 0 < root) (le : root ≤ 2) (change : Change) (before after : ℕ → ℕ) where
  abbrev m : PageMemory
  m = pages_of before

  abbrev new : PageMemory
  new = pages_of after

  abbrev bits : ℕ → ℕ
  bits = bits_of pages before

  abbrev plan : Planned
  plan = planned root m bits pages change

  abbrev then : PageMemory
  then = ticked m plan.touched plan.memory

  pub IsChanged-step : IsLawful m bits 2 → is_made (answer_of (content_of m root) change) ≡ true → IsStepOf pages root change before after
      → IsChanged pages root change before after plan.touched
  IsChanged-step law made of =
      let step = subst (IsPlannedStep pages before after m new) (plan_of-is m bits pages 2 root law few some le change made of.may) of.step in
      let leads = planned-leads m bits pages 2 root law few some le change made of.may in
      record {
        lawful = IsLawful-same then new plan.bits (bits_of pages after) 2 leads.lawful step.pages_are step.bits_are;
        content_is = content_of-same then new plan.bits (bits_of pages after) 2 leads.lawful step.pages_are step.bits_are root some le ∙ leads.content_is;
        others = λ r a b ne. content_of-same then new plan.bits (bits_of pages after) 2 leads.lawful step.pages_are step.bits_are r a b ∙ leads.others r a b ne;
        ranges = λ r h v a b off.
            weight_of-same then new plan.bits (bits_of pages after) 2 leads.lawful step.pages_are step.bits_are (counts_visit h v) r a b ∙ leads.ranges r h v a b off;
        clock_same = λ n ne off. ap (λ (q : PageState). q.clock) (step.pages_are n ne) ∙ ap (λ (q : PageState). q.clock) (leads.same n off);
        clock_more = λ n ne on.
            let now : (then n).clock ≡ (m n).clock + 1 = rw on refl in ap (λ (q : PageState). q.clock) (step.pages_are n ne) ∙ now;
      }
