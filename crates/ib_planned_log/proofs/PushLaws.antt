-- A planned entry that the map takes may come behind a kept log.
use Rattle.std.proofs.Common.{◌≡◌, ◌≢◌, ℕ, ◌+◌, ◌<◌, ◌≤◌, ◌∙◌, Bool, true, false, List, [], ◌∷◌, ◌++◌, length, refl, sym, ap, subst, arith, inl, inr}
use Rattle.std.specs.Prelude.{◌↔◌}
use Rattle.std.proofs.lemmas.Bool.{cases_eq}
use Rattle.std.proofs.lemmas.Bool.Decides.{nat_tests}
use Rattle.ib_map.specs.Map.{answer_of, effect_of, is_made}
use Rattle.ib_map.specs.History.{IsLegalHistory, changes_of, map_after}
use Rattle.ib_map.specs.Space.{has_pages}
use Rattle.ib_map.specs.Writes.{touches}
use Rattle.ib_map.proofs.HistoryLaws.{IsLegalHistory-push}
use Rattle.ib_heap.specs.declared.TheConstants.{MOST_RECORDS}
use Rattle.ib_page.specs.declared.space.TheConstants.{MAPPED_PAGES}
use Rattle.ib_page.specs.Space.{IsSpacePage}
use Rattle.ib_logrec.specs.declared.entry.Entry.{Entry}
use Rattle.ib_logrec.specs.Grammar.{IsInGrammar}
use Rattle.ib_logrec.specs.Law.{PageRange}
use Rattle.ib_logrec.specs.Log.{memory_after, history_of, logged, map_of, by_place}
use Rattle.ib_logrec.proofs.LogLaws.{history_of-push, length-history_of}
use Rattle.ib_walk.specs.Pages.{PageMemory, PageState}
use Rattle.ib_walk.specs.Walk.{counts_visit, counts_page}
use Rattle.ib_walk.specs.Trees.{IsLawful, content_of, weight_of, top_of, height_of}
use Rattle.ib_walk.specs.Words.{image_of, bits_of, IsLawfulMemory}
use Rattle.ib_plans.specs.Leads.{LeadsTo}
use Rattle.ib_plans.specs.Marks.{ticked}
use Rattle.ib_plans.proofs.MetLaws.{met-some}
use Rattle.ib_tree.specs.Logs.{HasRange, IsTreeEntry, pages_after, visit_with}
use Rattle.ib_tree.specs.TreeLog.{opening}
use Rattle.ib_tree.proofs.LogLaws.{IsLawfulLog-push, IsLawfulMemory-after, content_of-after, map_of-push, pages_after-untouched}
use Rattle.ib_tree.proofs.OpeningLaws.{opens, opens-empty}
use Rattle.ib_tree.proofs.WeightLaws.{weight_along-le}
use Rattle.ib_tree.proofs.WholeLaws.{counts_visit-le_page}
use Rattle.ib_planned_log.specs.Kept.{Planned, IsPlannedEntry, IsKeptLog, IsPlannedStep}
use Rattle.ib_planned_log.specs.Steps.{planned}
use Rattle.ib_planned_log.proofs.LeadLaws.{planned-leads}
use Rattle.ib_planned_log.proofs.SameLaws.{IsLawful-same, content_of-same, weight_of-same}
use Rattle.ib_walk.proofs.CountLaws.{weight-met, met-weight}
use Rattle.ib_planned_log.proofs.PlanIs.{plan_of-is}

-- what holds of each entry behind those before it, and of one more, holds of each with that one
pub each-push : (P : List Entry → Entry → Type 0) (front : List Entry) (e : Entry) → ((xs : List Entry) (x : Entry) (back : List Entry) → front ≡ xs ++ x ∷ back → P xs x) → P front e
    → (xs : List Entry) (x : Entry) (back : List Entry) → front ++ e ∷ [] ≡ xs ++ x ∷ back → P xs x
each-push P [] e all last [] x back is = let same : e ≡ x = cc in subst (P []) same last
each-push P [] e all last (y ∷ []) x back is = absurd (cc)
each-push P [] e all last (y ∷ z ∷ ys) x back is = absurd (cc)
each-push P (f ∷ fs) e all last [] x back is = let same : f ≡ x = cc in subst (P []) same (all [] f fs refl)
each-push P (f ∷ fs) e all last (y ∷ ys) x back is =
    let same : f ≡ y = cc in let rest : fs ++ e ∷ [] ≡ ys ++ x ∷ back = cc in
    subst (λ z. P (z ∷ ys) x) same
    (each-push (λ zs z. P (f ∷ zs) z) fs e (λ zs z more at. all (f ∷ zs) z more (ap (λ us. f ∷ us) at)) last ys x back rest)

-- a page that is met with a range is met
range-met : (m : PageMemory) (page : ℕ) (r : PageRange) → 0 < weight_of (counts_visit r.level (visit_with page r)) m r.root → 0 < weight_of (counts_page page) m r.root
range-met m page r met =
    let le = weight_along-le (counts_visit r.level (visit_with page r)) (counts_page page) m (height_of m r.root) (top_of r.root) (counts_visit-le_page r.level (visit_with page r)) in omega arith

-- so page 0 has no range
no-range : (m : PageMemory) (bits : ℕ → ℕ) (roots : ℕ) → IsLawful m bits roots → (r : PageRange) → HasRange roots m 0 r → ⊥
no-range m bits roots law r h = met-some (λ q. MOST_RECORDS) m bits roots law r.root h.0 h.1 0 (let a = range-met m 0 r (weight-met h.2) in omega arith) refl

module _ (pages : ℕ) (fits : has_pages pages ≡ true) (log : List Entry) (kept : IsKeptLog pages log) where
  abbrev start : ℕ → ℕ
  start = by_place opening pages

  abbrev m : PageMemory
  m = pages_after start log

  abbrev bits : ℕ → ℕ
  bits = bits_of pages (memory_after start log)

  pub lawful-before : IsLawfulMemory pages 1 (memory_after start log)
  lawful-before = IsLawfulMemory-after pages 1 start (opens pages fits) (opens-empty pages) log kept.lawful

  pub content-before : content_of m 1 ≡ map_of log
  content-before = content_of-after pages 1 start (opens pages fits) (opens-empty pages) log kept.lawful

  module _ (e : Entry) (grammar : IsInGrammar pages e) (made : is_made (answer_of (map_of log) e.change) ≡ true) (p : IsPlannedEntry pages start log e) where
    abbrev new : PageMemory
    new = pages_after start (log ++ e ∷ [])

    abbrev after : ℕ → ℕ
    after = bits_of pages (memory_after start (log ++ e ∷ []))

    abbrev plan : Planned
    plan = planned 1 m bits pages e.change

    abbrev then : PageMemory
    then = ticked m plan.touched plan.memory

    few : pages ≤ MAPPED_PAGES
    few = grind (arith, nat_tests, fits)

    made-here : is_made (answer_of (content_of m 1) e.change) ≡ true
    made-here = subst (λ xs. is_made (answer_of xs e.change) ≡ true) (sym content-before) made

    -- the entry makes just what the steps of the plan come to
    step : IsPlannedStep pages (memory_after start log) (memory_after start (log ++ e ∷ [])) m new plan
    step = subst (IsPlannedStep pages (memory_after start log) (memory_after start (log ++ e ∷ [])) m new)
        (plan_of-is m bits pages 1 1 lawful-before.law few (omega arith) (omega arith) e.change made-here p.may) p.step

    leads : LeadsTo m then plan.bits 1 1 plan.touched (effect_of (content_of m 1) e.change)
    leads = planned-leads m bits pages 1 1 lawful-before.law few (omega arith) (omega arith) e.change made-here p.may

    law-after : IsLawful new after 1
    law-after = IsLawful-same then new plan.bits after 1 leads.lawful step.pages_are step.bits_are

    content-after : content_of new 1 ≡ map_of (log ++ e ∷ [])
    content-after =
        content_of-same then new plan.bits after 1 leads.lawful step.pages_are step.bits_are 1 (omega arith) (omega arith)
        ∙ (leads.content_is ∙ (ap (λ xs. effect_of xs e.change) content-before ∙ sym (map_of-push log e)))

    -- a page that isn't written wasn't touched, or its clock would be higher
    not-touched : (page : ℕ) → page ≢ 0 → touches page e.writes ≡ false → plan.touched page ≡ false
    not-touched page ne none = go (plan.touched page) refl
      where
        go : (b : Bool) → plan.touched page ≡ b → plan.touched page ≡ false
        go false is = is
        go true is =
            let same = pages_after-untouched start log e page none in
            let now : then page ≡ m page = sym (step.pages_are page ne) ∙ same in
            let clock : (then page).clock ≡ (m page).clock + 1 = rw is refl in
            let was = ap (λ (q : PageState). q.clock) now in absurd (omega arith)

    others : (page : ℕ) (r : PageRange) → page ≢ 0 → touches page e.writes ≡ false → 0 < r.root → r.root ≤ 1
        → weight_of (counts_visit r.level (visit_with page r)) new r.root ≡ weight_of (counts_visit r.level (visit_with page r)) m r.root
    others page r ne none some le =
        weight_of-same then new plan.bits after 1 leads.lawful step.pages_are step.bits_are (counts_visit r.level (visit_with page r)) r.root some le
        ∙ leads.ranges r.root r.level (visit_with page r) some le (not-touched page ne none)

    ranges : (page : ℕ) (r : PageRange) → touches page e.writes ≡ false → HasRange 1 new page r ↔ HasRange 1 m page r
    ranges page r none = elim (cases_eq page 0) [
      | inl z ↦ (
        λ h. absurd (no-range new after 1 law-after r (subst (λ n. HasRange 1 new n r) z h)),
        λ h. absurd (no-range m bits 1 lawful-before.law r (subst (λ n. HasRange 1 m n r) z h)),
      )
      | inr ne ↦ (
        λ h. (h.0, h.1, met-weight m r.root r.level (visit_with page r) (let same = others page r ne none h.0 h.1 in let met = weight-met h.2 in omega arith)),
        λ h. (h.0, h.1, met-weight new r.root r.level (visit_with page r) (let same = others page r ne none h.0 h.1 in let met = weight-met h.2 in omega arith)),
      )
    ]

    pub IsTreeEntry-planned : IsSpacePage pages (image_of (memory_after start (log ++ e ∷ [])) 0) → IsTreeEntry pages 1 start log e
    IsTreeEntry-planned space = record { lawful = record { space = space; law = law-after }; content = content-after; others = ranges }

    -- the entry raises a clock by one at most
    pub clock-push : (page : ℕ) → page ≢ 0 → (new page).clock ≤ (m page).clock + 1
    clock-push page ne = go (plan.touched page) refl
      where
        go : (b : Bool) → plan.touched page ≡ b → (new page).clock ≤ (m page).clock + 1
        go false is =
            let a = ap (λ (q : PageState). q.clock) (step.pages_are page ne) in
            let b = ap (λ (q : PageState). q.clock) (leads.same page is) in omega arith
        go true is =
            let a = ap (λ (q : PageState). q.clock) (step.pages_are page ne) in
            let clock : (then page).clock ≡ (m page).clock + 1 = rw is refl in omega arith

    legal-after : e.number ≡ length (changes_of e.session (history_of log)) + 1 → IsLegalHistory (history_of (log ++ e ∷ []))
    legal-after numbered =
        let lawful = kept.lawful in
        subst IsLegalHistory (sym (history_of-push log e))
        (IsLegalHistory-push (history_of log) (logged e) lawful.legal (subst (λ n. is_made (answer_of (map_after (history_of log) n) e.change) ≡ true) (sym (length-history_of log)) made) numbered)

    pub IsKeptLog-push : e.number ≡ length (changes_of e.session (history_of log)) + 1 → IsSpacePage pages (image_of (memory_after start (log ++ e ∷ [])) 0) → IsKeptLog pages (log ++ e ∷ [])
    IsKeptLog-push numbered space = record {
      lawful = IsLawfulLog-push pages 1 start log e kept.lawful grammar (legal-after numbered) (IsTreeEntry-planned space);
      planned_are = each-push (IsPlannedEntry pages start) log e kept.planned_are p;
    }
