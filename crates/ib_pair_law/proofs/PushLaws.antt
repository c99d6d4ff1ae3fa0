-- A planned entry that the map takes may come after a pair-kept log.
use Rattle.std.proofs.Common.{◌≡◌, ◌≢◌, ℕ, ◌+◌, ◌<◌, ◌≤◌, ◌∙◌, Bool, true, false, List, [], ◌∷◌, ◌++◌, length, zero, suc, refl, sym, ap, subst, arith, inl, inr, ◌⊎◌, length-append}
use Rattle.std.specs.Prelude.{◌↔◌}
use Rattle.std.proofs.lemmas.Bool.{cases_eq}
use Rattle.std.proofs.lemmas.Bool.Decides.{nat_tests}
use Rattle.ib_map.specs.Map.{IsMap, answer_of, effect_of, is_made}
use Rattle.ib_map.specs.History.{IsLegalHistory, changes_of, map_after}
use Rattle.ib_map.specs.Space.{has_pages}
use Rattle.ib_map.specs.Writes.{touches}
use Rattle.ib_map.specs.declared.call.Change.{Change}
use Rattle.ib_map.proofs.HistoryLaws.{IsLegalHistory-push}
use Rattle.ib_heap.specs.declared.TheConstants.{MOST_RECORDS}
use Rattle.ib_page.specs.declared.space.TheConstants.{MAPPED_PAGES}
use Rattle.ib_page.specs.Space.{IsSpacePage}
use Rattle.ib_logrec.specs.declared.entry.Entry.{Entry}
use Rattle.ib_logrec.specs.Grammar.{IsInGrammar}
use Rattle.ib_logrec.specs.Law.{PageRange}
use Rattle.ib_logrec.specs.Log.{memory_after, history_of, logged, map_of, by_place}
use Rattle.ib_logrec.proofs.LogLaws.{history_of-push, length-history_of}
use Rattle.ib_walk.specs.Pages.{PageMemory, PageState}
use Rattle.ib_walk.specs.Walk.{counts_visit, counts_page}
use Rattle.ib_walk.specs.Trees.{IsLawful, content_of, weight_of, top_of, height_of}
use Rattle.ib_walk.specs.Words.{image_of, pages_of, bits_of, IsLawfulMemory}
use Rattle.ib_walk.proofs.TreeLaws.{Rises-content_of}
use Rattle.ib_plans.proofs.MetLaws.{met-some}
use Rattle.ib_tree.specs.Logs.{HasRange, IsTreeEntry, pages_after, visit_with}
use Rattle.ib_tree.proofs.LogLaws.{IsLawfulLog-push, IsLawfulMemory-after, content_of-after, last-entry, map_of-push, pages_after-untouched}
use Rattle.ib_tree.proofs.WeightLaws.{weight_along-le}
use Rattle.ib_tree.proofs.WholeLaws.{counts_visit-le_page}
use Rattle.ib_planned_log.proofs.PushLaws.{each-push}
use Rattle.ib_pair_law.specs.Opening.{pair_opening}
use Rattle.ib_planned_log.specs.Steps.{planned}
use Rattle.ib_pair_law.specs.PairKept.{IsPairEntry, IsPairLog}
use Rattle.ib_pair_law.specs.PairLog.{IsPairLog-front}
use Rattle.ib_second_key.specs.SecondKeys.{second_of, ArePrimary}
use Rattle.ib_second_key.specs.SecondChanges.{second_change}
use Rattle.ib_pair_law.proofs.ChangedLaws.{IsChanged, IsChanged-step}
use Rattle.ib_pair_law.proofs.OpeningLaws.{opens, opens-empty}
use Rattle.ib_second_key.proofs.SecondMapLaws.{ArePrimary-effect, second-effect, second-made}
use Rattle.ib_walk.proofs.CountLaws.{weight-met, met-weight}

-- a page that is met with a range is met
range-met : (m : PageMemory) (page : ℕ) (r : PageRange) → 0 < weight_of (counts_visit r.level (visit_with page r)) m r.root → 0 < weight_of (counts_page page) m r.root
range-met m page r met =
    let le = weight_along-le (counts_visit r.level (visit_with page r)) (counts_page page) m (height_of m r.root) (top_of r.root) (counts_visit-le_page r.level (visit_with page r)) in omega arith

-- so page 0 has no range
no-range : (m : PageMemory) (bits : ℕ → ℕ) (roots : ℕ) → IsLawful m bits roots → (r : PageRange) → HasRange roots m 0 r → ⊥
no-range m bits roots law r h = met-some (λ q. MOST_RECORDS) m bits roots law r.root h.0 h.1 0 (let a = range-met m 0 r (weight-met h.2) in omega arith) refl

-- the pairs of the map of a kept log are primary
primary-counted : (pages n : ℕ) (log : List Entry) → length log ≡ n → IsPairLog pages log → (log ≡ []) ⊎ ((front : List Entry) × (e : Entry) × (log ≡ front ++ e ∷ [])) → ArePrimary (map_of log)
primary-counted pages n log size kept (inl none) = subst (λ es. ArePrimary (map_of es)) (sym none) tt
primary-counted pages zero log size kept (inr r) = absurd (let a = ap length r.2 in let b = length-append r.0 (r.1 ∷ []) in omega arith)
primary-counted pages (suc n) log size kept (inr r) =
    let here = subst (IsPairLog pages) r.2 kept in
    let count : length r.0 ≡ n = (let a = ap length r.2 in let b = length-append r.0 (r.1 ∷ []) in omega arith) in
    let before = primary-counted pages n r.0 count (IsPairLog-front pages r.0 (r.1 ∷ []) here) (last-entry r.0) in
    let p = here.planned_are r.0 r.1 [] refl in
    subst (λ es. ArePrimary (map_of es)) (sym r.2) (subst ArePrimary (sym (map_of-push r.0 r.1)) (ArePrimary-effect (map_of r.0) r.1.change p.primary before))

pub primary-before : (pages : ℕ) (log : List Entry) → IsPairLog pages log → ArePrimary (map_of log)
primary-before pages log kept = primary-counted pages (length log) log refl kept (last-entry log)

module _ (pages : ℕ) (fits : has_pages pages ≡ true) (log : List Entry) (kept : IsPairLog pages log) where
  abbrev start : ℕ → ℕ
  start = by_place pair_opening pages

  abbrev words : ℕ → ℕ
  words = memory_after start log

  abbrev m : PageMemory
  m = pages_of words

  pub lawful-before : IsLawfulMemory pages 2 words
  lawful-before = IsLawfulMemory-after pages 2 start (opens pages fits) (opens-empty pages fits 1 (omega arith) (omega arith)) log kept.lawful

  pub first-before : content_of m 1 ≡ map_of log
  first-before = content_of-after pages 2 start (opens pages fits) (opens-empty pages fits 1 (omega arith) (omega arith)) log kept.lawful

  pub second-before : content_of m 2 ≡ second_of (map_of log)
  second-before = elim (last-entry log) [
    | inl none ↦ subst (λ es. content_of (pages_after start es) 2 ≡ second_of (map_of es)) (sym none) (opens-empty pages fits 2 (omega arith) (omega arith))
    | inr r ↦ subst (λ es. content_of (pages_after start es) 2 ≡ second_of (map_of es)) (sym r.2) (kept.seconds r.0 r.1 [] r.2)
  ]

  few : pages ≤ MAPPED_PAGES
  few = grind (arith, nat_tests, fits)

  map-is : IsMap (map_of log)
  map-is = subst IsMap first-before (Rises-content_of m 1 (lawful-before.law.trees 1 (omega arith) (omega arith)).0)

  module _ (e : Entry) (made : is_made (answer_of (map_of log) e.change) ≡ true) (p : IsPairEntry pages start log e) where
    abbrev then : ℕ → ℕ
    then = memory_after start (log ++ e ∷ [])

    abbrev new : PageMemory
    new = pages_of then

    abbrev other : Change
    other = second_change (map_of log) e.change

    abbrev one : ℕ → Bool
    one = (planned 1 m (bits_of pages words) pages e.change).touched

    abbrev two : ℕ → Bool
    two = (planned 2 (pages_of p.middle) (bits_of pages p.middle) pages other).touched

    -- the first step, and the second
    first : IsChanged pages 1 e.change words p.middle one
    first = IsChanged-step pages 1 few (omega arith) (omega arith) e.change words p.middle lawful-before.law
        (subst (λ xs. is_made (answer_of xs e.change) ≡ true) (sym first-before) made) p.first

    between : content_of (pages_of p.middle) 2 ≡ second_of (map_of log)
    between = first.others 2 (omega arith) (omega arith) (λ q. omega arith) ∙ second-before

    primary : ArePrimary (map_of log)
    primary = primary-before pages log kept

    second : IsChanged pages 2 other p.middle then two
    second = IsChanged-step pages 2 few (omega arith) (omega arith) other p.middle then first.lawful
        (subst (λ xs. is_made (answer_of xs other) ≡ true) (sym between) (second-made (map_of log) e.change map-is primary p.primary made)) p.second

    first-after : content_of new 1 ≡ map_of (log ++ e ∷ [])
    first-after =
        second.others 1 (omega arith) (omega arith) (λ q. omega arith)
        ∙ (first.content_is ∙ (ap (λ xs. effect_of xs e.change) first-before ∙ sym (map_of-push log e)))

    pub second-after : content_of new 2 ≡ second_of (map_of (log ++ e ∷ []))
    second-after =
        second.content_is
        ∙ (ap (λ xs. effect_of xs other) between
        ∙ (sym (second-effect (map_of log) e.change map-is primary p.primary made) ∙ ap second_of (sym (map_of-push log e))))

    -- a clock never falls, and rises by two at most
    module _ (page : ℕ) (ne : page ≢ 0) where
      between-clock : ((pages_of p.middle page).clock ≡ (m page).clock) × (one page ≡ false) ⊎ ((pages_of p.middle page).clock ≡ (m page).clock + 1)
      between-clock = go (one page) refl
        where
          go : (b : Bool) → one page ≡ b → ((pages_of p.middle page).clock ≡ (m page).clock) × (one page ≡ false) ⊎ ((pages_of p.middle page).clock ≡ (m page).clock + 1)
          go false off = inl (first.clock_same page ne off, off)
          go true on = inr (first.clock_more page ne on)

      after-clock : ((new page).clock ≡ (pages_of p.middle page).clock) × (two page ≡ false) ⊎ ((new page).clock ≡ (pages_of p.middle page).clock + 1)
      after-clock = go (two page) refl
        where
          go : (b : Bool) → two page ≡ b → ((new page).clock ≡ (pages_of p.middle page).clock) × (two page ≡ false) ⊎ ((new page).clock ≡ (pages_of p.middle page).clock + 1)
          go false off = inl (second.clock_same page ne off, off)
          go true on = inr (second.clock_more page ne on)

      pub clock-push : (new page).clock ≤ (m page).clock + 2
      clock-push = elim (between-clock) [
        | inl a ↦ elim (after-clock) [ inl b ↦ (let x = a.0 in let y = b.0 in omega arith) | inr b ↦ (let x = a.0 in omega arith) ]
        | inr a ↦ elim (after-clock) [ inl b ↦ (let y = b.0 in omega arith) | inr b ↦ omega arith ]
      ]

      -- a page that isn't written wasn't touched, or its clock would be higher
      not-touched : touches page e.writes ≡ false → (one page ≡ false) × (two page ≡ false)
      not-touched none =
          let same = ap (λ (q : PageState). q.clock) (pages_after-untouched start log e page none) in
          elim (between-clock) [
            | inl a ↦ elim (after-clock) [ inl b ↦ (a.1, b.1) | inr b ↦ absurd (let x = a.0 in omega arith) ]
            | inr a ↦ elim (after-clock) [ inl b ↦ absurd (let y = b.0 in omega arith) | inr b ↦ absurd (omega arith) ]
          ]

    others : (page : ℕ) (r : PageRange) → page ≢ 0 → touches page e.writes ≡ false → 0 < r.root → r.root ≤ 2
        → weight_of (counts_visit r.level (visit_with page r)) new r.root ≡ weight_of (counts_visit r.level (visit_with page r)) m r.root
    others page r ne none some le =
        let off = not-touched page ne none in
        second.ranges r.root r.level (visit_with page r) some le off.1 ∙ first.ranges r.root r.level (visit_with page r) some le off.0

    ranges : (page : ℕ) (r : PageRange) → touches page e.writes ≡ false → HasRange 2 new page r ↔ HasRange 2 m page r
    ranges page r none = elim (cases_eq page 0) [
      | inl z ↦ (
        λ h. absurd (no-range new (bits_of pages then) 2 second.lawful r (subst (λ n. HasRange 2 new n r) z h)),
        λ h. absurd (no-range m (bits_of pages words) 2 lawful-before.law r (subst (λ n. HasRange 2 m n r) z h)),
      )
      | inr ne ↦ (
        λ h. (h.0, h.1, met-weight m r.root r.level (visit_with page r) (let same = others page r ne none h.0 h.1 in let met = weight-met h.2 in omega arith)),
        λ h. (h.0, h.1, met-weight new r.root r.level (visit_with page r) (let same = others page r ne none h.0 h.1 in let met = weight-met h.2 in omega arith)),
      )
    ]

    IsTreeEntry-planned : IsSpacePage pages (image_of then 0) → IsTreeEntry pages 2 start log e
    IsTreeEntry-planned space = record { lawful = record { space = space; law = second.lawful }; content = first-after; others = ranges }

    legal-after : e.number ≡ length (changes_of e.session (history_of log)) + 1 → IsLegalHistory (history_of (log ++ e ∷ []))
    legal-after numbered =
        let lawful = kept.lawful in
        subst IsLegalHistory (sym (history_of-push log e))
        (IsLegalHistory-push (history_of log) (logged e) lawful.legal (subst (λ n. is_made (answer_of (map_after (history_of log) n) e.change) ≡ true) (sym (length-history_of log)) made) numbered)

    pub IsPairLog-push : IsInGrammar pages e → e.number ≡ length (changes_of e.session (history_of log)) + 1 → IsSpacePage pages (image_of then 0) → IsPairLog pages (log ++ e ∷ [])
    IsPairLog-push grammar numbered space = record {
      lawful = IsLawfulLog-push pages 2 start log e kept.lawful grammar (legal-after numbered) (IsTreeEntry-planned space);
      planned_are = each-push (IsPairEntry pages start) log e kept.planned_are p;
      seconds = each-push (λ xs x. content_of (pages_after start (xs ++ x ∷ [])) 2 ≡ second_of (map_of (xs ++ x ∷ []))) log e kept.seconds second-after;
    }
