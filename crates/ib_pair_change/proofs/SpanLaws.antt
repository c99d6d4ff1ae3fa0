-- Each entry of a pair-kept log is structural: it writes a leaf of each tree. So while the index is claimed nobody else writes.
use Rattle.std.specs.List.{AllByRecursion, list_any}
use Rattle.std.specs.Prelude.{not, ◌==◌, ◌||◌}
use Rattle.std.proofs.Common.{◌≡◌, ◌≢◌, ℕ, ◌<◌, ◌≤◌, Bool, true, false, List, [], ◌∷◌, ◌++◌, refl, sym, ap, subst, ◌∙◌, arith, inl, inr, append_assoc}
use Rattle.std.proofs.lemmas.Bool.{cases_eq, ne_eqb}
use Rattle.std.proofs.lemmas.Bool.Decides.{nat_tests}
use Rattle.ib_map.specs.Map.{IsMap, answer_of, is_made, key_of}
use Rattle.ib_map.specs.Space.{has_pages}
use Rattle.ib_map.specs.Writes.{page_at, spans_pages, touches}
use Rattle.ib_map.specs.declared.write.Write.{Write}
use Rattle.ib_map.specs.declared.call.Change.{Change}
use Rattle.ib_map.specs.declared.call.Change.TheVariants.{Insert, Delete}
use Rattle.ib_map.proofs.KeyLaws.{rank-lt_end}
use Rattle.ib_heap.specs.declared.TheConstants.{MOST_RECORDS}
use Rattle.ib_page.specs.declared.space.TheConstants.{MAPPED_PAGES}
use Rattle.ib_logrec.specs.declared.entry.Entry.{Entry}
use Rattle.ib_logrec.specs.Grammar.{IsInGrammar}
use Rattle.ib_logrec.specs.Log.{memory_after, map_of, by_place}
use Rattle.ib_walk.specs.Pages.{PageMemory, PageState}
use Rattle.ib_walk.specs.Search.{leaf_for}
use Rattle.ib_walk.specs.Trees.{IsLawful, content_of, weight_of}
use Rattle.ib_walk.specs.Walk.{counts_page}
use Rattle.ib_walk.specs.Full.{chosen, need_of}
use Rattle.ib_walk.specs.Words.{bits_of, pages_of}
use Rattle.ib_walk.proofs.TreeLaws.{Rises-content_of}
use Rattle.ib_walk.proofs.WalkLaws.{AllByRecursion-right}
use Rattle.ib_plans.proofs.ChosenLaws.{chosen-fresh, chosen-length}
use Rattle.ib_plans.proofs.MetLaws.{met-some}
use Rattle.ib_planned_log.proofs.LeadLaws.{made-missing}
use Rattle.ib_planned_log.proofs.LeafPlanLaws.{leaf-page}
use Rattle.ib_tree.proofs.LogLaws.{made-last, pages_after-untouched}
use Rattle.ib_pair_law.specs.Opening.{pair_opening}
use Rattle.ib_planned_log.specs.Kept.{MayPlan, IsPlannedStep}
use Rattle.ib_planned_log.specs.Steps.{planned}
use Rattle.ib_pair_law.specs.PairKept.{IsPairEntry, IsPairLog}
use Rattle.ib_pair_law.specs.PairLog.{IsPairLog-front}
use Rattle.ib_second_key.specs.SecondChanges.{second_change}
use Rattle.ib_second_key.specs.SecondKeys.{second_of}
use Rattle.ib_planned_log.proofs.LeadLaws.{planned-leads}
use Rattle.ib_pair_law.proofs.ChangedLaws.{IsChanged, IsChanged-step}
use Rattle.ib_pair_law.proofs.PushLaws.{first-before, lawful-before, primary-before, second-before}
use Rattle.ib_second_key.proofs.SecondMapLaws.{second-made}
use Rattle.ib_pair_plans.specs.Apart.{IsApart}
use Rattle.ib_pair_plans.proofs.DeleteApart.{IsApart-delete}
use Rattle.ib_pair_plans.proofs.InsertApart.{IsApart-insert}
use Rattle.ib_pair_plans.proofs.TreeStays.{weight-stays}
use Rattle.ib_pair_change.proofs.PairCommit.{planned-on}
use Rattle.ib_planned_log.proofs.PlanIs.{plan_of-is}

-- writes on two pages span pages
other-page : (ws : List Write) (a p : ℕ) → a ≢ p → touches a ws ≡ true → list_any (λ v. not (page_at v.place == p)) ws ≡ true
other-page [] a p ne on = cc
other-page (w ∷ ws) a p ne on = elim (cases_eq (page_at w.place) a) [
  | inl e ↦ ap (λ b. not b || list_any (λ v. not (page_at v.place == p)) ws) (ne_eqb (page_at w.place) p (λ q. ne (sym e ∙ q)))
  | inr differ ↦ either (not (page_at w.place == p)) (list_any (λ v. not (page_at v.place == p)) ws)
      (other-page ws a p ne (ap (λ b. b || touches a ws) (sym (ne_eqb (page_at w.place) a differ)) ∙ on))
]
  where
    either : (x y : Bool) → y ≡ true → (x || y) ≡ true
    either true y h = refl
    either false y h = h

spans-two : (ws : List Write) (a b : ℕ) → a ≢ b → touches a ws ≡ true → touches b ws ≡ true → spans_pages ws ≡ true
spans-two [] a b ne on other = cc
spans-two (w ∷ ws) a b ne on other = elim (cases_eq (page_at w.place) a) [
  | inl e ↦
      let differ : page_at w.place ≢ b = λ q. ne (sym e ∙ q) in
      other-page ws b (page_at w.place) (λ q. differ (sym q)) (ap (λ t. t || touches b ws) (sym (ne_eqb (page_at w.place) b differ)) ∙ other)
  | inr differ ↦ other-page ws a (page_at w.place) (λ q. differ (sym q)) (ap (λ t. t || touches a ws) (sym (ne_eqb (page_at w.place) a differ)) ∙ on)
]

-- a change of the first tree touches no page of the second
planned-apart : (m : PageMemory) (bits : ℕ → ℕ) (pages : ℕ) → IsLawful m bits 2 → pages ≤ MAPPED_PAGES → (change : Change) → is_made (answer_of (content_of m 1) change) ≡ true
    → MayPlan 2 1 m bits pages change → IsApart m 2 1 (planned 1 m bits pages change).touched
planned-apart m bits pages law few (Insert key value) made may =
    let count = chosen-length bits pages (need_of m key 1) may.1 in
    IsApart-insert m bits 2 law key value (rank-lt_end key) 1 (omega arith) (omega arith) (chosen bits pages (need_of m key 1)) (chosen-fresh bits pages (need_of m key 1) few)
    (made-missing (content_of m 1) key value made) (omega arith)
planned-apart m bits pages law few (Delete key) made may = IsApart-delete m bits 2 law key (rank-lt_end key) 1 (omega arith) (omega arith)

module _ (pages : ℕ) (fits : has_pages pages ≡ true) (log : List Entry) (e : Entry) (kept : IsPairLog pages (log ++ e ∷ [])) where
  abbrev start : ℕ → ℕ
  start = by_place pair_opening pages

  abbrev words : ℕ → ℕ
  words = memory_after start log

  abbrev m : PageMemory
  m = pages_of words

  abbrev then : ℕ → ℕ
  then = memory_after start (log ++ e ∷ [])

  front : IsPairLog pages log
  front = IsPairLog-front pages log (e ∷ []) kept

  p : IsPairEntry pages start log e
  p = kept.planned_are log e [] refl

  grammar : IsInGrammar pages e
  grammar = let lawful = kept.lawful in (AllByRecursion-right (IsInGrammar pages) log (e ∷ []) lawful.grammar).0

  made : is_made (answer_of (map_of log) e.change) ≡ true
  made = let lawful = kept.lawful in made-last log e lawful.legal

  few : pages ≤ MAPPED_PAGES
  few = grind (arith, nat_tests, fits)

  made1 : is_made (answer_of (content_of m 1) e.change) ≡ true
  made1 = subst (λ xs. is_made (answer_of xs e.change) ≡ true) (sym (first-before pages fits log front)) made

  law : IsLawful m (bits_of pages words) 2
  law = (lawful-before pages fits log front).law

  abbrev one : ℕ → Bool
  one = (planned 1 m (bits_of pages words) pages e.change).touched

  changed1 : IsChanged pages 1 e.change words p.middle one
  changed1 = IsChanged-step pages 1 few (omega arith) (omega arith) e.change words p.middle law made1 p.first

  map-is : IsMap (map_of log)
  map-is = subst IsMap (first-before pages fits log front) (Rises-content_of m 1 (law.trees 1 (omega arith) (omega arith)).0)

  abbrev other : Change
  other = second_change (map_of log) e.change

  second-map : content_of (pages_of p.middle) 2 ≡ second_of (map_of log)
  second-map = changed1.others 2 (omega arith) (omega arith) (λ q. omega arith) ∙ second-before pages fits log front

  abbrev two : ℕ → Bool
  two = (planned 2 (pages_of p.middle) (bits_of pages p.middle) pages other).touched

  changed2 : IsChanged pages 2 other p.middle then two
  changed2 = IsChanged-step pages 2 few (omega arith) (omega arith) other p.middle then changed1.lawful
      (subst (λ xs. is_made (answer_of xs other) ≡ true) (sym second-map) (second-made (map_of log) e.change map-is (primary-before pages log front) p.primary made)) p.second

  -- clocks never fall
  between-ge : (n : ℕ) → n ≢ 0 → (m n).clock ≤ (pages_of p.middle n).clock
  between-ge n ne = elim (one n) as (λ b. one n ≡ b → (m n).clock ≤ (pages_of p.middle n).clock) [
    | true ↦ λ on. (let c = changed1.clock_more n ne on in omega arith)
    | false ↦ λ off. (let c = changed1.clock_same n ne off in omega arith)
  ] refl

  after-ge : (n : ℕ) → n ≢ 0 → (pages_of p.middle n).clock ≤ (pages_of then n).clock
  after-ge n ne = elim (two n) as (λ b. two n ≡ b → (pages_of p.middle n).clock ≤ (pages_of then n).clock) [
    | true ↦ λ on. (let c = changed2.clock_more n ne on in omega arith)
    | false ↦ λ off. (let c = changed2.clock_same n ne off in omega arith)
  ] refl

  written : (n : ℕ) → n ≢ 0 → (m n).clock < (pages_of then n).clock → touches n e.writes ≡ true
  written n ne more = elim (touches n e.writes) as (λ b. touches n e.writes ≡ b → b ≡ true) [
    | true ↦ λ on. refl
    | false ↦ λ off. absurd (let same = ap (λ (s : PageState). s.clock) (pages_after-untouched start log e n off) in omega arith)
  ] refl

  abbrev leaf1 : ℕ
  leaf1 = leaf_for m (key_of e.change) 1

  abbrev leaf2 : ℕ
  leaf2 = leaf_for (pages_of p.middle) (key_of other) 2

  some1 : leaf1 ≢ 0
  some1 = (leaf-page m (bits_of pages words) 2 law (key_of e.change) (rank-lt_end (key_of e.change)) 1 (omega arith) (omega arith)).some

  on1 : one leaf1 ≡ true
  on1 = planned-on 1 m (bits_of pages words) pages e.change

  -- the second leaf is none that the first change touches
  same : (n : ℕ) → 0 < weight_of (counts_page n) m 2 → pages_of p.middle n ≡ m n
  same n met =
      let ne = met-some (λ q. MOST_RECORDS) m (bits_of pages words) 2 law 2 (omega arith) (omega arith) n (omega arith) in
      let off = planned-apart m (bits_of pages words) pages law few e.change made1 p.first.may 2 n (omega arith) (omega arith) (λ q. omega arith) met in
      let leads = planned-leads m (bits_of pages words) pages 2 1 law few (omega arith) (omega arith) e.change made1 p.first.may in
      let step = subst (IsPlannedStep pages words p.middle m (pages_of p.middle)) (plan_of-is m (bits_of pages words) pages 2 1 law few (omega arith) (omega arith) e.change made1 p.first.may) p.first.step in
      step.pages_are n ne ∙ leads.same n off

  off2 : one leaf2 ≡ false
  off2 =
      let q = leaf-page (pages_of p.middle) (bits_of pages p.middle) 2 changed1.lawful (key_of other) (rank-lt_end (key_of other)) 2 (omega arith) (omega arith) in
      let w = weight-stays (λ n. MOST_RECORDS) m (pages_of p.middle) (bits_of pages words) 2 law 2 (omega arith) (omega arith) same (counts_page leaf2) in
      let met = q.met in
      planned-apart m (bits_of pages words) pages law few e.change made1 p.first.may 2 leaf2 (omega arith) (omega arith) (λ z. omega arith) (omega arith)

  pub structural : e.structural ≡ true
  structural =
      let some2 = (leaf-page (pages_of p.middle) (bits_of pages p.middle) 2 changed1.lawful (key_of other) (rank-lt_end (key_of other)) 2 (omega arith) (omega arith)).some in
      let w1 = written leaf1 some1 (let a = changed1.clock_more leaf1 some1 on1 in let b = after-ge leaf1 some1 in omega arith) in
      let w2 = written leaf2 some2 (let a = between-ge leaf2 some2 in let b = changed2.clock_more leaf2 some2 (planned-on 2 (pages_of p.middle) (bits_of pages p.middle) pages other) in omega arith) in
      grammar.structural ∙ spans-two e.writes leaf1 leaf2 (λ z. (let t = ap one z in let x = on1 in let y = off2 in cc)) w1 w2

-- so after a kept log no entry that isn't structural comes
pub alone : (pages : ℕ) → has_pages pages ≡ true → (log others : List Entry) → IsPairLog pages (log ++ others) → AllByRecursion (λ (e : Entry). e.structural ≡ false) others → others ≡ []
alone pages fits log [] kept single = refl
alone pages fits log (e ∷ es) kept single =
    let is = structural pages fits log e (IsPairLog-front pages (log ++ e ∷ []) es (subst (IsPairLog pages) (sym (append_assoc log (e ∷ []) es)) kept)) in
    let bad : true ≡ false = sym is ∙ single.0 in cc
