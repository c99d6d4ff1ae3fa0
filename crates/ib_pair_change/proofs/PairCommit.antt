-- A change of both trees that is planned for the memory after a pair-kept log may be appended to it.
use Rattle.std.specs.List.{AllByRecursion}
use Rattle.std.specs.Prelude.{IfSome}
use Rattle.std.proofs.Common.{◌≡◌, ◌≢◌, ℕ, ◌*◌, ◌≤◌, true, false, List, [], ◌∷◌, ◌++◌, length, Option, Some, None, refl, sym, ap, subst, ◌∙◌, arith}
use Rattle.std.proofs.lemmas.Bool.Decides.{nat_tests}
use Rattle.ib_map.specs.Map.{IsMap, answer_of, effect_of, is_made, key_of}
use Rattle.ib_map.specs.Space.{has_pages}
use Rattle.ib_map.specs.Writes.{PlacesRise, touches}
use Rattle.ib_map.specs.declared.TheConstants.{PAGE_WORDS}
use Rattle.ib_map.specs.declared.write.Write.{Write}
use Rattle.ib_map.specs.declared.call.Change.{Change}
use Rattle.ib_map.specs.declared.call.Change.TheVariants.{Insert, Delete}
use Rattle.ib_map.proofs.KeyLaws.{rank-lt_end}
use Rattle.ib_page.specs.Space.{IsSpacePage}
use Rattle.ib_page.specs.Work.{WorkPage, PagesAscend, changed_of}
use Rattle.ib_page.specs.declared.space.TheConstants.{MAPPED_PAGES}
use Rattle.ib_page.proofs.StoreLaws.{writes_rise}
use Rattle.ib_logrec.specs.declared.entry.Entry.{Entry}
use Rattle.ib_logrec.specs.Grammar.{IsInGrammar}
use Rattle.ib_logrec.specs.Log.{memory_after, map_of, by_place}
use Rattle.ib_walk.specs.Pages.{PageMemory, PageState}
use Rattle.ib_walk.specs.Search.{leaf_for}
use Rattle.ib_walk.specs.Trees.{content_of}
use Rattle.ib_walk.specs.Full.{chosen, need_of}
use Rattle.ib_walk.specs.Words.{IsLawfulMemory, bits_of, image_of, pages_of}
use Rattle.ib_walk.proofs.TreeLaws.{Rises-content_of}
use Rattle.ib_plans.specs.Leads.{LeadsTo}
use Rattle.ib_plans.specs.Marks.{ticked}
use Rattle.ib_plans.specs.Moves.{Stays}
use Rattle.ib_plans.proofs.StayLaws.{planned_insert-stays, planned_delete-stays}
use Rattle.ib_planned_log.specs.Kept.{Planned}
use Rattle.ib_planned_log.proofs.LeafPlanLaws.{leaf-page}
use Rattle.ib_planned_log.proofs.PageChangeLaws.{some-writes}
use Rattle.ib_tree.proofs.LogLaws.{pages_after-untouched}
use Rattle.ib_pair_law.specs.Opening.{pair_opening}
use Rattle.ib_planned_log.specs.Kept.{MayPlan, IsPlannedStep}
use Rattle.ib_planned_log.specs.Steps.{planned}
use Rattle.ib_pair_law.specs.PairKept.{IsPairEntry, IsPairLog, IsStepOf}
use Rattle.ib_second_key.specs.SecondChanges.{IsPrimaryChange, second_change}
use Rattle.ib_second_key.specs.SecondKeys.{ArePrimary, second_of}
use Rattle.ib_planned_log.proofs.LeadLaws.{planned-leads}
use Rattle.ib_pair_law.proofs.ChangedLaws.{IsChanged, IsChanged-step}
use Rattle.ib_pair_law.proofs.PushLaws.{IsPairLog-push, first-before, lawful-before, primary-before, second-before}
use Rattle.ib_second_key.proofs.SecondMapLaws.{second-made}
use Rattle.ib_pair_change.specs.Overlay.{overlay}
use Rattle.ib_pair_change.specs.PairCommits.{HasPlan, IsPairChange}
use Rattle.ib_planned_change.proofs.PlanLaws.{plan-bits, plan-on}
use Rattle.ib_planned_change.proofs.ShrinkPlanLaws.{delete-bits, delete-on}
use Rattle.ib_pair_change.proofs.StepLaws.{overlay-away, overlay-there, size-of, space-is, step-is}
use Rattle.ib_planned_change.proofs.WorkLaws.{image-after, image-still, none-same, work-count, work-differ}
use Rattle.ib_planned_log.proofs.PlanIs.{plan_of-is}

-- what a plan leaves, and what it touches at least
planned-stays : (root : ℕ) (m : PageMemory) (bits : ℕ → ℕ) (pages : ℕ) (change : Change) (n : ℕ) → (planned root m bits pages change).touched n ≡ false → (planned root m bits pages change).moves n ≡ Stays
planned-stays root m bits pages (Insert key value) n off = planned_insert-stays n m bits (chosen bits pages (need_of m key root)) key value root off
planned-stays root m bits pages (Delete key) n off = planned_delete-stays n m bits key root off

planned-bits : (root : ℕ) (m : PageMemory) (bits : ℕ → ℕ) (pages : ℕ) (change : Change) → (planned root m bits pages change).touched 0 ≡ false → (n : ℕ) → (planned root m bits pages change).bits n ≡ bits n
planned-bits root m bits pages (Insert key value) off n = plan-bits m bits (chosen bits pages (need_of m key root)) key value n root off
planned-bits root m bits pages (Delete key) off n = delete-bits m bits key root n off

pub planned-on : (root : ℕ) (m : PageMemory) (bits : ℕ → ℕ) (pages : ℕ) (change : Change) → (planned root m bits pages change).touched (leaf_for m (key_of change) root) ≡ true
planned-on root m bits pages (Insert key value) = plan-on m bits (chosen bits pages (need_of m key root)) key value (leaf_for m key root) root refl
planned-on root m bits pages (Delete key) = delete-on m bits key root (leaf_for m key root) refl

module _ (pages : ℕ) (fits : has_pages pages ≡ true) (log : List Entry) (kept : IsPairLog pages log) (change : Change) (old mid new : List WorkPage) (e : Entry) (h : IsPairChange pages log change old mid new e) where
  abbrev start : ℕ → ℕ
  start = by_place pair_opening pages

  abbrev words : ℕ → ℕ
  words = memory_after start log

  abbrev m : PageMemory
  m = pages_of words

  abbrev bits : ℕ → ℕ
  bits = bits_of pages words

  abbrev p1 : Planned
  p1 = planned 1 m bits pages change

  abbrev other : Change
  other = second_change (map_of log) change

  abbrev middle : ℕ → ℕ
  middle = overlay words mid

  abbrev after : ℕ → ℕ
  after = memory_after start (log ++ e ∷ [])

  before : IsLawfulMemory pages 2 words
  before = lawful-before pages fits log kept

  few : pages ≤ MAPPED_PAGES
  few = grind (arith, nat_tests, fits)

  first-map : content_of m 1 ≡ map_of log
  first-map = first-before pages fits log kept

  made1 : is_made (answer_of (content_of m 1) change) ≡ true
  made1 = subst (λ xs. is_made (answer_of xs change) ≡ true) (sym first-map) h.made

  -- the first step
  leads1 : LeadsTo m (ticked m p1.touched p1.memory) p1.bits 2 1 p1.touched (effect_of (content_of m 1) change)
  leads1 = planned-leads m bits pages 2 1 before.law few (omega arith) (omega arith) change made1 h.plans.may

  sizes1 : (n : ℕ) (image : List ℕ) → changed_of n mid ≡ Some image → length image ≡ PAGE_WORDS
  sizes1 = size-of pages m p1 old mid h.plans.first (λ n ne. (leads1.lawful.sound n ne).formed)

  now1 : (n : ℕ) (image : List ℕ) → changed_of n mid ≡ Some image → image_of middle n ≡ image
  now1 n image there = overlay-there words mid n image there (sizes1 n image there)

  first-space : IsSpacePage pages (image_of middle 0)
  first-space = space-is pages m p1 old mid h.plans.first (λ n ne. (leads1.lawful.sound n ne).formed) words middle refl leads1.same (planned-stays 1 m bits pages change)
      (planned-bits 1 m bits pages change) h.from.was now1 (overlay-away words mid) before.space

  steps1 : IsPlannedStep pages words middle m (pages_of middle) p1
  steps1 = step-is pages m p1 old mid h.plans.first (λ n ne. (leads1.lawful.sound n ne).formed) words middle refl leads1.same (planned-stays 1 m bits pages change)
      (planned-bits 1 m bits pages change) h.from.was now1 (overlay-away words mid) before.space

  step1 : IsStepOf pages 1 change words middle
  step1 = record {
    may = h.plans.may;
    step = subst (IsPlannedStep pages words middle m (pages_of middle)) (sym (plan_of-is m bits pages 2 1 before.law few (omega arith) (omega arith) change made1 h.plans.may)) steps1;
  }

  changed1 : IsChanged pages 1 change words middle p1.touched
  changed1 = IsChanged-step pages 1 few (omega arith) (omega arith) change words middle before.law made1 step1

  -- the second step
  primary : ArePrimary (map_of log)
  primary = primary-before pages log kept

  map-is : IsMap (map_of log)
  map-is = subst IsMap first-map (Rises-content_of m 1 (before.law.trees 1 (omega arith) (omega arith)).0)

  second-map : content_of (pages_of middle) 2 ≡ second_of (map_of log)
  second-map = changed1.others 2 (omega arith) (omega arith) (λ q. omega arith) ∙ second-before pages fits log kept

  made2 : is_made (answer_of (content_of (pages_of middle) 2) other) ≡ true
  made2 = subst (λ xs. is_made (answer_of xs other) ≡ true) (sym second-map) (second-made (map_of log) change map-is primary h.primary h.made)

  both : MayPlan 2 2 (pages_of middle) (bits_of pages middle) pages other × HasPlan pages 2 (pages_of middle) (bits_of pages middle) other mid new
  both = h.plans.second (pages_of middle) (bits_of pages middle) changed1.lawful steps1.pages_are steps1.bits_are

  abbrev p2 : Planned
  p2 = planned 2 (pages_of middle) (bits_of pages middle) pages other

  leads2 : LeadsTo (pages_of middle) (ticked (pages_of middle) p2.touched p2.memory) p2.bits 2 2 p2.touched (effect_of (content_of (pages_of middle) 2) other)
  leads2 = planned-leads (pages_of middle) (bits_of pages middle) pages 2 2 changed1.lawful few (omega arith) (omega arith) other made2 both.0

  sizes2 : (n : ℕ) (image : List ℕ) → changed_of n new ≡ Some image → length image ≡ PAGE_WORDS
  sizes2 = size-of pages (pages_of middle) p2 mid new both.1 (λ n ne. (leads2.lawful.sound n ne).formed)

  was2 : (n : ℕ) → IfSome (changed_of n mid) (λ image. image_of middle n ≡ image)
  was2 n = go (changed_of n mid) refl
    where
      go : (o : Option (List ℕ)) → changed_of n mid ≡ o → IfSome o (λ image. image_of middle n ≡ image)
      go None none = tt
      go (Some image) there = now1 n image there

  ascends : PagesAscend 0 new
  ascends = let work = h.from.work in work.ascends

  now2 : (n : ℕ) (image : List ℕ) → changed_of n new ≡ Some image → image_of after n ≡ image
  now2 n image there = image-after start log e new h.next.writes_are ascends h.from.read n image there (sizes2 n image there)

  still2 : (n : ℕ) → changed_of n new ≡ None → image_of after n ≡ image_of middle n
  still2 n none = image-still start log e new h.next.writes_are n none ∙ sym (overlay-away words mid n (none-same n mid new (h.plans.middle_reads ∙ sym h.from.reads) none))

  second-space : IsSpacePage pages (image_of after 0)
  second-space = space-is pages (pages_of middle) p2 mid new both.1 (λ n ne. (leads2.lawful.sound n ne).formed) middle after refl leads2.same (planned-stays 2 (pages_of middle) (bits_of pages middle) pages other)
      (planned-bits 2 (pages_of middle) (bits_of pages middle) pages other) was2 now2 still2 first-space

  steps2 : IsPlannedStep pages middle after (pages_of middle) (pages_of after) p2
  steps2 = step-is pages (pages_of middle) p2 mid new both.1 (λ n ne. (leads2.lawful.sound n ne).formed) middle after refl leads2.same (planned-stays 2 (pages_of middle) (bits_of pages middle) pages other)
      (planned-bits 2 (pages_of middle) (bits_of pages middle) pages other) was2 now2 still2 first-space

  step2 : IsStepOf pages 2 other middle after
  step2 = record {
    may = both.0;
    step = subst (IsPlannedStep pages middle after (pages_of middle) (pages_of after))
        (sym (plan_of-is (pages_of middle) (bits_of pages middle) pages 2 2 changed1.lawful few (omega arith) (omega arith) other made2 both.0)) steps2;
  }

  changed2 : IsChanged pages 2 other middle after p2.touched
  changed2 = IsChanged-step pages 2 few (omega arith) (omega arith) other middle after changed1.lawful made2 step2

  -- the leaf of the key is written
  leaf-written : touches (leaf_for m (key_of change) 1) e.writes ≡ false → ⊥
  leaf-written none =
      let leaf = leaf-page m bits 2 before.law (key_of change) (rank-lt_end (key_of change)) 1 (omega arith) (omega arith) in
      let n = leaf_for m (key_of change) 1 in
      let same = ap (λ (s : PageState). s.clock) (pages_after-untouched start log e n none) in
      let one = changed1.clock_more n leaf.some (planned-on 1 m bits pages change) in
      elim (p2.touched n) as (λ b. p2.touched n ≡ b → ⊥) [
        | true ↦ λ on. absurd (let two = changed2.clock_more n leaf.some on in omega arith)
        | false ↦ λ off. absurd (let two = changed2.clock_same n leaf.some off in omega arith)
      ] refl

  pub entry-planned : IsPairEntry pages start log e
  entry-planned = record {
    primary = subst IsPrimaryChange (sym h.next.change_is) h.primary;
    middle = middle;
    first = subst (λ k. IsStepOf pages 1 k words middle) (sym h.next.change_is) step1;
    second = subst (λ k. IsStepOf pages 2 (second_change (map_of log) k) middle after) (sym h.next.change_is) step2;
    differ = subst (AllByRecursion (λ (w : Write). words w.place ≢ w.value)) (sym h.next.writes_are) (work-differ words new h.from.read);
  }

  grammar : IsInGrammar pages e
  grammar = record {
    session = h.next.session;
    most_session = h.next.most_session;
    number = let n = h.next.number in omega arith;
    most_number = h.next.most_number;
    writes = some-writes (leaf_for m (key_of change) 1) e.writes leaf-written;
    most_writes = let a = ap length h.next.writes_are in let b = work-count words new h.from.read in let few-pages = h.from.few in omega arith;
    places = subst (λ ws. PlacesRise 0 ws (pages * PAGE_WORDS)) (sym h.next.writes_are) (writes_rise 0 pages new ascends h.from.within);
    structural = h.next.structural;
  }

  pub entry-kept : IsPairLog pages (log ++ e ∷ [])
  entry-kept = IsPairLog-push pages fits log kept e
      (subst (λ k. is_made (answer_of (map_of log) k) ≡ true) (sym h.next.change_is) h.made) entry-planned grammar h.next.number second-space
