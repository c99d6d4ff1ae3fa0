-- A change that is planned for the memory behind a log may be appended to it.
use Rattle.std.specs.List.{All, AllByRecursion}
use Rattle.std.specs.Prelude.{IsSome, IfSome}
use Rattle.std.proofs.Common.{◌≡◌, ◌≢◌, ℕ, ◌+◌, ◌*◌, ◌<◌, ◌≤◌, Bool, true, false, cond, List, [], ◌∷◌, ◌++◌, length, Option, Some, None, refl, sym, ap, subst, ◌∙◌, arith}
use Rattle.std.proofs.lemmas.Bool.Decides.{nat_tests}
use Rattle.ib_map.specs.Map.{answer_of, effect_of, is_made, key_of}
use Rattle.ib_map.specs.Space.{has_pages}
use Rattle.ib_map.specs.Writes.{PlacesRise, touches}
use Rattle.ib_map.specs.declared.TheConstants.{PAGE_WORDS}
use Rattle.ib_map.specs.declared.write.Write.{Write}
use Rattle.ib_map.specs.declared.call.Change.{Change}
use Rattle.ib_map.proofs.KeyLaws.{rank-lt_end}
use Rattle.ib_heap.specs.Heap.{read_heap}
use Rattle.ib_page.specs.Form.{page_of}
use Rattle.ib_page.specs.Image.{records_of}
use Rattle.ib_page.specs.Page.{PageValue, HoldsPage}
use Rattle.ib_page.specs.Page.PageValue.{Malformed as MalformedValue, Free as FreeValue, Tree as TreeValue}
use Rattle.ib_page.specs.Space.{IsSpacePage, space_clock_of}
use Rattle.ib_page.specs.Work.{WorkPage, IsWork, PagesAscend, changed_of}
use Rattle.ib_page.specs.declared.space.TheConstants.{MAPPED_PAGES}
use Rattle.ib_heap.proofs.FormLaws.{length-formed}
use Rattle.ib_page.proofs.StoreLaws.{writes_rise}
use Rattle.ib_logrec.specs.declared.entry.Entry.{Entry}
use Rattle.ib_logrec.specs.Grammar.{IsInGrammar}
use Rattle.ib_logrec.specs.Log.{memory_after, map_of, by_place}
use Rattle.ib_walk.specs.Pages.{Malformed, PageMemory}
use Rattle.ib_walk.specs.Search.{leaf_for}
use Rattle.ib_walk.specs.Trees.{content_of}
use Rattle.ib_walk.specs.Words.{IsLawfulMemory, bits_of, image_of, pages_of, state_of}
use Rattle.ib_walk.proofs.ImageLaws.{length-image_of, pages_of-image}
use Rattle.ib_plans.specs.Agreement.{HasBits, IsPlanned, bits_in, reads_of, space_ticks, state_or_free}
use Rattle.ib_plans.specs.Leads.{LeadsTo}
use Rattle.ib_plans.specs.Marks.{ticked}
use Rattle.ib_plans.specs.Moves.{Move, Stays, IsMovedHeap}
use Rattle.ib_tree.specs.TreeLog.{opening}
use Rattle.ib_tree.proofs.LogLaws.{pages_after-untouched}
use Rattle.ib_planned_log.specs.Kept.{IsKeptLog, IsPlannedEntry, IsPlannedStep, MayPlan, Planned, plan_of}
use Rattle.ib_planned_log.specs.Steps.{planned}
use Rattle.ib_planned_log.specs.LeafChange.{kept_pages}
use Rattle.ib_planned_log.proofs.LeadLaws.{planned-leads}
use Rattle.ib_planned_log.proofs.LeafPlanLaws.{leaf-page}
use Rattle.ib_planned_log.proofs.PageChangeLaws.{bits_of-space, some-writes}
use Rattle.ib_planned_log.proofs.PushLaws.{IsKeptLog-push, content-before, lawful-before}
use Rattle.ib_planned_change.specs.Changes.{IsNextEntry, most_changed}
use Rattle.ib_planned_change.proofs.WorkLaws.{IsAsBefore, image-after, image-still, none-same, still-after, work-count, work-differ}
use Rattle.ib_split.proofs.Planning.{if-some}
use Rattle.ib_planned_log.proofs.PlanIs.{plan_of-is}

-- the work set as it is changed: in order, within the space, with the images as read those of the words, and so were those that it had
pub record IsReadFrom (pages : ℕ) (words : ℕ → ℕ) (old new : List WorkPage) : Type 0 where
  pub work : IsWork new
  pub few : length new ≤ most_changed
  pub within : All (λ w. w.page < pages) new
  pub reads : reads_of new ≡ reads_of old
  pub read : All (IsAsBefore words) new
  pub was : (page : ℕ) → IfSome (changed_of page old) (λ image. image_of words page ≡ image)

-- a change that is planned for these pages, as the work set has it: it is not refused, it touches the key's leaf, page 0 where it changes a bit, and each page whose records it moves
pub record IsPlannedChange (pages : ℕ) (change : Change) (memory : PageMemory) (bits : ℕ → ℕ) (old new : List WorkPage) : Type 0 where
  pub may : MayPlan 1 1 memory bits pages change
  pub plan : let g = planned 1 memory bits pages change in IsPlanned pages memory g.memory g.bits g.touched g.moves old new
  pub leaf_on : (planned 1 memory bits pages change).touched (leaf_for memory (key_of change) 1) ≡ true
  pub stays : (page : ℕ) → (planned 1 memory bits pages change).touched page ≡ false → (planned 1 memory bits pages change).moves page ≡ Stays
  pub bits_stay : (planned 1 memory bits pages change).touched 0 ≡ false → (page : ℕ) → (planned 1 memory bits pages change).bits page ≡ bits page

formed : (v : PageValue) → ((state_of v).kind ≡ Malformed → ⊥) → HoldsPage v
formed (TreeValue p) kind = tt
formed (FreeValue clock) kind = tt
formed MalformedValue kind = absurd (kind refl)

module _ (pages : ℕ) (fits : has_pages pages ≡ true) (log : List Entry) (kept : IsKeptLog pages log) (change : Change) (old new : List WorkPage)
    (has : IsPlannedChange pages change (kept_pages pages log) (bits_of pages (memory_after (by_place opening pages) log)) old new)
    (made : is_made (answer_of (map_of log) change) ≡ true)
    (from : IsReadFrom pages (memory_after (by_place opening pages) log) old new) (e : Entry) (next : IsNextEntry log change new e) where
  abbrev start : ℕ → ℕ
  start = by_place opening pages

  abbrev m : PageMemory
  m = kept_pages pages log

  abbrev bits : ℕ → ℕ
  bits = bits_of pages (memory_after start log)

  abbrev after : ℕ → ℕ
  after = memory_after start (log ++ e ∷ [])

  abbrev g : Planned
  g = planned 1 m bits pages change

  abbrev then : PageMemory
  then = ticked m g.touched g.memory

  before : IsLawfulMemory pages 1 (memory_after start log)
  before = lawful-before pages fits log kept

  few : pages ≤ MAPPED_PAGES
  few = grind (arith, nat_tests, fits)

  made-here : is_made (answer_of (content_of m 1) change) ≡ true
  made-here = subst (λ xs. is_made (answer_of xs change) ≡ true) (sym (content-before pages fits log kept)) made

  leads : LeadsTo m then g.bits 1 1 g.touched (effect_of (content_of m 1) change)
  leads = planned-leads m bits pages 1 1 before.law few (omega arith) (omega arith) change made-here has.may

  ascends : PagesAscend 0 new
  ascends = let work = from.work in work.ascends

  -- a page that is there is as it is planned
  page-there : (n : ℕ) → n ≢ 0 → (image : List ℕ) → changed_of n new ≡ Some image → pages_of after n ≡ then n
  page-there n ne image there =
      let state : state_of (page_of image) ≡ then n =
      sym (ap (λ (o : Option (List ℕ)). state_or_free o) there) ∙ has.plan.same n ne (subst IsSome (sym there) refl) in
      let sound = leads.lawful.sound n ne in
      let size = length-formed image (formed (page_of image) (λ k. sound.formed (sym (ap (λ s. s.kind) state) ∙ k))) in
      pages_of-image after n ∙ (ap (λ (ws : List ℕ). state_of (page_of ws)) (image-after start log e new next.writes_are ascends from.read n image there size) ∙ state)

  -- one that is not stays as it was
  page-away : (n : ℕ) → n ≢ 0 → changed_of n new ≡ None → pages_of after n ≡ then n
  page-away n ne none = go (g.touched n) refl
    where
      go : (b : Bool) → g.touched n ≡ b → pages_of after n ≡ then n
      go true on = let there = has.plan.there n on in let bad = subst IsSome none there in cc
      go false off = pages_after-untouched start log e n (still-after start log e new next.writes_are n none) ∙ sym (leads.same n off)

  pages-are : (n : ℕ) → n ≢ 0 → pages_of after n ≡ then n
  pages-are n ne = go (changed_of n new) refl
    where
      go : (o : Option (List ℕ)) → changed_of n new ≡ o → pages_of after n ≡ then n
      go None none = page-away n ne none
      go (Some image) there = page-there n ne image there

  -- where the records of a page stand that is there
  moved-there : (n : ℕ) → n ≢ 0 → (was image : List ℕ) → changed_of n old ≡ Some was → changed_of n new ≡ Some image
      → IsMovedHeap (g.moves n) (records_of (image_of (memory_after start log) n)) (read_heap (image_of (memory_after start log) n)) (read_heap (image_of after n))
  moved-there n ne was image latched there =
      let state : state_of (page_of image) ≡ then n =
      sym (ap (λ (o : Option (List ℕ)). state_or_free o) there) ∙ has.plan.same n ne (subst IsSome (sym there) refl) in
      let sound = leads.lawful.sound n ne in
      let size = length-formed image (formed (page_of image) (λ k. sound.formed (sym (ap (λ s. s.kind) state) ∙ k))) in
      let now = image-after start log e new next.writes_are ascends from.read n image there size in
      let before = if-some (λ i. image_of (memory_after start log) n ≡ i) (changed_of n old) was (from.was n) latched in
      let moved = if-some (λ i. IsMovedHeap (g.moves n) (records_of was) (read_heap was) (read_heap i)) (changed_of n new) image
      (if-some (λ w. IfSome (changed_of n new) (λ i. IsMovedHeap (g.moves n) (records_of w) (read_heap w) (read_heap i))) (changed_of n old) was (has.plan.moved n ne) latched) there in
      subst (λ (ws : List ℕ). IsMovedHeap (g.moves n) (records_of ws) (read_heap ws) (read_heap (image_of after n))) (sym before)
      (subst (λ (ws : List ℕ). IsMovedHeap (g.moves n) (records_of was) (read_heap was) (read_heap ws)) (sym now) moved)

  -- a page that is not touched, word for word
  kept-there : (n : ℕ) → g.touched n ≡ false → (image : List ℕ) → changed_of n new ≡ Some image → image_of after n ≡ image_of (memory_after start log) n
  kept-there n off image there =
      let latched : changed_of n old ≡ Some image = sym (has.plan.kept n off) ∙ there in
      let was = if-some (λ i. image_of (memory_after start log) n ≡ i) (changed_of n old) image (from.was n) latched in
      image-after start log e new next.writes_are ascends from.read n image there (ap length (sym was) ∙ length-image_of (memory_after start log) n) ∙ sym was

  kept-is : (n : ℕ) → g.touched n ≡ false → image_of after n ≡ image_of (memory_after start log) n
  kept-is n off = go (changed_of n new) refl
    where
      go : (o : Option (List ℕ)) → changed_of n new ≡ o → image_of after n ≡ image_of (memory_after start log) n
      go None none = image-still start log e new next.writes_are n none
      go (Some image) there = kept-there n off image there

  moved-away : (n : ℕ) → changed_of n new ≡ None
      → IsMovedHeap (g.moves n) (records_of (image_of (memory_after start log) n)) (read_heap (image_of (memory_after start log) n)) (read_heap (image_of after n))
  moved-away n none = go (g.touched n) refl
    where
      go : (b : Bool) → g.touched n ≡ b → IsMovedHeap (g.moves n) (records_of (image_of (memory_after start log) n)) (read_heap (image_of (memory_after start log) n)) (read_heap (image_of after n))
      go true on = absurd (let there = has.plan.there n on in let bad = subst IsSome none there in cc)
      go false off =
          subst (λ (mv : Move). IsMovedHeap mv (records_of (image_of (memory_after start log) n)) (read_heap (image_of (memory_after start log) n)) (read_heap (image_of after n))) (sym (has.stays n off))
          (ap read_heap (image-still start log e new next.writes_are n none))

  moved-is : (n : ℕ) → n ≢ 0
      → IsMovedHeap (g.moves n) (records_of (image_of (memory_after start log) n)) (read_heap (image_of (memory_after start log) n)) (read_heap (image_of after n))
  moved-is n ne = go (changed_of n old) (changed_of n new) refl refl
    where
      go : (a b : Option (List ℕ)) → changed_of n old ≡ a → changed_of n new ≡ b
          → IsMovedHeap (g.moves n) (records_of (image_of (memory_after start log) n)) (read_heap (image_of (memory_after start log) n)) (read_heap (image_of after n))
      go (Some was) (Some image) latched there = moved-there n ne was image latched there
      go None b latched there = moved-away n (none-same n new old from.reads latched)
      go (Some was) None latched there = moved-away n there

  -- page 0
  record HasSpace : Type 0 where
    pub bits_are : (n : ℕ) → bits_of pages after n ≡ g.bits n
    pub clock : space_clock_of (image_of after 0) ≡ space_clock_of (image_of (memory_after start log) 0) + space_ticks g.touched
    pub space : IsSpacePage pages (image_of after 0)

  bits-in : (words : ℕ → ℕ) (n : ℕ) → bits_of pages words n ≡ bits_in pages (image_of words 0) n
  unfolding bits_of
  bits-in words n = refl

  space-there : (was image : List ℕ) → changed_of 0 old ≡ Some was → changed_of 0 new ≡ Some image → HasSpace
  space-there was image latched there =
      let bits = if-some (HasBits pages g.bits) (changed_of 0 new) image has.plan.space there in
      let clock = if-some (λ i. space_clock_of i ≡ space_clock_of was + space_ticks g.touched) (changed_of 0 new) image
      (if-some (λ w. IfSome (changed_of 0 new) (λ i. space_clock_of i ≡ space_clock_of w + space_ticks g.touched)) (changed_of 0 old) was has.plan.clock latched) there in
      let now = image-after start log e new next.writes_are ascends from.read 0 image there bits.0.size in
      let then = if-some (λ i. image_of (memory_after start log) 0 ≡ i) (changed_of 0 old) was (from.was 0) latched in
      record {
        bits_are = λ n. bits-in after n ∙ (ap (λ (ws : List ℕ). bits_in pages ws n) now ∙ sym (bits.1 n));
        clock = ap space_clock_of now ∙ (clock ∙ ap (λ (ws : List ℕ). space_clock_of ws + space_ticks g.touched) (sym then));
        space = subst (IsSpacePage pages) (sym now) bits.0;
      }

  space-away : changed_of 0 new ≡ None → HasSpace
  space-away none = go (g.touched 0) refl
    where
      go : (b : Bool) → g.touched 0 ≡ b → HasSpace
      go true on = let there = has.plan.there 0 on in let bad = subst IsSome none there in cc
      go false off =
          let still = image-still start log e new next.writes_are 0 none in
          record {
            bits_are = λ n. bits_of-space pages (memory_after start log) after n still ∙ sym (has.bits_stay off n);
            clock = let t : space_ticks g.touched ≡ 0 = ap (λ (b : Bool). cond {A = ℕ} b 1 0) off in let c = ap space_clock_of still in omega arith;
            space = subst (IsSpacePage pages) (sym still) before.space;
          }

  has-space : HasSpace
  has-space = go (changed_of 0 old) (changed_of 0 new) refl refl
    where
      go : (a b : Option (List ℕ)) → changed_of 0 old ≡ a → changed_of 0 new ≡ b → HasSpace
      go (Some was) (Some image) latched there = space-there was image latched there
      go None b latched there = space-away (none-same 0 new old from.reads latched)
      go (Some was) None latched there = space-away there

  leaf-written : touches (leaf_for m (key_of change) 1) e.writes ≡ false → ⊥
  leaf-written none =
      let leaf = leaf-page m bits 1 before.law (key_of change) (rank-lt_end (key_of change)) 1 (omega arith) (omega arith) in
      let on = has.leaf_on in
      let same = sym (pages-are (leaf_for m (key_of change) 1) leaf.some) ∙ pages_after-untouched start log e (leaf_for m (key_of change) 1) none in
      let clock : (then (leaf_for m (key_of change) 1)).clock ≡ (m (leaf_for m (key_of change) 1)).clock + 1 = rw on refl in
      let was = ap (λ s. s.clock) same in absurd (omega arith)

  grammar : IsInGrammar pages e
  grammar = record {
    session = next.session;
    most_session = next.most_session;
    number = let n = next.number in omega arith;
    most_number = next.most_number;
    writes = some-writes (leaf_for m (key_of change) 1) e.writes leaf-written;
    most_writes = let a = ap length next.writes_are in let b = work-count (memory_after start log) new from.read in let c = from.few in omega arith;
    places = subst (λ ws. PlacesRise 0 ws (pages * PAGE_WORDS)) (sym next.writes_are) (writes_rise 0 pages new ascends from.within);
    structural = next.structural;
  }

  pub entry-planned : IsPlannedEntry pages start log e
  entry-planned =
      let s = has-space in
      let step : IsPlannedStep pages (memory_after start log) after m (kept_pages pages (log ++ e ∷ [])) g =
      record { pages_are = pages-are; moved = moved-is; kept = kept-is; bits_are = s.bits_are; clock = s.clock } in
      record {
        may = subst (MayPlan 1 1 m bits pages) (sym next.change_is) has.may;
        step = subst (λ k. IsPlannedStep pages (memory_after start log) after m (kept_pages pages (log ++ e ∷ [])) (plan_of 1 m bits pages k)) (sym next.change_is)
            (subst (IsPlannedStep pages (memory_after start log) after m (kept_pages pages (log ++ e ∷ [])))
            (sym (plan_of-is m bits pages 1 1 before.law few (omega arith) (omega arith) change made-here has.may)) step);
        differ = subst (AllByRecursion (λ (w : Write). memory_after start log w.place ≢ w.value)) (sym next.writes_are) (work-differ (memory_after start log) new from.read);
      }

  pub entry-kept : IsKeptLog pages (log ++ e ∷ [])
  entry-kept =
      let s = has-space in
      IsKeptLog-push pages fits log kept e grammar (subst (λ k. is_made (answer_of (map_of log) k) ≡ true) (sym next.change_is) made) entry-planned next.number s.space
