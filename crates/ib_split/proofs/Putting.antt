-- The record that is left goes into its page, which has room: the plan is done.
use Rattle.std.proofs.Common.{◌≡◌, ◌≢◌, ◌∙◌, ℕ, ◌+◌, ◌<◌, true, List, length, take, refl, sym, ap, subst, arith, inl, inr, length-take, Option}
use Rattle.std.specs.Prelude.{nat_lt, IsSome}
use Rattle.std.proofs.lemmas.Bool.{cases_eq}
use Rattle.ib_map.specs.Keys.{MapKey}
use Rattle.ib_heap.specs.declared.TheConstants.{MOST_RECORDS}
use Rattle.ib_page.specs.Work.{WorkPage, changed_of}
use Rattle.ib_walk.specs.Pages.{PageState, PageMemory}
use Rattle.ib_walk.specs.Search.{page_below}
use Rattle.ib_walk.specs.Trees.{height_of}
use Rattle.ib_walk.proofs.ChoiceLaws.{cond-eq, cond-ne}
use Rattle.ib_walk.proofs.SearchLaws.{above}
use Rattle.ib_plans.specs.Marks.{with_clock, ticked}
use Rattle.ib_plans.specs.Insert.{Growth, insert_below, planned_insert}
use Rattle.ib_plans.specs.Moves.{Move, Puts, HasMoved}
use Rattle.ib_plans.specs.Agreement.{IsClimbed, IsThere, memory_in, Sets, tick}
use Rattle.ib_plans.proofs.ClockLaws.{ticked-touched}
use Rattle.ib_plans.proofs.EditLaws.{set-reads, set-same, set-others, set-other, set-there, set-was}
use Rattle.ib_plans.proofs.MoveLaws.{with_move-own, with_move-other}
use Rattle.ib_plans.proofs.NeedLaws.{IsCounted-need}
use Rattle.ib_plans.proofs.SettledLaws.{planned_insert-short}
use Rattle.ib_split.specs.Inserts.{with_record}
use Rattle.ib_split.proofs.Pending.{IsPending, HasRoom, ticked-same, on-path, clean-here, kept-here, long-here, memory-other, now, length-here}

module _ (roots root : ℕ) (key : MapKey) (value : ℕ) (fresh : List ℕ) (old : List WorkPage) (m : PageMemory) (bits : ℕ → ℕ) (x : HasRoom roots root key fresh m bits)
    (height depth page : ℕ) (tall : height_of m root ≡ above depth height) (at : page_below m key depth root ≡ page) (k : MapKey) (v : ℕ) (work : List WorkPage)
    (p : IsPending key value fresh old m bits height page k v work) (here : IsThere old page) where
  -- the page is as it was
  pub page-now : memory_in work page ≡ m page
  page-now = now roots root key value fresh old m bits x height depth page tall at k v work p page
      (on-path roots root key value fresh old m bits x height depth page tall at k v work p).some
      (clean-here roots root key value fresh old m bits x height depth page tall at k v work p) here

  module _ (room : length (m page).records < MOST_RECORDS) (new : List WorkPage) (sets : Sets page (tick (with_record k v (memory_in work page))) work new)
      (puts : HasMoved (Puts k) (changed_of page work) (changed_of page new)) where
    some : page ≢ 0
    some = (on-path roots root key value fresh old m bits x height depth page tall at k v work p).some

    there-here : IsThere work page
    there-here = subst IsSome (sym (kept-here roots root key value fresh old m bits x height depth page tall at k v work p)) here

    abbrev g : Growth
    g = insert_below m bits fresh key value height page

    whole : planned_insert m bits fresh key value root ≡ insert_below m bits fresh key value height page
    whole = planned_insert-short m bits roots x.law key value x.in_range root x.some x.le fresh x.free x.missing depth height page tall at
        (IsCounted-need m bits roots x.law key value x.in_range root x.some x.le fresh x.free x.missing x.room height depth page tall at).enough
        (let l = length-here roots root key value fresh old m bits x height depth page tall at k v work p in omega arith)

    touched-here : g.touched page ≡ true
    touched-here = p.touched_is page some ∙ cond-eq page page true (p.touched page) refl

    same-here : memory_in new page ≡ ticked m g.touched g.memory page
    same-here =
        set-same page (tick (with_record k v (memory_in work page))) work new sets there-here
        ∙ (ap (λ (q : PageState). tick (with_record k v q)) page-now
        ∙ sym (ticked-touched m g.touched g.memory page touched-here ∙ ap (λ (q : PageState). with_clock ((m page).clock + 1) q) (long-here roots root key value fresh old m bits x height depth page tall at k v work p)))

    same-other : (n : ℕ) → n ≢ 0 → n ≢ page → IsThere new n → memory_in new n ≡ ticked m g.touched g.memory n
    same-other n ns ne there =
        set-other page (tick (with_record k v (memory_in work page))) work new sets n (λ e. ne (sym e))
        ∙ (p.same n ns (set-was page (tick (with_record k v (memory_in work page))) work new sets n there-here there)
        ∙ ticked-same m p.touched g.touched p.memory g.memory n (sym (p.touched_is n ns ∙ cond-ne n page true (p.touched n) ne))
        (sym (memory-other roots root key value fresh old m bits x height depth page tall at k v work p n ne)))

    there-after : (n : ℕ) → n ≢ 0 → g.touched n ≡ true → IsThere new n
    there-after n ns on = set-there page (tick (with_record k v (memory_in work page))) work new sets n there-here (elim (cases_eq n page) [
      | inl e ↦ subst (IsThere work) (sym e) there-here
      | inr ne ↦ p.there n ns (sym (p.touched_is n ns ∙ cond-ne n page true (p.touched n) ne) ∙ on)
    ])

    moved-here : HasMoved (g.moves page) (changed_of page old) (changed_of page new)
    moved-here =
        subst (λ (mv : Move). HasMoved mv (changed_of page old) (changed_of page new)) (sym (p.moves_is page ∙ with_move-own page (Puts k) p.moves page refl))
        (subst (λ (o : Option (List ℕ)). HasMoved (Puts k) o (changed_of page new)) (kept-here roots root key value fresh old m bits x height depth page tall at k v work p) puts)

    moved-other : (n : ℕ) → n ≢ 0 → n ≢ page → HasMoved (g.moves n) (changed_of n old) (changed_of n new)
    moved-other n ns ne =
        subst (λ (mv : Move). HasMoved mv (changed_of n old) (changed_of n new)) (sym (p.moves_is n ∙ with_move-other page (Puts k) p.moves n ne))
        (subst (λ (o : Option (List ℕ)). HasMoved (p.moves n) (changed_of n old) o) (sym (set-others page (tick (with_record k v (memory_in work page))) work new sets n (λ e. ne (sym e)))) (p.moved n ns))

    -- so the work set has the pages of the plan
    climbed : IsClimbed 1 (take height fresh) m g.memory g.bits bits g.touched g.moves old new
    climbed = record {
      reads = set-reads page (tick (with_record k v (memory_in work page))) work new sets ∙ p.reads;
      there = there-after;
      same = λ n ns there. elim (cases_eq n page) [
        | inl e ↦ subst (λ q. memory_in new q ≡ ticked m g.touched g.memory q) (sym e) same-here
        | inr ne ↦ same-other n ns ne there
      ];
      moved = λ n ns. elim (cases_eq n page) [
        | inl e ↦ subst (λ q. HasMoved (g.moves q) (changed_of q old) (changed_of q new)) (sym e) moved-here
        | inr ne ↦ moved-other n ns ne
      ];
      kept = λ n ns off. elim (cases_eq n page) [
        | inl e ↦ absurd (let on = ap g.touched e ∙ touched-here in cc)
        | inr ne ↦ set-others page (tick (with_record k v (memory_in work page))) work new sets n (λ e. ne (sym e)) ∙ p.kept n ns (sym (p.touched_is n ns ∙ cond-ne n page true (p.touched n) ne) ∙ off)
      ];
      space = set-others page (tick (with_record k v (memory_in work page))) work new sets 0 some ∙ p.space;
      bits_are = p.bits_is;
      zero = p.zero_is ∙ ap (nat_lt 0) (let t = length-take height fresh in let f = p.few in omega arith);
    }

    pub put-climbed : let g = planned_insert m bits fresh key value root in IsClimbed 1 (take height fresh) m g.memory g.bits bits g.touched g.moves old new
    put-climbed = subst (λ (g : Growth). IsClimbed 1 (take height fresh) m g.memory g.bits bits g.touched g.moves old new) (sym whole) climbed
