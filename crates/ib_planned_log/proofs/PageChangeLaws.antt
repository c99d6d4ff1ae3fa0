-- An entry that writes one page is the planned step that changes this page alone.
use Rattle.std.specs.List.{AllByRecursion}
use Rattle.std.proofs.Common.{◌≡◌, ◌≢◌, ℕ, ◌+◌, ◌*◌, ◌<◌, ◌≤◌, ◌∙◌, Bool, true, false, cond, List, [], ◌∷◌, ◌++◌, length, refl, sym, ap, subst, arith, inl, inr}
use Rattle.std.proofs.lemmas.Bool.{cases_eq}
use Rattle.ib_map.specs.Pairs.{Pairs}
use Rattle.ib_map.specs.Writes.{touches, PlacesRise}
use Rattle.ib_map.specs.declared.TheConstants.{PAGE_WORDS}
use Rattle.ib_map.specs.declared.call.Change.{Change}
use Rattle.ib_map.specs.declared.write.Write.{Write}
use Rattle.ib_heap.specs.Heap.{read_heap}
use Rattle.ib_page.specs.Form.{page_of}
use Rattle.ib_page.specs.Image.{records_of}
use Rattle.ib_page.specs.Page.{PageValue, HoldsPage}
use Rattle.ib_page.specs.Page.PageValue.{Malformed as MalformedValue, Free as FreeValue, Tree as TreeValue}
use Rattle.ib_page.specs.Space.{IsSpacePage, space_clock_of}
use Rattle.ib_heap.proofs.FormLaws.{length-formed}
use Rattle.ib_logrec.specs.declared.entry.Entry.{Entry}
use Rattle.ib_logrec.specs.Grammar.{IsInGrammar}
use Rattle.ib_logrec.specs.Log.{memory_after, by_place}
use Rattle.ib_walk.specs.Pages.{PageMemory, PageState, Tree, with_page}
use Rattle.ib_walk.specs.Words.{image_of, bits_of, state_of}
use Rattle.ib_walk.proofs.ChoiceLaws.{cond-eq, cond-ne}
use Rattle.ib_walk.proofs.ImageLaws.{pages_of-image}
use Rattle.ib_plans.specs.Agreement.{tick, space_ticks}
use Rattle.ib_plans.specs.Marks.{mark, ticked, untouched, with_clock}
use Rattle.ib_plans.specs.Moves.{Move, unmoved, with_move, IsMovedHeap}
use Rattle.ib_plans.specs.Split.{with_records}
use Rattle.ib_plans.proofs.MoveLaws.{with_move-own, with_move-other}
use Rattle.ib_plans.proofs.PageLaws.{mark-off}
use Rattle.ib_tree.specs.Logs.{pages_after}
use Rattle.ib_tree.specs.TreeLog.{opening}
use Rattle.ib_tree.proofs.LogLaws.{image_of-untouched, pages_after-untouched}
use Rattle.ib_planned_log.specs.Kept.{Planned, IsPlannedStep}
use Rattle.ib_planned_log.specs.LeafChange.{ChangesPage, kept_pages}
use Rattle.ib_planned_log.proofs.WordLaws.{one-count, one-differ, one-image, one-rise, one-untouched}

-- what has the kind of a page of the tree is one
formed-tree : (v : PageValue) → (state_of v).kind ≡ Tree → HoldsPage v
formed-tree (TreeValue p) e = tt
formed-tree (FreeValue clock) e = tt
formed-tree MalformedValue e = cc

-- the bits stay where page 0 does
pub bits_of-space : (pages : ℕ) (words new : ℕ → ℕ) (n : ℕ) → image_of new 0 ≡ image_of words 0 → bits_of pages new n ≡ bits_of pages words n
unfolding bits_of
bits_of-space pages words new n same = rw same refl

-- writes that touch a page are some
pub some-writes : (page : ℕ) (ws : List Write) → (touches page ws ≡ false → ⊥) → 1 ≤ length ws
some-writes page [] touched = absurd (touched refl)
some-writes page (w ∷ ws) touched = omega arith

module _ (pages : ℕ) (log : List Entry) (e : Entry) (page : ℕ) (rs : Pairs) (move : Move) (change : Change) (kind : (kept_pages pages log page).kind ≡ Tree) (ne : page ≢ 0)
    (c : ChangesPage pages log page (tick (with_records rs (kept_pages pages log page))) move change e) where
  abbrev start : ℕ → ℕ
  start = by_place opening pages

  abbrev m : PageMemory
  m = pages_after start log

  abbrev new : PageMemory
  new = pages_after start (log ++ e ∷ [])

  abbrev now : PageState
  now = with_records rs (m page)

  size : length c.changed ≡ PAGE_WORDS
  size = length-formed c.changed (formed-tree (page_of c.changed) (ap (λ (p : PageState). p.kind) c.state ∙ kind))

  new-own : new page ≡ tick now
  new-own =
      pages_of-image (memory_after start (log ++ e ∷ [])) page
      ∙ (ap (λ (ws : List ℕ). state_of (page_of ws)) (one-image start log e page c.changed c.writes_are size) ∙ c.state)

  off-page : (other : ℕ) → page ≢ other → touches other e.writes ≡ false
  off-page other apart = ap (touches other) c.writes_are ∙ one-untouched (memory_after start log) page c.changed other apart

  space-same : image_of (memory_after start (log ++ e ∷ [])) 0 ≡ image_of (memory_after start log) 0
  space-same = image_of-untouched start log e 0 (off-page 0 ne)

  -- the page is written, since its clock rose
  pub written : touches page e.writes ≡ false → ⊥
  written none = let same = ap (λ (p : PageState). p.clock) (sym (pages_after-untouched start log e page none) ∙ new-own) in omega arith

  abbrev plan : Planned
  plan = record { memory = with_page m page now; bits = bits_of pages (memory_after start log); touched = mark page untouched; moves = with_move page move unmoved }

  step-pages : (n : ℕ) → n ≢ 0 → new n ≡ ticked m plan.touched plan.memory n
  step-pages n some = elim (cases_eq n page) [
    | inl same ↦
        let marked : mark page untouched n ≡ true = cond-eq n page true false same in
        let set : with_page m page now n ≡ now = cond-eq n page now (m n) same in
        let clock : (m n).clock ≡ (m page).clock = ap (λ k. (m k).clock) same in
        ap new same ∙ (new-own ∙ sym (rw marked (ap (with_clock ((m n).clock + 1)) set ∙ ap (λ k. with_clock (k + 1) now) clock)))
    | inr apart ↦
        let unmarked : mark page untouched n ≡ false = cond-ne n page true false apart in
        let kept : with_page m page now n ≡ m n = cond-ne n page now (m n) apart in
        pages_after-untouched start log e n (off-page n (λ z. apart (sym z))) ∙ sym (rw unmarked kept)
  ]

  -- where its records stand, and those of all other pages
  step-moved : (n : ℕ) → n ≢ 0 → IsMovedHeap (with_move page move unmoved n) (records_of (image_of (memory_after start log) n)) (read_heap (image_of (memory_after start log) n)) (read_heap (image_of (memory_after start (log ++ e ∷ [])) n))
  step-moved n some = elim (cases_eq n page) [
    | inl same ↦
        let here : IsMovedHeap move (records_of (image_of (memory_after start log) page)) (read_heap (image_of (memory_after start log) page)) (read_heap (image_of (memory_after start (log ++ e ∷ [])) page)) =
        subst (λ (ws : List ℕ). IsMovedHeap move (records_of (image_of (memory_after start log) page)) (read_heap (image_of (memory_after start log) page)) (read_heap ws)) (sym (one-image start log e page c.changed c.writes_are size)) c.moved in
        subst (λ (mv : Move). IsMovedHeap mv (records_of (image_of (memory_after start log) n)) (read_heap (image_of (memory_after start log) n)) (read_heap (image_of (memory_after start (log ++ e ∷ [])) n))) (sym (with_move-own page move unmoved n same))
        (subst (λ q. IsMovedHeap move (records_of (image_of (memory_after start log) q)) (read_heap (image_of (memory_after start log) q)) (read_heap (image_of (memory_after start (log ++ e ∷ [])) q))) (sym same) here)
    | inr apart ↦
        subst (λ (mv : Move). IsMovedHeap mv (records_of (image_of (memory_after start log) n)) (read_heap (image_of (memory_after start log) n)) (read_heap (image_of (memory_after start (log ++ e ∷ [])) n))) (sym (with_move-other page move unmoved n apart))
        (ap read_heap (image_of-untouched start log e n (off-page n (λ z. apart (sym z)))))
  ]

  pub IsPlannedStep-page : IsPlannedStep pages (memory_after start log) (memory_after start (log ++ e ∷ [])) m new plan
  IsPlannedStep-page = record {
    pages_are = step-pages;
    moved = step-moved;
    kept = λ n off. image_of-untouched start log e n (off-page n (λ z. (mark-off page untouched n off).0 (sym z)));
    bits_are = λ n. bits_of-space pages (memory_after start log) (memory_after start (log ++ e ∷ [])) n space-same;
    clock =
        let none : space_ticks (mark page untouched) ≡ 0 = ap (λ (b : Bool). cond {A = ℕ} b 1 0) (cond-ne 0 page true false (λ z. ne (sym z))) in
        let same = ap space_clock_of space-same in omega arith;
  }

  pub differ-page : AllByRecursion (λ w. memory_after start log w.place ≢ w.value) e.writes
  differ-page = subst (AllByRecursion (λ w. memory_after start log w.place ≢ w.value)) (sym c.writes_are) (one-differ (memory_after start log) page c.changed)

  pub space-page : IsSpacePage pages (image_of (memory_after start log) 0) → IsSpacePage pages (image_of (memory_after start (log ++ e ∷ [])) 0)
  space-page space = subst (IsSpacePage pages) (sym space-same) space

  pub IsInGrammar-page : page < pages → IsInGrammar pages e
  IsInGrammar-page lt = record {
    session = c.session;
    most_session = c.most_session;
    number = let n = c.number in omega arith;
    most_number = c.most_number;
    writes = some-writes page e.writes written;
    most_writes = let a = ap length c.writes_are in let b = one-count (memory_after start log) page c.changed in omega arith;
    places = subst (λ ws. PlacesRise 0 ws (pages * PAGE_WORDS)) (sym c.writes_are) (one-rise (memory_after start log) page c.changed pages lt);
    structural = c.structural;
  }
