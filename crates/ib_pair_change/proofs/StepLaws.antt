-- A plan that a work set has is a step from the words as they were read to those with the changed images.
use Rattle.std.specs.Prelude.{IsSome, IfSome}
use Rattle.std.proofs.Common.{◌≡◌, ◌≢◌, ℕ, ◌+◌, Bool, true, false, cond, List, length, Option, Some, None, inl, inr, get_or, refl, sym, ap, subst, ◌∙◌, arith}
use Rattle.std.proofs.lemmas.Bool.{cases_eq}
use Rattle.ib_map.specs.declared.TheConstants.{PAGE_WORDS}
use Rattle.ib_map.specs.Writes.{word_place, index_at}
use Rattle.ib_map.proofs.WriteLaws.{page_at-word, index_at-word}
use Rattle.ib_heap.specs.Heap.{read_heap}
use Rattle.ib_heap.proofs.FormLaws.{length-formed}
use Rattle.ib_page.specs.Form.{page_of}
use Rattle.ib_page.specs.Image.{records_of}
use Rattle.ib_page.specs.Page.{PageValue, HoldsPage}
use Rattle.ib_page.specs.Page.PageValue.{Malformed as MalformedValue, Free as FreeValue, Tree as TreeValue}
use Rattle.ib_page.specs.Space.{IsSpacePage, space_clock_of}
use Rattle.ib_page.specs.Work.{WorkPage, changed_of}
use Rattle.ib_walk.specs.Pages.{Malformed, PageMemory}
use Rattle.ib_walk.specs.Words.{bits_of, image_of, pages_of, state_of}
use Rattle.ib_walk.proofs.ImageLaws.{image_of-list, image_of-same, pages_of-image}
use Rattle.ib_plans.specs.Agreement.{HasBits, IsPlanned, bits_in, space_ticks, state_or_free}
use Rattle.ib_plans.specs.Marks.{ticked}
use Rattle.ib_plans.specs.Moves.{Move, Stays, IsMovedHeap}
use Rattle.ib_planned_log.specs.Kept.{IsPlannedStep, Planned}
use Rattle.ib_planned_log.proofs.PageChangeLaws.{bits_of-space}
use Rattle.ib_split.proofs.Planning.{if-some}
use Rattle.ib_pair_change.specs.Overlay.{overlaid, overlay}
use Rattle.ib_planned_change.proofs.WorkLaws.{none-same}

-- a page that is there is overlaid, and another is not
pub overlay-there : (words : ℕ → ℕ) (work : List WorkPage) (n : ℕ) (image : List ℕ) → changed_of n work ≡ Some image → length image ≡ PAGE_WORDS → image_of (overlay words work) n ≡ image
unfolding overlay
overlay-there words work n image there size = image_of-list (overlay words work) n image size (λ index lt.
    ap (λ k. overlaid (changed_of k work) (index_at (word_place n index)) (words (word_place n index))) (page_at-word n index lt)
    ∙ (ap (λ o. overlaid o (index_at (word_place n index)) (words (word_place n index))) there ∙ ap (λ i. get_or image i 0) (index_at-word n index lt)))

pub overlay-away : (words : ℕ → ℕ) (work : List WorkPage) (n : ℕ) → changed_of n work ≡ None → image_of (overlay words work) n ≡ image_of words n
unfolding overlay
overlay-away words work n none = image_of-same words (overlay words work) n (λ index lt.
    ap (λ k. overlaid (changed_of k work) (index_at (word_place n index)) (words (word_place n index))) (page_at-word n index lt)
    ∙ ap (λ o. overlaid o (index_at (word_place n index)) (words (word_place n index))) none)

formed : (v : PageValue) → ((state_of v).kind ≡ Malformed → ⊥) → HoldsPage v
formed (TreeValue p) kind = tt
formed (FreeValue clock) kind = tt
formed MalformedValue kind = absurd (kind refl)

bits-in : (pages : ℕ) (words : ℕ → ℕ) (n : ℕ) → bits_of pages words n ≡ bits_in pages (image_of words 0) n
unfolding bits_of
bits-in pages words n = refl

module _ (pages : ℕ) (m : PageMemory) (g : Planned) (old new : List WorkPage) (plan : IsPlanned pages m g.memory g.bits g.touched g.moves old new)
    (sound : (n : ℕ) → n ≢ 0 → (ticked m g.touched g.memory n).kind ≡ Malformed → ⊥) where
  abbrev then : PageMemory
  then = ticked m g.touched g.memory

  state-there : (n : ℕ) → n ≢ 0 → (image : List ℕ) → changed_of n new ≡ Some image → state_of (page_of image) ≡ then n
  state-there n ne image there = sym (ap (λ (o : Option (List ℕ)). state_or_free o) there) ∙ plan.same n ne (subst IsSome (sym there) refl)

  -- each image has all its words
  pub size-of : (n : ℕ) (image : List ℕ) → changed_of n new ≡ Some image → length image ≡ PAGE_WORDS
  size-of n image there = elim (cases_eq n 0) [
    | inl z ↦ (if-some (HasBits pages g.bits) (changed_of 0 new) image plan.space (subst (λ k. changed_of k new ≡ Some image) z there)).0.size
    | inr ne ↦ length-formed image (formed (page_of image) (λ k. sound n ne (sym (ap (λ s. s.kind) (state-there n ne image there)) ∙ k)))
  ]

  module _ (before after : ℕ → ℕ) (m-is : m ≡ pages_of before) (rest : (n : ℕ) → g.touched n ≡ false → then n ≡ m n) (stays : (n : ℕ) → g.touched n ≡ false → g.moves n ≡ Stays)
      (bits-stay : g.touched 0 ≡ false → (n : ℕ) → g.bits n ≡ bits_of pages before n) (was : (n : ℕ) → IfSome (changed_of n old) (λ image. image_of before n ≡ image))
      (now : (n : ℕ) (image : List ℕ) → changed_of n new ≡ Some image → image_of after n ≡ image) (still : (n : ℕ) → changed_of n new ≡ None → image_of after n ≡ image_of before n)
      (space : IsSpacePage pages (image_of before 0)) where
    pages-same : (n : ℕ) → image_of after n ≡ image_of before n → pages_of after n ≡ m n
    pages-same n same = pages_of-image after n ∙ (ap (λ (ws : List ℕ). state_of (page_of ws)) same ∙ (sym (pages_of-image before n) ∙ ap (λ (k : PageMemory). k n) (sym m-is)))

    pages-are : (n : ℕ) → n ≢ 0 → pages_of after n ≡ then n
    pages-are n ne = go (changed_of n new) refl
      where
        off-by : (b : Bool) → g.touched n ≡ b → changed_of n new ≡ None → pages_of after n ≡ then n
        off-by true on none = let there = plan.there n on in let bad = subst IsSome none there in cc
        off-by false off none = pages-same n (still n none) ∙ sym (rest n off)

        go : (o : Option (List ℕ)) → changed_of n new ≡ o → pages_of after n ≡ then n
        go None none = off-by (g.touched n) refl none
        go (Some image) there = pages_of-image after n ∙ (ap (λ (ws : List ℕ). state_of (page_of ws)) (now n image there) ∙ state-there n ne image there)

    moved-there : (n : ℕ) → n ≢ 0 → (was-it image : List ℕ) → changed_of n old ≡ Some was-it → changed_of n new ≡ Some image
        → IsMovedHeap (g.moves n) (records_of (image_of before n)) (read_heap (image_of before n)) (read_heap (image_of after n))
    moved-there n ne was-it image stood there =
        let at = if-some (λ i. image_of before n ≡ i) (changed_of n old) was-it (was n) stood in
        let moved = if-some (λ i. IsMovedHeap (g.moves n) (records_of was-it) (read_heap was-it) (read_heap i)) (changed_of n new) image
        (if-some (λ w. IfSome (changed_of n new) (λ i. IsMovedHeap (g.moves n) (records_of w) (read_heap w) (read_heap i))) (changed_of n old) was-it (plan.moved n ne) stood) there in
        subst (λ (ws : List ℕ). IsMovedHeap (g.moves n) (records_of ws) (read_heap ws) (read_heap (image_of after n))) (sym at)
        (subst (λ (ws : List ℕ). IsMovedHeap (g.moves n) (records_of was-it) (read_heap was-it) (read_heap ws)) (sym (now n image there)) moved)

    moved-away : (n : ℕ) → changed_of n new ≡ None → IsMovedHeap (g.moves n) (records_of (image_of before n)) (read_heap (image_of before n)) (read_heap (image_of after n))
    moved-away n none = go (g.touched n) refl
      where
        go : (b : Bool) → g.touched n ≡ b → IsMovedHeap (g.moves n) (records_of (image_of before n)) (read_heap (image_of before n)) (read_heap (image_of after n))
        go true on = absurd (let there = plan.there n on in let bad = subst IsSome none there in cc)
        go false off =
            subst (λ (mv : Move). IsMovedHeap mv (records_of (image_of before n)) (read_heap (image_of before n)) (read_heap (image_of after n))) (sym (stays n off)) (ap read_heap (still n none))

    moved-is : (n : ℕ) → n ≢ 0 → IsMovedHeap (g.moves n) (records_of (image_of before n)) (read_heap (image_of before n)) (read_heap (image_of after n))
    moved-is n ne = go (changed_of n old) (changed_of n new) refl refl
      where
        go : (a b : Option (List ℕ)) → changed_of n old ≡ a → changed_of n new ≡ b → IsMovedHeap (g.moves n) (records_of (image_of before n)) (read_heap (image_of before n)) (read_heap (image_of after n))
        go (Some w) (Some image) stood there = moved-there n ne w image stood there
        go None b stood there = moved-away n (none-same n new old plan.reads stood)
        go (Some w) None stood there = moved-away n there

    kept-is : (n : ℕ) → g.touched n ≡ false → image_of after n ≡ image_of before n
    kept-is n off = go (changed_of n new) refl
      where
        go : (o : Option (List ℕ)) → changed_of n new ≡ o → image_of after n ≡ image_of before n
        go None none = still n none
        go (Some image) there =
            let stood : changed_of n old ≡ Some image = sym (plan.kept n off) ∙ there in
            now n image there ∙ sym (if-some (λ i. image_of before n ≡ i) (changed_of n old) image (was n) stood)

    -- page 0
    record HasSpace : Type 0 where
      pub bits_are : (n : ℕ) → bits_of pages after n ≡ g.bits n
      pub clock : space_clock_of (image_of after 0) ≡ space_clock_of (image_of before 0) + space_ticks g.touched
      pub is_space : IsSpacePage pages (image_of after 0)

    space-there : (was-it image : List ℕ) → changed_of 0 old ≡ Some was-it → changed_of 0 new ≡ Some image → HasSpace
    space-there was-it image stood there =
        let bits = if-some (HasBits pages g.bits) (changed_of 0 new) image plan.space there in
        let clock = if-some (λ i. space_clock_of i ≡ space_clock_of was-it + space_ticks g.touched) (changed_of 0 new) image
        (if-some (λ w. IfSome (changed_of 0 new) (λ i. space_clock_of i ≡ space_clock_of w + space_ticks g.touched)) (changed_of 0 old) was-it plan.clock stood) there in
        let is = now 0 image there in
        let then-was = if-some (λ i. image_of before 0 ≡ i) (changed_of 0 old) was-it (was 0) stood in
        record {
          bits_are = λ n. bits-in pages after n ∙ (ap (λ (ws : List ℕ). bits_in pages ws n) is ∙ sym (bits.1 n));
          clock = ap space_clock_of is ∙ (clock ∙ ap (λ (ws : List ℕ). space_clock_of ws + space_ticks g.touched) (sym then-was));
          is_space = subst (IsSpacePage pages) (sym is) bits.0;
        }

    space-away : changed_of 0 new ≡ None → HasSpace
    space-away none = go (g.touched 0) refl
      where
        go : (b : Bool) → g.touched 0 ≡ b → HasSpace
        go true on = absurd (let there = plan.there 0 on in let bad = subst IsSome none there in cc)
        go false off = record {
          bits_are = λ n. bits_of-space pages before after n (still 0 none) ∙ sym (bits-stay off n);
          clock = let t : space_ticks g.touched ≡ 0 = ap (λ (b : Bool). cond {A = ℕ} b 1 0) off in let c = ap space_clock_of (still 0 none) in omega arith;
          is_space = subst (IsSpacePage pages) (sym (still 0 none)) space;
        }

    has-space : HasSpace
    has-space = go (changed_of 0 old) (changed_of 0 new) refl refl
      where
        go : (a b : Option (List ℕ)) → changed_of 0 old ≡ a → changed_of 0 new ≡ b → HasSpace
        go (Some w) (Some image) stood there = space-there w image stood there
        go None b stood there = space-away (none-same 0 new old plan.reads stood)
        go (Some w) None stood there = space-away there

    pub step-is : IsPlannedStep pages before after m (pages_of after) g
    step-is = let s = has-space in record { pages_are = pages-are; moved = moved-is; kept = kept-is; bits_are = s.bits_are; clock = s.clock }

    pub space-is : IsSpacePage pages (image_of after 0)
    space-is = let s = has-space in s.is_space
