-- What the images behind a kept log say, and work sets with copies of them.
use Rattle.std.specs.List.{All}
use Rattle.std.specs.Prelude.{IsSome, IsSomeAnd, IfSome, ◌==◌}
use Rattle.std.proofs.Common.{◌≡◌, ◌≢◌, ℕ, ◌^◌, ◌<◌, ◌≤◌, true, false, List, [], ◌∷◌, length, Option, Some, None, refl, sym, ap, subst, ◌∙◌, arith, inl, inr}
use Rattle.std.proofs.lemmas.Bool.{cases_lt, cases_eq, le-ltb}
use Rattle.std.proofs.lemmas.Bool.Decides.{nat_tests}
use Rattle.std.proofs.lemmas.List.Elements.{All-nil, All-cons, All-head, All-tail}
use Rattle.ib_map.specs.Keys.{MapKey}
use Rattle.ib_map.specs.Space.{has_pages}
use Rattle.ib_page.specs.declared.space.TheConstants.{MAPPED_PAGES}
use Rattle.ib_page.specs.Form.{page_of}
use Rattle.ib_page.specs.Image.{IsTreePage, records_of, clock_of, next_of}
use Rattle.ib_page.specs.Memory.{image_at}
use Rattle.ib_page.specs.Page.{PageValue, HoldsPage, HoldsTree}
use Rattle.ib_page.specs.Page.PageValue.{Malformed as MalformedValue, Free as FreeValue, Tree as TreeValue}
use Rattle.ib_page.specs.Space.{space_clock_of}
use Rattle.ib_page.specs.Work.{WorkPage, changed_of}
use Rattle.ib_logrec.specs.declared.entry.Entry.{Entry}
use Rattle.ib_logrec.specs.Log.{memory_after, by_place}
use Rattle.ib_walk.specs.Pages.{Tree, PageState, PageMemory}
use Rattle.ib_walk.specs.Words.{IsLawfulMemory, image_of, state_of, bits_of}
use Rattle.ib_walk.proofs.ImageLaws.{pages_of-image}
use Rattle.ib_plans.specs.Agreement.{Agrees, HasBits, IsThere, MayTick, bits_in, memory_in, path_of, state_or_free}
use Rattle.ib_plans.proofs.EditLaws.{state-records, state-clock, state-next}
use Rattle.ib_plans.proofs.MetLaws.{met-set, root-met}
use Rattle.ib_plans.proofs.PageZeroLaws.{zero-no_clock}
use Rattle.ib_merge.proofs.ImageLaws.{there-tree}
use Rattle.ib_tree.specs.TreeLog.{opening}
use Rattle.ib_planned_log.specs.LeafChange.{kept_pages}
use Rattle.ib_planned_log.proofs.ClockLaws.{clock-le, space_clock-le}
use Rattle.ib_planned_log.proofs.PushLaws.{lawful-before}
use Rattle.ib_planned_change.specs.Copies.{IsBehind, IsCopy, AreCopies}
use Rattle.ib_planned_change.proofs.WorkLaws.{IsAsBefore}

-- what is so of each copy is so of each
pub copies-each : (P Q : WorkPage → Type 0) (work : List WorkPage) → ((w : WorkPage) → P w → Q w) → All P work → All Q work
copies-each P Q [] f all = All-nil Q
copies-each P Q (w ∷ ws) f all = All-cons Q w ws (f w (All-head P w ws all)) (copies-each P Q ws f (All-tail P w ws all))

-- the pages that words are, by the changed images of a work set that has them
still-in : (words : ℕ → ℕ) (page : ℕ) (ws : List WorkPage) → All (λ w. image_of words w.page ≡ w.changed) ws → (image : List ℕ) → changed_of page ws ≡ Some image → image_of words page ≡ image
still-in words page [] all image is = cc
still-in words page (w ∷ ws) all image is = elim (cases_eq w.page page) [
  | inl e ↦
      let here : Some w.changed ≡ Some image = sym (let yes = eq-true w.page page e in rw yes refl) ∙ is in
      let same : w.changed ≡ image = cc in
      ap (image_of words) (sym e) ∙ (All-head (λ (v : WorkPage). image_of words v.page ≡ v.changed) w ws all ∙ same)
  | inr ne ↦ still-in words page ws (All-tail (λ (v : WorkPage). image_of words v.page ≡ v.changed) w ws all) image (sym (let no = ne-false w.page page ne in rw no refl) ∙ is)
]
  where
    eq-true : (a b : ℕ) → a ≡ b → (a == b) ≡ true
    eq-true a b e = grind (arith, nat_tests, e)

    ne-false : (a b : ℕ) → a ≢ b → (a == b) ≡ false
    ne-false a b ne = grind (arith, nat_tests, ne)

pub bits-in : (pages : ℕ) (words : ℕ → ℕ) (page : ℕ) → bits_of pages words page ≡ bits_in pages (image_of words 0) page
unfolding bits_of
bits-in pages words page = refl

bits-beyond : (pages : ℕ) (words : ℕ → ℕ) (page : ℕ) → pages ≤ page → bits_of pages words page ≡ 0
unfolding bits_of
bits-beyond pages words page ge = let no = le-ltb page pages ge in rw no refl

-- a page of the tree is a page
pub tree-formed : (v : PageValue) → HoldsTree v → HoldsPage v
tree-formed (TreeValue p) tree = tt
tree-formed (FreeValue clock) tree = absurd tree
tree-formed MalformedValue tree = absurd tree

-- a space has few pages
pub pages-few : (pages : ℕ) → has_pages pages ≡ true → pages ≤ MAPPED_PAGES
pages-few pages fits = grind (arith, nat_tests, fits)

module _ (log : List Entry) (images : List (List ℕ)) (b : IsBehind log images) where
  abbrev pub words-behind : ℕ → ℕ
  words-behind = memory_after (by_place opening (length images)) log

  abbrev pub m-behind : PageMemory
  m-behind = kept_pages (length images) log

  abbrev pub bits-behind : ℕ → ℕ
  bits-behind = bits_of (length images) (memory_after (by_place opening (length images)) log)

  pub lawful-behind : IsLawfulMemory (length images) 1 (memory_after (by_place opening (length images)) log)
  lawful-behind = lawful-before (length images) b.space log b.kept

  -- an image is the page there
  pub state-is : (page : ℕ) (image : List ℕ) → page < length images → image_at images page ≡ image → state_of (page_of image) ≡ kept_pages (length images) log page
  state-is page image lt is = ap (λ (ws : List ℕ). state_of (page_of ws)) (sym is ∙ b.images_are page lt) ∙ sym (pages_of-image words-behind page)

  -- a page of the tree is one of the space, and its image one of the tree
  pub tree-within : (page : ℕ) → (kept_pages (length images) log page).kind ≡ Tree → page < length images
  tree-within page kind = elim (cases_lt page (length images)) [
    | inl lt ↦ lt
    | inr ge ↦ let law = lawful-behind.law in let free = law.unmet page (bits-beyond (length images) words-behind page ge) in absurd (cc)
  ]

  pub tree-image : (page : ℕ) (image : List ℕ) → page < length images → image_at images page ≡ image → (kept_pages (length images) log page).kind ≡ Tree → IsTreePage image
  tree-image page image lt is kind = there-tree (Some image) (ap (λ (s : PageState). s.kind) (state-is page image lt is) ∙ kind)

  pub records-is : (page : ℕ) (image : List ℕ) → page < length images → image_at images page ≡ image → records_of image ≡ (kept_pages (length images) log page).records
  records-is page image lt is = sym (state-records (page_of image)) ∙ ap (λ (s : PageState). s.records) (state-is page image lt is)

  pub next-is : (page : ℕ) (image : List ℕ) → page < length images → image_at images page ≡ image → next_of image ≡ (kept_pages (length images) log page).next
  next-is page image lt is = sym (state-next (page_of image)) ∙ ap (λ (s : PageState). s.next) (state-is page image lt is)

  pub clock-is : (page : ℕ) (image : List ℕ) → page ≢ 0 → page < length images → image_at images page ≡ image → clock_of image < 2 ^ 63
  clock-is page image ne lt is =
      let e : clock_of image ≡ (kept_pages (length images) log page).clock = sym (state-clock (page_of image)) ∙ ap (λ (s : PageState). s.clock) (state-is page image lt is) in
      let le = clock-le (length images) b.space log page ne b.kept in let few = b.few in omega arith

  -- copies of the images
  module _ (work : List WorkPage) (copies : AreCopies images work) where
    pub copies-before : All (IsAsBefore (memory_after (by_place opening (length images)) log)) work
    copies-before = copies-each (IsCopy images) (IsAsBefore words-behind) work (λ w c. sym (b.images_are w.page c.within) ∙ c.before) copies

    pub copies-now : All (λ w. image_of (memory_after (by_place opening (length images)) log) w.page ≡ w.changed) work
    copies-now = copies-each (IsCopy images) (λ w. image_of words-behind w.page ≡ w.changed) work (λ w c. sym (b.images_are w.page c.within) ∙ (c.before ∙ sym c.same)) copies

    pub copies-within : All (λ w. w.page < length images) work
    copies-within = copies-each (IsCopy images) (λ w. w.page < length images) work (λ w c. c.within) copies

    -- the image of a page that is there
    pub copy-is : (page : ℕ) (image : List ℕ) → changed_of page work ≡ Some image → image_of (memory_after (by_place opening (length images)) log) page ≡ image
    copy-is page image is = still-in words-behind page work copies-now image is

    pub copies-was : (page : ℕ) → IfSome (changed_of page work) (λ image. image_of (memory_after (by_place opening (length images)) log) page ≡ image)
    copies-was page = go (changed_of page work) refl
      where
        go : (o : Option (List ℕ)) → changed_of page work ≡ o → IfSome o (λ image. image_of (memory_after (by_place opening (length images)) log) page ≡ image)
        go None is = tt
        go (Some image) is = copy-is page image is

    -- .. as a page
    pub memory-is : (page : ℕ) → IsThere work page → memory_in work page ≡ kept_pages (length images) log page
    memory-is page there = go (changed_of page work) refl there
      where
        go : (o : Option (List ℕ)) → changed_of page work ≡ o → IsSome o → memory_in work page ≡ kept_pages (length images) log page
        go None is some = absurd (cc)
        go (Some image) is some =
            ap state_or_free is ∙ (ap (λ (ws : List ℕ). state_of (page_of ws)) (sym (copy-is page image is)) ∙ sym (pages_of-image words-behind page))

    pub tree-there : (page : ℕ) → IsThere work page → (kept_pages (length images) log page).kind ≡ Tree → IsSomeAnd (changed_of page work) IsTreePage
    tree-there page there kind = there-tree (changed_of page work) (ap (λ (s : PageState). s.kind) (memory-is page there) ∙ kind)

    space-there : IfSome (changed_of 0 work) (HasBits (length images) (bits_of (length images) (memory_after (by_place opening (length images)) log)))
    space-there = go (changed_of 0 work) refl
      where
        go : (o : Option (List ℕ)) → changed_of 0 work ≡ o → IfSome o (HasBits (length images) (bits_of (length images) (memory_after (by_place opening (length images)) log)))
        go None is = tt
        go (Some image) is =
            let space = lawful-behind.space in
            subst (HasBits (length images) (bits_of (length images) words-behind)) (copy-is 0 image is) (space, bits-in (length images) words-behind)

    pub agrees-behind : (key : MapKey) (path : List ℕ) → path ≡ path_of (kept_pages (length images) log) key 1
        → Agrees (length images) 1 1 key path work (kept_pages (length images) log) (bits_of (length images) (memory_after (by_place opening (length images)) log))
    agrees-behind key path way =
        record {
          lawful = lawful-behind.law;
          few = pages-few (length images) b.space;
          some = omega arith;
          within = omega arith;
          way = way;
          same = λ page ne there. memory-is page there;
          space = space-there;
        }

    -- the clocks may tick: each is not above the number of entries, and as a page of the tree page 0 has none
    page-ticks : (n : ℕ) → n ≢ 0 → (memory_in work n).clock < 2 ^ 63
    page-ticks n ne = go (changed_of n work) refl
      where
        go : (o : Option (List ℕ)) → changed_of n work ≡ o → (memory_in work n).clock < 2 ^ 63
        go None none = let z : (memory_in work n).clock ≡ 0 = ap (λ (o : Option (List ℕ)). (state_or_free o).clock) none in omega arith
        go (Some image) there =
            let e = ap (λ (s : PageState). s.clock) (memory-is n (subst IsSome (sym there) refl)) in
            let le = clock-le (length images) b.space log n ne b.kept in let few = b.few in omega arith

    zero-ticks : (memory_in work 0).clock < 2 ^ 63
    zero-ticks = go (changed_of 0 work) refl
      where
        go : (o : Option (List ℕ)) → changed_of 0 work ≡ o → (memory_in work 0).clock < 2 ^ 63
        go None none = let z : (memory_in work 0).clock ≡ 0 = ap (λ (o : Option (List ℕ)). (state_or_free o).clock) none in omega arith
        go (Some image) there =
            let law = lawful-behind.law in
            let set = met-set _ m-behind bits-behind 1 law 1 (omega arith) (omega arith) 1 (root-met m-behind 1) in
            let same : bits-behind 1 ≡ bits_in (length images) image 1 = bits-in (length images) words-behind 1 ∙ ap (λ (ws : List ℕ). bits_in (length images) ws 1) (copy-is 0 image there) in
            let none = zero-no_clock (length images) image (λ z. set (same ∙ z)) in
            let e : (memory_in work 0).clock ≡ (state_of (page_of image)).clock = ap (λ (o : Option (List ℕ)). (state_or_free o).clock) there in omega arith

    pub ticks-behind : MayTick work
    ticks-behind = (ticks, space-ticks)
      where
        ticks : (n : ℕ) → (memory_in work n).clock < 2 ^ 63
        ticks n = elim (cases_eq n 0) [
          | inl z ↦ subst (λ n. (memory_in work n).clock < 2 ^ 63) (sym z) zero-ticks
          | inr ne ↦ page-ticks n ne
        ]

        space-ticks : IfSome (changed_of 0 work) (λ image. space_clock_of image < 2 ^ 63)
        space-ticks = go (changed_of 0 work) refl
          where
            go : (o : Option (List ℕ)) → changed_of 0 work ≡ o → IfSome o (λ image. space_clock_of image < 2 ^ 63)
            go None is = tt
            go (Some image) is =
                let le = space_clock-le (length images) b.space log b.kept in let few = b.few in
                let e = ap space_clock_of (copy-is 0 image is) in omega arith
