-- The pages that a split sets, one after the other.
use Rattle.std.proofs.Common.{◌≡◌, ◌≢◌, ◌∙◌, ℕ, ◌+◌, ◌-◌, ◌<◌, ◌^◌, List, refl, sym, ap, subst, inl, inr, Option, Some}
use Rattle.std.proofs.lemmas.Bool.{cases_eq}
use Rattle.std.specs.Prelude.{IsSome, IsSomeAnd}
use Rattle.ib_map.specs.Keys.{MapKey}
use Rattle.ib_map.specs.Pairs.{put}
use Rattle.ib_heap.specs.declared.TheConstants.{MOST_RECORDS}
use Rattle.ib_heap.specs.Filled.{filled}
use Rattle.ib_heap.specs.Heap.{read_heap}
use Rattle.ib_page.specs.Form.{page_of}
use Rattle.ib_page.specs.Image.{IsTreePage, clock_of, records_of}
use Rattle.ib_page.specs.Work.{WorkPage, changed_of, with_changed}
use Rattle.ib_heap.proofs.FormLaws.{formed-tree}
use Rattle.ib_walk.specs.Pages.{PageState}
use Rattle.ib_walk.specs.Words.{state_of}
use Rattle.ib_plans.specs.declared.TheConstants.{LEFT_RECORDS}
use Rattle.ib_plans.specs.Moves.{Move, Stays, Fills, unmoved, with_move, HasMoved}
use Rattle.ib_plans.specs.Split.{with_prev, right_part, first_key, lower_half, upper_half}
use Rattle.ib_plans.specs.Agreement.{IsThere, state_or_free, memory_in, reads_of, Sets, tick}
use Rattle.ib_plans.proofs.EditLaws.{IsSome-and, changed_of-same, changed_of-other, state-records, set-reads, set-same, set-others, set-other, set-there, set-was}
use Rattle.ib_plans.proofs.MoveLaws.{with_move-own, with_move-other, moved-still, then-still-was, filled-now}
use Rattle.ib_split.specs.Inserts.{with_record, HasNeighbour, IsSplit}

-- the leaf behind a page that is split is another one, and so as it was
module _ (page fresh : ℕ) (old : List WorkPage) (left right : List ℕ) (next : ℕ) (is : next ≡ (memory_in old page).next) (some : next ≢ 0) (beside : HasNeighbour page fresh old) where
  some-old : (memory_in old page).next ≢ 0
  some-old z = some (is ∙ z)

  pub neighbour-kept : changed_of next (with_changed fresh right (with_changed page left old)) ≡ changed_of next old
  neighbour-kept =
      changed_of-other fresh next right (with_changed page left old) (λ e. beside.not_fresh some-old (sym is ∙ sym e))
      ∙ changed_of-other page next left old (λ e. beside.not_page (sym is ∙ sym e))

  pub neighbour-tree : IsSomeAnd (changed_of next (with_changed fresh right (with_changed page left old))) IsTreePage
  neighbour-tree = subst (λ (o : Option (List ℕ)). IsSomeAnd o IsTreePage) (ap (λ n. changed_of n old) (sym is) ∙ sym neighbour-kept) (beside.there some-old)

  pub neighbour-level : (memory_in (with_changed fresh right (with_changed page left old)) next).level ≡ 0
  neighbour-level = ap (λ o. (state_or_free o).level) (neighbour-kept ∙ ap (λ n. changed_of n old) is) ∙ beside.level some-old

  pub neighbour-clock : (memory_in (with_changed fresh right (with_changed page left old)) next).clock < 2 ^ 63
  neighbour-clock = subst (λ n. n < 2 ^ 63) (sym (ap (λ o. (state_or_free o).clock) (neighbour-kept ∙ ap (λ n. changed_of n old) is))) beside.clock

module _ (page fresh : ℕ) (key : MapKey) (value : ℕ) (old : List WorkPage) (was empty left right : List ℕ) (first : MapKey) (apart : page ≢ fresh)
    (there : changed_of page old ≡ Some was) (clock : clock_of empty ≡ (memory_in old fresh).clock)
    (left_is : state_of (page_of left) ≡ tick (lower_half (with_record key value (state_of (page_of was))) fresh)) (left_tree : IsTreePage left)
    (right_is : state_of (page_of right) ≡ tick (upper_half (with_record key value (state_of (page_of was))) page (clock_of empty))) (right_tree : IsTreePage right)
    (first_is : first ≡ first_key (right_part (put key value (records_of was))))
    (left_heap : read_heap left ≡ filled LEFT_RECORDS) (right_heap : read_heap right ≡ filled (MOST_RECORDS + 1 - LEFT_RECORDS)) (free_there : IsThere old fresh) where
  here : memory_in old page ≡ state_of (page_of was)
  here = ap state_or_free there

  abbrev pub between : List WorkPage
  between = with_changed page left old

  abbrev pub halved : List WorkPage
  halved = with_changed fresh right (with_changed page left old)

  left-sets : Sets page (tick (lower_half (with_record key value (memory_in old page)) fresh)) old (with_changed page left old)
  left-sets = record {
    image = left;
    work = λ i. with_changed page left old;
    formed = formed-tree left left_tree;
    state = left_is ∙ ap (λ (p : PageState). tick (lower_half (with_record key value p) fresh)) (sym here);
  }

  right-sets : Sets fresh (tick (upper_half (with_record key value (memory_in old page)) page (memory_in old fresh).clock)) (with_changed page left old) (with_changed fresh right (with_changed page left old))
  right-sets = record {
    image = right;
    work = λ i. with_changed fresh right (with_changed page left old);
    formed = formed-tree right right_tree;
    state = right_is ∙ (ap (λ (p : PageState). tick (upper_half (with_record key value p) page (clock_of empty))) (sym here)
        ∙ ap (λ n. tick (upper_half (with_record key value (memory_in old page)) page n)) clock);
  }

  key-is : first ≡ first_key (right_part (put key value (memory_in old page).records))
  key-is = first_is ∙ ap (λ rs. first_key (right_part (put key value rs))) (sym (ap (λ (p : PageState). p.records) here ∙ state-records (page_of was)))

  -- both halves are filled anew, and all other pages are as they were
  halved-page : changed_of page (with_changed fresh right (with_changed page left old)) ≡ Some left
  halved-page = changed_of-other fresh page right (with_changed page left old) (λ e. apart (sym e)) ∙ changed_of-same page left old (subst IsSome (sym there) refl)

  halved-fresh : changed_of fresh (with_changed fresh right (with_changed page left old)) ≡ Some right
  halved-fresh = changed_of-same fresh right (with_changed page left old) (subst IsSome (sym (changed_of-other page fresh left old apart)) free_there)

  halved-other : (n : ℕ) → n ≢ page → n ≢ fresh → changed_of n (with_changed fresh right (with_changed page left old)) ≡ changed_of n old
  halved-other n np nf = changed_of-other fresh n right (with_changed page left old) (λ e. nf (sym e)) ∙ changed_of-other page n left old (λ e. np (sym e))

  halved-moved : (n : ℕ) → HasMoved (with_move fresh Fills (with_move page Fills unmoved) n) (changed_of n old) (changed_of n (with_changed fresh right (with_changed page left old)))
  halved-moved n = elim (cases_eq n fresh) [
    | inl e ↦
        subst (λ (mv : Move). HasMoved mv (changed_of n old) (changed_of n (with_changed fresh right (with_changed page left old)))) (sym (with_move-own fresh Fills (with_move page Fills unmoved) n e))
        (filled-now (changed_of n old) (changed_of n (with_changed fresh right (with_changed page left old))) right (MOST_RECORDS + 1 - LEFT_RECORDS) (ap (λ q. changed_of q (with_changed fresh right (with_changed page left old))) e ∙ halved-fresh) right_heap)
    | inr nf ↦ elim (cases_eq n page) [
      | inl e ↦
          subst (λ (mv : Move). HasMoved mv (changed_of n old) (changed_of n (with_changed fresh right (with_changed page left old)))) (sym (with_move-other fresh Fills (with_move page Fills unmoved) n nf ∙ with_move-own page Fills unmoved n e))
          (filled-now (changed_of n old) (changed_of n (with_changed fresh right (with_changed page left old))) left LEFT_RECORDS (ap (λ q. changed_of q (with_changed fresh right (with_changed page left old))) e ∙ halved-page) left_heap)
      | inr np ↦
          subst (λ (mv : Move). HasMoved mv (changed_of n old) (changed_of n (with_changed fresh right (with_changed page left old)))) (sym (with_move-other fresh Fills (with_move page Fills unmoved) n nf ∙ with_move-other page Fills unmoved n np))
          (moved-still (changed_of n old) (changed_of n (with_changed fresh right (with_changed page left old))) (halved-other n np nf))
    ]
  ]

  -- no leaf stands behind
  pub split-alone : (memory_in old page).next ≡ 0 → IsSplit page fresh key value old first (with_changed fresh right (with_changed page left old))
  split-alone none = record {
    one = with_changed page left old;
    two = with_changed fresh right (with_changed page left old);
    left = left-sets;
    right = right-sets;
    alone = λ z i. with_changed fresh right (with_changed page left old);
    next = λ some. absurd (some none);
    key_is = key-is;
    moved = halved-moved;
  }

  pub split-beside : (new : List WorkPage) (next : ℕ) → next ≡ (memory_in old page).next → next ≢ 0 → HasNeighbour page fresh old
      → Sets next (tick (with_prev fresh (memory_in (with_changed fresh right (with_changed page left old)) next))) (with_changed fresh right (with_changed page left old)) new
      → HasMoved Stays (changed_of next (with_changed fresh right (with_changed page left old))) (changed_of next new)
      → IsSplit page fresh key value old first new
  split-beside new next is some beside sets stays = record {
    one = with_changed page left old;
    two = with_changed fresh right (with_changed page left old);
    left = left-sets;
    right = right-sets;
    alone = λ z. absurd (some (is ∙ z));
    next = λ _. subst (λ n. Sets n (tick (with_prev fresh (memory_in old n))) (with_changed fresh right (with_changed page left old)) new) is
        (subst (λ (p : PageState). Sets next (tick (with_prev fresh p)) (with_changed fresh right (with_changed page left old)) new)
        (ap state_or_free (neighbour-kept page fresh old left right next is some beside)) sets);
    key_is = key-is;
    moved = λ n. then-still-was (with_move fresh Fills (with_move page Fills unmoved) n) (changed_of n old) (changed_of n (with_changed fresh right (with_changed page left old))) (changed_of n new)
        (set-was next (tick (with_prev fresh (memory_in (with_changed fresh right (with_changed page left old)) next))) (with_changed fresh right (with_changed page left old)) new sets n
        (subst IsSome (ap (λ q. changed_of q old) (sym is) ∙ sym (neighbour-kept page fresh old left right next is some beside)) (IsSome-and IsTreePage _ (beside.there (λ z. some (is ∙ z))))))
        (halved-moved n) (elim (cases_eq n next) [
          | inl e ↦ subst (λ q. HasMoved Stays (changed_of q (with_changed fresh right (with_changed page left old))) (changed_of q new)) (sym e) stays
          | inr ne ↦ moved-still (changed_of n (with_changed fresh right (with_changed page left old))) (changed_of n new)
              (set-others next (tick (with_prev fresh (memory_in (with_changed fresh right (with_changed page left old)) next))) (with_changed fresh right (with_changed page left old)) new sets n (λ e. ne (sym e)))
        ]);
  }

-- what a split leaves of each page
module _ (page fresh : ℕ) (key : MapKey) (value : ℕ) (old : List WorkPage) (first : MapKey) (new : List WorkPage) (is : IsSplit page fresh key value old first new)
    (apart : page ≢ fresh) (here : IsThere old page) (free : IsThere old fresh) (beside : (memory_in old page).next ≢ 0 → IsThere old (memory_in old page).next)
    (not_page : (memory_in old page).next ≢ 0 → (memory_in old page).next ≢ page) (not_fresh : (memory_in old page).next ≢ 0 → (memory_in old page).next ≢ fresh) where
  abbrev lower : PageState
  lower = tick (lower_half (with_record key value (memory_in old page)) fresh)

  abbrev upper : PageState
  upper = tick (upper_half (with_record key value (memory_in old page)) page (memory_in old fresh).clock)

  abbrev linked : PageState
  linked = tick (with_prev fresh (memory_in old (memory_in old page).next))

  free-one : IsThere is.one fresh
  free-one = set-there page lower old is.one is.left fresh here free

  two-page : memory_in is.two page ≡ lower
  two-page = set-other fresh upper is.one is.two is.right page (λ e. apart (sym e)) ∙ set-same page lower old is.one is.left here

  two-fresh : memory_in is.two fresh ≡ upper
  two-fresh = set-same fresh upper is.one is.two is.right free-one

  two-other : (n : ℕ) → n ≢ page → n ≢ fresh → changed_of n is.two ≡ changed_of n old
  two-other n np nf = set-others fresh upper is.one is.two is.right n (λ e. nf (sym e)) ∙ set-others page lower old is.one is.left n (λ e. np (sym e))

  two-there : (n : ℕ) → IsThere old n → IsThere is.two n
  two-there n there = set-there fresh upper is.one is.two is.right n free-one (set-there page lower old is.one is.left n here there)

  two-was : (n : ℕ) → IsThere is.two n → IsThere old n
  two-was n there = set-was page lower old is.one is.left n here (set-was fresh upper is.one is.two is.right n free-one there)

  two-reads : reads_of is.two ≡ reads_of old
  two-reads = set-reads fresh upper is.one is.two is.right ∙ set-reads page lower old is.one is.left

  pub split-page : memory_in new page ≡ tick (lower_half (with_record key value (memory_in old page)) fresh)
  split-page = elim (cases_eq (memory_in old page).next 0) [
    | inl z ↦ ap (λ w. memory_in w page) (is.alone z) ∙ two-page
    | inr ne ↦ set-other (memory_in old page).next linked is.two new (is.next ne) page (not_page ne) ∙ two-page
  ]

  pub split-fresh : memory_in new fresh ≡ tick (upper_half (with_record key value (memory_in old page)) page (memory_in old fresh).clock)
  split-fresh = elim (cases_eq (memory_in old page).next 0) [
    | inl z ↦ ap (λ w. memory_in w fresh) (is.alone z) ∙ two-fresh
    | inr ne ↦ set-other (memory_in old page).next linked is.two new (is.next ne) fresh (not_fresh ne) ∙ two-fresh
  ]

  pub split-next : (memory_in old page).next ≢ 0 → memory_in new (memory_in old page).next ≡ tick (with_prev fresh (memory_in old (memory_in old page).next))
  split-next ne = set-same (memory_in old page).next linked is.two new (is.next ne) (two-there (memory_in old page).next (beside ne))

  pub split-other : (n : ℕ) → n ≢ page → n ≢ fresh → ((memory_in old page).next ≢ 0 → n ≢ (memory_in old page).next) → changed_of n new ≡ changed_of n old
  split-other n np nf nn = elim (cases_eq (memory_in old page).next 0) [
    | inl z ↦ ap (changed_of n) (is.alone z) ∙ two-other n np nf
    | inr ne ↦ set-others (memory_in old page).next linked is.two new (is.next ne) n (λ e. nn ne (sym e)) ∙ two-other n np nf
  ]

  pub split-there : (n : ℕ) → IsThere old n → IsThere new n
  split-there n there = elim (cases_eq (memory_in old page).next 0) [
    | inl z ↦ subst (λ w. IsThere w n) (sym (is.alone z)) (two-there n there)
    | inr ne ↦ set-there (memory_in old page).next linked is.two new (is.next ne) n (two-there (memory_in old page).next (beside ne)) (two-there n there)
  ]

  pub split-was : (n : ℕ) → IsThere new n → IsThere old n
  split-was n there = elim (cases_eq (memory_in old page).next 0) [
    | inl z ↦ two-was n (subst (λ w. IsThere w n) (is.alone z) there)
    | inr ne ↦ two-was n (set-was (memory_in old page).next linked is.two new (is.next ne) n (two-there (memory_in old page).next (beside ne)) there)
  ]

  pub split-reads : reads_of new ≡ reads_of old
  split-reads = elim (cases_eq (memory_in old page).next 0) [
    | inl z ↦ ap reads_of (is.alone z) ∙ two-reads
    | inr ne ↦ set-reads (memory_in old page).next linked is.two new (is.next ne) ∙ two-reads
  ]
