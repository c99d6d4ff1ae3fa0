-- How far a planned delete has come in a work set, and one level more.
use Rattle.std.proofs.Common.{◌≡◌, ◌≢◌, ◌∙◌, ℕ, suc, ◌+◌, ◌<◌, ◌≤◌, ◌⊎◌, List, [], ◌∷◌, ◌++◌, length, length-append, refl, sym, ap, subst, inl, inr, Bool, true, false, cond, arith, eqb, ltb}
use Rattle.std.specs.Prelude.{IsSome}
use Rattle.std.proofs.lemmas.Bool.{cases_eq, cases_lt, lt-ltb}
use Rattle.ib_map.specs.Keys.{MapKey, end_rank, rank}
use Rattle.ib_map.specs.Pairs.{Pairs, Rises, without}
use Rattle.ib_heap.specs.declared.TheConstants.{MOST_RECORDS}
use Rattle.ib_page.specs.declared.space.TheConstants.{MAPPED_PAGES}
use Rattle.ib_page.specs.Image.{IsTreePage}
use Rattle.ib_page.specs.Work.{WorkPage, changed_of}
use Rattle.ib_walk.specs.Pages.{PageState, PageMemory}
use Rattle.ib_walk.specs.Search.{child_for, page_below}
use Rattle.ib_walk.specs.Trees.{IsLawful, height_of}
use Rattle.ib_walk.proofs.ChoiceLaws.{cond-eq, cond-ne}
use Rattle.ib_walk.proofs.SearchLaws.{above}
use Rattle.ib_plans.specs.Delete.{Shrinkage, delete_below, drop_at, merged}
use Rattle.ib_plans.specs.Marks.{mark, ticked, untouched, with_clock}
use Rattle.ib_plans.specs.Moves.{Move, Takes, unmoved, with_move, HasMoved}
use Rattle.ib_plans.specs.Merge.{freed_page, merge_pages, joined}
use Rattle.ib_plans.specs.Split.{next_or, with_prev, with_records}
use Rattle.ib_plans.specs.Agreement.{IsThere, Sets, state_or_free, memory_in, reads_of, tick, with_bits}
use Rattle.ib_plans.proofs.ClockLaws.{ticked-touched, ticked-untouched}
use Rattle.ib_plans.proofs.DeleteLaws.{IsDeletedBelow, PathAbove-delete, sibling-same, pages}
use Rattle.ib_plans.proofs.EditLaws.{IsSome-and, set-reads, set-same, set-other, set-others}
use Rattle.ib_plans.proofs.LinkLaws.{next_or-next}
use Rattle.ib_plans.proofs.MergePageLaws.{merge_pages-gone, merge_pages-left, merge_pages-parent, merge_pages-next, merge_pages-other, without-second}
use Rattle.ib_plans.proofs.MoveLaws.{with_move-own, with_move-other, moved-alike, moved-still, then-still-was, filled-any, freed-any}
use Rattle.ib_plans.proofs.PageLaws.{mark-off, mark-own, mark-on}
use Rattle.ib_plans.proofs.PathLaws.{PathAbove}
use Rattle.ib_plans.proofs.SiblingLaws.{SiblingPages, parent-not_gone, parent-not_left}
use Rattle.ib_merge.specs.Deletes.{without_record, CanMerge, IsMerged, AreTaken}
use Rattle.ib_merge.proofs.GiveLaws.{with_bits-last, AreTaken-last}
use Rattle.ib_merge.proofs.MovedLaws.{moves-gone, moves-left, moves-parent, moves-other}
use Rattle.ib_merge.proofs.MergedLaws.{merged-reads, merged-parent, merged-next, merged-others, beside-left, beside-gone}
use Rattle.ib_merge.proofs.OnPathLaws.{there-reads}

-- The work set's pages are those that the plan has come to, with the clocks of all pages that were touched ticked. Touched are the page itself and lower ones alone, and, where the page has one child left, that child
pub record IsAt (m : PageMemory) (bits : ℕ → ℕ) (height page : ℕ) (s : Shrinkage) (freed : List ℕ) (old new : List WorkPage) : Type 0 where
  pub reads : reads_of new ≡ reads_of old
  pub there : (n : ℕ) → n ≢ 0 → s.touched n ≡ true → IsThere new n
  pub same : (n : ℕ) → n ≢ 0 → IsThere new n → memory_in new n ≡ ticked m s.touched s.memory n
  pub moved : (n : ℕ) → n ≢ 0 → HasMoved (s.moves n) (changed_of n old) (changed_of n new)
  pub kept : (n : ℕ) → n ≢ 0 → s.touched n ≡ false → changed_of n new ≡ changed_of n old
  pub space : changed_of 0 new ≡ changed_of 0 old
  pub bits_are : (n : ℕ) → s.bits n ≡ with_bits freed 0 bits n
  pub taken : AreTaken bits freed
  pub zero_is : s.touched 0 ≡ ltb 0 (length freed)
  pub lost : s.lost ≡ true
  pub own : s.touched page ≡ true
  pub low : (n : ℕ) → n ≢ 0 → n ≢ page → s.touched n ≡ true → (m n).level < height
  pub links : height ≡ 0 → (s.memory page).next ≡ (m page).next
  pub single : (y : MapKey × ℕ) → 0 < height → (s.memory page).records ≡ y ∷ [] → s.touched y.1 ≡ true

pub mark-skip : (page : ℕ) (touched : ℕ → Bool) (n : ℕ) → n ≢ page → mark page touched n ≡ touched n
mark-skip page touched n ne = cond-ne n page true (touched n) ne

pub mark-split : (page : ℕ) (touched : ℕ → Bool) (n : ℕ) → mark page touched n ≡ true → (n ≡ page) ⊎ (touched n ≡ true)
mark-split page touched n on = elim (cases_eq n page) [ inl e ↦ inl e | inr ne ↦ inr (sym (mark-skip page touched n ne) ∙ on) ]

-- a test that is not true is false
pub not-true : (b : Bool) → (b ≡ true → ⊥) → b ≡ false
not-true true never = absurd (never refl)
not-true false never = refl

-- the record was taken out of the leaf
module _ (m : PageMemory) (bits : ℕ → ℕ) (key : MapKey) (leaf : ℕ) (some : leaf ≢ 0) (old new : List WorkPage)
    (same : (page : ℕ) → page ≢ 0 → IsThere old page → memory_in old page ≡ m page)
    (there : IsThere old leaf) (sets : Sets leaf (tick (without_record key (memory_in old leaf))) old new)
    (taken : HasMoved (Takes key) (changed_of leaf old) (changed_of leaf new)) where
  dropped : drop_at m leaf key leaf ≡ with_records (without key (m leaf).records) (m leaf)
  dropped = cond-eq leaf leaf (with_records (without key (m leaf).records) (m leaf)) (m leaf) refl

  kept : (n : ℕ) → n ≢ leaf → drop_at m leaf key n ≡ m n
  kept n ne = cond-ne n leaf (with_records (without key (m leaf).records) (m leaf)) (m n) ne

  was-there : (n : ℕ) → IsThere new n → IsThere old n
  was-there n h = there-reads new old n (sym (set-reads leaf _ old new sets)) h

  pub IsAt-leaf : IsAt m bits 0 leaf (delete_below m bits key 0 leaf) [] old new
  IsAt-leaf = record {
    reads = set-reads leaf _ old new sets;
    there = λ n ne on. elim (mark-split leaf untouched n on) [
      | inl e ↦ subst (IsThere new) (sym e) (there-reads old new leaf (set-reads leaf _ old new sets) there)
      | inr off ↦ absurd (cc)
    ];
    same = λ n ne h. elim (cases_eq n leaf) [
      | inl e ↦ subst (λ q. memory_in new q ≡ ticked m (mark leaf untouched) (drop_at m leaf key) q) (sym e)
          (set-same leaf _ old new sets there ∙ (ap (λ (p : PageState). tick (without_record key p)) (same leaf some there)
          ∙ (sym (ap (λ (p : PageState). with_clock ((m leaf).clock + 1) p) dropped) ∙ sym (ticked-touched m (mark leaf untouched) (drop_at m leaf key) leaf (mark-own leaf untouched leaf refl)))))
      | inr nl ↦
          set-other leaf _ old new sets n (λ e. nl (sym e)) ∙ (same n ne (was-there n h)
          ∙ (sym (kept n nl) ∙ sym (ticked-untouched m (mark leaf untouched) (drop_at m leaf key) n (mark-skip leaf untouched n nl))))
    ];
    moved = λ n ne. elim (cases_eq n leaf) [
      | inl e ↦ subst (λ q. HasMoved (with_move leaf (Takes key) unmoved q) (changed_of q old) (changed_of q new)) (sym e)
          (subst (λ (mv : Move). HasMoved mv (changed_of leaf old) (changed_of leaf new)) (sym (with_move-own leaf (Takes key) unmoved leaf refl)) taken)
      | inr nl ↦ subst (λ (mv : Move). HasMoved mv (changed_of n old) (changed_of n new)) (sym (with_move-other leaf (Takes key) unmoved n nl))
          (moved-still (changed_of n old) (changed_of n new) (set-others leaf _ old new sets n (λ e. nl (sym e))))
    ];
    kept = λ n ne off. set-others leaf _ old new sets n (λ e. (mark-off leaf untouched n off).0 (sym e));
    space = set-others leaf _ old new sets 0 some;
    bits_are = λ n. refl;
    taken = tt;
    zero_is = mark-skip leaf untouched 0 (λ e. some (sym e));
    lost = refl;
    own = mark-own leaf untouched leaf refl;
    low = λ n ne np on. absurd (let off = mark-skip leaf untouched n np in cc);
    links = λ z. ap (λ (p : PageState). p.next) dropped;
    single = λ y up e. absurd (omega arith);
  }

-- one level more
module _ (m : PageMemory) (bits : ℕ → ℕ) (roots : ℕ) (law : IsLawful m bits roots) (key : MapKey) (in-range : rank key < end_rank)
    (root : ℕ) (some : 0 < root) (le : root ≤ roots) (depth height page : ℕ) (tall : height_of m root ≡ above depth (suc height)) (at : page_below m key depth root ≡ page)
    (s : Shrinkage) (was : IsDeletedBelow m roots key root height (child_for key 0 (m page).records) s) (freed : List ℕ) (old mid : List WorkPage)
    (x : IsAt m bits height (child_for key 0 (m page).records) s freed old mid) where
  abbrev child : ℕ
  child = child_for key 0 (m page).records

  -- a page that was touched is one below the page
  pub touched-low : (n : ℕ) → n ≢ 0 → n ≢ child → height ≤ (m n).level → s.touched n ≡ false
  touched-low n ne nc up = not-true (s.touched n) (λ on. let l = x.low n ne nc on in omega arith)

  pub above-is : PathAbove m s.memory key root depth height page
  above-is = PathAbove-delete m bits roots law key in-range root some le height depth page tall at s was

  pub child-level : (m child).level ≡ height
  child-level = above-is.child_page.level

  pub child-some : child ≢ 0
  child-some = above-is.child_page.some

  page-not_child : page ≢ child
  page-not_child e = let a = ap (λ q. (m q).level) e in let b = above-is.level in omega (arith, child-level)

  pub page-off : page ≢ 0 → s.touched page ≡ false
  page-off ne = touched-low page ne page-not_child (let b = above-is.level in omega arith)

  -- a page that was not touched is as it was
  pub kept-off : (n : ℕ) → n ≢ 0 → IsThere mid n → s.touched n ≡ false → memory_in mid n ≡ s.memory n
  kept-off n ne h off = x.same n ne h ∙ ticked-untouched m s.touched s.memory n off

  -- the child's clock has ticked
  pub child-there : IsThere mid child
  child-there = x.there child child-some x.own

  pub child-mid : memory_in mid child ≡ with_clock ((m child).clock + 1) (s.memory child)
  child-mid = x.same child child-some child-there ∙ ticked-touched m s.touched s.memory child x.own

  -- a sibling of the child
  module _ (sib : ℕ) (ne : sib ≢ 0) (nc : sib ≢ child) (same : s.memory sib ≡ m sib) (level : (s.memory sib).level ≡ height) (h : IsThere mid sib) where
    pub sib-off : s.touched sib ≡ false
    sib-off = touched-low sib ne nc (let e = ap (λ (p : PageState). p.level) same in omega (arith, level))

    pub sib-mid : memory_in mid sib ≡ s.memory sib
    sib-mid = kept-off sib ne h sib-off

  module _ (before : Pairs) (pair gone : MapKey × ℕ) (behind : Pairs) (is : (s.memory page).records ≡ before ++ pair ∷ gone ∷ behind)
      (fits : length (s.memory pair.1).records + length (s.memory gone.1).records ≤ MOST_RECORDS) (page-some : page ≢ 0)
      (beside : ℕ) (which : ((pair.1 ≡ child) × (beside ≡ gone.1)) ⊎ ((gone.1 ≡ child) × (beside ≡ pair.1))) (can : CanMerge page pair.1 gone.1 beside mid)
      (new : List WorkPage) (mg : IsMerged page pair.1 gone beside mid new) where
    ps : SiblingPages s.memory height page pair.1 gone.1
    ps = pages m bits roots law key in-range root some le height depth page tall at s was before pair gone behind is fits

    sames : (pair.1 ≢ child → s.memory pair.1 ≡ m pair.1) × (gone.1 ≢ child → s.memory gone.1 ≡ m gone.1)
    sames = sibling-same m bits roots law key in-range root some le height depth page tall at s was before pair gone behind (ap (λ (p : PageState). p.records) (sym above-is.same) ∙ is)

    left-there : IsThere mid pair.1
    left-there = IsSome-and IsTreePage _ can.left_there

    gone-there : IsThere mid gone.1
    gone-there = IsSome-and IsTreePage _ can.gone_there

    page-there : IsThere mid page
    page-there = IsSome-and IsTreePage _ can.parent_there

    abbrev next : ℕ
    next = (s.memory gone.1).next

    -- the two pages
    record TwoPages : Type 0 where
      left_is : memory_in new pair.1 ≡ with_clock ((m pair.1).clock + 1) (joined (s.memory pair.1) (s.memory gone.1))
      gone_is : memory_in new gone.1 ≡ with_clock ((m gone.1).clock + 1) (freed_page (s.memory gone.1))
      next_is : (memory_in mid gone.1).next ≡ (s.memory gone.1).next
      levels : ((m pair.1).level ≡ height) × ((m gone.1).level ≡ height)
      next_child : (s.memory gone.1).next ≢ 0 → (s.memory gone.1).next ≢ child

    two : TwoPages
    two = elim which [
      | inl w ↦
          let gn : gone.1 ≢ child = λ e. ps.apart (w.0 ∙ sym e) in
          let same : s.memory gone.1 ≡ m gone.1 = sames.1 gn in
          let mid-gone : memory_in mid gone.1 ≡ s.memory gone.1 = sib-mid gone.1 ps.gone_some gn same ps.gone_level gone-there in
          let mid-left : memory_in mid pair.1 ≡ with_clock ((m pair.1).clock + 1) (s.memory pair.1) = subst (λ q. memory_in mid q ≡ with_clock ((m q).clock + 1) (s.memory q)) (sym w.0) child-mid in
          let b = beside-gone page pair.1 gone beside mid new can mg w.1 in
          record {
            left_is = b.0 ∙ (ap (λ (p : PageState). joined p (memory_in mid gone.1)) mid-left ∙ ap (λ (q : PageState). joined (with_clock ((m pair.1).clock + 1) (s.memory pair.1)) q) mid-gone);
            gone_is = b.1 ∙ (ap (λ (p : PageState). tick (freed_page p)) mid-gone ∙ ap (λ (p : PageState). with_clock (p.clock + 1) (freed_page (s.memory gone.1))) same);
            next_is = ap (λ (p : PageState). p.next) mid-gone;
            levels = (ap (λ q. (m q).level) w.0 ∙ child-level, ap (λ (p : PageState). p.level) (sym same) ∙ ps.gone_level);
            next_child = λ ne e. (ps.behind ne).not_left (e ∙ sym w.0);
          }
      | inr w ↦
          let ln : pair.1 ≢ child = λ e. ps.apart (e ∙ sym w.0) in
          let same : s.memory pair.1 ≡ m pair.1 = sames.0 ln in
          let mid-left : memory_in mid pair.1 ≡ s.memory pair.1 = sib-mid pair.1 ps.left_some ln same ps.left_level left-there in
          let mid-gone : memory_in mid gone.1 ≡ with_clock ((m gone.1).clock + 1) (s.memory gone.1) = subst (λ q. memory_in mid q ≡ with_clock ((m q).clock + 1) (s.memory q)) (sym w.0) child-mid in
          let b = beside-left page pair.1 gone beside mid new can mg w.1 in
          record {
            left_is = b.0 ∙ (ap (λ (p : PageState). tick (joined p (memory_in mid gone.1))) mid-left
                ∙ (ap (λ (q : PageState). tick (joined (s.memory pair.1) q)) mid-gone ∙ ap (λ (p : PageState). with_clock (p.clock + 1) (joined (s.memory pair.1) (s.memory gone.1))) same));
            gone_is = b.1 ∙ ap freed_page mid-gone;
            next_is = ap (λ (p : PageState). p.next) mid-gone;
            levels = (ap (λ (p : PageState). p.level) (sym same) ∙ ps.left_level, ap (λ q. (m q).level) w.0 ∙ child-level);
            next_child = λ ne e. (ps.behind ne).not_gone (e ∙ sym w.0);
          }
    ]

    -- the page itself
    page-new : memory_in new page ≡ with_clock ((m page).clock + 1) (with_records (without gone.0 (s.memory page).records) (s.memory page))
    page-new =
        merged-parent page pair.1 gone beside mid new can mg
        ∙ (ap (λ (p : PageState). tick (without_record gone.0 p)) (kept-off page page-some page-there (page-off page-some))
        ∙ ap (λ (p : PageState). with_clock (p.clock + 1) (with_records (without gone.0 (s.memory page).records) (s.memory page))) above-is.same)

    -- the leaf behind
    module _ (ne : next ≢ 0) where
      next-off : s.touched next ≡ false
      next-off = touched-low next ne (two.next_child ne) (let z = (ps.behind ne).low in omega arith)

      next-was : s.memory next ≡ m next
      next-was = was.rest next next-off

      next-there : IsThere mid next
      next-there = subst (IsThere mid) two.next_is (IsSome-and IsTreePage _ (can.next_there (λ z. ne (sym two.next_is ∙ z))))

      next-new : memory_in new next ≡ with_clock ((m next).clock + 1) (with_prev pair.1 (s.memory next))
      next-new =
          subst (λ q. memory_in new q ≡ tick (with_prev pair.1 (memory_in mid q))) two.next_is (merged-next page pair.1 gone beside mid new can mg (λ z. ne (sym two.next_is ∙ z)))
          ∙ (ap (λ (p : PageState). tick (with_prev pair.1 p)) (kept-off next ne next-there next-off)
          ∙ ap (λ (p : PageState). with_clock (p.clock + 1) (with_prev pair.1 (s.memory next))) next-was)

      next-level : (m next).level ≡ 0
      next-level = ap (λ (p : PageState). p.level) (sym next-was) ∙ (ps.behind ne).level

    -- .. is the one that the plan names
    next-named : (n : ℕ) → n ≢ gone.1 → n ≡ next_or gone.1 (s.memory gone.1) → (next ≢ 0) × (n ≡ next)
    next-named n ng e = elim (cases_eq next 0) [
      | inl z ↦ absurd (ng (e ∙ cond-eq next 0 gone.1 next z))
      | inr ne ↦ (ne, e ∙ next_or-next gone.1 (s.memory gone.1) ne)
    ]

    -- which pages the merge touches
    abbrev t-next : ℕ → Bool
    t-next = mark (next_or gone.1 (s.memory gone.1)) s.touched

    abbrev t-page : ℕ → Bool
    t-page = mark page t-next

    abbrev t-left : ℕ → Bool
    t-left = mark pair.1 t-page

    abbrev t-gone : ℕ → Bool
    t-gone = mark gone.1 t-left

    abbrev t-all : ℕ → Bool
    t-all = mark 0 t-gone

    on-all : (n : ℕ) → t-gone n ≡ true → t-all n ≡ true
    on-all n on = mark-on 0 t-gone n on

    on-left : (n : ℕ) → t-left n ≡ true → t-all n ≡ true
    on-left n on = on-all n (mark-on gone.1 t-left n on)

    on-page : (n : ℕ) → t-page n ≡ true → t-all n ≡ true
    on-page n on = on-left n (mark-on pair.1 t-page n on)

    on-next : (n : ℕ) → t-next n ≡ true → t-all n ≡ true
    on-next n on = on-page n (mark-on page t-next n on)

    abbrev planned : PageMemory
    planned = merge_pages s.memory page pair.1 gone

    reads-new : reads_of new ≡ reads_of mid
    reads-new = merged-reads page pair.1 gone beside mid new can mg

    there-new : (n : ℕ) → IsThere mid n → IsThere new n
    there-new n h = there-reads mid new n reads-new h

    -- a page that is not the one that the plan names is not the leaf behind
    apart-next : (n : ℕ) → n ≢ next_or gone.1 (s.memory gone.1) → (memory_in mid gone.1).next ≢ 0 → n ≢ (memory_in mid gone.1).next
    apart-next n nn ne e = nn (e ∙ (two.next_is ∙ sym (next_or-next gone.1 (s.memory gone.1) (λ z. ne (two.next_is ∙ z)))))

    -- a page that the merge does not touch is as it was
    kept-new : (n : ℕ) → n ≢ 0 → t-all n ≡ false → changed_of n new ≡ changed_of n old
    kept-new n nz off =
        let a = mark-off 0 t-gone n off in
        let b = mark-off gone.1 t-left n a.1 in
        let c = mark-off pair.1 t-page n b.1 in
        let d = mark-off page t-next n c.1 in
        let e = mark-off (next_or gone.1 (s.memory gone.1)) s.touched n d.1 in
        merged-others page pair.1 gone beside mid new can mg n c.0 b.0 d.0 (apart-next n e.0) ∙ x.kept n nz e.1

    moved-new : (n : ℕ) → n ≢ 0 → HasMoved ((merged s page pair.1 gone).moves n) (changed_of n old) (changed_of n new)
    moved-new n nz = elim (cases_eq n gone.1) [
      | inl e ↦ subst (λ (mv : Move). HasMoved mv (changed_of n old) (changed_of n new)) (sym (ap (merged s page pair.1 gone).moves e ∙ moves-gone page pair.1 gone s.moves)) (freed-any (changed_of n old) (changed_of n new))
      | inr ng ↦ elim (cases_eq n pair.1) [
        | inl e ↦ subst (λ q. HasMoved ((merged s page pair.1 gone).moves q) (changed_of q old) (changed_of q new)) (sym e)
            (subst (λ (mv : Move). HasMoved mv (changed_of pair.1 old) (changed_of pair.1 new)) (sym (moves-left page pair.1 gone s.moves ps.apart))
            (filled-any (changed_of pair.1 old) (changed_of pair.1 mid) (changed_of pair.1 new) left-there
            (subst (λ (mv : Move). HasMoved mv (changed_of pair.1 mid) (changed_of pair.1 new)) (moves-left page pair.1 gone unmoved ps.apart) (mg.moved pair.1))))
        | inr nl ↦ elim (cases_eq n page) [
          | inl e ↦ subst (λ q. HasMoved ((merged s page pair.1 gone).moves q) (changed_of q old) (changed_of q new)) (sym e)
              (moved-alike (Takes gone.0) ((merged s page pair.1 gone).moves page) (changed_of page mid) (changed_of page old) (changed_of page new) (changed_of page new)
              (sym (moves-parent page pair.1 gone s.moves can.parent_gone can.parent_left)) (sym (x.kept page page-some (page-off page-some))) refl
              (subst (λ (mv : Move). HasMoved mv (changed_of page mid) (changed_of page new)) (moves-parent page pair.1 gone unmoved can.parent_gone can.parent_left) (mg.moved page)))
          | inr np ↦ subst (λ (mv : Move). HasMoved mv (changed_of n old) (changed_of n new)) (sym (moves-other page pair.1 gone s.moves n ng nl np))
              (then-still-was (s.moves n) (changed_of n old) (changed_of n mid) (changed_of n new) (there-reads new mid n (sym reads-new)) (x.moved n nz)
              (subst (λ (mv : Move). HasMoved mv (changed_of n mid) (changed_of n new)) (moves-other page pair.1 gone unmoved n ng nl np) (mg.moved n)))
        ]
      ]
    ]

    same-new : (n : ℕ) → n ≢ 0 → IsThere new n → memory_in new n ≡ ticked m t-all planned n
    same-new n nz h = elim (cases_eq n gone.1) [
      | inl e ↦ subst (λ q. memory_in new q ≡ ticked m t-all planned q) (sym e)
          (two.gone_is ∙ (sym (ap (with_clock ((m gone.1).clock + 1)) (merge_pages-gone s.memory page pair.1 gone)) ∙ sym (ticked-touched m t-all planned gone.1 (on-all gone.1 (mark-own gone.1 t-left gone.1 refl)))))
      | inr ng ↦ elim (cases_eq n pair.1) [
        | inl e ↦ subst (λ q. memory_in new q ≡ ticked m t-all planned q) (sym e)
            (two.left_is ∙ (sym (ap (with_clock ((m pair.1).clock + 1)) (merge_pages-left s.memory page pair.1 gone ps.apart)) ∙ sym (ticked-touched m t-all planned pair.1 (on-left pair.1 (mark-own pair.1 t-page pair.1 refl)))))
        | inr nl ↦ elim (cases_eq n page) [
          | inl e ↦ subst (λ q. memory_in new q ≡ ticked m t-all planned q) (sym e)
              (page-new ∙ (sym (ap (with_clock ((m page).clock + 1)) (merge_pages-parent s.memory page pair.1 gone (parent-not_gone s.memory height page pair.1 gone.1 ps) (parent-not_left s.memory height page pair.1 gone.1 ps)))
              ∙ sym (ticked-touched m t-all planned page (on-page page (mark-own page t-next page refl)))))
          | inr np ↦ elim (cases_eq n (next_or gone.1 (s.memory gone.1))) [
            | inl e ↦
                let w = next-named n ng e in
                let here : planned n ≡ with_prev pair.1 (s.memory n) = merge_pages-next s.memory page pair.1 gone n ng nl np e in
                subst (λ q. memory_in new q ≡ with_clock ((m q).clock + 1) (with_prev pair.1 (s.memory q))) (sym w.1) (next-new w.0)
                ∙ (sym (ap (with_clock ((m n).clock + 1)) here) ∙ sym (ticked-touched m t-all planned n (on-next n (mark-own (next_or gone.1 (s.memory gone.1)) s.touched n e))))
            | inr nn ↦
                let off : t-all n ≡ s.touched n =
                mark-skip 0 t-gone n nz ∙ (mark-skip gone.1 t-left n ng ∙ (mark-skip pair.1 t-page n nl ∙ (mark-skip page t-next n np ∙ mark-skip (next_or gone.1 (s.memory gone.1)) s.touched n nn))) in
                let was-n : changed_of n new ≡ changed_of n mid = merged-others page pair.1 gone beside mid new can mg n nl ng np (apart-next n nn) in
                ap state_or_free was-n ∙ (x.same n nz (subst IsSome was-n h)
                ∙ (ap (λ b. cond b (with_clock ((m n).clock + 1) (s.memory n)) (s.memory n)) (sym off)
                ∙ ap (λ (p : PageState). cond (t-all n) (with_clock ((m n).clock + 1) p) p) (sym (merge_pages-other s.memory page pair.1 gone n ng nl np nn))))
          ]
        ]
      ]
    ]

    -- a page that is touched now
    touched-new : (n : ℕ) → n ≢ 0 → t-all n ≡ true → (n ≡ gone.1) ⊎ ((n ≡ pair.1) ⊎ ((n ≡ page) ⊎ (((next ≢ 0) × (n ≡ next)) ⊎ (s.touched n ≡ true))))
    touched-new n nz on = elim (mark-split 0 t-gone n on) [
      | inl e ↦ absurd (nz e)
      | inr a ↦ elim (mark-split gone.1 t-left n a) [
        | inl e ↦ inl e
        | inr b ↦ elim (mark-split pair.1 t-page n b) [
          | inl e ↦ inr (inl e)
          | inr c ↦ elim (mark-split page t-next n c) [
            | inl e ↦ inr (inr (inl e))
            | inr d ↦ elim (cases_eq n gone.1) [
              | inl e ↦ inl e
              | inr ng ↦ elim (mark-split (next_or gone.1 (s.memory gone.1)) s.touched n d) [
                | inl e ↦ inr (inr (inr (inl (next-named n ng e))))
                | inr f ↦ inr (inr (inr (inr f)))
              ]
            ]
          ]
        ]
      ]
    ]

    -- the bit of the page that goes was set
    gone-set : s.bits gone.1 ≢ 0
    gone-set z = let f = was.lawful.unmet gone.1 z in let k = ps.gone_kind in absurd (cc)

    pub gone-few : gone.1 < MAPPED_PAGES
    gone-few = elim (cases_lt gone.1 MAPPED_PAGES) [ inl lt ↦ lt | inr ge ↦ absurd (gone-set (was.lawful.few gone.1 ge)) ]

    single-pair : (front : Pairs) (y : MapKey × ℕ) → front ++ pair ∷ behind ≡ y ∷ [] → pair ≡ y
    single-pair [] y e = ap (λ (rs : Pairs). first-or rs) e
      where
        first-or : Pairs → MapKey × ℕ
        first-or [] = pair
        first-or (r ∷ rs) = r
    single-pair (z ∷ zs) y e = absurd (let l = ap length e in let a = length-append zs (pair ∷ behind) in omega arith)

    page-records : (planned page).records ≡ before ++ pair ∷ behind
    page-records =
        ap (λ (p : PageState). p.records) (merge_pages-parent s.memory page pair.1 gone (parent-not_gone s.memory height page pair.1 gone.1 ps) (parent-not_left s.memory height page pair.1 gone.1 ps))
        ∙ (ap (without gone.0) is ∙ without-second before pair gone behind (subst (λ rs. Rises 0 rs end_rank) is (was.lawful.sound page page-some).ascends))

    pub IsAt-merged : IsAt m bits (suc height) page (merged s page pair.1 gone) (freed ++ gone.1 ∷ []) old new
    IsAt-merged = record {
      reads = reads-new ∙ x.reads;
      there = λ n nz on. elim (touched-new n nz on) [
        | inl e ↦ subst (IsThere new) (sym e) (there-new gone.1 gone-there)
        | inr a ↦ elim a [
          | inl e ↦ subst (IsThere new) (sym e) (there-new pair.1 left-there)
          | inr b ↦ elim b [
            | inl e ↦ subst (IsThere new) (sym e) (there-new page page-there)
            | inr d ↦ elim d [
              | inl e ↦ subst (IsThere new) (sym e.1) (there-new next (next-there e.0))
              | inr f ↦ there-new n (x.there n nz f)
            ]
          ]
        ]
      ];
      same = same-new;
      moved = moved-new;
      kept = kept-new;
      space = merged-others page pair.1 gone beside mid new can mg 0 (λ e. ps.left_some (sym e)) (λ e. ps.gone_some (sym e)) (λ e. page-some (sym e)) (λ ne e. ne (sym e)) ∙ x.space;
      bits_are = λ n. ap (λ k. cond (eqb n gone.1) 0 k) (x.bits_are n) ∙ sym (ap (λ (f : ℕ → ℕ). f n) (with_bits-last freed gone.1 bits));
      taken = AreTaken-last freed gone.1 bits x.taken (λ z. gone-set (x.bits_are gone.1 ∙ z)) gone-few;
      zero_is = mark-own 0 t-gone 0 refl ∙ sym (lt-ltb 0 (length (freed ++ gone.1 ∷ [])) (let l = length-append freed (gone.1 ∷ []) in omega arith));
      lost = refl;
      own = on-page page (mark-own page t-next page refl);
      low = λ n nz np on. elim (touched-new n nz on) [
        | inl e ↦ let l = ap (λ q. (m q).level) e in let k = two.levels.1 in omega arith
        | inr a ↦ elim a [
          | inl e ↦ let l = ap (λ q. (m q).level) e in let k = two.levels.0 in omega arith
          | inr b ↦ elim b [
            | inl e ↦ absurd (np e)
            | inr d ↦ elim d [
              | inl e ↦ let l = ap (λ q. (m q).level) e.1 in let k = next-level e.0 in omega arith
              | inr f ↦ elim (cases_eq n child) [
                | inl e ↦ let l = ap (λ q. (m q).level) e in omega (arith, child-level)
                | inr nc ↦ let l = x.low n nz nc f in omega arith
              ]
            ]
          ]
        ]
      ];
      links = λ z. absurd (omega arith);
      single = λ y up e.
          let eq : pair ≡ y = single-pair before y (sym page-records ∙ e) in
          subst (λ (q : MapKey × ℕ). t-all q.1 ≡ true) eq (on-left pair.1 (mark-own pair.1 t-page pair.1 refl));
    }
