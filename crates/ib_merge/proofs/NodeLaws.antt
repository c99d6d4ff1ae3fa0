-- A node of the key's path whose child has lost a record, in a work set: which two pages are merged there, and that they may be.
use Rattle.std.proofs.Common.{◌≡◌, ◌≢◌, ◌∙◌, ℕ, suc, ◌+◌, ◌<◌, ◌≤◌, ◌⊎◌, ◌^◌, List, [], ◌∷◌, ◌++◌, length, append_assoc, refl, sym, ap, subst, inl, inr, true, arith, ltb, Option, Some, None}
use Rattle.std.specs.Prelude.{IsSomeAnd, IfSome, MatchOption, slice_get}
use Rattle.std.proofs.lemmas.Bool.{cases_lt}
use Rattle.ib_map.specs.Keys.{MapKey, end_rank, rank}
use Rattle.ib_map.specs.Pairs.{Pairs, Rises}
use Rattle.ib_map.proofs.KeyLaws.{rank-lt_end}
use Rattle.ib_heap.specs.declared.TheConstants.{MOST_RECORDS}
use Rattle.ib_page.specs.declared.space.TheConstants.{MAPPED_PAGES}
use Rattle.ib_page.specs.Image.{IsTreePage}
use Rattle.ib_page.specs.Work.{WorkPage, changed_of}
use Rattle.ib_heap.proofs.RouteLaws.{IfSome_from}
use Rattle.ib_walk.specs.Pages.{Tree, PageState, PageMemory}
use Rattle.ib_walk.specs.Search.{child_for, page_below}
use Rattle.ib_walk.specs.Trees.{height_of}
use Rattle.ib_walk.proofs.MeetLaws.{HasLinks}
use Rattle.ib_walk.proofs.SearchLaws.{above}
use Rattle.ib_walk.proofs.WalkLaws.{IsAlike}
use Rattle.ib_plans.specs.declared.TheConstants.{FEWEST_RECORDS}
use Rattle.ib_plans.specs.Delete.{Shrinkage, merge_short, merged}
use Rattle.ib_plans.specs.Merge.{Siblings, siblings_of}
use Rattle.ib_plans.specs.Agreement.{IsThere, memory_in, Agrees}
use Rattle.ib_plans.proofs.ClockLaws.{ticked-alike, ticked-links}
use Rattle.ib_plans.proofs.DeleteLaws.{IsDeletedBelow, IsDeletedBelow-step, sibling-same, siblings}
use Rattle.ib_plans.proofs.MergePageLaws.{merge_pages-left}
use Rattle.ib_plans.proofs.PathLaws.{PathAbove, PathPage-below}
use Rattle.ib_plans.proofs.SiblingLaws.{SiblingPages, SiblingPages-path, parent-not_gone, parent-not_left, behind-not_parent}
use Rattle.ib_plans.proofs.SiblingRecordLaws.{HasSiblings as AreSiblings, one_or_none}
use Rattle.ib_merge.specs.declared.edits.Merger.{Merger}
use Rattle.ib_merge.specs.Deletes.{HasSiblings, HasNext, HasChild, CanChoose, CanMerge, IsMerged, merger_of}
use Rattle.ib_merge.proofs.AtLaws.{IsAt, IsAt-merged, above-is, child-some, child-there, page-off, kept-off, sib-mid, touched-low}
use Rattle.ib_merge.proofs.ImageLaws.{there-tree}
use Rattle.ib_merge.proofs.MergerLaws.{chosen-with, merger_of-same, short-merged}
use Rattle.ib_merge.proofs.NextLaws.{first-not_above, next-beside}
use Rattle.ib_merge.proofs.OnPathLaws.{there-reads}

pub on-some : (o : Option (MapKey × ℕ)) (P : MapKey × ℕ → Type 0) (y : MapKey × ℕ) → o ≡ Some y → IfSome o P → P y
on-some o P y is holds = let Q : Option (MapKey × ℕ) → Type 0 = λ q. IfSome q P in subst Q is holds

module _ (pages roots root : ℕ) (key : MapKey) (path : List ℕ) (old : List WorkPage) (m : PageMemory) (bits : ℕ → ℕ) (a : Agrees pages roots root key path old m bits)
    (depth height page : ℕ) (tall : height_of m root ≡ above depth (suc height)) (at : page_below m key depth root ≡ page)
    (s : Shrinkage) (was : IsDeletedBelow m roots key root height (child_for key 0 (m page).records) s) (freed : List ℕ) (mid : List WorkPage)
    (x : IsAt m bits height (child_for key 0 (m page).records) s freed old mid) (page-was : IsThere old page) where
  abbrev child : ℕ
  child = child_for key 0 (m page).records

  abbrev t : Siblings
  t = siblings_of key (s.memory page).records

  in-range : rank key < end_rank
  in-range = rank-lt_end key

  up : PathAbove m s.memory key root depth height page
  up = above-is m bits roots a.lawful key in-range root a.some a.within depth height page tall at s was freed old mid x

  pub page-some : page ≢ 0
  page-some e = (PathPage-below (λ n. MOST_RECORDS) m bits roots a.lawful key in-range root a.some a.within depth (suc height) tall).some (at ∙ e)

  mid-there : (n : ℕ) → IsThere old n → IsThere mid n
  mid-there n h = there-reads old mid n x.reads h

  old-there : (n : ℕ) → IsThere mid n → IsThere old n
  old-there n h = there-reads mid old n (sym x.reads) h

  -- pages that are there are those of the plan but for their clocks
  pub mid-alike : (n : ℕ) → n ≢ 0 → IsThere mid n → IsAlike (memory_in mid n) (s.memory n)
  mid-alike n ne h = subst (λ (p : PageState). IsAlike p (s.memory n)) (sym (x.same n ne h)) (ticked-alike m s.touched s.memory n)

  mid-links : (n : ℕ) → n ≢ 0 → IsThere mid n → HasLinks (memory_in mid n) (s.memory n)
  mid-links n ne h = subst (λ (p : PageState). HasLinks p (s.memory n)) (sym (x.same n ne h)) (ticked-links m s.touched s.memory n)

  pub page-mid : memory_in mid page ≡ s.memory page
  page-mid = kept-off m bits roots a.lawful key in-range root a.some a.within depth height page tall at s was freed old mid x page page-some (mid-there page page-was)
      (page-off m bits roots a.lawful key in-range root a.some a.within depth height page tall at s was freed old mid x page-some)

  -- the siblings are the same, before and now
  t-old : siblings_of key (memory_in old page).records ≡ t
  t-old = ap (λ (p : PageState). siblings_of key p.records) (a.same page page-some page-was ∙ sym up.same)

  pub t-mid : siblings_of key (memory_in mid page).records ≡ t
  t-mid = ap (λ (p : PageState). siblings_of key p.records) page-mid

  hs : AreSiblings (s.memory page).records (child_for key 0 (s.memory page).records) t
  hs = siblings m bits roots a.lawful key in-range root a.some a.within height depth page tall at s was

  pub here-is : t.here.1 ≡ child
  here-is = hs.here ∙ up.child

  left-is : (l : MapKey × ℕ) → t.left ≡ Some l → (s.memory page).records ≡ hs.before ++ l ∷ t.here ∷ (one_or_none t.right ++ hs.behind)
  left-is l e = subst (λ (o : Option (MapKey × ℕ)). (s.memory page).records ≡ hs.before ++ (one_or_none o ++ t.here ∷ (one_or_none t.right ++ hs.behind))) e hs.is

  right-is : (r : MapKey × ℕ) → t.right ≡ Some r → (s.memory page).records ≡ (hs.before ++ one_or_none t.left) ++ t.here ∷ r ∷ hs.behind
  right-is r e =
      subst (λ (o : Option (MapKey × ℕ)). (s.memory page).records ≡ hs.before ++ (one_or_none t.left ++ t.here ∷ (one_or_none o ++ hs.behind))) e hs.is
      ∙ sym (append_assoc hs.before (one_or_none t.left) (t.here ∷ r ∷ hs.behind))

  beside-pages : (before : Pairs) (pair gone : MapKey × ℕ) (behind : Pairs) → (s.memory page).records ≡ before ++ pair ∷ gone ∷ behind → SiblingPages s.memory height page pair.1 gone.1
  beside-pages before pair gone behind is = SiblingPages-path s.memory s.bits roots was.lawful key in-range root a.some a.within depth height up.tall page up.path before pair gone behind is

  -- a page of the tree that is there may be read, and its number fits its type
  has-child : (y : MapKey × ℕ) → y.1 ≢ 0 → IsThere mid y.1 → (s.memory y.1).kind ≡ Tree → HasChild mid y
  has-child y ne h kind = (
    there-tree (changed_of y.1 mid) ((mid-alike y.1 ne h).kind ∙ kind),
    elim (cases_lt y.1 MAPPED_PAGES) [ inl lt ↦ omega arith | inr ge ↦ absurd (let f = was.lawful.unmet y.1 (was.lawful.few y.1 ge) in cc) ],
  )

  child-at : IsThere mid t.here.1
  child-at = subst (IsThere mid) (sym here-is) (child-there m bits roots a.lawful key in-range root a.some a.within depth height page tall at s was freed old mid x)

  here-some : t.here.1 ≢ 0
  here-some e = child-some m bits roots a.lawful key in-range root a.some a.within depth height page tall at s was freed old mid x (sym here-is ∙ e)

  -- what the images of the path have beside it
  module _ (beside : HasSiblings key old page) where
    left-at : (l : MapKey × ℕ) → t.left ≡ Some l → IsThere mid l.1
    left-at l e = mid-there l.1 (on-some t.left (λ y. IsThere old y.1) l e (subst (λ (u : Siblings). IfSome u.left (λ y. IsThere old y.1)) t-old beside.0))

    right-at : (r : MapKey × ℕ) → t.right ≡ Some r → IsThere mid r.1
    right-at r e = mid-there r.1 (on-some t.right (λ y. IsThere old y.1) r e (subst (λ (u : Siblings). IfSome u.right (λ y. IsThere old y.1)) t-old beside.1))

    pub can-choose : CanChoose page key mid
    can-choose = record {
      parent_there = there-tree (changed_of page mid) (ap (λ (p : PageState). p.kind) (page-mid ∙ up.same) ∙ up.kind);
      first = subst (λ (p : PageState). IsSomeAnd (slice_get p.records 0) (λ r. rank r.0 ≤ rank key)) (sym (page-mid ∙ up.same))
          (first-not_above m bits roots a.lawful key in-range root a.some a.within depth height tall page at);
      left = subst (λ (u : Siblings). IfSome u.left (HasChild mid)) (sym t-mid)
          (IfSome_from t.left (HasChild mid) (λ l e. let p = beside-pages hs.before l t.here (one_or_none t.right ++ hs.behind) (left-is l e) in has-child l p.left_some (left-at l e) p.left_kind));
      here = subst (λ (u : Siblings). HasChild mid u.here) (sym t-mid) (has-child t.here here-some child-at (subst (λ q. (s.memory q).kind ≡ Tree) (sym here-is) was.kind));
      right = subst (λ (u : Siblings). IfSome u.right (HasChild mid)) (sym t-mid)
          (IfSome_from t.right (HasChild mid) (λ r e. let p = beside-pages (hs.before ++ one_or_none t.left) t.here r hs.behind (right-is r e) in has-child r p.gone_some (right-at r e) p.gone_kind));
    }

    -- so the plan chooses the same two pages
    pub same-choice : merger_of (memory_in mid) (siblings_of key (memory_in mid page).records) ≡ merger_of s.memory t
    same-choice =
        ap (λ (u : Siblings). merger_of (memory_in mid) u) t-mid
        ∙ merger_of-same (memory_in mid) s.memory t
        (IfSome_from t.left (λ y. (memory_in mid y.1).records ≡ (s.memory y.1).records) (λ l e. let p = beside-pages hs.before l t.here (one_or_none t.right ++ hs.behind) (left-is l e) in (mid-alike l.1 p.left_some (left-at l e)).records))
        (mid-alike t.here.1 here-some child-at).records
        (IfSome_from t.right (λ y. (memory_in mid y.1).records ≡ (s.memory y.1).records) (λ r e. let p = beside-pages (hs.before ++ one_or_none t.left) t.here r hs.behind (right-is r e) in (mid-alike r.1 p.gone_some (right-at r e)).records))

  -- the two pages stand side by side, and one of them is the child
  record Choice (g : Merger) : Type 0 where
    before : Pairs
    pair : MapKey × ℕ
    gone : MapKey × ℕ
    behind : Pairs
    beside : ℕ
    is : (s.memory page).records ≡ before ++ pair ∷ gone ∷ behind
    fits : length (s.memory pair.1).records + length (s.memory gone.1).records ≤ MOST_RECORDS
    which : ((pair.1 ≡ child) × (beside ≡ gone.1)) ⊎ ((gone.1 ≡ child) × (beside ≡ pair.1))
    sides : ((gone ≡ t.here) × (t.left ≡ Some pair)) ⊎ ((pair ≡ t.here) × (t.right ≡ Some gone))
    chosen : record { left = pair.1; gone = gone; beside = beside } ≡ g

  choice-of : (g : Merger) → merger_of s.memory t ≡ Some g → Choice g
  choice-of g e = elim (chosen-with s.memory t g e) [
    | inl w ↦ record {
      before = hs.before;
      pair = w.left;
      gone = t.here;
      behind = one_or_none t.right ++ hs.behind;
      beside = w.left.1;
      is = left-is w.left w.is;
      fits = w.fits;
      which = inr (here-is, refl);
      sides = inl (refl, w.is);
      chosen = w.chosen;
    }
    | inr w ↦ record {
      before = hs.before ++ one_or_none t.left;
      pair = t.here;
      gone = w.right;
      behind = hs.behind;
      beside = w.right.1;
      is = right-is w.right w.is;
      fits = w.fits;
      which = inl (here-is, refl);
      sides = inr (refl, w.is);
      chosen = w.chosen;
    }
  ]

  -- the child has few records, and two pages are chosen
  module _ (g : Merger) (few : ltb (length (s.memory t.here.1).records) FEWEST_RECORDS ≡ true) (picks : merger_of s.memory t ≡ Some g) where
    stepped : IsDeletedBelow m roots key root (suc height) page (merged s page g.left g.gone)
    stepped = subst (IsDeletedBelow m roots key root (suc height) page) (short-merged key page s x.lost g few picks)
        (IsDeletedBelow-step m bits roots a.lawful key in-range root a.some a.within height depth page tall at s was)

    -- so they are merged
    pub IsAt-step : (new : List WorkPage) → CanMerge page g.left g.gone.1 g.beside mid → IsMerged page g.left g.gone g.beside mid new
        → IsAt m bits (suc height) page (merge_short key page s) (freed ++ g.gone.1 ∷ []) old new
    IsAt-step new can mg =
        let c = choice-of g picks in
        let back = sym c.chosen in
        subst (λ (u : Shrinkage). IsAt m bits (suc height) page u (freed ++ g.gone.1 ∷ []) old new) (sym (short-merged key page s x.lost g few picks))
        (subst (λ (u : Merger). IsAt m bits (suc height) page (merged s page u.left u.gone) (freed ++ u.gone.1 ∷ []) old new) c.chosen
        (IsAt-merged m bits roots a.lawful key in-range root a.some a.within depth height page tall at s was freed old mid x c.before c.pair c.gone c.behind c.is c.fits page-some c.beside c.which
        (subst (λ (u : Merger). CanMerge page u.left u.gone.1 u.beside mid) back can) new (subst (λ (u : Merger). IsMerged page u.left u.gone u.beside mid new) back mg)))

    pub gone-some : g.gone.1 ≢ 0
    gone-some = let c = choice-of g picks in subst (λ (u : Merger). u.gone.1 ≢ 0) c.chosen (beside-pages c.before c.pair c.gone c.behind c.is).gone_some

    -- all that the merge reads and writes is there
    module _ (beside-there : HasSiblings key old page)
        (behind-there : MatchOption (siblings_of key (memory_in old page).records).right (HasNext old (siblings_of key (memory_in old page).records).here.1) (λ right. HasNext old right.1))
        (clocks : (n : ℕ) → (memory_in old n).clock < 2 ^ 63) where
      module _ (c : Choice g) where
        ps : SiblingPages s.memory height page c.pair.1 c.gone.1
        ps = beside-pages c.before c.pair c.gone c.behind c.is

        sames : (c.pair.1 ≢ child → s.memory c.pair.1 ≡ m c.pair.1) × (c.gone.1 ≢ child → s.memory c.gone.1 ≡ m c.gone.1)
        sames = sibling-same m bits roots a.lawful key in-range root a.some a.within height depth page tall at s was c.before c.pair c.gone c.behind (ap (λ (p : PageState). p.records) (sym up.same) ∙ c.is)

        pair-at : IsThere mid c.pair.1
        pair-at = elim (c.sides) [
          | inl w ↦ left-at beside-there c.pair w.1
          | inr w ↦ subst (λ (y : MapKey × ℕ). IsThere mid y.1) (sym w.0) child-at
        ]

        gone-at : IsThere mid c.gone.1
        gone-at = elim (c.sides) [
          | inl w ↦ subst (λ (y : MapKey × ℕ). IsThere mid y.1) (sym w.0) child-at
          | inr w ↦ right-at beside-there c.gone w.1
        ]

        -- a page that is as it was has the clock that it had
        clock-was : (n : ℕ) → n ≢ 0 → IsThere mid n → memory_in mid n ≡ m n → (memory_in mid n).clock < 2 ^ 63
        clock-was n ne h e = subst (λ (p : PageState). p.clock < 2 ^ 63) (sym (e ∙ sym (a.same n ne (old-there n h)))) (clocks n)

        behind-now : MatchOption t.right (HasNext old t.here.1) (λ right. HasNext old right.1)
        behind-now = subst (λ (u : Siblings). MatchOption u.right (HasNext old u.here.1) (λ right. HasNext old right.1)) t-old behind-there

        -- the leaf behind is there
        next-at : (s.memory c.gone.1).next ≢ 0 → IsThere mid (s.memory c.gone.1).next
        next-at ne = elim (c.sides) [
          | inl w ↦ subst (λ (y : MapKey × ℕ). IsThere mid (s.memory y.1).next) (sym w.0) (behind-here t.right refl (λ z. ne (ap (λ (y : MapKey × ℕ). (s.memory y.1).next) w.0 ∙ z)))
          | inr w ↦
              let gn : c.gone.1 ≢ child = λ e. ps.apart (ap (λ (y : MapKey × ℕ). y.1) w.0 ∙ (here-is ∙ sym e)) in
              let e : (memory_in old c.gone.1).next ≡ (s.memory c.gone.1).next = ap (λ (p : PageState). p.next) (a.same c.gone.1 ps.gone_some (old-there c.gone.1 gone-at) ∙ sym (sames.1 gn)) in
              mid-there (s.memory c.gone.1).next (subst (IsThere old) e (match-some t.right c.gone w.1 behind-now (λ z. ne (sym e ∙ z))))
        ]
          where
            match-some : (o : Option (MapKey × ℕ)) (y : MapKey × ℕ) → o ≡ Some y → MatchOption o (HasNext old t.here.1) (λ right. HasNext old right.1) → HasNext old y.1
            match-some o y is h = let Q : Option (MapKey × ℕ) → Type 0 = λ q. MatchOption q (HasNext old t.here.1) (λ right. HasNext old right.1) in let k : HasNext old y.1 = subst Q is h in k

            match-none : (o : Option (MapKey × ℕ)) → o ≡ None → MatchOption o (HasNext old t.here.1) (λ right. HasNext old right.1) → HasNext old t.here.1
            match-none o is h = let Q : Option (MapKey × ℕ) → Type 0 = λ q. MatchOption q (HasNext old t.here.1) (λ right. HasNext old right.1) in let k : HasNext old t.here.1 = subst Q is h in k

            flat : height ≡ 0
            flat = (ps.behind ne).low

            behind-here : (o : Option (MapKey × ℕ)) → t.right ≡ o → (s.memory t.here.1).next ≢ 0 → IsThere mid (s.memory t.here.1).next
            behind-here None is some =
                let kept : (s.memory t.here.1).next ≡ (m t.here.1).next = subst (λ q. (s.memory q).next ≡ (m q).next) (sym here-is) (x.links flat) in
                let e : (memory_in old t.here.1).next ≡ (s.memory t.here.1).next = ap (λ (p : PageState). p.next) (a.same t.here.1 here-some (old-there t.here.1 child-at)) ∙ sym kept in
                mid-there (s.memory t.here.1).next (subst (IsThere old) e (match-none t.right is behind-now (λ z. some (sym e ∙ z))))
            behind-here (Some r) is some =
                let e : (s.memory t.here.1).next ≡ r.1 = next-beside s.memory s.bits roots was.lawful key in-range root a.some a.within depth height up.tall page up.path
                (hs.before ++ one_or_none t.left) t.here r hs.behind (right-is r is) flat in
                subst (IsThere mid) (sym e) (right-at beside-there r is)

        abbrev next : ℕ
        next = (s.memory c.gone.1).next

        next-same : (memory_in mid c.gone.1).next ≡ next
        next-same = (mid-links c.gone.1 ps.gone_some gone-at).next

        next-is : (P : ℕ → Type 0) → (next ≢ 0 → P next) → (memory_in mid c.gone.1).next ≢ 0 → P (memory_in mid c.gone.1).next
        next-is P h ne = subst P (sym next-same) (h (λ z. ne (next-same ∙ z)))

        next-off : next ≢ 0 → memory_in mid next ≡ m next
        next-off ne =
            let b = ps.behind ne in
            let nc : next ≢ child = (λ e. elim (c.which) [ inl w ↦ b.not_left (e ∙ sym w.0) | inr w ↦ b.not_gone (e ∙ sym w.0) ]) in
            let off = touched-low m bits roots a.lawful key in-range root a.some a.within depth height page tall at s was freed old mid x next ne nc (let z = b.low in omega arith) in
            kept-off m bits roots a.lawful key in-range root a.some a.within depth height page tall at s was freed old mid x next ne (next-at ne) off ∙ was.rest next off

        left-records : (memory_in mid c.pair.1).records ≡ (s.memory c.pair.1).records
        left-records = (mid-alike c.pair.1 ps.left_some pair-at).records

        gone-records : (memory_in mid c.gone.1).records ≡ (s.memory c.gone.1).records
        gone-records = (mid-alike c.gone.1 ps.gone_some gone-at).records

        after : IsDeletedBelow m roots key root (suc height) page (merged s page c.pair.1 c.gone)
        after = subst (λ (u : Merger). IsDeletedBelow m roots key root (suc height) page (merged s page u.left u.gone)) (sym c.chosen) stepped

        both-ascend : Rises 0 ((s.memory c.pair.1).records ++ (s.memory c.gone.1).records) end_rank
        both-ascend = subst (λ (p : PageState). Rises 0 p.records end_rank) (merge_pages-left s.memory page c.pair.1 c.gone ps.apart) (after.lawful.sound c.pair.1 ps.left_some).ascends

        sibling-clock : (memory_in mid c.beside).clock < 2 ^ 63
        sibling-clock = elim (c.which) [
          | inl w ↦
              let gn : c.gone.1 ≢ child = λ e. ps.apart (w.0 ∙ sym e) in
              subst (λ q. (memory_in mid q).clock < 2 ^ 63) (sym w.1) (clock-was c.gone.1 ps.gone_some gone-at
              (sib-mid m bits roots a.lawful key in-range root a.some a.within depth height page tall at s was freed old mid x c.gone.1 ps.gone_some gn (sames.1 gn) ps.gone_level gone-at ∙ sames.1 gn))
          | inr w ↦
              let ln : c.pair.1 ≢ child = λ e. ps.apart (e ∙ sym w.0) in
              subst (λ q. (memory_in mid q).clock < 2 ^ 63) (sym w.1) (clock-was c.pair.1 ps.left_some pair-at
              (sib-mid m bits roots a.lawful key in-range root a.some a.within depth height page tall at s was freed old mid x c.pair.1 ps.left_some ln (sames.0 ln) ps.left_level pair-at ∙ sames.0 ln))
        ]

        merge-can : CanMerge page c.pair.1 c.gone.1 c.beside mid
        merge-can = record {
          parent_there = there-tree (changed_of page mid) (ap (λ (p : PageState). p.kind) (page-mid ∙ up.same) ∙ up.kind);
          left_there = there-tree (changed_of c.pair.1 mid) ((mid-alike c.pair.1 ps.left_some pair-at).kind ∙ ps.left_kind);
          gone_there = there-tree (changed_of c.gone.1 mid) ((mid-alike c.gone.1 ps.gone_some gone-at).kind ∙ ps.gone_kind);
          next_there = next-is (λ n. IsSomeAnd (changed_of n mid) IsTreePage) (λ ne. there-tree (changed_of next mid) ((mid-alike next ne (next-at ne)).kind ∙ (ps.behind ne).kind));
          next_level = next-is (λ n. (memory_in mid n).level ≡ 0) (λ ne. (mid-alike next ne (next-at ne)).level ∙ (ps.behind ne).level);
          level = (mid-alike c.pair.1 ps.left_some pair-at).level ∙ (ps.left_level ∙ sym ((mid-alike c.gone.1 ps.gone_some gone-at).level ∙ ps.gone_level));
          few = (let f = c.fits in let l = ap length left-records in let g = ap length gone-records in omega arith);
          ascends = subst (λ rs. Rises 0 (rs ++ (memory_in mid c.gone.1).records) end_rank) (sym left-records) (subst (λ rs. Rises 0 ((s.memory c.pair.1).records ++ rs) end_rank) (sym gone-records) both-ascend);
          apart = ps.apart;
          parent_left = parent-not_left s.memory height page c.pair.1 c.gone.1 ps;
          parent_gone = parent-not_gone s.memory height page c.pair.1 c.gone.1 ps;
          next_left = next-is (λ n. n ≢ c.pair.1) (λ ne. (ps.behind ne).not_left);
          next_gone = next-is (λ n. n ≢ c.gone.1) (λ ne. (ps.behind ne).not_gone);
          next_parent = next-is (λ n. n ≢ page) (λ ne. behind-not_parent s.memory height page c.pair.1 c.gone.1 ps ne);
          beside_is = elim (c.which) [ inl w ↦ inr w.1 | inr w ↦ inl w.1 ];
          parent_clock = clock-was page page-some (mid-there page page-was) (page-mid ∙ up.same);
          beside_clock = sibling-clock;
          next_clock = next-is (λ n. (memory_in mid n).clock < 2 ^ 63) (λ ne. clock-was next ne (next-at ne) (next-off ne));
        }

      pub can-merge : CanMerge page g.left g.gone.1 g.beside mid
      can-merge = let c = choice-of g picks in subst (λ (u : Merger). CanMerge page u.left u.gone.1 u.beside mid) c.chosen (merge-can c)
