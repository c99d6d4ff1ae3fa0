-- A full page is split with the record that is left: then a record for the fresh page is left, and belongs into the parent.
use Rattle.std.proofs.Common.{◌≡◌, ◌≢◌, ◌∙◌, ℕ, zero, suc, ◌+◌, ◌<◌, ◌≤◌, ◌^◌, Bool, true, false, cond, List, [], ◌∷◌, length, take, drop, get_or, None, refl, sym, ap, subst, arith, eqb, inl, inr, length-drop, Option, Some}
use Rattle.std.specs.Prelude.{nat_lt, IsSome, IsSomeAnd}
use Rattle.std.specs.List.{AllByRecursion}
use Rattle.std.proofs.lemmas.Bool.{cases_eq, cases_Bool, ne_eqb, lt-ltb}
use Rattle.ib_map.specs.Keys.{MapKey}
use Rattle.ib_map.specs.Pairs.{put, value_at}
use Rattle.ib_heap.specs.declared.TheConstants.{MOST_RECORDS}
use Rattle.ib_page.specs.Form.{page_of}
use Rattle.ib_page.specs.Page.{PageValue, HoldsTree, HoldsPage}
use Rattle.ib_page.specs.Page.PageValue.{Malformed as MalformedValue, Free as FreeValue, Tree as TreeValue}
use Rattle.ib_page.specs.Image.{IsTreePage, IsFormed}
use Rattle.ib_page.specs.Work.{WorkPage, changed_of}
use Rattle.ib_walk.specs.Pages.{Malformed, Free, Tree, PageState, PageMemory, with_page}
use Rattle.ib_walk.specs.Words.{state_of}
use Rattle.ib_walk.specs.Search.{child_for, leaf_for, page_below}
use Rattle.ib_walk.specs.Trees.{height_of}
use Rattle.ib_walk.proofs.ChoiceLaws.{cond-eq, cond-ne}
use Rattle.ib_walk.proofs.SearchLaws.{above, above-zero}
use Rattle.ib_plans.specs.Marks.{mark, with_bit, with_clock, ticked}
use Rattle.ib_plans.specs.Moves.{Move, Puts, Fills, unmoved, with_move, HasMoved}
use Rattle.ib_plans.specs.Split.{with_records, with_prev, right_part, first_key, next_or, split_page, lower_half, upper_half}
use Rattle.ib_plans.specs.Insert.{Growth, first_fresh, other_fresh, insert_below, put_at, split}
use Rattle.ib_plans.specs.Agreement.{IsThere, state_or_free, memory_in, tick, with_bits}
use Rattle.ib_plans.proofs.ClockLaws.{ticked-touched}
use Rattle.ib_plans.proofs.EditLaws.{IsSome-and}
use Rattle.ib_plans.proofs.InsertLaws.{AreFresh-first, AreFresh-each, split_long-long, split-pages, page-after_split}
use Rattle.ib_plans.proofs.LevelLaws.{above-suc}
use Rattle.ib_plans.proofs.LinkLaws.{NextLeaf, NextLeaf-leaf_for, next_or-apart, next_or-next}
use Rattle.ib_plans.proofs.MoveLaws.{with_move-own, with_move-other, then-still-was, filled-any}
use Rattle.ib_plans.proofs.NeedLaws.{IsCounted-need}
use Rattle.ib_plans.proofs.PageLaws.{mark-off, mark-on, mark-own}
use Rattle.ib_plans.proofs.PathLaws.{PathPage, PathPage-below, page_below-child}
use Rattle.ib_plans.proofs.SplitPageLaws.{SplitPages, parent-not_child, parent-not_fresh, child-not_fresh, next-not_fresh, next-not_parent, child-after_split, fresh-after_split, next-after_split, split_page-other}
use Rattle.ib_split.specs.Inserts.{with_record, HasNeighbour, CanSplit, IsSplit}
use Rattle.ib_split.proofs.Pending.{IsPending, HasRoom, ticked-same, below, on-path, clean-here, kept-here, long-here, memory-other, rest, now, absent-here, length-here}
use Rattle.ib_split.proofs.SplitEdits.{split-page, split-fresh, split-next, split-other, split-there, split-was, split-reads}

-- the first of the fresh pages that are left, and the others
pub first_fresh-drop : (i : ℕ) (xs : List ℕ) → first_fresh (drop i xs) ≡ get_or xs i 0
first_fresh-drop zero [] = refl
first_fresh-drop zero (x ∷ xs) = refl
first_fresh-drop (suc i) [] = refl
first_fresh-drop (suc i) (x ∷ xs) = first_fresh-drop i xs

pub other_fresh-drop : (i : ℕ) (xs : List ℕ) → other_fresh (drop i xs) ≡ drop (suc i) xs
other_fresh-drop zero [] = refl
other_fresh-drop zero (x ∷ xs) = refl
other_fresh-drop (suc i) [] = refl
other_fresh-drop (suc i) (x ∷ xs) = other_fresh-drop i xs

-- one page more of the front of a list is taken
pub with_bits-more : (i : ℕ) (xs : List ℕ) (bits : ℕ → ℕ) (n : ℕ) → i < length xs → with_bits (take (suc i) xs) 1 bits n ≡ with_bit (get_or xs i 0) 1 (with_bits (take i xs) 1 bits) n
with_bits-more zero [] bits n lt = absurd (omega arith)
with_bits-more zero (x ∷ xs) bits n lt = refl
with_bits-more (suc i) [] bits n lt = absurd (omega arith)
with_bits-more (suc i) (x ∷ xs) bits n lt = with_bits-more i xs (with_bit x 1 bits) n (omega arith)

all-first : (P : ℕ → Type 0) (xs : List ℕ) → 0 < length xs → AllByRecursion P xs → P (first_fresh xs)
all-first P [] some h = absurd (omega arith)
all-first P (x ∷ xs) some h = h.0

all-rest : (P : ℕ → Type 0) (xs : List ℕ) → AllByRecursion P xs → AllByRecursion P (other_fresh xs)
all-rest P [] h = tt
all-rest P (x ∷ xs) h = h.1

all-both : (P Q R : ℕ → Type 0) (xs : List ℕ) → ((n : ℕ) → P n → Q n → R n) → AllByRecursion P xs → AllByRecursion Q xs → AllByRecursion R xs
all-both P Q R [] so p q = tt
all-both P Q R (x ∷ xs) so p q = (so x p.0 q.0, all-both P Q R xs so p.1 q.1)

-- an image by what its page is
pub formed-kind : (work : List WorkPage) (n : ℕ) → IsThere work n → ((memory_in work n).kind ≡ Malformed → ⊥) → IsSomeAnd (changed_of n work) IsFormed
formed-kind work n there good = go (changed_of n work) there good
  where
    value : (v : PageValue) → ((state_of v).kind ≡ Malformed → ⊥) → HoldsPage v
    value (TreeValue p) good = tt
    value (FreeValue clock) good = tt
    value MalformedValue good = good refl

    go : (o : Option (List ℕ)) → IsSome o → ((state_or_free o).kind ≡ Malformed → ⊥) → IsSomeAnd o IsFormed
    go None there good = cc
    go (Some image) there good = value (page_of image) good

pub tree-kind : (work : List WorkPage) (n : ℕ) → IsThere work n → (memory_in work n).kind ≡ Tree → IsSomeAnd (changed_of n work) IsTreePage
tree-kind work n there tree = go (changed_of n work) there tree
  where
    value : (v : PageValue) → (state_of v).kind ≡ Tree → HoldsTree v
    value (TreeValue p) tree = tt
    value (FreeValue clock) tree = cc
    value MalformedValue tree = cc

    go : (o : Option (List ℕ)) → IsSome o → (state_or_free o).kind ≡ Tree → IsSomeAnd o IsTreePage
    go None there tree = cc
    go (Some image) there tree = value (page_of image) tree

-- the marks of a split, with the parent's in front
marks-turn : (page fresh parent next : ℕ) (touched : ℕ → Bool) (n : ℕ) → n ≢ 0
    → mark 0 (mark fresh (mark page (mark parent (mark next (mark page touched))))) n ≡ mark parent (mark fresh (mark page (mark next touched))) n
marks-turn page fresh parent next touched n some =
    let zero = ne_eqb n 0 some in
    rw zero (elim (cases_Bool (eqb n parent)) [
      | inl a ↦ rw a (elim (cases_Bool (eqb n fresh)) [
        | inl b ↦ rw b refl
        | inr b ↦ rw b (elim (cases_Bool (eqb n page)) [ inl c ↦ rw c refl | inr c ↦ rw c refl ])
      ])
      | inr a ↦ rw a (elim (cases_Bool (eqb n fresh)) [
        | inl b ↦ rw b refl
        | inr b ↦ rw b (elim (cases_Bool (eqb n page)) [
          | inl c ↦ rw c refl
          | inr c ↦ rw c refl
        ])
      ])
    ])

mark-none : (page : ℕ) (touched : ℕ → Bool) (n : ℕ) → n ≢ page → touched n ≡ false → mark page touched n ≡ false
mark-none page touched n ne off = cond-ne n page true (touched n) ne ∙ off

module _ (roots root : ℕ) (key : MapKey) (value : ℕ) (fresh : List ℕ) (old : List WorkPage) (m : PageMemory) (bits : ℕ → ℕ) (x : HasRoom roots root key fresh m bits)
    (height depth parent : ℕ) (tall : height_of m root ≡ above depth (suc height)) (at : page_below m key depth root ≡ parent) (k : MapKey) (v : ℕ) (work : List WorkPage)
    (p : IsPending key value fresh old m bits height (child_for key 0 (m parent).records) k v work)
    (full : length (m (child_for key 0 (m parent).records)).records ≡ MOST_RECORDS) where
  abbrev page : ℕ
  page = child_for key 0 (m parent).records

  abbrev g : Growth
  g = insert_below m bits fresh key value height (child_for key 0 (m parent).records)

  abbrev f : ℕ
  f = first_fresh (insert_below m bits fresh key value height (child_for key 0 (m parent).records)).fresh

  tall-page : height_of m root ≡ above (suc depth) height
  tall-page = tall ∙ above-suc depth height

  at-page : page_below m key (suc depth) root ≡ child_for key 0 (m parent).records
  at-page = page_below-child m key depth root ∙ ap (λ n. child_for key 0 (m n).records) at

  over : MOST_RECORDS < length (g.memory page).records
  over = let l = length-here roots root key value fresh old m bits x height (suc depth) page tall-page at-page k v work p in omega arith

  pub has-fresh : 0 < length g.fresh
  has-fresh = (IsCounted-need m bits roots x.law key value x.in_range root x.some x.le fresh x.free x.missing x.room (suc height) depth parent tall at).enough.1 over

  pub height-few : height < length fresh
  height-few = let a = has-fresh in let b = ap length p.fresh_is in let c = length-drop height fresh in omega arith

  pub fresh-at : f ≡ get_or fresh height 0
  fresh-at = ap first_fresh p.fresh_is ∙ first_fresh-drop height fresh

  the-pages : SplitPages g.memory height parent page f
  the-pages = split-pages m bits roots x.law key value x.in_range root x.some x.le fresh x.free x.missing height depth parent tall at g
      (below roots root key value fresh old m bits x height (suc depth) page tall-page at-page k v work p) over has-fresh

  page-some : page ≢ 0
  page-some = the-pages.child_some

  pub page-not_fresh : page ≢ f
  page-not_fresh = child-not_fresh g.memory height parent page f the-pages

  other : (n : ℕ) → n ≢ page → g.memory n ≡ p.memory n
  other = memory-other roots root key value fresh old m bits x height (suc depth) page tall-page at-page k v work p

  long : g.memory page ≡ with_records (put k v (m page).records) (m page)
  long = long-here roots root key value fresh old m bits x height (suc depth) page tall-page at-page k v work p

  -- the fresh page is free, and as it was
  fresh-unused : p.touched f ≡ false
  fresh-unused = all-first (λ q. p.touched q ≡ false) g.fresh has-fresh (subst (AllByRecursion (λ q. p.touched q ≡ false)) (sym p.fresh_is) p.unused)

  fresh-memory : g.memory f ≡ m f
  fresh-memory = other f (λ e. page-not_fresh (sym e)) ∙ rest roots root key value fresh old m bits x height (suc depth) page tall-page at-page k v work p f the-pages.fresh_some fresh-unused

  fresh-kind : (m f).kind ≡ Free
  fresh-kind = ap (λ (q : PageState). q.kind) (sym fresh-memory) ∙ the-pages.fresh_kind

  -- the leaf behind, where there is one, is as it was
  next-same : (g.memory page).next ≡ (m page).next
  next-same = ap (λ (q : PageState). q.next) long

  beside : (m page).next ≢ 0 → NextLeaf g.memory page
  beside ne = the-pages.behind (λ z. ne (sym next-same ∙ z))

  next-other : (m page).next ≢ 0 → (m page).next ≢ page
  next-other ne e = (beside ne).other (next-same ∙ e)

  pub next-not_fresh-page : (m page).next ≢ 0 → (m page).next ≢ f
  next-not_fresh-page ne e = next-not_fresh g.memory height parent page f the-pages (λ z. ne (sym next-same ∙ z)) (next-same ∙ e)

  leaf : (m page).next ≢ 0 → height ≡ 0
  leaf ne = elim (cases_eq height 0) [ inl z ↦ z | inr up ↦ absurd (ne (sym next-same ∙ the-pages.node (omega (arith, up)))) ]

  leaf-is : height ≡ 0 → leaf_for m key root ≡ page
  leaf-is z = ap (λ h. page_below m key h root) (tall-page ∙ (ap (above (suc depth)) z ∙ above-zero (suc depth))) ∙ at-page

  next-leaf : (m page).next ≢ 0 → NextLeaf m page
  next-leaf ne =
      let e = leaf-is (leaf ne) in
      subst (NextLeaf m) e (NextLeaf-leaf_for (λ n. MOST_RECORDS) m bits roots key root x.law x.some x.le x.in_range (λ z. ne (ap (λ n. (m n).next) (sym e) ∙ z)))

  next-unused : (m page).next ≢ 0 → p.touched (m page).next ≡ false
  next-unused ne = p.clean (m page).next ne (next-leaf ne).kind (let l = leaf ne in let z = (next-leaf ne).level in omega arith)

  next-memory : (m page).next ≢ 0 → p.memory (m page).next ≡ m (m page).next
  next-memory ne = rest roots root key value fresh old m bits x height (suc depth) page tall-page at-page k v work p (m page).next ne (next-unused ne)

  -- the page may be split: its images are there
  module _ (tree : IsSomeAnd (changed_of page old) IsTreePage) (free_there : IsThere old f) (next_there : (m page).next ≢ 0 → IsThere old (m page).next)
      (clocks : (n : ℕ) → (memory_in old n).clock < 2 ^ 63) (agrees : (n : ℕ) → n ≢ 0 → IsThere old n → memory_in old n ≡ m n) where
    page-there : IsThere old page
    page-there = IsSome-and IsTreePage (changed_of page old) tree

    abbrev off-here : p.touched page ≡ false
    off-here = clean-here roots root key value fresh old m bits x height (suc depth) page tall-page at-page k v work p

    page-now : memory_in work page ≡ m page
    page-now = now roots root key value fresh old m bits x height (suc depth) page tall-page at-page k v work p page page-some
        (clean-here roots root key value fresh old m bits x height (suc depth) page tall-page at-page k v work p) page-there

    fresh-now : memory_in work f ≡ m f
    fresh-now = now roots root key value fresh old m bits x height (suc depth) page tall-page at-page k v work p f the-pages.fresh_some fresh-unused free_there

    next-now : (m page).next ≢ 0 → memory_in work (m page).next ≡ m (m page).next
    next-now ne = now roots root key value fresh old m bits x height (suc depth) page tall-page at-page k v work p (m page).next ne (next-unused ne) (next_there ne)

    kept-clock : (n : ℕ) → n ≢ 0 → p.touched n ≡ false → (memory_in work n).clock < 2 ^ 63
    kept-clock n some off = subst (λ c. c < 2 ^ 63) (ap (λ o. (state_or_free o).clock) (sym (p.kept n some off))) (clocks n)

    next-is : (memory_in work page).next ≡ (m page).next
    next-is = ap (λ (q : PageState). q.next) page-now

    neighbour : HasNeighbour page f work
    neighbour = record {
      there = λ some. let ne : (m page).next ≢ 0 = λ z. some (next-is ∙ z) in
          subst (λ n. IsSomeAnd (changed_of n work) IsTreePage) (sym next-is)
          (tree-kind work (m page).next (subst IsSome (sym (p.kept (m page).next ne (next-unused ne))) (next_there ne)) (ap (λ (q : PageState). q.kind) (next-now ne) ∙ (next-leaf ne).kind));
      level = λ some. let ne : (m page).next ≢ 0 = λ z. some (next-is ∙ z) in
          ap (λ n. (memory_in work n).level) next-is ∙ (ap (λ (q : PageState). q.level) (next-now ne) ∙ (next-leaf ne).level);
      not_page = λ e. elim (cases_eq (m page).next 0) [
        | inl z ↦ page-some (sym e ∙ (next-is ∙ z))
        | inr ne ↦ (next-leaf ne).other (sym next-is ∙ e)
      ];
      not_fresh = λ some e. let ne : (m page).next ≢ 0 = λ z. some (next-is ∙ z) in next-not_fresh-page ne (sym next-is ∙ e);
      clock = elim (cases_eq (m page).next 0) [
        | inl z ↦ subst (λ c. c < 2 ^ 63) (ap (λ o. (state_or_free o).clock) (sym p.space) ∙ ap (λ n. (memory_in work n).clock) (sym (next-is ∙ z))) (clocks 0)
        | inr ne ↦ subst (λ n. (memory_in work n).clock < 2 ^ 63) (sym next-is) (kept-clock (m page).next ne (next-unused ne))
      ];
    }

    pub can-split : CanSplit page f k work
    can-split = record {
      tree = subst (λ (o : Option (List ℕ)). IsSomeAnd o IsTreePage) (sym (kept-here roots root key value fresh old m bits x height (suc depth) page tall-page at-page k v work p)) tree;
      free = subst (λ (o : Option (List ℕ)). IsSomeAnd o IsFormed) (sym (p.kept f the-pages.fresh_some fresh-unused))
          (formed-kind old f free_there (λ bad. let free = ap (λ (q : PageState). q.kind) (agrees f the-pages.fresh_some free_there) ∙ fresh-kind in cc));
      full = ap (λ (q : PageState). length q.records) page-now ∙ full;
      absent = ap (λ (q : PageState). value_at k q.records) page-now ∙ absent-here roots root key value fresh old m bits x height (suc depth) page tall-page at-page k v work p;
      clock = kept-clock page page-some (clean-here roots root key value fresh old m bits x height (suc depth) page tall-page at-page k v work p);
      fresh_clock = kept-clock f the-pages.fresh_some fresh-unused;
      apart = page-not_fresh;
      next = neighbour;
    }

    -- and once it was split, the record for the fresh page is left
    module _ (first : MapKey) (new : List WorkPage) (is : IsSplit page f k v work first new) where
      work-there : IsThere work page
      work-there = IsSome-and IsTreePage (changed_of page work) can-split.tree

      work-free : IsThere work f
      work-free = IsSome-and IsFormed (changed_of f work) can-split.free

      work-beside : (memory_in work page).next ≢ 0 → IsThere work (memory_in work page).next
      work-beside some = IsSome-and IsTreePage (changed_of (memory_in work page).next work) (neighbour.there some)

      work-not_page : (memory_in work page).next ≢ 0 → (memory_in work page).next ≢ page
      work-not_page some = neighbour.not_page

      after-page : memory_in new page ≡ tick (lower_half (with_record k v (memory_in work page)) f)
      after-page = split-page page f k v work first new is page-not_fresh work-there work-free work-beside work-not_page neighbour.not_fresh

      after-fresh : memory_in new f ≡ tick (upper_half (with_record k v (memory_in work page)) page (memory_in work f).clock)
      after-fresh = split-fresh page f k v work first new is page-not_fresh work-there work-free work-beside work-not_page neighbour.not_fresh

      after-next : (memory_in work page).next ≢ 0 → memory_in new (memory_in work page).next ≡ tick (with_prev f (memory_in work (memory_in work page).next))
      after-next = split-next page f k v work first new is page-not_fresh work-there work-free work-beside work-not_page neighbour.not_fresh

      after-other : (n : ℕ) → n ≢ page → n ≢ f → ((memory_in work page).next ≢ 0 → n ≢ (memory_in work page).next) → changed_of n new ≡ changed_of n work
      after-other = split-other page f k v work first new is page-not_fresh work-there work-free work-beside work-not_page neighbour.not_fresh

      after-there : (n : ℕ) → IsThere work n → IsThere new n
      after-there = split-there page f k v work first new is page-not_fresh work-there work-free work-beside work-not_page neighbour.not_fresh

      after-was : (n : ℕ) → IsThere new n → IsThere work n
      after-was = split-was page f k v work first new is page-not_fresh work-there work-free work-beside work-not_page neighbour.not_fresh

      -- the plan one level up
      step : insert_below m bits fresh key value (suc height) parent ≡ split parent page g
      step = split_long-long parent page g over

      abbrev pages_after : PageMemory
      pages_after = with_page (split_page g.memory parent page f) parent (m parent)

      abbrev touched_after : ℕ → Bool
      touched_after = mark f (mark page (mark (next_or f (g.memory page)) p.touched))

      abbrev moves_after : ℕ → Move
      moves_after = with_move f Fills (with_move page Fills p.moves)

      parent-other : (n : ℕ) → (m n).kind ≡ Tree → suc height ≤ (m n).level → (n ≢ f) × (n ≢ page) × (n ≢ next_or f (g.memory page))
      parent-other n kind level =
          let not_fresh : n ≢ f = λ e. (let a = ap (λ i. (m i).kind) e in let b = fresh-kind in cc) in
          let not_page : n ≢ page = λ e. (let a = ap (λ i. (m i).level) e in let b = (on-path roots root key value fresh old m bits x height (suc depth) page tall-page at-page k v work p).level in omega arith) in
          let not_next : n ≢ next_or f (g.memory page) = next_or-apart f (g.memory page) n not_fresh (λ some e. let ne : (m page).next ≢ 0 = λ z. some (next-same ∙ z) in
          let a = ap (λ i. (m i).level) (e ∙ next-same) in let b = (next-leaf ne).level in omega arith) in
          (not_fresh, not_page, not_next)

      first-is : first ≡ first_key (right_part (g.memory page).records)
      first-is = is.key_is ∙ (ap (λ (q : PageState). first_key (right_part (put k v q.records))) page-now ∙ ap (λ (q : PageState). first_key (right_part q.records)) (sym long))

      memory-after : (n : ℕ) → split_page g.memory parent page f n ≡ put_at pages_after parent first f n
      memory-after n = elim (cases_eq n parent) [
        | inl e ↦ subst (λ q. split_page g.memory parent page f q ≡ put_at pages_after parent first f q) (sym e) (
            page-after_split m bits roots x.law key value x.in_range root x.some x.le fresh x.free x.missing height depth parent tall at g
            (below roots root key value fresh old m bits x height (suc depth) page tall-page at-page k v work p) over has-fresh
            ∙ (ap (λ j. with_records (put j f (m parent).records) (m parent)) (sym first-is)
            ∙ sym (cond-eq parent parent (with_records (put first f (pages_after parent).records) (pages_after parent)) (pages_after parent) refl
            ∙ ap (λ (q : PageState). with_records (put first f q.records) q) (cond-eq parent parent (m parent) (split_page g.memory parent page f parent) refl))))
        | inr ne ↦ sym (cond-ne n parent (with_records (put first f (pages_after parent).records) (pages_after parent)) (pages_after n) ne
            ∙ cond-ne n parent (m parent) (split_page g.memory parent page f n) ne)
      ]

      -- a page that the split leaves alone
      untouched-after : (n : ℕ) → touched_after n ≡ false → (n ≢ f) × (n ≢ page) × (n ≢ next_or f (g.memory page)) × (p.touched n ≡ false)
      untouched-after n off =
          let a = mark-off f (mark page (mark (next_or f (g.memory page)) p.touched)) n off in
          let b = mark-off page (mark (next_or f (g.memory page)) p.touched) n a.1 in
          let c = mark-off (next_or f (g.memory page)) p.touched n b.1 in (a.0, b.0, c.0, c.1)

      not-next : (n : ℕ) → n ≢ next_or f (g.memory page) → (memory_in work page).next ≢ 0 → n ≢ (memory_in work page).next
      not-next n ne some e = ne (e ∙ (next-is ∙ (sym next-same ∙ sym (next_or-next f (g.memory page) (λ z. some (next-is ∙ (sym next-same ∙ z)))))))

      memory-off : (n : ℕ) → n ≢ f → n ≢ page → n ≢ next_or f (g.memory page) → pages_after n ≡ p.memory n
      memory-off n nf np nn = elim (cases_eq n parent) [
        | inl e ↦ cond-eq n parent (m parent) (split_page g.memory parent page f n) e
            ∙ sym (ap p.memory e ∙ rest roots root key value fresh old m bits x height (suc depth) page tall-page at-page k v work p parent the-pages.parent_some
            (p.clean parent the-pages.parent_some parent-kind (let l = parent-level in omega arith)))
        | inr ne ↦ cond-ne n parent (m parent) (split_page g.memory parent page f n) ne ∙ (split_page-other g.memory parent page f n nf np ne nn ∙ other n np)
      ]
        where
          the-parent : PathPage m (suc height) root parent
          the-parent = subst (PathPage m (suc height) root) at (PathPage-below (λ n. MOST_RECORDS) m bits roots x.law key x.in_range root x.some x.le depth (suc height) tall)

          parent-kind : (m parent).kind ≡ Tree
          parent-kind = the-parent.kind

          parent-level : (m parent).level ≡ suc height
          parent-level = the-parent.level

      not-parent : (n : ℕ) → n ≡ page → n ≢ parent
      not-parent n e z = parent-not_child g.memory height parent page f the-pages (sym z ∙ e)

      pages-page : pages_after page ≡ lower_half (with_record k v (m page)) f
      pages-page =
          cond-ne page parent (m parent) (split_page g.memory parent page f page) (λ e. parent-not_child g.memory height parent page f the-pages (sym e))
          ∙ (child-after_split g.memory height parent page f the-pages ∙ ap (λ (q : PageState). lower_half q f) long)

      pages-fresh : pages_after f ≡ upper_half (with_record k v (m page)) page (m f).clock
      pages-fresh =
          cond-ne f parent (m parent) (split_page g.memory parent page f f) (λ e. parent-not_fresh g.memory height parent page f the-pages (sym e))
          ∙ (fresh-after_split g.memory height parent page f the-pages ∙ (ap (λ (q : PageState). upper_half q page (g.memory f).clock) long
          ∙ ap (λ (q : PageState). upper_half (with_record k v (m page)) page q.clock) fresh-memory))

      pages-next : (m page).next ≢ 0 → pages_after (m page).next ≡ with_prev f (m (m page).next)
      pages-next ne =
          let some : (g.memory page).next ≢ 0 = λ z. ne (sym next-same ∙ z) in
          let level : (g.memory page).level ≡ 0 = ap (λ (q : PageState). q.level) long ∙ ((on-path roots root key value fresh old m bits x height (suc depth) page tall-page at-page k v work p).level ∙ leaf ne) in
          let there = next-after_split g.memory height parent page f the-pages some in
          cond-ne (m page).next parent (m parent) (split_page g.memory parent page f (m page).next) (λ e. next-not_parent g.memory height parent page f the-pages some (next-same ∙ e))
          ∙ (ap (split_page g.memory parent page f) (sym next-same) ∙ (there
          ∙ (ap (λ n. with_prev n (g.memory (g.memory page).next)) (cond-eq (g.memory page).level 0 f (g.memory (g.memory page).next).prev level)
          ∙ ap (with_prev f) (ap g.memory next-same ∙ (other (m page).next (next-other ne) ∙ next-memory ne)))))

      on-page : touched_after page ≡ true
      on-page = mark-on f (mark page (mark (next_or f (g.memory page)) p.touched)) page (mark-own page (mark (next_or f (g.memory page)) p.touched) page refl)

      on-fresh : touched_after f ≡ true
      on-fresh = mark-own f (mark page (mark (next_or f (g.memory page)) p.touched)) f refl

      on-next : (m page).next ≢ 0 → touched_after (m page).next ≡ true
      on-next ne = mark-on f (mark page (mark (next_or f (g.memory page)) p.touched)) (m page).next (mark-on page (mark (next_or f (g.memory page)) p.touched) (m page).next
          (mark-own (next_or f (g.memory page)) p.touched (m page).next (sym next-same ∙ sym (next_or-next f (g.memory page) (λ z. ne (sym next-same ∙ z))))))

      same-page : memory_in new page ≡ ticked m touched_after pages_after page
      same-page = after-page ∙ (ap (λ (q : PageState). tick (lower_half (with_record k v q) f)) page-now
          ∙ sym (ticked-touched m touched_after pages_after page on-page ∙ ap (with_clock ((m page).clock + 1)) pages-page))

      same-fresh : memory_in new f ≡ ticked m touched_after pages_after f
      same-fresh = after-fresh ∙ (ap (λ (q : PageState). tick (upper_half (with_record k v q) page (memory_in work f).clock)) page-now
          ∙ (ap (λ (q : PageState). tick (upper_half (with_record k v (m page)) page q.clock)) fresh-now
          ∙ sym (ticked-touched m touched_after pages_after f on-fresh ∙ ap (with_clock ((m f).clock + 1)) pages-fresh)))

      same-next : (m page).next ≢ 0 → memory_in new (m page).next ≡ ticked m touched_after pages_after (m page).next
      same-next ne =
          let some : (memory_in work page).next ≢ 0 = λ z. ne (sym next-is ∙ z) in
          ap (memory_in new) (sym next-is) ∙ (after-next some ∙ (ap (λ n. tick (with_prev f (memory_in work n))) next-is ∙ (ap (λ (q : PageState). tick (with_prev f q)) (next-now ne)
          ∙ sym (ticked-touched m touched_after pages_after (m page).next (on-next ne) ∙ ap (with_clock ((m (m page).next).clock + 1)) (pages-next ne)))))

      same-after : (n : ℕ) → n ≢ 0 → IsThere new n → memory_in new n ≡ ticked m touched_after pages_after n
      same-after n ns there = elim (cases_eq n f) [
        | inl e ↦ subst (λ q. memory_in new q ≡ ticked m touched_after pages_after q) (sym e) same-fresh
        | inr nf ↦ elim (cases_eq n page) [
          | inl e ↦ subst (λ q. memory_in new q ≡ ticked m touched_after pages_after q) (sym e) same-page
          | inr np ↦ elim (cases_eq n (next_or f (g.memory page))) [
            | inl e ↦ elim (cases_eq (m page).next 0) [
              | inl z ↦ absurd (nf (e ∙ cond-eq (g.memory page).next 0 f (g.memory page).next (next-same ∙ z)))
              | inr ne ↦ subst (λ q. memory_in new q ≡ ticked m touched_after pages_after q) (sym (e ∙ (next_or-next f (g.memory page) (λ z. ne (sym next-same ∙ z)) ∙ next-same))) (same-next ne)
            ]
            | inr nn ↦
                ap state_or_free (after-other n np nf (not-next n nn)) ∙ (p.same n ns (after-was n there)
                ∙ ticked-same m p.touched touched_after p.memory pages_after n
                (sym (cond-ne n f true (mark page (mark (next_or f (g.memory page)) p.touched) n) nf ∙ (cond-ne n page true (mark (next_or f (g.memory page)) p.touched n) np ∙ cond-ne n (next_or f (g.memory page)) true (p.touched n) nn)))
                (sym (memory-off n nf np nn)))
          ]
        ]
      ]

      there-after : (n : ℕ) → n ≢ 0 → touched_after n ≡ true → IsThere new n
      there-after n ns on = elim (cases_eq n f) [
        | inl e ↦ subst (IsThere new) (sym e) (after-there f work-free)
        | inr nf ↦ elim (cases_eq n page) [
          | inl e ↦ subst (IsThere new) (sym e) (after-there page work-there)
          | inr np ↦ elim (cases_eq n (next_or f (g.memory page))) [
            | inl e ↦ elim (cases_eq (m page).next 0) [
              | inl z ↦ absurd (nf (e ∙ cond-eq (g.memory page).next 0 f (g.memory page).next (next-same ∙ z)))
              | inr ne ↦ subst (IsThere new) (sym (e ∙ (next_or-next f (g.memory page) (λ z. ne (sym next-same ∙ z)) ∙ next-same)))
                  (after-there (m page).next (subst IsSome (sym (p.kept (m page).next ne (next-unused ne))) (next_there ne)))
            ]
            | inr nn ↦ after-there n (p.there n ns (sym (cond-ne n f true (mark page (mark (next_or f (g.memory page)) p.touched) n) nf
                ∙ (cond-ne n page true (mark (next_or f (g.memory page)) p.touched n) np ∙ cond-ne n (next_or f (g.memory page)) true (p.touched n) nn)) ∙ on))
          ]
        ]
      ]

      -- both halves are filled anew, and all other records stand as they did
      moved-after : (n : ℕ) → n ≢ 0 → HasMoved (moves_after n) (changed_of n old) (changed_of n new)
      moved-after n ns = elim (cases_eq n f) [
        | inl e ↦ subst (λ q. HasMoved (moves_after q) (changed_of q old) (changed_of q new)) (sym e)
            (subst (λ (mv : Move). HasMoved mv (changed_of f old) (changed_of f new)) (sym (with_move-own f Fills (with_move page Fills p.moves) f refl))
            (filled-any (changed_of f old) (changed_of f work) (changed_of f new) work-free
            (subst (λ (mv : Move). HasMoved mv (changed_of f work) (changed_of f new)) (with_move-own f Fills (with_move page Fills unmoved) f refl) (is.moved f))))
        | inr nf ↦ elim (cases_eq n page) [
          | inl e ↦
              let on : (moves : ℕ → Move) → with_move f Fills (with_move page Fills moves) page ≡ Fills = (λ moves. with_move-other f Fills (with_move page Fills moves) page page-not_fresh ∙ with_move-own page Fills moves page refl) in
              subst (λ q. HasMoved (moves_after q) (changed_of q old) (changed_of q new)) (sym e)
              (subst (λ (mv : Move). HasMoved mv (changed_of page old) (changed_of page new)) (sym (on p.moves))
              (filled-any (changed_of page old) (changed_of page work) (changed_of page new) work-there
              (subst (λ (mv : Move). HasMoved mv (changed_of page work) (changed_of page new)) (on unmoved) (is.moved page))))
          | inr np ↦
              let off : (moves : ℕ → Move) → with_move f Fills (with_move page Fills moves) n ≡ moves n = (λ moves. with_move-other f Fills (with_move page Fills moves) n nf ∙ with_move-other page Fills moves n np) in
              subst (λ (mv : Move). HasMoved mv (changed_of n old) (changed_of n new)) (sym (off p.moves))
              (then-still-was (p.moves n) (changed_of n old) (changed_of n work) (changed_of n new) (after-was n) (p.moved n ns)
              (subst (λ (mv : Move). HasMoved mv (changed_of n work) (changed_of n new)) (off unmoved) (is.moved n)))
        ]
      ]

      -- the moves of a split, with the parent's in front
      moves-turn : (n : ℕ) → with_move f Fills (with_move page Fills (with_move parent (Puts first) g.moves)) n ≡ with_move parent (Puts first) moves_after n
      moves-turn n = elim (cases_eq n parent) [
        | inl e ↦
            let nf : n ≢ f = (λ z. parent-not_fresh g.memory height parent page f the-pages (sym e ∙ z)) in
            let np : n ≢ page = (λ z. parent-not_child g.memory height parent page f the-pages (sym e ∙ z)) in
            with_move-other f Fills (with_move page Fills (with_move parent (Puts first) g.moves)) n nf ∙ (with_move-other page Fills (with_move parent (Puts first) g.moves) n np
            ∙ (with_move-own parent (Puts first) g.moves n e ∙ sym (with_move-own parent (Puts first) moves_after n e)))
        | inr ne ↦ elim (cases_eq n f) [
          | inl e ↦ with_move-own f Fills (with_move page Fills (with_move parent (Puts first) g.moves)) n e ∙ sym (with_move-other parent (Puts first) moves_after n ne ∙ with_move-own f Fills (with_move page Fills p.moves) n e)
          | inr nf ↦ elim (cases_eq n page) [
            | inl e ↦
                with_move-other f Fills (with_move page Fills (with_move parent (Puts first) g.moves)) n nf ∙ (with_move-own page Fills (with_move parent (Puts first) g.moves) n e
                ∙ sym (with_move-other parent (Puts first) moves_after n ne ∙ (with_move-other f Fills (with_move page Fills p.moves) n nf ∙ with_move-own page Fills p.moves n e)))
            | inr np ↦
                with_move-other f Fills (with_move page Fills (with_move parent (Puts first) g.moves)) n nf ∙ (with_move-other page Fills (with_move parent (Puts first) g.moves) n np
                ∙ (with_move-other parent (Puts first) g.moves n ne ∙ (p.moves_is n ∙ (with_move-other page (Puts k) p.moves n np
                ∙ sym (with_move-other parent (Puts first) moves_after n ne ∙ (with_move-other f Fills (with_move page Fills p.moves) n nf ∙ with_move-other page Fills p.moves n np))))))
          ]
        ]
      ]

      -- the fresh pages that are left are still free
      unused-after : AllByRecursion (λ q. touched_after q ≡ false) (drop (suc height) fresh)
      unused-after =
          let b = below roots root key value fresh old m bits x height (suc depth) page tall-page at-page k v work p in
          let ready = AreFresh-first g.bits g.fresh has-fresh b.free in
          let clear = AreFresh-each (with_bit f 1 g.bits) (other_fresh g.fresh) ready.2 (λ n. (n ≢ f) × (g.bits n ≡ 0)) (λ n none. elim (cases_eq n f) [
            | inl e ↦ absurd (let one = cond-eq {X = ℕ} n f 1 (g.bits n) e in omega arith)
            | inr ne ↦ (ne, sym (cond-ne {X = ℕ} n f 1 (g.bits n) ne) ∙ none)
          ]) in
          let left = all-rest (λ q. p.touched q ≡ false) g.fresh (subst (AllByRecursion (λ q. p.touched q ≡ false)) (sym p.fresh_is) p.unused) in
          let all = all-both (λ n. (n ≢ f) × (g.bits n ≡ 0)) (λ q. p.touched q ≡ false) (λ q. touched_after q ≡ false) (other_fresh g.fresh) (λ n c off.
          let kind = b.lawful.unmet n c.1 in
          let not_page : n ≢ page = λ e. (let a = ap (λ i. (g.memory i).kind) e in let d = the-pages.child_kind in cc) in
          let not_next : n ≢ next_or f (g.memory page) = next_or-apart f (g.memory page) n c.0 (λ some e. let a = ap (λ i. (g.memory i).kind) e in let d = (the-pages.behind some).kind in cc) in
          mark-none f (mark page (mark (next_or f (g.memory page)) p.touched)) n c.0 (mark-none page (mark (next_or f (g.memory page)) p.touched) n not_page (mark-none (next_or f (g.memory page)) p.touched n not_next off))) clear left in
          subst (AllByRecursion (λ q. touched_after q ≡ false)) (ap other_fresh p.fresh_is ∙ other_fresh-drop height fresh) all

      space-after : changed_of 0 new ≡ changed_of 0 old
      space-after = after-other 0 (λ e. page-some (sym e)) (λ e. the-pages.fresh_some (sym e)) (λ some e. some (sym e)) ∙ p.space

      -- what is left then
      pending : (G : Growth) → G ≡ split parent page g → (memory_is : (n : ℕ) → G.memory n ≡ put_at pages_after parent first f n) × ((n : ℕ) → n ≢ 0 → G.touched n ≡ mark parent touched_after n) × (G.touched 0 ≡ nat_lt 0 (suc height))
          × (G.fresh ≡ drop (suc height) fresh) × ((n : ℕ) → G.bits n ≡ with_bits (take (suc height) fresh) 1 bits n) × ((n : ℕ) → G.moves n ≡ with_move parent (Puts first) moves_after n)
      pending G e = (
        (λ n. ap (λ (q : Growth). q.memory n) e ∙ memory-after n),
        (λ n ns. ap (λ (q : Growth). q.touched n) e ∙ (ap (λ b. cond (eqb n 0) true (cond (eqb n f) true (cond (eqb n page) true (cond (eqb n parent) true (cond (eqb n (next_or f (g.memory page))) true b))))) (p.touched_is n ns)
            ∙ marks-turn page f parent (next_or f (g.memory page)) p.touched n ns)),
        ap (λ (q : Growth). q.touched 0) e ∙ sym (lt-ltb 0 (suc height) (omega arith)),
        ap (λ (q : Growth). q.fresh) e ∙ (ap other_fresh p.fresh_is ∙ other_fresh-drop height fresh),
        (λ n. ap (λ (q : Growth). q.bits n) e ∙ (ap (λ b. cond (eqb n f) 1 b) (p.bits_is n) ∙ (ap (λ q. with_bit q 1 (with_bits (take height fresh) 1 bits) n) fresh-at ∙ sym (with_bits-more height fresh bits n height-few)))),
        (λ n. ap (λ (q : Growth). q.moves n) e ∙ (ap (λ j. with_move f Fills (with_move page Fills (with_move parent (Puts j) g.moves)) n) (sym first-is) ∙ moves-turn n)),
      )

      pub split-pending : IsPending key value fresh old m bits (suc height) parent first f new
      split-pending =
          let q = pending (insert_below m bits fresh key value (suc height) parent) step in
          record {
            memory = pages_after;
            touched = touched_after;
            moves = moves_after;
            memory_is = q.0;
            touched_is = q.1;
            zero_is = q.2;
            fresh_is = q.3;
            bits_is = q.4;
            moves_is = q.5;
            few = height-few;
            here = cond-eq parent parent (m parent) (split_page g.memory parent page f parent) refl;
            clean = λ n ns kind level. let o = parent-other n kind level in
                mark-none f (mark page (mark (next_or f (g.memory page)) p.touched)) n o.0 (mark-none page (mark (next_or f (g.memory page)) p.touched) n o.1
                (mark-none (next_or f (g.memory page)) p.touched n o.2 (p.clean n ns kind (omega arith))));
            unused = unused-after;
            reads = split-reads page f k v work first new is page-not_fresh work-there work-free work-beside work-not_page neighbour.not_fresh ∙ p.reads;
            space = space-after;
            kept = λ n ns off. let u = untouched-after n off in after-other n u.1 u.0 (not-next n u.2) ∙ p.kept n ns u.3;
            there = there-after;
            same = same-after;
            moved = moved-after;
          }
