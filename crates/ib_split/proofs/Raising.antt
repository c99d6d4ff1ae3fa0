-- A full root is raised with the record that is left: the plan is done.
use Rattle.std.proofs.Common.{◌≡◌, ◌≢◌, ◌∙◌, ℕ, zero, suc, ◌+◌, ◌<◌, ◌≤◌, ◌^◌, Bool, true, false, cond, List, [], ◌∷◌, length, take, get_or, refl, sym, ap, subst, arith, eqb, inl, inr, length-drop, length-take, Option}
use Rattle.std.specs.Prelude.{IsSomeAnd}
use Rattle.std.specs.List.{AllByRecursion}
use Rattle.std.proofs.lemmas.Bool.{cases_eq, cases_lt, eq-eqb, lt-ltb}
use Rattle.ib_map.specs.Keys.{MapKey}
use Rattle.ib_map.specs.Pairs.{put, value_at}
use Rattle.ib_heap.specs.declared.TheConstants.{MOST_RECORDS}
use Rattle.ib_page.specs.Image.{IsTreePage, IsFormed}
use Rattle.ib_page.specs.Work.{WorkPage, changed_of}
use Rattle.ib_walk.specs.Pages.{Free, PageState, PageMemory}
use Rattle.ib_walk.specs.Walk.{AreLinked, below as level_below}
use Rattle.ib_walk.specs.Trees.{height_of, most_height, top_of}
use Rattle.ib_walk.specs.Full.{full_run, run_of, is_root_full}
use Rattle.ib_walk.proofs.ChoiceLaws.{cond-eq, cond-ne}
use Rattle.ib_walk.proofs.TreeLaws.{most_height-le}
use Rattle.ib_plans.specs.Marks.{mark, with_bit, with_clock, ticked}
use Rattle.ib_plans.specs.Moves.{Move, Puts, Fills, unmoved, with_move, HasMoved}
use Rattle.ib_plans.specs.Split.{with_records, raise_page, raised_left, raised_right, raised_root}
use Rattle.ib_plans.specs.Insert.{Growth, AreFresh, first_fresh, other_fresh, insert_below, planned_insert, raised}
use Rattle.ib_plans.specs.Agreement.{IsClimbed, IsThere, state_or_free, memory_in, tick, with_bits}
use Rattle.ib_plans.proofs.ClockLaws.{ticked-touched}
use Rattle.ib_plans.proofs.EditLaws.{IsSome-and, set-reads, set-same, set-others, set-other, set-there, set-was}
use Rattle.ib_plans.proofs.InsertLaws.{IsInsertedBelow, one_over}
use Rattle.ib_plans.proofs.InsertPlanLaws.{raise_long-long}
use Rattle.ib_plans.proofs.MetLaws.{clear-some}
use Rattle.ib_plans.proofs.MoveLaws.{with_move-own, with_move-other, filled-any}
use Rattle.ib_plans.proofs.NeedLaws.{IsCountedWhole, IsCountedWhole-need, full_run-le}
use Rattle.ib_plans.proofs.PageLaws.{mark-on, mark-own}
use Rattle.ib_plans.proofs.PathLaws.{PathPage}
use Rattle.ib_plans.proofs.PathListLaws.{pages_up, length-pages_up, path_of-pages}
use Rattle.ib_split.specs.Inserts.{with_record, CanRaise, IsRaised}
use Rattle.ib_split.proofs.Pending.{IsPending, HasRoom, ticked-same, below, on-path, clean-here, kept-here, long-here, memory-other, rest, now, absent-here, length-here}
use Rattle.ib_split.proofs.Splitting.{first_fresh-drop, other_fresh-drop, with_bits-more, formed-kind}

-- two pages that are free, one after the other
two-fresh : (bits : ℕ → ℕ) (xs : List ℕ) → 1 < length xs → AreFresh bits xs → (bits (first_fresh xs) ≡ 0) × (bits (first_fresh (other_fresh xs)) ≡ 0) × (first_fresh xs ≢ first_fresh (other_fresh xs))
two-fresh bits [] lt free = absurd (omega arith)
two-fresh bits (x ∷ []) lt free = absurd (omega arith)
two-fresh bits (x ∷ y ∷ xs) lt free =
    let ne : x ≢ y = λ e. (let z = cond-eq {X = ℕ} y x 1 (bits y) (sym e) in let w = free.2.0 in omega arith) in
    (free.0, sym (cond-ne {X = ℕ} y x 1 (bits y) (λ e. ne (sym e))) ∙ free.2.0, ne)

all-two : (P : ℕ → Type 0) (xs : List ℕ) → 1 < length xs → AllByRecursion P xs → P (first_fresh xs) × P (first_fresh (other_fresh xs))
all-two P [] lt h = absurd (omega arith)
all-two P (x ∷ []) lt h = absurd (omega arith)
all-two P (x ∷ y ∷ xs) lt h = (h.0, h.1.0)

module _ (roots root : ℕ) (key : MapKey) (value : ℕ) (fresh : List ℕ) (old : List WorkPage) (m : PageMemory) (bits : ℕ → ℕ) (x : HasRoom roots root key fresh m bits)
    (k : MapKey) (v : ℕ) (work : List WorkPage) (p : IsPending key value fresh old m bits (height_of m root) root k v work)
    (full : length (m root).records ≡ MOST_RECORDS) (low : is_root_full m key root ≡ true → height_of m root < most_height roots) where
  abbrev height : ℕ
  height = height_of m root

  abbrev g : Growth
  g = insert_below m bits fresh key value (height_of m root) root

  abbrev a : ℕ
  a = first_fresh (insert_below m bits fresh key value (height_of m root) root).fresh

  abbrev b : ℕ
  b = first_fresh (other_fresh (insert_below m bits fresh key value (height_of m root) root).fresh)

  over : MOST_RECORDS < length (g.memory root).records
  over = let l = length-here roots root key value fresh old m bits x height 0 root refl refl k v work p in omega arith

  counted : IsCountedWhole m bits roots x.law key value x.in_range root x.some x.le fresh x.free x.missing
  counted = IsCountedWhole-need m bits roots x.law key value x.in_range root x.some x.le fresh x.free x.missing x.room

  run : suc height ≤ run_of m key root
  run = elim (cases_lt (run_of m key root) (suc height)) [
    | inl lt ↦ absurd (let u = (counted.under (omega arith)).0 in let o = over in omega arith)
    | inr ge ↦ ge
  ]

  run-is : run_of m key root ≡ suc height
  run-is =
      let path = ap (full_run m) (path_of-pages m key root x.in_range (x.law.trees root x.some x.le).0) in
      let most = full_run-le m (pages_up m key height root) in
      let count = length-pages_up m key height root in
      let least = run in omega arith

  pub has-two : 1 < length g.fresh
  has-two = (counted.over run-is).2

  pub two-few : height + 2 ≤ length fresh
  two-few = let h = has-two in let e = ap length p.fresh_is in let d = length-drop height fresh in omega arith

  pub left-at : a ≡ get_or fresh height 0
  left-at = ap first_fresh p.fresh_is ∙ first_fresh-drop height fresh

  pub right-at : b ≡ get_or fresh (suc height) 0
  right-at = ap (λ xs. first_fresh (other_fresh xs)) p.fresh_is ∙ (ap first_fresh (other_fresh-drop height fresh) ∙ first_fresh-drop (suc height) fresh)

  under : IsInsertedBelow m roots key value root height root g
  under = below roots root key value fresh old m bits x height 0 root refl refl k v work p

  path : PathPage m height root root
  path = on-path roots root key value fresh old m bits x height 0 root refl refl k v work p

  free : (g.bits a ≡ 0) × (g.bits b ≡ 0) × (a ≢ b)
  free = two-fresh g.bits g.fresh has-two under.free

  unused : (p.touched a ≡ false) × (p.touched b ≡ false)
  unused = all-two (λ q. p.touched q ≡ false) g.fresh has-two (subst (AllByRecursion (λ q. p.touched q ≡ false)) (sym p.fresh_is) p.unused)

  a-some : a ≢ 0
  a-some = clear-some (one_over root) g.memory g.bits roots under.lawful a free.0

  b-some : b ≢ 0
  b-some = clear-some (one_over root) g.memory g.bits roots under.lawful b free.1

  not-root : (n : ℕ) → g.bits n ≡ 0 → root ≢ n
  not-root n none e = let y = ap (λ q. (g.memory q).kind) e in let z = under.lawful.unmet n none in let w = under.kind in cc

  pub root-not_left : root ≢ a
  root-not_left = not-root a free.0

  pub root-not_right : root ≢ b
  root-not_right = not-root b free.1

  other : (n : ℕ) → n ≢ root → g.memory n ≡ p.memory n
  other = memory-other roots root key value fresh old m bits x height 0 root refl refl k v work p

  long : g.memory root ≡ with_records (put k v (m root).records) (m root)
  long = long-here roots root key value fresh old m bits x height 0 root refl refl k v work p

  same-free : (n : ℕ) → n ≢ 0 → g.bits n ≡ 0 → p.touched n ≡ false → g.memory n ≡ m n
  same-free n some none off = other n (λ e. not-root n none (sym e)) ∙ rest roots root key value fresh old m bits x height 0 root refl refl k v work p n some off

  kind-free : (n : ℕ) → n ≢ 0 → g.bits n ≡ 0 → p.touched n ≡ false → (m n).kind ≡ Free
  kind-free n some none off = ap (λ (q : PageState). q.kind) (sym (same-free n some none off)) ∙ under.lawful.unmet n none

  -- a root has no links
  alone : ((m root).prev ≡ 0) × ((m root).next ≡ 0)
  alone = go height refl (x.law.trees root x.some x.le).0.linked
    where
      go : (h : ℕ) → height_of m root ≡ h → AreLinked m 0 (level_below m (height_of m root) (top_of root)) 0 → ((m root).prev ≡ 0) × ((m root).next ≡ 0)
      go zero e linked = let l = subst (λ h. AreLinked m 0 (level_below m h (top_of root)) 0) e linked in (l.0, l.1)
      go (suc h) e linked = (x.law.sound root path.some).node (let z = e in omega arith)

  module _ (tree : IsSomeAnd (changed_of root old) IsTreePage) (left_there : IsThere old a) (right_there : IsThere old b)
      (clocks : (n : ℕ) → (memory_in old n).clock < 2 ^ 63) (agrees : (n : ℕ) → n ≢ 0 → IsThere old n → memory_in old n ≡ m n) where
    off-here : p.touched root ≡ false
    off-here = clean-here roots root key value fresh old m bits x height 0 root refl refl k v work p

    root-there : IsThere old root
    root-there = IsSome-and IsTreePage (changed_of root old) tree

    now-at : (n : ℕ) → n ≢ 0 → p.touched n ≡ false → IsThere old n → memory_in work n ≡ m n
    now-at = now roots root key value fresh old m bits x height 0 root refl refl k v work p

    root-now : memory_in work root ≡ m root
    root-now = now-at root path.some off-here root-there

    kept-clock : (n : ℕ) → n ≢ 0 → p.touched n ≡ false → (memory_in work n).clock < 2 ^ 63
    kept-clock n some off = subst (λ c. c < 2 ^ 63) (ap (λ o. (state_or_free o).clock) (sym (p.kept n some off))) (clocks n)

    kept-formed : (n : ℕ) → n ≢ 0 → g.bits n ≡ 0 → p.touched n ≡ false → IsThere old n → IsSomeAnd (changed_of n work) IsFormed
    kept-formed n some none off there = subst (λ (o : Option (List ℕ)). IsSomeAnd o IsFormed) (sym (p.kept n some off))
        (formed-kind old n there (λ bad. let kind = ap (λ (q : PageState). q.kind) (agrees n some there) ∙ kind-free n some none off in cc))

    pub can-raise : CanRaise root a b k work
    can-raise = record {
      tree = subst (λ (o : Option (List ℕ)). IsSomeAnd o IsTreePage) (sym (kept-here roots root key value fresh old m bits x height 0 root refl refl k v work p)) tree;
      left_free = kept-formed a a-some free.0 unused.0 left_there;
      right_free = kept-formed b b-some free.1 unused.1 right_there;
      full = ap (λ (q : PageState). length q.records) root-now ∙ full;
      absent = ap (λ (q : PageState). value_at k q.records) root-now ∙ absent-here roots root key value fresh old m bits x height 0 root refl refl k v work p;
      low = let e = ap (λ (q : PageState). q.level) root-now in let l = low (eq-eqb (run_of m key root) (suc height) run-is) in let h = most_height-le roots in omega arith;
      no_prev = ap (λ (q : PageState). q.prev) root-now ∙ alone.0;
      no_next = ap (λ (q : PageState). q.next) root-now ∙ alone.1;
      clock = kept-clock root path.some off-here;
      left_clock = kept-clock a a-some unused.0;
      right_clock = kept-clock b b-some unused.1;
      apart_left = root-not_left;
      apart_right = root-not_right;
      apart = free.2;
    }

    module _ (new : List WorkPage) (is : IsRaised root a b k v work new) where
      abbrev root-state : PageState
      root-state = tick (raised_root (with_record k v (memory_in work root)) a b)

      abbrev left-state : PageState
      left-state = tick (raised_left (with_record k v (memory_in work root)) b (memory_in work a).clock)

      abbrev right-state : PageState
      right-state = tick (raised_right (with_record k v (memory_in work root)) a (memory_in work b).clock)

      work-root : IsThere work root
      work-root = IsSome-and IsTreePage (changed_of root work) can-raise.tree

      work-left : IsThere work a
      work-left = IsSome-and IsFormed (changed_of a work) can-raise.left_free

      work-right : IsThere work b
      work-right = IsSome-and IsFormed (changed_of b work) can-raise.right_free

      one-left : IsThere is.one a
      one-left = set-there root root-state work is.one is.at_root a work-root work-left

      two-right : IsThere is.two b
      two-right = set-there a left-state is.one is.two is.at_left b one-left (set-there root root-state work is.one is.at_root b work-root work-right)

      after-there : (n : ℕ) → IsThere work n → IsThere new n
      after-there n there = set-there b right-state is.two new is.at_right n two-right
          (set-there a left-state is.one is.two is.at_left n one-left (set-there root root-state work is.one is.at_root n work-root there))

      after-was : (n : ℕ) → IsThere new n → IsThere work n
      after-was n there = set-was root root-state work is.one is.at_root n work-root
          (set-was a left-state is.one is.two is.at_left n one-left (set-was b right-state is.two new is.at_right n two-right there))

      after-other : (n : ℕ) → n ≢ root → n ≢ a → n ≢ b → changed_of n new ≡ changed_of n work
      after-other n nr na nb =
          set-others b right-state is.two new is.at_right n (λ e. nb (sym e)) ∙ (set-others a left-state is.one is.two is.at_left n (λ e. na (sym e))
          ∙ set-others root root-state work is.one is.at_root n (λ e. nr (sym e)))

      after-root : memory_in new root ≡ root-state
      after-root =
          set-other b right-state is.two new is.at_right root (λ e. root-not_right (sym e)) ∙ (set-other a left-state is.one is.two is.at_left root (λ e. root-not_left (sym e))
          ∙ set-same root root-state work is.one is.at_root work-root)

      after-left : memory_in new a ≡ left-state
      after-left = set-other b right-state is.two new is.at_right a (λ e. free.2 (sym e)) ∙ set-same a left-state is.one is.two is.at_left one-left

      after-right : memory_in new b ≡ right-state
      after-right = set-same b right-state is.two new is.at_right two-right

      -- the plan
      whole : planned_insert m bits fresh key value root ≡ raised root g
      whole = raise_long-long root g over

      abbrev pages_after : PageMemory
      pages_after = raise_page g.memory root a b

      abbrev touched_after : ℕ → Bool
      touched_after = mark 0 (mark a (mark b (mark root g.touched)))

      abbrev moves_after : ℕ → Move
      moves_after = with_move a Fills (with_move b Fills (with_move root Fills g.moves))

      -- the three pages are filled anew, and all other records stand as they did
      module _ (moves : ℕ → Move) where
        move-left : with_move a Fills (with_move b Fills (with_move root Fills moves)) a ≡ Fills
        move-left = with_move-own a Fills (with_move b Fills (with_move root Fills moves)) a refl

        move-right : with_move a Fills (with_move b Fills (with_move root Fills moves)) b ≡ Fills
        move-right = with_move-other a Fills (with_move b Fills (with_move root Fills moves)) b (λ e. free.2 (sym e)) ∙ with_move-own b Fills (with_move root Fills moves) b refl

        move-root : with_move a Fills (with_move b Fills (with_move root Fills moves)) root ≡ Fills
        move-root = with_move-other a Fills (with_move b Fills (with_move root Fills moves)) root root-not_left
            ∙ (with_move-other b Fills (with_move root Fills moves) root root-not_right ∙ with_move-own root Fills moves root refl)

        move-other : (n : ℕ) → n ≢ root → n ≢ a → n ≢ b → with_move a Fills (with_move b Fills (with_move root Fills moves)) n ≡ moves n
        move-other n nr na nb = with_move-other a Fills (with_move b Fills (with_move root Fills moves)) n na
            ∙ (with_move-other b Fills (with_move root Fills moves) n nb ∙ with_move-other root Fills moves n nr)

      filled-at : (n : ℕ) → IsThere work n → ((moves : ℕ → Move) → with_move a Fills (with_move b Fills (with_move root Fills moves)) n ≡ Fills) → HasMoved (moves_after n) (changed_of n old) (changed_of n new)
      filled-at n there fills =
          subst (λ (mv : Move). HasMoved mv (changed_of n old) (changed_of n new)) (sym (fills g.moves))
          (filled-any (changed_of n old) (changed_of n work) (changed_of n new) there
          (subst (λ (mv : Move). HasMoved mv (changed_of n work) (changed_of n new)) (fills unmoved) (is.moved n)))

      moved-after : (n : ℕ) → n ≢ 0 → HasMoved (moves_after n) (changed_of n old) (changed_of n new)
      moved-after n ns = elim (cases_eq n a) [
        | inl e ↦ subst (λ q. HasMoved (moves_after q) (changed_of q old) (changed_of q new)) (sym e) (filled-at a work-left move-left)
        | inr na ↦ elim (cases_eq n b) [
          | inl e ↦ subst (λ q. HasMoved (moves_after q) (changed_of q old) (changed_of q new)) (sym e) (filled-at b work-right move-right)
          | inr nb ↦ elim (cases_eq n root) [
            | inl e ↦ subst (λ q. HasMoved (moves_after q) (changed_of q old) (changed_of q new)) (sym e) (filled-at root work-root move-root)
            | inr nr ↦
                subst (λ (mv : Move). HasMoved mv (changed_of n old) (changed_of n new)) (sym (move-other g.moves n nr na nb ∙ (p.moves_is n ∙ with_move-other root (Puts k) p.moves n nr)))
                (subst (λ (o : Option (List ℕ)). HasMoved (p.moves n) (changed_of n old) o) (sym (after-other n nr na nb)) (p.moved n ns))
          ]
        ]
      ]

      on-left : touched_after a ≡ true
      on-left = mark-on 0 (mark a (mark b (mark root g.touched))) a (mark-own a (mark b (mark root g.touched)) a refl)

      on-right : touched_after b ≡ true
      on-right = mark-on 0 (mark a (mark b (mark root g.touched))) b (mark-on a (mark b (mark root g.touched)) b (mark-own b (mark root g.touched) b refl))

      on-root : touched_after root ≡ true
      on-root = mark-on 0 (mark a (mark b (mark root g.touched))) root (mark-on a (mark b (mark root g.touched)) root (mark-on b (mark root g.touched) root (mark-own root g.touched root refl)))

      pages-left : pages_after a ≡ raised_left (with_record k v (m root)) b (m a).clock
      pages-left =
          cond-eq a a (raised_left (g.memory root) b (g.memory a).clock) _ refl
          ∙ (ap (λ (q : PageState). raised_left q b (g.memory a).clock) long ∙ ap (λ (q : PageState). raised_left (with_record k v (m root)) b q.clock) (same-free a a-some free.0 unused.0))

      pages-right : pages_after b ≡ raised_right (with_record k v (m root)) a (m b).clock
      pages-right =
          cond-ne b a (raised_left (g.memory root) b (g.memory a).clock) _ (λ e. free.2 (sym e)) ∙ (cond-eq b b (raised_right (g.memory root) a (g.memory b).clock) _ refl
          ∙ (ap (λ (q : PageState). raised_right q a (g.memory b).clock) long ∙ ap (λ (q : PageState). raised_right (with_record k v (m root)) a q.clock) (same-free b b-some free.1 unused.1)))

      pages-root : pages_after root ≡ raised_root (with_record k v (m root)) a b
      pages-root =
          cond-ne root a (raised_left (g.memory root) b (g.memory a).clock) _ root-not_left ∙ (cond-ne root b (raised_right (g.memory root) a (g.memory b).clock) _ root-not_right
          ∙ (cond-eq root root (raised_root (g.memory root) a b) _ refl ∙ ap (λ (q : PageState). raised_root q a b) long))

      pages-other : (n : ℕ) → n ≢ root → n ≢ a → n ≢ b → pages_after n ≡ p.memory n
      pages-other n nr na nb =
          cond-ne n a (raised_left (g.memory root) b (g.memory a).clock) _ na ∙ (cond-ne n b (raised_right (g.memory root) a (g.memory b).clock) _ nb
          ∙ (cond-ne n root (raised_root (g.memory root) a b) _ nr ∙ other n nr))

      touched-other : (n : ℕ) → n ≢ 0 → n ≢ root → n ≢ a → n ≢ b → touched_after n ≡ p.touched n
      touched-other n ns nr na nb =
          cond-ne n 0 true (mark a (mark b (mark root g.touched)) n) ns ∙ (cond-ne n a true (mark b (mark root g.touched) n) na ∙ (cond-ne n b true (mark root g.touched n) nb
          ∙ (cond-ne n root true (g.touched n) nr ∙ (p.touched_is n ns ∙ cond-ne n root true (p.touched n) nr))))

      same-after : (n : ℕ) → n ≢ 0 → IsThere new n → memory_in new n ≡ ticked m touched_after pages_after n
      same-after n ns there = elim (cases_eq n a) [
        | inl e ↦ subst (λ q. memory_in new q ≡ ticked m touched_after pages_after q) (sym e) (
            after-left ∙ (ap (λ (q : PageState). tick (raised_left (with_record k v q) b (memory_in work a).clock)) root-now
            ∙ (ap (λ (q : PageState). tick (raised_left (with_record k v (m root)) b q.clock)) (now-at a a-some unused.0 left_there)
            ∙ sym (ticked-touched m touched_after pages_after a on-left ∙ ap (with_clock ((m a).clock + 1)) pages-left))))
        | inr na ↦ elim (cases_eq n b) [
          | inl e ↦ subst (λ q. memory_in new q ≡ ticked m touched_after pages_after q) (sym e) (
              after-right ∙ (ap (λ (q : PageState). tick (raised_right (with_record k v q) a (memory_in work b).clock)) root-now
              ∙ (ap (λ (q : PageState). tick (raised_right (with_record k v (m root)) a q.clock)) (now-at b b-some unused.1 right_there)
              ∙ sym (ticked-touched m touched_after pages_after b on-right ∙ ap (with_clock ((m b).clock + 1)) pages-right))))
          | inr nb ↦ elim (cases_eq n root) [
            | inl e ↦ subst (λ q. memory_in new q ≡ ticked m touched_after pages_after q) (sym e) (
                after-root ∙ (ap (λ (q : PageState). tick (raised_root (with_record k v q) a b)) root-now
                ∙ sym (ticked-touched m touched_after pages_after root on-root ∙ ap (with_clock ((m root).clock + 1)) pages-root)))
            | inr nr ↦
                ap state_or_free (after-other n nr na nb) ∙ (p.same n ns (after-was n there)
                ∙ ticked-same m p.touched touched_after p.memory pages_after n (sym (touched-other n ns nr na nb)) (sym (pages-other n nr na nb)))
          ]
        ]
      ]

      there-after : (n : ℕ) → n ≢ 0 → touched_after n ≡ true → IsThere new n
      there-after n ns on = elim (cases_eq n a) [
        | inl e ↦ subst (IsThere new) (sym e) (after-there a work-left)
        | inr na ↦ elim (cases_eq n b) [
          | inl e ↦ subst (IsThere new) (sym e) (after-there b work-right)
          | inr nb ↦ elim (cases_eq n root) [
            | inl e ↦ subst (IsThere new) (sym e) (after-there root work-root)
            | inr nr ↦ after-there n (p.there n ns (sym (touched-other n ns nr na nb) ∙ on))
          ]
        ]
      ]

      -- a page that is not touched is none of the three
      kept-after : (n : ℕ) → n ≢ 0 → touched_after n ≡ false → changed_of n new ≡ changed_of n old
      kept-after n ns off =
          let nr : n ≢ root = (λ e. let on = ap touched_after e ∙ on-root in cc) in
          let na : n ≢ a = (λ e. let on = ap touched_after e ∙ on-left in cc) in
          let nb : n ≢ b = (λ e. let on = ap touched_after e ∙ on-right in cc) in
          after-other n nr na nb ∙ p.kept n ns (sym (touched-other n ns nr na nb) ∙ off)

      climbed : IsClimbed 1 (take (height + 2) fresh) m pages_after (raised root g).bits bits touched_after moves_after old new
      climbed = record {
        reads = set-reads b right-state is.two new is.at_right ∙ (set-reads a left-state is.one is.two is.at_left ∙ (set-reads root root-state work is.one is.at_root ∙ p.reads));
        there = there-after;
        same = same-after;
        moved = moved-after;
        kept = kept-after;
        space = after-other 0 (λ e. path.some (sym e)) (λ e. a-some (sym e)) (λ e. b-some (sym e)) ∙ p.space;
        bits_are = λ n.
            let more : with_bits (take (height + 2) fresh) 1 bits n ≡ with_bits (take (suc (suc height)) fresh) 1 bits n =
            (let e : height + 2 ≡ suc (suc height) = omega arith in ap (λ i. with_bits (take i fresh) 1 bits n) e) in
            let room = two-few in
            sym (more ∙ (with_bits-more (suc height) fresh bits n (omega arith) ∙ (ap (λ j. with_bit (get_or fresh (suc height) 0) 1 j n) (bits-path (with_bits (take (suc height) fresh) 1 bits) (with_bit a 1 g.bits)
            (λ i. with_bits-more height fresh bits i (omega arith) ∙ (ap (λ q. with_bit q 1 (with_bits (take height fresh) 1 bits) i) (sym left-at) ∙ ap (λ c. cond (eqb i a) 1 c) (sym (p.bits_is i)))))
            ∙ ap (λ q. with_bit q 1 (with_bit a 1 g.bits) n) (sym right-at))));
        zero = sym (lt-ltb 0 (length (take (height + 2) fresh)) (let t = length-take (height + 2) fresh in let f = two-few in omega arith));
      }
        where
          bits-path : (c d : ℕ → ℕ) → ((i : ℕ) → c i ≡ d i) → c ≡ d
          bits-path c d h j i = h i j

      pub raise-climbed : let G = planned_insert m bits fresh key value root in IsClimbed 1 (take (height + 2) fresh) m G.memory G.bits bits G.touched G.moves old new
      raise-climbed = subst (λ (G : Growth). IsClimbed 1 (take (height + 2) fresh) m G.memory G.bits bits G.touched G.moves old new) (sym whole) climbed
