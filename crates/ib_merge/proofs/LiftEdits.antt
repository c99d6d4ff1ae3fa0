-- The root at the end of a delete: it stays, or it takes the records of its one child.
use Rattle.std.proofs.Common.{◌≡◌, ◌≢◌, ◌∙◌, ℕ, zero, suc, ◌+◌, ◌<◌, List, [], ◌∷◌, ◌++◌, length, length-append, refl, sym, ap, subst, inl, inr, Option, Bool, true, false, cond, arith, eqb, ltb}
use Rattle.std.specs.Prelude.{IsSome, IsSomeAnd, ◌&&◌}
use Rattle.std.proofs.lemmas.Bool.{cases_eq, cases_lt, cases_Bool, lt-ltb, ltb-true, eqb-true}
use Rattle.ib_map.specs.Keys.{MapKey, rank}
use Rattle.ib_map.specs.Pairs.{Pairs}
use Rattle.ib_map.proofs.KeyLaws.{rank-lt_end}
use Rattle.ib_heap.specs.declared.TheConstants.{MOST_RECORDS}
use Rattle.ib_page.specs.declared.space.TheConstants.{MAPPED_PAGES}
use Rattle.ib_page.specs.Image.{IsTreePage}
use Rattle.ib_page.specs.Work.{WorkPage, changed_of}
use Rattle.ib_walk.specs.Pages.{Tree, PageState, PageMemory}
use Rattle.ib_walk.specs.Search.{child_for}
use Rattle.ib_walk.proofs.ChoiceLaws.{cond-eq, cond-ne}
use Rattle.ib_walk.proofs.WalkLaws.{IsAlike}
use Rattle.ib_plans.specs.Delete.{Shrinkage, lift_single, lifted}
use Rattle.ib_plans.specs.Marks.{mark, ticked, with_bit, with_clock}
use Rattle.ib_plans.specs.Moves.{Move, Fills, Frees, unmoved, with_move, HasMoved}
use Rattle.ib_plans.specs.Merge.{first_child, freed_page, lift_page, lowered}
use Rattle.ib_plans.specs.Agreement.{IsClimbed, IsThere, state_or_free, memory_in, Agrees}
use Rattle.ib_plans.proofs.ClockLaws.{ticked-alike}
use Rattle.ib_plans.proofs.DeleteLaws.{IsDeletedBelow}
use Rattle.ib_plans.proofs.MoveLaws.{with_move-own, with_move-other, filled-any, freed-any}
use Rattle.ib_plans.proofs.ClockLaws.{ticked-touched}
use Rattle.ib_plans.proofs.PageLaws.{mark-off, mark-own, mark-on}
use Rattle.ib_plans.proofs.PathLaws.{PathPage, PathPage-child}
use Rattle.ib_merge.specs.Deletes.{CanLift, IsLifted, IsDeleteClimbed}
use Rattle.ib_merge.proofs.AtLaws.{IsAt, mark-skip, mark-split}
use Rattle.ib_merge.proofs.GiveLaws.{with_bits-last, AreTaken-last}
use Rattle.ib_merge.proofs.ImageLaws.{there-tree}
use Rattle.ib_merge.proofs.MergedLaws.{lifted-reads, lifted-root, lifted-child, lifted-others}
use Rattle.ib_merge.proofs.OnPathLaws.{there-reads}

-- what was come to, as the pages of the plan
pub IsDeleteClimbed-at : (m : PageMemory) (bits : ℕ → ℕ) (height page : ℕ) (s : Shrinkage) (freed : List ℕ) (old new : List WorkPage) → IsAt m bits height page s freed old new
    → IsDeleteClimbed freed m s.memory s.bits bits s.touched s.moves old new
IsDeleteClimbed-at m bits height page s freed old new x = record { climbed = record { reads = x.reads; there = x.there; same = x.same; moved = x.moved; kept = x.kept; space = x.space; bits_are = x.bits_are; zero = x.zero_is }; taken = x.taken }

-- a list of one record
pub one-record : (rs : Pairs) → length rs ≡ 1 → (y : MapKey × ℕ) × (rs ≡ y ∷ [])
one-record [] e = absurd (omega arith)
one-record (y ∷ []) e = (y, refl)
one-record (y ∷ z ∷ zs) e = absurd (omega arith)

module _ (pages roots root : ℕ) (key : MapKey) (path : List ℕ) (old : List WorkPage) (m : PageMemory) (bits : ℕ → ℕ) (a : Agrees pages roots root key path old m bits)
    (height : ℕ) (s : Shrinkage) (was : IsDeletedBelow m roots key root height root s) (freed : List ℕ) (mid : List WorkPage) (x : IsAt m bits height root s freed old mid) where
  root-some : root ≢ 0
  root-some z = let p = a.some in omega arith

  root-at : IsThere mid root
  root-at = x.there root root-some x.own

  root-alike : IsAlike (memory_in mid root) (s.memory root)
  root-alike = subst (λ (p : PageState). IsAlike p (s.memory root)) (sym (x.same root root-some root-at)) (ticked-alike m s.touched s.memory root)

  pub root-tree : IsSomeAnd (changed_of root mid) IsTreePage
  root-tree = there-tree (changed_of root mid) (root-alike.kind ∙ was.kind)

  abbrev test : Bool
  test = ltb 0 (memory_in mid root).level && eqb (length (memory_in mid root).records) 1

  same-test : test ≡ (ltb 0 (s.memory root).level && eqb (length (s.memory root).records) 1)
  same-test =
      ap (λ l. ltb 0 l && eqb (length (memory_in mid root).records) 1) root-alike.level
      ∙ ap (λ rs. ltb 0 (s.memory root).level && eqb (length rs) 1) root-alike.records

  -- the root stays
  pub root-stays : test ≡ false → lift_single root s ≡ s
  root-stays off = ap (λ b. cond b (lifted s root (first_child (s.memory root).records)) s)
      (ap (λ b. b && (ltb 0 (s.memory root).level && eqb (length (s.memory root).records) 1)) x.lost ∙ (sym same-test ∙ off))

  -- the root is lifted
  module _ (on : test ≡ true) where
    root-lifts : lift_single root s ≡ lifted s root (first_child (s.memory root).records)
    root-lifts = ap (λ b. cond b (lifted s root (first_child (s.memory root).records)) s)
        (ap (λ b. b && (ltb 0 (s.memory root).level && eqb (length (s.memory root).records) 1)) x.lost ∙ (sym same-test ∙ on))

    both : (p q : Bool) → (p && q) ≡ true → (p ≡ true) × (q ≡ true)
    both true true e = (refl, refl)
    both true false e = (refl, e)
    both false q e = (e, absurd (cc))

    above-leaves : 0 < height
    above-leaves = let l = ltb-true 0 (s.memory root).level ((both (ltb 0 (s.memory root).level) (eqb (length (s.memory root).records) 1) (sym same-test ∙ on)).0) in let k = was.level in omega arith

    one : (y : MapKey × ℕ) × ((s.memory root).records ≡ y ∷ [])
    one = one-record (s.memory root).records (eqb-true (length (s.memory root).records) 1 ((both (ltb 0 (s.memory root).level) (eqb (length (s.memory root).records) 1) (sym same-test ∙ on)).1))

    abbrev child : ℕ
    child = one.0.1

    -- the child is the page of the key below the root
    child-page : (h : ℕ) → height ≡ suc h → PathPage s.memory h root child
    child-page h e =
        let p = PathPage-child (λ n. MOST_RECORDS) s.memory s.bits roots was.lawful key (rank-lt_end key) root a.some a.within 0 h root (was.level ∙ e) refl in
        let q : PathPage s.memory h root (child_for key 0 (one.0 ∷ [])) = subst (λ (rs : Pairs). PathPage s.memory h root (child_for key 0 rs)) one.1 p in
        elim (cases_Bool (ltb (rank key) (rank one.0.0))) [
          | inl lower ↦ let z : child_for key 0 (one.0 ∷ []) ≡ 0 = rw lower refl in absurd (q.some z)
          | inr not ↦ let z : child_for key 0 (one.0 ∷ []) ≡ child = rw not refl in subst (PathPage s.memory h root) z q
        ]

    record Child : Type 0 where
      kind : (s.memory child).kind ≡ Tree
      some : child ≢ 0
      apart : root ≢ child

    child-is : Child
    child-is = by height refl
      where
        by : (h : ℕ) → height ≡ h → Child
        by zero e = absurd (let l = above-leaves in omega arith)
        by (suc h) e = let p = child-page h e in record {
          kind = p.kind;
          some = p.some;
          apart = λ z. let l = p.level in let k = was.level in let w = ap (λ q. (s.memory q).level) z in omega arith;
        }

    child-touched : s.touched child ≡ true
    child-touched = x.single one.0 above-leaves one.1

    child-at : IsThere mid child
    child-at = x.there child child-is.some child-touched

    child-alike : IsAlike (memory_in mid child) (s.memory child)
    child-alike = subst (λ (p : PageState). IsAlike p (s.memory child)) (sym (x.same child child-is.some child-at)) (ticked-alike m s.touched s.memory child)

    child-set : s.bits child ≢ 0
    child-set z = let f = was.lawful.unmet child z in let k = child-is.kind in absurd (cc)

    child-few : child < MAPPED_PAGES
    child-few = elim (cases_lt child MAPPED_PAGES) [ inl lt ↦ lt | inr ge ↦ absurd (child-set (was.lawful.few child ge)) ]

    pub can-lift : CanLift root mid
    can-lift = record {
      root_there = root-tree;
      pair = one.0;
      one = root-alike.records ∙ one.1;
      child_there = (there-tree (changed_of child mid) (child-alike.kind ∙ child-is.kind), let l = child-few in omega arith);
      apart = child-is.apart;
    }

    first-is : (q : ℕ) → q ≡ first_child (memory_in mid root).records → q ≡ child
    first-is q e = e ∙ ap first_child (root-alike.records ∙ one.1)

    module _ (new : List WorkPage) (lift : IsLifted root child mid new) where
      abbrev t-all : ℕ → Bool
      t-all = mark 0 (mark child (mark root s.touched))

      abbrev planned : PageMemory
      planned = lift_page s.memory root child

      there-new : (n : ℕ) → IsThere mid n → IsThere new n
      there-new n h = there-reads mid new n (lifted-reads root child mid new root-at child-at child-is.apart lift) h

      abbrev the-root : PageState
      the-root = lowered (s.memory root) (s.memory child)

      on-child : t-all child ≡ true
      on-child = mark-on 0 (mark child (mark root s.touched)) child (mark-own child (mark root s.touched) child refl)

      on-root : t-all root ≡ true
      on-root = mark-on 0 (mark child (mark root s.touched)) root (mark-on child (mark root s.touched) root (mark-own root s.touched root refl))

      root-mid : memory_in mid root ≡ with_clock ((m root).clock + 1) (s.memory root)
      root-mid = x.same root root-some root-at ∙ ticked-touched m s.touched s.memory root x.own

      child-mid : memory_in mid child ≡ with_clock ((m child).clock + 1) (s.memory child)
      child-mid = x.same child child-is.some child-at ∙ ticked-touched m s.touched s.memory child child-touched

      planned-root : planned root ≡ the-root
      planned-root = cond-ne root child (freed_page (s.memory child)) (cond (eqb root root) the-root (s.memory root)) child-is.apart ∙ cond-eq root root the-root (s.memory root) refl

      planned-child : planned child ≡ freed_page (s.memory child)
      planned-child = cond-eq child child (freed_page (s.memory child)) (cond (eqb child root) the-root (s.memory child)) refl

      planned-other : (n : ℕ) → n ≢ root → n ≢ child → planned n ≡ s.memory n
      planned-other n nr nc = cond-ne n child (freed_page (s.memory child)) (cond (eqb n root) the-root (s.memory n)) nc ∙ cond-ne n root the-root (s.memory n) nr

      same-new : (n : ℕ) → n ≢ 0 → IsThere new n → memory_in new n ≡ ticked m t-all planned n
      same-new n nz h = elim (cases_eq n child) [
        | inl e ↦ subst (λ q. memory_in new q ≡ ticked m t-all planned q) (sym e)
            (lifted-child root child mid new root-at child-at child-is.apart lift ∙ (ap freed_page child-mid
            ∙ (sym (ap (with_clock ((m child).clock + 1)) planned-child) ∙ sym (ticked-touched m t-all planned child on-child))))
        | inr nc ↦ elim (cases_eq n root) [
          | inl e ↦ subst (λ q. memory_in new q ≡ ticked m t-all planned q) (sym e)
              (lifted-root root child mid new root-at child-at child-is.apart lift
              ∙ (ap (λ (p : PageState). lowered p (memory_in mid child)) root-mid ∙ (ap (λ (p : PageState). lowered (with_clock ((m root).clock + 1) (s.memory root)) p) child-mid
              ∙ (sym (ap (with_clock ((m root).clock + 1)) planned-root) ∙ sym (ticked-touched m t-all planned root on-root)))))
          | inr nr ↦
              let off : t-all n ≡ s.touched n = mark-skip 0 (mark child (mark root s.touched)) n nz ∙ (mark-skip child (mark root s.touched) n nc ∙ mark-skip root s.touched n nr) in
              let was-n : changed_of n new ≡ changed_of n mid = lifted-others root child mid new root-at child-at child-is.apart lift n nr nc in
              ap state_or_free was-n ∙ (x.same n nz (subst IsSome was-n h)
              ∙ (ap (λ b. cond b (with_clock ((m n).clock + 1) (s.memory n)) (s.memory n)) (sym off)
              ∙ ap (λ (p : PageState). cond (t-all n) (with_clock ((m n).clock + 1) p) p) (sym (planned-other n nr nc))))
        ]
      ]

      abbrev m-all : ℕ → Move
      m-all = with_move child Frees (with_move root Fills s.moves)

      root-fills : (moves : ℕ → Move) → with_move child Frees (with_move root Fills moves) root ≡ Fills
      root-fills moves = with_move-other child Frees (with_move root Fills moves) root child-is.apart ∙ with_move-own root Fills moves root refl

      moved-new : (n : ℕ) → n ≢ 0 → HasMoved (m-all n) (changed_of n old) (changed_of n new)
      moved-new n nz = elim (cases_eq n child) [
        | inl e ↦ subst (λ (mv : Move). HasMoved mv (changed_of n old) (changed_of n new)) (sym (with_move-own child Frees (with_move root Fills s.moves) n e)) (freed-any (changed_of n old) (changed_of n new))
        | inr nc ↦ elim (cases_eq n root) [
          | inl e ↦ subst (λ q. HasMoved (m-all q) (changed_of q old) (changed_of q new)) (sym e)
              (subst (λ (mv : Move). HasMoved mv (changed_of root old) (changed_of root new)) (sym (root-fills s.moves))
              (filled-any (changed_of root old) (changed_of root mid) (changed_of root new) root-at
              (subst (λ (mv : Move). HasMoved mv (changed_of root mid) (changed_of root new)) (root-fills unmoved) (lift.moved root))))
          | inr nr ↦ subst (λ (mv : Move). HasMoved mv (changed_of n old) (changed_of n new)) (sym (with_move-other child Frees (with_move root Fills s.moves) n nc ∙ with_move-other root Fills s.moves n nr))
              (subst (λ (o : Option (List ℕ)). HasMoved (s.moves n) (changed_of n old) o) (sym (lifted-others root child mid new root-at child-at child-is.apart lift n nr nc)) (x.moved n nz))
        ]
      ]

      kept-new : (n : ℕ) → n ≢ 0 → t-all n ≡ false → changed_of n new ≡ changed_of n old
      kept-new n nz off =
          let free = mark-off 0 (mark child (mark root s.touched)) n off in
          let not-child = mark-off child (mark root s.touched) n free.1 in
          let not-root = mark-off root s.touched n not-child.1 in
          lifted-others root child mid new root-at child-at child-is.apart lift n not-root.0 not-child.0 ∙ x.kept n nz not-root.1

      stays : IsClimbed 0 (freed ++ child ∷ []) m planned (with_bit child 0 s.bits) bits t-all m-all old new
      stays = record {
        reads = lifted-reads root child mid new root-at child-at child-is.apart lift ∙ x.reads;
        there = λ n nz on. elim (mark-split 0 (mark child (mark root s.touched)) n on) [
          | inl e ↦ absurd (nz e)
          | inr p ↦ elim (mark-split child (mark root s.touched) n p) [
            | inl e ↦ subst (IsThere new) (sym e) (there-new child child-at)
            | inr q ↦ elim (mark-split root s.touched n q) [
              | inl e ↦ subst (IsThere new) (sym e) (there-new root root-at)
              | inr r ↦ there-new n (x.there n nz r)
            ]
          ]
        ];
        same = same-new;
        moved = moved-new;
        kept = kept-new;
        space = lifted-others root child mid new root-at child-at child-is.apart lift 0 (λ e. root-some (sym e)) (λ e. child-is.some (sym e)) ∙ x.space;
        bits_are = λ n. ap (λ k. cond (eqb n child) 0 k) (x.bits_are n) ∙ sym (ap (λ (f : ℕ → ℕ). f n) (with_bits-last freed child bits));
        zero = mark-own 0 (mark child (mark root s.touched)) 0 refl ∙ sym (lt-ltb 0 (length (freed ++ child ∷ [])) (let l = length-append freed (child ∷ []) in omega arith));
      }

      climbed : IsDeleteClimbed (freed ++ child ∷ []) m planned (with_bit child 0 s.bits) bits t-all m-all old new
      climbed = record { climbed = stays; taken = AreTaken-last freed child bits x.taken (λ z. child-set (x.bits_are child ∙ z)) child-few }

    -- what a lift leaves
    pub IsDeleteClimbed-lift : (q : ℕ) (new : List WorkPage) → q ≡ first_child (memory_in mid root).records → IsLifted root q mid new
        → let u = lift_single root s in IsDeleteClimbed (freed ++ q ∷ []) m u.memory u.bits bits u.touched u.moves old new
    IsDeleteClimbed-lift q new e lift =
        let c = first-is q e in
        let l : IsLifted root child mid new = subst (λ k. IsLifted root k mid new) c lift in
        let f : first_child (s.memory root).records ≡ child = ap first_child one.1 in
        let k : IsDeleteClimbed (freed ++ child ∷ []) m (lifted s root child).memory (lifted s root child).bits bits (lifted s root child).touched (lifted s root child).moves old new = climbed new l in
        let r : lift_single root s ≡ lifted s root child = root-lifts ∙ ap (lifted s root) f in
        subst (λ (n : ℕ). IsDeleteClimbed (freed ++ n ∷ []) m (lift_single root s).memory (lift_single root s).bits bits (lift_single root s).touched (lift_single root s).moves old new) (sym c)
        (subst (λ (u : Shrinkage). IsDeleteClimbed (freed ++ child ∷ []) m u.memory u.bits bits u.touched u.moves old new) (sym r) k)
