-- A whole planned delete: after the pages below it, a root that is left with one child takes its records.
use Rattle.std.proofs.Common.{◌≡◌, ◌≢◌, ℕ, ◌<◌, ◌≤◌, ◌∙◌, [], ◌∷◌, zero, suc, Bool, true, false, cond, length, refl, sym, ap, subst, arith}
use Rattle.std.specs.Prelude.{◌&&◌, ◌==◌, nat_lt}
use Rattle.std.proofs.lemmas.Bool.Decides.{nat_tests}
use Rattle.ib_map.specs.Keys.{MapKey, end_rank, rank}
use Rattle.ib_map.specs.Pairs.{Pairs, without}
use Rattle.ib_heap.specs.declared.TheConstants.{MOST_RECORDS}
use Rattle.ib_walk.specs.Pages.{Free, IsSound, PageMemory, PageState}
use Rattle.ib_walk.specs.Trees.{IsLawful, IsTreeOf, content_of, height_of, top_of, weight_of}
use Rattle.ib_walk.specs.Walk.{IsTree, Visit, children}
use Rattle.ib_walk.proofs.ChoiceLaws.{cond-eq, cond-ne}
use Rattle.ib_plans.specs.Delete.{Shrinkage, delete_below, lift_single, lifted, planned_delete}
use Rattle.ib_plans.specs.Marks.{mark, with_bit}
use Rattle.ib_plans.specs.Merge.{first_child, freed_page, lift_page, lowered}
use Rattle.ib_plans.proofs.DeleteLaws.{IsDeletedBelow, IsDeletedBelow-path}
use Rattle.ib_plans.proofs.LevelLaws.{level-visit}
use Rattle.ib_plans.proofs.LiftLaws.{IsLawful-lift, IsLifted, child-some, content_of-lift, weight_of-lift_away}
use Rattle.ib_plans.proofs.PageLaws.{IsAway, IsAway-on, IsAway-own, IsSound-freed, mark-off, with_bit-other, with_bit-own}

-- what holds after a planned delete
pub record IsPlannedDelete (m : PageMemory) (roots : ℕ) (key : MapKey) (root : ℕ) (s : Shrinkage) : Type 0 where
  pub lawful : IsLawful s.memory s.bits roots
  pub holds : content_of s.memory root ≡ without key (content_of m root)
  pub others : (r : ℕ) → 0 < r → r ≤ roots → r ≢ root → content_of s.memory r ≡ content_of m r
  pub ranges : (f : ℕ → Visit → ℕ) → IsAway s.touched f → (r : ℕ) → 0 < r → r ≤ roots → weight_of f s.memory r ≡ weight_of f m r
  pub rest : (n : ℕ) → s.touched n ≡ false → s.memory n ≡ m n

module _ (m : PageMemory) (roots : ℕ) (key : MapKey) (root : ℕ) (some : 0 < root) (le : root ≤ roots) (s : Shrinkage) where
  -- the root stays as it is
  stay : (height : ℕ) → IsDeletedBelow m roots key root height root s → IsPlannedDelete m roots key root s
  stay height was = record { lawful = was.lawful; holds = was.holds; others = was.others; ranges = was.ranges; rest = was.rest }

  -- the root has one child
  module _ (height : ℕ) (was : IsDeletedBelow m roots key root (suc height) root s) (x : MapKey × ℕ) (is : (s.memory root).records ≡ x ∷ []) where
    abbrev now : PageMemory
    now = lift_page s.memory root x.1

    tree : IsTreeOf s.memory (suc height) root
    tree = subst (λ h. IsTreeOf s.memory h root) was.level (was.lawful.trees root some le).0

    row : IsTree s.memory height (record { page = x.1; low = rank x.0; high = end_rank } ∷ [])
    row =
        let e : children s.memory (top_of root) ≡ record { page = x.1; low = rank x.0; high = end_rank } ∷ [] = rw is refl in
        subst (IsTree s.memory height) e (record { nodes = tree.tree.nodes.1; leaves = tree.tree.leaves })

    child-level : (s.memory x.1).level ≡ height
    child-level = level-visit s.memory height [] (record { page = x.1; low = rank x.0; high = end_rank }) [] row

    apart : root ≢ x.1
    apart e = let a = ap (λ q. (s.memory q).level) e in let b = was.level in omega (arith, child-level)

    abbrev the-root : PageState
    the-root = lowered (s.memory root) (s.memory x.1)

    child-now : now x.1 ≡ freed_page (s.memory x.1)
    child-now = cond-eq x.1 x.1 (freed_page (s.memory x.1)) _ refl

    root-now : now root ≡ the-root
    root-now = cond-ne root x.1 (freed_page (s.memory x.1)) _ apart ∙ cond-eq root root the-root _ refl

    other-now : (n : ℕ) → n ≢ root → n ≢ x.1 → now n ≡ s.memory n
    other-now n nr nc = cond-ne n x.1 (freed_page (s.memory x.1)) _ nc ∙ cond-ne n root the-root _ nr

    the-lift : IsLifted s.memory now root x.1 height
    the-lift = record {
      pair = x;
      was = is;
      here = refl;
      level_was = was.level;
      kind = ap (λ (p : PageState). p.kind) root-now;
      level = ap (λ (p : PageState). p.level) root-now ∙ child-level;
      records = ap (λ (p : PageState). p.records) root-now;
      alone = (ap (λ (p : PageState). p.prev) root-now, ap (λ (p : PageState). p.next) root-now);
      others = other-now;
    }

    freed : (now x.1).kind ≡ Free
    freed = ap (λ (p : PageState). p.kind) child-now

    kept : (r : ℕ) → 0 < r → r ≤ roots → content_of now r ≡ content_of s.memory r
    kept = content_of-lift (λ n. MOST_RECORDS) s.memory now s.bits roots was.lawful root some le x.1 height the-lift freed

    go : IsPlannedDelete m roots key root (lifted s root x.1)
    go = record {
      lawful = IsLawful-lift (λ n. MOST_RECORDS) s.memory now s.bits roots was.lawful root some le x.1 height the-lift freed (λ n. MOST_RECORDS) (with_bit x.1 0 s.bits)
          (with_bit-own x.1 0 s.bits) (λ n ne. with_bit-other x.1 0 s.bits n ne) (subst (IsSound MOST_RECORDS) (sym child-now) (IsSound-freed (s.memory x.1)))
          (λ n nr nc. omega arith) (was.lawful.sound x.1 (child-some (λ n. MOST_RECORDS) s.memory now s.bits roots was.lawful root some le x.1 height the-lift freed)).short;
      holds = kept root some le ∙ was.holds;
      others = λ r a b ne. kept r a b ∙ was.others r a b ne;
      ranges = λ f away r a b.
          let on-child = IsAway-on 0 (mark x.1 (mark root s.touched)) f away in
          let on-root = IsAway-on x.1 (mark root s.touched) f on-child in
          weight_of-lift_away (λ n. MOST_RECORDS) s.memory now s.bits roots was.lawful root some le x.1 height the-lift freed f
          (IsAway-own root s.touched f on-root) (IsAway-own x.1 (mark root s.touched) f on-child) r a b
          ∙ was.ranges f (IsAway-on root s.touched f on-root) r a b;
      rest = λ n off.
          let z = mark-off 0 (mark x.1 (mark root s.touched)) n off in
          let a = mark-off x.1 (mark root s.touched) n z.1 in
          let b = mark-off root s.touched n a.1 in other-now n b.0 a.0 ∙ was.rest n b.1;
    }

  -- where the test of a lift holds, the root is a node, and has one record
  lift-node : (lost : Bool) (level count : ℕ) → (lost && (nat_lt 0 level && (count == 1))) ≡ true → 0 < level
  lift-node lost level count e = grind (arith, nat_tests)

  lift-one : (lost : Bool) (level count : ℕ) → (lost && (nat_lt 0 level && (count == 1))) ≡ true → count ≡ 1
  lift-one lost level count e = grind (arith, nat_tests)

  lifts : (height : ℕ) → IsDeletedBelow m roots key root height root s → 0 < (s.memory root).level → length (s.memory root).records ≡ 1
      → (rs : Pairs) → (s.memory root).records ≡ rs → IsPlannedDelete m roots key root (lifted s root (first_child (s.memory root).records))
  lifts zero was l n rs e = absurd (let a = was.level in omega arith)
  lifts (suc height) was l n [] e = absurd (let a = ap length e in omega arith)
  lifts (suc height) was l n (x ∷ y ∷ ys) e = absurd (let a = ap length e in omega arith)
  lifts (suc height) was l n (x ∷ []) e = subst (λ c. IsPlannedDelete m roots key root (lifted s root c)) (sym (ap first_child e)) (go height was x e)

  -- so the lift, where there is one, gives the whole
  pub IsPlannedDelete-step : (height : ℕ) → IsDeletedBelow m roots key root height root s → IsPlannedDelete m roots key root (lift_single root s)
  IsPlannedDelete-step height was =
      elim (s.lost && (nat_lt 0 (s.memory root).level && (length (s.memory root).records == 1))) as (λ b.
      (s.lost && (nat_lt 0 (s.memory root).level && (length (s.memory root).records == 1))) ≡ b → IsPlannedDelete m roots key root (cond b (lifted s root (first_child (s.memory root).records)) s)) [
        | true ↦ λ e. lifts height was (lift-node s.lost (s.memory root).level (length (s.memory root).records) e) (lift-one s.lost (s.memory root).level (length (s.memory root).records) e) (s.memory root).records refl
        | false ↦ λ e. stay height was
      ] refl

-- the planned delete of a key, be it there or not
pub IsPlannedDelete-plan : (m : PageMemory) (bits : ℕ → ℕ) (roots : ℕ) → IsLawful m bits roots → (key : MapKey) → rank key < end_rank → (root : ℕ) → 0 < root → root ≤ roots
    → IsPlannedDelete m roots key root (planned_delete m bits key root)
IsPlannedDelete-plan m bits roots law key in-range root some le =
    IsPlannedDelete-step m roots key root some le (delete_below m bits key (height_of m root) root) (height_of m root)
    (IsDeletedBelow-path m bits roots law key in-range root some le (height_of m root) 0 root refl refl)
