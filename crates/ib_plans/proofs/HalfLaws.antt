-- A page gives its records to two pages: what the level of that page makes of it.
use Rattle.std.specs.List.{AllByRecursion}
use Rattle.std.proofs.Common.{◌≡◌, ◌≢◌, ℕ, ◌+◌, ◌<◌, ◌≤◌, ◌∙◌, ◌∷◌, ◌++◌, zero, suc, List, length, sym, ap, subst, arith, append_assoc}
use Rattle.ib_map.specs.Keys.{MapKey, rank}
use Rattle.ib_map.specs.Pairs.{Pairs, Rises, first_rank}
use Rattle.ib_map.proofs.RiseLaws.{Rises-left, Rises-right}
use Rattle.ib_walk.specs.Pages.{PageMemory, Tree}
use Rattle.ib_walk.specs.Walk.{IsLeafAt, IsNodeAt, IsTree, Visit, below, children, records_along, sum_of, weight_along}
use Rattle.ib_walk.proofs.WalkLaws.{AllByRecursion-append, AllByRecursion-left, AllByRecursion-right, AreAlike, IsAlike, IsSameTree-below, children-append, children-same, children_of-append, leaves-same, nodes-same, records_along-append, records_along-same, sum_of-append}
use Rattle.ib_plans.proofs.LevelLaws.{AllByRecursion-both, IsTree-children}
use Rattle.ib_plans.proofs.RecordLaws.{first_rank-left}

-- the pages of these visits are others than this one
abbrev pub AreOther : ℕ → List Visit → Type 0
AreOther page vs = AllByRecursion (λ v. v.page ≢ page) vs

-- a page of this height gives the records up to one to its home, which may be itself, and those from it on to a fresh page
pub record IsHalved (m new : PageMemory) (height child home fresh : ℕ) : Type 0 where
  pub left : Pairs
  pub first : MapKey × ℕ
  pub rest : Pairs
  pub halves : (m child).records ≡ left ++ first ∷ rest
  pub some : 0 < length left
  pub at : (m child).level ≡ height
  pub home_kind : (new home).kind ≡ Tree
  pub home_level : (new home).level ≡ height
  pub home_records : (new home).records ≡ left
  pub fresh_kind : (new fresh).kind ≡ Tree
  pub fresh_level : (new fresh).level ≡ height
  pub fresh_records : (new fresh).records ≡ first ∷ rest
  pub beside : (n : ℕ) → (m n).kind ≡ Tree → (m n).level ≤ height → n ≢ child → IsAlike (new n) (m n)

-- a level in which one visit has become two
pub record IsHalvedRow (m new : PageMemory) (height : ℕ) (row : List Visit) (old left right : Visit) (changed : List Visit) : Type 0 where
  pub tree : IsTree new height changed
  pub holds : records_along new (below new height changed) ≡ records_along m (below m height row)
  pub weighs : (f : ℕ → Visit → ℕ) → weight_along f new height changed + f height old ≡ weight_along f m height row + f height left + f height right
  pub lowest : 0 < height → below new height changed ≡ below m height row

module _ (m new : PageMemory) (height child home fresh : ℕ) (half : IsHalved m new height child home fresh) where
  -- the two halves rise on either side of the first key that goes
  left-rises : (w : Visit) → w.page ≡ child → Rises w.low (m w.page).records w.high → Rises w.low half.left (rank half.first.0)
  left-rises w here h = Rises-left w.low half.left (half.first ∷ half.rest) w.high
      (let r = subst (λ q. Rises w.low (m q).records w.high) here h in subst (λ rs. Rises w.low rs w.high) half.halves r)

  right-rises : (w : Visit) → w.page ≡ child → Rises w.low (m w.page).records w.high → Rises (rank half.first.0) (half.first ∷ half.rest) w.high
  right-rises w here h = Rises-right w.low half.left (half.first ∷ half.rest) w.high
      (let r = subst (λ q. Rises w.low (m q).records w.high) here h in subst (λ rs. Rises w.low rs w.high) half.halves r)

  -- so they are leaves, or nodes, of the two ranges
  left-leaf : (w : Visit) → w.page ≡ child → IsLeafAt m w → IsLeafAt new (record { page = home; low = w.low; high = rank half.first.0 })
  left-leaf w here l = record {
    kind = half.home_kind;
    level = half.home_level ∙ (sym half.at ∙ subst (λ q. (m q).level ≡ 0) here l.level);
    within = subst (λ rs. Rises w.low rs (rank half.first.0)) (sym half.home_records) (left-rises w here l.within);
  }

  right-leaf : (w : Visit) → w.page ≡ child → IsLeafAt m w → IsLeafAt new (record { page = fresh; low = rank half.first.0; high = w.high })
  right-leaf w here l = record {
    kind = half.fresh_kind;
    level = half.fresh_level ∙ (sym half.at ∙ subst (λ q. (m q).level ≡ 0) here l.level);
    within = subst (λ rs. Rises (rank half.first.0) rs w.high) (sym half.fresh_records) (right-rises w here l.within);
  }

  left-node : (w : Visit) → w.page ≡ child → IsNodeAt m height w → IsNodeAt new height (record { page = home; low = w.low; high = rank half.first.0 })
  left-node w here l = record {
    kind = half.home_kind;
    level = half.home_level;
    within = subst (λ rs. Rises w.low rs (rank half.first.0)) (sym half.home_records) (left-rises w here l.within);
    first = ap (λ rs. first_rank rs (rank half.first.0)) half.home_records ∙ (sym (first_rank-left half.left (half.first ∷ half.rest) w.high (rank half.first.0) half.some)
        ∙ (ap (λ rs. first_rank rs w.high) (sym half.halves) ∙ (ap (λ q. first_rank (m q).records w.high) (sym here) ∙ l.first)));
    some = subst (λ (rs : Pairs). 0 < length rs) (sym half.home_records) half.some;
  }

  right-node : (w : Visit) → w.page ≡ child → IsNodeAt m height w → IsNodeAt new height (record { page = fresh; low = rank half.first.0; high = w.high })
  right-node w here l = record {
    kind = half.fresh_kind;
    level = half.fresh_level;
    within = subst (λ rs. Rises (rank half.first.0) rs w.high) (sym half.fresh_records) (right-rises w here l.within);
    first = ap (λ rs. first_rank rs w.high) half.fresh_records;
    some = subst (λ (rs : Pairs). 0 < length rs) (sym half.fresh_records) (omega arith);
  }

  -- the records and the children of the level are the same, and it weighs the two visits more and the old one less
  module _ (before : List Visit) (w : Visit) (behind : List Visit) (here : w.page ≡ child) where
    abbrev left-visit : Visit
    left-visit = record { page = home; low = w.low; high = rank half.first.0 }

    abbrev right-visit : Visit
    right-visit = record { page = fresh; low = rank half.first.0; high = w.high }

    row-records : AreAlike m new before → AreAlike m new behind → records_along new (before ++ left-visit ∷ right-visit ∷ behind) ≡ records_along m (before ++ w ∷ behind)
    row-records a b =
        let x = records_along-same m new before a in
        let y = records_along-same m new behind b in
        let e : (m w.page).records ≡ half.left ++ half.first ∷ half.rest = ap (λ q. (m q).records) here ∙ half.halves in
        let l = half.home_records in let r = half.fresh_records in
        records_along-append new before (left-visit ∷ right-visit ∷ behind) ∙ (rw (x, y, l, r) (sym (records_along-append m before (w ∷ behind) ∙ rw e (simp append_assoc))))

    row-children : AreAlike m new before → AreAlike m new behind → children new (before ++ left-visit ∷ right-visit ∷ behind) ≡ children m (before ++ w ∷ behind)
    row-children a b =
        let x = children-same m new before a in
        let y = children-same m new behind b in
        let e : (m w.page).records ≡ half.left ++ half.first ∷ half.rest = ap (λ q. (m q).records) here ∙ half.halves in
        let l = half.home_records in let r = half.fresh_records in
        let k = children_of-append half.left (half.first ∷ half.rest) w.high in
        children-append new before (left-visit ∷ right-visit ∷ behind) ∙ (rw (x, y, l, r) (sym (children-append m before (w ∷ behind) ∙ rw (e, k) (simp append_assoc))))

    row-sum : (f : Visit → ℕ) → sum_of f (before ++ left-visit ∷ right-visit ∷ behind) + f w ≡ sum_of f (before ++ w ∷ behind) + f left-visit + f right-visit
    row-sum f =
        let a = sum_of-append f before (left-visit ∷ right-visit ∷ behind) in
        let b = sum_of-append f before (w ∷ behind) in omega arith

-- so the level holds what it held
pub IsHalvedRow-halved : (m new : PageMemory) (height child home fresh : ℕ) (half : IsHalved m new height child home fresh) (before : List Visit) (w : Visit) (behind : List Visit)
    → w.page ≡ child → AreOther child before → AreOther child behind → IsTree m height (before ++ w ∷ behind)
    → IsHalvedRow m new height (before ++ w ∷ behind) w (record { page = home; low = w.low; high = rank half.first.0 }) (record { page = fresh; low = rank half.first.0; high = w.high })
    (before ++ record { page = home; low = w.low; high = rank half.first.0 } ∷ record { page = fresh; low = rank half.first.0; high = w.high } ∷ behind)
IsHalvedRow-halved m new zero child home fresh half before w behind here nb nh t =
    let l = AllByRecursion-left (IsLeafAt m) before (w ∷ behind) t.leaves in
    let r = AllByRecursion-right (IsLeafAt m) before (w ∷ behind) t.leaves in
    let alike : (v : Visit) → IsLeafAt m v → v.page ≢ child → IsAlike (new v.page) (m v.page) = λ v leaf ne. half.beside v.page leaf.kind (let e = leaf.level in omega arith) ne in
    let a = AllByRecursion-both (IsLeafAt m) (λ v. v.page ≢ child) (λ v. IsAlike (new v.page) (m v.page)) before alike l nb in
    let b = AllByRecursion-both (IsLeafAt m) (λ v. v.page ≢ child) (λ v. IsAlike (new v.page) (m v.page)) behind alike r.1 nh in
    record {
      tree = record {
        nodes = tt;
        leaves = AllByRecursion-append (IsLeafAt new) before _ (leaves-same m new before a l)
            (left-leaf m new zero child home fresh half w here r.0, (right-leaf m new zero child home fresh half w here r.0, leaves-same m new behind b r.1));
      };
      holds = row-records m new zero child home fresh half before w behind here a b;
      weighs = λ f. row-sum m new zero child home fresh half before w behind here (f zero);
      lowest = λ z. absurd (omega arith);
    }
IsHalvedRow-halved m new (suc height) child home fresh half before w behind here nb nh t =
    let l = AllByRecursion-left (IsNodeAt m (suc height)) before (w ∷ behind) t.nodes.0 in
    let r = AllByRecursion-right (IsNodeAt m (suc height)) before (w ∷ behind) t.nodes.0 in
    let alike : (v : Visit) → IsNodeAt m (suc height) v → v.page ≢ child → IsAlike (new v.page) (m v.page) = λ v node ne. half.beside v.page node.kind (let e = node.level in omega arith) ne in
    let a = AllByRecursion-both (IsNodeAt m (suc height)) (λ v. v.page ≢ child) (λ v. IsAlike (new v.page) (m v.page)) before alike l nb in
    let b = AllByRecursion-both (IsNodeAt m (suc height)) (λ v. v.page ≢ child) (λ v. IsAlike (new v.page) (m v.page)) behind alike r.1 nh in
    let k = row-children m new (suc height) child home fresh half before w behind here a b in
    let s = IsSameTree-below m new height (children m (before ++ w ∷ behind))
    (λ n kind le. half.beside n kind (omega arith) (λ e. let z = ap (λ q. (m q).level) e in let y = half.at in omega arith)) (IsTree-children m height (before ++ w ∷ behind) t) in
    record {
      tree = record {
        nodes = (
          AllByRecursion-append (IsNodeAt new (suc height)) before _ (nodes-same m new (suc height) before a l) (
            left-node m new (suc height) child home fresh half w here r.0,
            (right-node m new (suc height) child home fresh half w here r.0, nodes-same m new (suc height) behind b r.1),
          ),
          rw k s.tree.nodes,
        );
        leaves = rw k s.tree.leaves;
      };
      holds = rw k s.holds;
      weighs = λ f. let x = row-sum m new (suc height) child home fresh half before w behind here (f (suc height)) in
          let y = ap (weight_along f new height) k in let z = s.weighs f in omega arith;
      lowest = λ z. rw k s.lowest;
    }
