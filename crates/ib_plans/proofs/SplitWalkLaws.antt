-- A child gives its upper records to a fresh page, and their parent gets a record for that one: what the walk makes of it.
use Rattle.std.specs.List.{AllByRecursion}
use Rattle.std.proofs.Common.{◌≡◌, ◌≢◌, ℕ, ◌+◌, ◌<◌, ◌≤◌, ◌∙◌, [], ◌∷◌, ◌++◌, suc, inl, inr, List, length, refl, sym, ap, subst, arith, append_assoc}
use Rattle.std.proofs.lemmas.Bool.{cases_lt, lt-ltb, le-ltb}
use Rattle.ib_map.specs.Keys.{MapKey, rank}
use Rattle.ib_map.specs.Pairs.{Pairs, Rises, first_rank, put}
use Rattle.ib_map.proofs.PairLaws.{put-behind, put-below}
use Rattle.ib_map.proofs.RiseLaws.{Rises-append, Rises-left, Rises-right}
use Rattle.ib_walk.specs.Pages.{Free, PageMemory, Tree}
use Rattle.ib_walk.specs.Search.{child_for}
use Rattle.ib_walk.specs.Walk.{AreNodes, IsLeafAt, IsNodeAt, IsTree, Visit, below, children, children_of, records_along, weight_along}
use Rattle.ib_walk.proofs.SearchLaws.{AllByRecursion-at, above, below-above, upper-lowest, upper-nodes, upper-weight}
use Rattle.ib_walk.proofs.WalkLaws.{AllByRecursion-append, AllByRecursion-left, AllByRecursion-right, AreAlike, IsAlike, children-append, children-same, children_of-append, nodes-same}
use Rattle.ib_plans.proofs.HalfLaws.{AreOther, IsHalved, IsHalvedRow, IsHalvedRow-halved}
use Rattle.ib_plans.proofs.LevelLaws.{AllByRecursion-both, IsTree-children, Rises-visit, below-zero, kind-visit}
use Rattle.ib_plans.proofs.RecordLaws.{Rises-apart, Rises-from, first_rank-middle, length-middle}

-- the record whose child's range has the key
pub record ChildRecord (key : MapKey) (xs : Pairs) (high child : ℕ) : Type 0 where
  pub before : Pairs
  pub pair : MapKey × ℕ
  pub behind : Pairs
  pub is : xs ≡ before ++ pair ∷ behind
  pub here : pair.1 ≡ child
  pub low : rank pair.0 ≤ rank key
  pub lt : rank key < first_rank behind high

pub ChildRecord-from : (key : MapKey) (x : MapKey × ℕ) (xs : Pairs) (high : ℕ) → rank x.0 ≤ rank key → rank key < high → ChildRecord key (x ∷ xs) high (child_for key x.1 xs)
ChildRecord-from key x [] high low lt = record { before = []; pair = x; behind = []; is = refl; here = refl; low = low; lt = lt }
ChildRecord-from key x (y ∷ ys) high low lt =
    elim (cases_lt (rank key) (rank y.0)) [
      | inl b ↦ let yes = lt-ltb (rank key) (rank y.0) b in rw yes (record { before = []; pair = x; behind = y ∷ ys; is = refl; here = refl; low = low; lt = b })
      | inr b ↦ let no = le-ltb (rank key) (rank y.0) b in
          let r = ChildRecord-from key y ys high b lt in rw no (record {
            before = x ∷ r.before;
            pair = r.pair;
            behind = r.behind;
            is = ap (λ zs. x ∷ zs) r.is;
            here = r.here;
            low = r.low;
            lt = r.lt;
          })
    ]

-- a node has one for a key of its range
pub ChildRecord-of : (key : MapKey) (xs : Pairs) (high : ℕ) → 0 < length xs → first_rank xs high ≤ rank key → rank key < high → ChildRecord key xs high (child_for key 0 xs)
ChildRecord-of key [] high some low lt = absurd (omega arith)
ChildRecord-of key (x ∷ xs) high some low lt = let no = le-ltb (rank key) (rank x.0) low in rw no (ChildRecord-from key x xs high low lt)

-- what a split writes, but for links and clocks
pub record IsSplit (m new : PageMemory) (parent child fresh : ℕ) : Type 0 where
  pub left : Pairs
  pub first : MapKey × ℕ
  pub rest : Pairs
  pub halves : (m child).records ≡ left ++ first ∷ rest
  pub some : 0 < length left
  pub child_kind : (new child).kind ≡ (m child).kind
  pub child_level : (new child).level ≡ (m child).level
  pub child_records : (new child).records ≡ left
  pub fresh_kind : (new fresh).kind ≡ Tree
  pub fresh_level : (new fresh).level ≡ (m child).level
  pub fresh_records : (new fresh).records ≡ first ∷ rest
  pub free : (m fresh).kind ≡ Free
  pub parent_kind : (new parent).kind ≡ (m parent).kind
  pub parent_level : (new parent).level ≡ (m parent).level
  pub parent_records : (new parent).records ≡ put first.0 fresh (m parent).records
  pub others : (n : ℕ) → n ≢ parent → n ≢ child → n ≢ fresh → IsAlike (new n) (m n)

-- the child keeps its place, so it is halved with itself as its home
pub IsHalved-split : (m new : PageMemory) (parent child fresh : ℕ) (split : IsSplit m new parent child fresh) (height : ℕ) → (m parent).level ≡ suc height → (m child).level ≡ height
    → (m child).kind ≡ Tree → IsHalved m new height child child fresh
IsHalved-split m new parent child fresh split height up at kind = record {
  left = split.left;
  first = split.first;
  rest = split.rest;
  halves = split.halves;
  some = split.some;
  at = at;
  home_kind = split.child_kind ∙ kind;
  home_level = split.child_level ∙ at;
  home_records = split.child_records;
  fresh_kind = split.fresh_kind;
  fresh_level = split.fresh_level ∙ at;
  fresh_records = split.fresh_records;
  beside = λ n k l ne. split.others n (λ e. let z = ap (λ q. (m q).level) e in omega arith) ne (λ e. let f = split.free in let z = ap (λ q. (m q).kind) e in cc);
}

-- a level with the parent in it, or one above: its tree has the same records, and weighs the two visits more and the old one less;
-- its lowest level is the same, or, where the child is a leaf, has the two in place of the old one
pub record IsSplitTree (m new : PageMemory) (height : ℕ) (vs : List Visit) (level : ℕ) (old_visit left right : Visit) (before behind : List Visit) : Type 0 where
  pub tree : IsTree new height vs
  pub holds : records_along new (below new height vs) ≡ records_along m (below m height vs)
  pub weighs : (f : ℕ → Visit → ℕ) → weight_along f new height vs + f level old_visit ≡ weight_along f m height vs + f level left + f level right
  pub inner : 0 < level → below new height vs ≡ below m height vs
  pub old : level ≡ 0 → below m height vs ≡ before ++ old_visit ∷ behind
  pub changed : level ≡ 0 → below new height vs ≡ before ++ left ∷ right ∷ behind

-- in the level of the parent
module _ (m new : PageMemory) (parent child fresh : ℕ) (split : IsSplit m new parent child fresh)
    (height : ℕ) (up : (m parent).level ≡ suc height) (at : (m child).level ≡ height)
    (key : MapKey) (xs : List Visit) (v : Visit) (ys : List Visit) (here : v.page ≡ parent) (not_left : AreOther parent xs) (not_right : AreOther parent ys)
    (t : IsTree m (suc height) (xs ++ v ∷ ys)) (f : ChildRecord key (m parent).records v.high child) where
  -- the visit of the child, the two in its place, and the row that they stand in
  abbrev pub old-child : Visit
  old-child = record { page = f.pair.1; low = rank f.pair.0; high = first_rank f.behind v.high }

  abbrev pub left-child : Visit
  left-child = record { page = child; low = rank f.pair.0; high = rank split.first.0 }

  abbrev pub right-child : Visit
  right-child = record { page = fresh; low = rank split.first.0; high = first_rank f.behind v.high }

  abbrev pub row-before : List Visit
  row-before = children m xs ++ children_of f.before (rank f.pair.0)

  abbrev pub row-behind : List Visit
  row-behind = children_of f.behind v.high ++ children m ys

  node : IsNodeAt m (suc height) v
  node = AllByRecursion-at (IsNodeAt m (suc height)) xs v ys t.nodes.0

  records : (m v.page).records ≡ f.before ++ f.pair ∷ f.behind
  records = ap (λ q. (m q).records) here ∙ f.is

  was : children m (xs ++ v ∷ ys) ≡ row-before ++ old-child ∷ row-behind
  was = let e = children_of-append f.before (f.pair ∷ f.behind) v.high in
      children-append m xs (v ∷ ys) ∙ rw (records, e) (simp append_assoc)

  row-tree : IsTree m height (row-before ++ old-child ∷ row-behind)
  row-tree = subst (IsTree m height) was (IsTree-children m height (xs ++ v ∷ ys) t)

  level-alike : (zs : List Visit) → AllByRecursion (IsNodeAt m (suc height)) zs → AreOther parent zs → AreAlike m new zs
  level-alike zs = AllByRecursion-both (IsNodeAt m (suc height)) (λ u. u.page ≢ parent) (λ u. IsAlike (new u.page) (m u.page)) zs
      (λ u l ne. split.others u.page ne (λ e. let z = ap (λ q. (m q).level) e in let y = l.level in omega arith)
      (λ e. let g = split.free in let z = ap (λ q. (m q).kind) e in let y = l.kind in cc))

  left-alike : AreAlike m new xs
  left-alike = level-alike xs (AllByRecursion-left (IsNodeAt m (suc height)) xs (v ∷ ys) t.nodes.0) not_left

  right-alike : AreAlike m new ys
  right-alike = let r = AllByRecursion-right (IsNodeAt m (suc height)) xs (v ∷ ys) t.nodes.0 in level-alike ys r.1 not_right

  -- the first key that goes lies between the child's key and the next one
  cut : Rises (rank f.pair.0) (split.left ++ split.first ∷ split.rest) (first_rank f.behind v.high)
  cut =
      let child-rises = subst (λ q. Rises (rank f.pair.0) (m q).records (first_rank f.behind v.high)) f.here (Rises-visit m height row-before old-child row-behind row-tree) in
      subst (λ rs. Rises (rank f.pair.0) rs (first_rank f.behind v.high)) split.halves child-rises

  pub first-low : rank f.pair.0 < rank split.first.0
  first-low = Rises-apart (rank f.pair.0) split.left (rank split.first.0) (Rises-left (rank f.pair.0) split.left (split.first ∷ split.rest) (first_rank f.behind v.high) cut) split.some

  pub first-high : rank split.first.0 < first_rank f.behind v.high
  first-high = Rises-apart (rank split.first.0) (split.first ∷ split.rest) (first_rank f.behind v.high)
      (Rises-right (rank f.pair.0) split.left (split.first ∷ split.rest) (first_rank f.behind v.high) cut) (omega arith)

  within : Rises v.low (f.before ++ f.pair ∷ f.behind) v.high
  within = subst (λ rs. Rises v.low rs v.high) records node.within

  before-rises : Rises v.low f.before (rank f.pair.0)
  before-rises = Rises-left v.low f.before (f.pair ∷ f.behind) v.high within

  behind-rises : Rises (rank f.pair.0 + 1) f.behind v.high
  behind-rises = let r = Rises-right v.low f.before (f.pair ∷ f.behind) v.high within in r.1

  -- so the parent's new record stands behind that of the child
  pub new-records : (new v.page).records ≡ f.before ++ f.pair ∷ (split.first.0, fresh) ∷ f.behind
  new-records =
      let a = put-behind split.first.0 fresh v.low f.before (rank f.pair.0) (f.pair ∷ f.behind) before-rises (omega (arith, first-low)) in
      let b = lt-ltb (rank f.pair.0) (rank split.first.0) first-low in
      let c = put-below split.first.0 fresh (first_rank f.behind v.high) f.behind v.high (Rises-from (rank f.pair.0 + 1) (first_rank f.behind v.high) f.behind v.high behind-rises (omega arith)) first-high in
      ap (λ q. (new q).records) here ∙ (split.parent_records ∙ (ap (put split.first.0 fresh) f.is ∙ (a ∙ rw (b, c) refl)))

  now : children new (xs ++ v ∷ ys) ≡ row-before ++ left-child ∷ right-child ∷ row-behind
  now =
      let e = children_of-append f.before (f.pair ∷ (split.first.0, fresh) ∷ f.behind) v.high in
      let a = children-same m new xs left-alike in
      let b = children-same m new ys right-alike in
      let h = f.here in
      children-append new xs (v ∷ ys) ∙ rw (a, b, new-records, e, h) (simp append_assoc)

  new-node : IsNodeAt new (suc height) v
  new-node = record {
    kind = ap (λ q. (new q).kind) here ∙ (split.parent_kind ∙ subst (λ q. (m q).kind ≡ Tree) here node.kind);
    level = ap (λ q. (new q).level) here ∙ (split.parent_level ∙ up);
    within = subst (λ rs. Rises v.low rs v.high) (sym new-records)
        (Rises-append v.low f.before (rank f.pair.0) (f.pair ∷ (split.first.0, fresh) ∷ f.behind) v.high before-rises
        (omega arith, (omega (arith, first-low), Rises-from (rank f.pair.0 + 1) (rank split.first.0 + 1) f.behind v.high behind-rises (omega (arith, first-high)))));
    first = ap (λ rs. first_rank rs v.high) new-records ∙ (first_rank-middle f.before f.pair ((split.first.0, fresh) ∷ f.behind) f.behind v.high
        ∙ (ap (λ rs. first_rank rs v.high) (sym records) ∙ node.first));
    some = subst (λ (rs : Pairs). 0 < length rs) (sym new-records) (length-middle f.before f.pair ((split.first.0, fresh) ∷ f.behind));
  }

  new-nodes : AllByRecursion (IsNodeAt new (suc height)) (xs ++ v ∷ ys)
  new-nodes = let r = AllByRecursion-right (IsNodeAt m (suc height)) xs (v ∷ ys) t.nodes.0 in
      AllByRecursion-append (IsNodeAt new (suc height)) xs (v ∷ ys)
      (nodes-same m new (suc height) xs left-alike (AllByRecursion-left (IsNodeAt m (suc height)) xs (v ∷ ys) t.nodes.0))
      (new-node, nodes-same m new (suc height) ys right-alike r.1)

  module _ (nb : AreOther child row-before) (nh : AreOther child row-behind) where
    row : IsHalvedRow m new height (row-before ++ old-child ∷ row-behind) old-child left-child right-child (row-before ++ left-child ∷ right-child ∷ row-behind)
    unfolding IsHalved-split
    row = IsHalvedRow-halved m new height child child fresh
        (IsHalved-split m new parent child fresh split height up at (subst (λ q. (m q).kind ≡ Tree) f.here (kind-visit m height row-before old-child row-behind row-tree)))
        row-before old-child row-behind f.here nb nh row-tree

    parent-split : IsSplitTree m new (suc height) (xs ++ v ∷ ys) height old-child left-child right-child row-before row-behind
    parent-split = record {
      tree = record {
        nodes = (new-nodes, subst (AreNodes new height) (sym now) row.tree.nodes);
        leaves = subst (λ us. AllByRecursion (IsLeafAt new) (below new height us)) (sym now) row.tree.leaves;
      };
      holds = ap (λ us. records_along new (below new height us)) now ∙ (row.holds ∙ ap (λ us. records_along m (below m height us)) (sym was));
      weighs = λ g. let a = ap (weight_along g new height) now in let b = ap (weight_along g m height) was in let c = row.weighs g in omega arith;
      inner = λ z. ap (below new height) now ∙ (row.lowest z ∙ ap (below m height) (sym was));
      old = λ z. below-zero m height (children m (xs ++ v ∷ ys)) z ∙ was;
      changed = λ z. below-zero new height (children new (xs ++ v ∷ ys)) z ∙ now;
    }

    -- and with the levels above the parent's
    pub IsSplitTree-split : (depth : ℕ) (vs : List Visit) → IsTree m (above depth (suc height)) vs → below m depth vs ≡ xs ++ v ∷ ys
        → IsSplitTree m new (above depth (suc height)) vs height old-child left-child right-child row-before row-behind
    IsSplitTree-split depth vs whole row_is =
        let same : (n : ℕ) → (m n).kind ≡ Tree → suc height < (m n).level → IsAlike (new n) (m n) =
        λ n k l. split.others n (λ e. let z = ap (λ q. (m q).level) e in omega arith) (λ e. let z = ap (λ q. (m q).level) e in omega arith)
        (λ e. let g = split.free in let z = ap (λ q. (m q).kind) e in cc) in
        let p = parent-split in
        let low = upper-lowest m new (suc height) same depth vs whole.nodes ∙ ap (below new (suc height)) row_is in
        let old_low = below-above m depth (suc height) vs ∙ ap (below m (suc height)) row_is in
        record {
          tree = record {
            nodes = upper-nodes m new (suc height) same depth vs whole.nodes (subst (AreNodes new (suc height)) (sym row_is) p.tree.nodes);
            leaves = subst (AllByRecursion (IsLeafAt new)) (sym low) p.tree.leaves;
          };
          holds = ap (records_along new) low ∙ (p.holds ∙ ap (records_along m) (sym old_low));
          weighs = λ g. let a = upper-weight m new (suc height) same g depth vs whole.nodes in
              let b = ap (weight_along g m (suc height)) row_is in let d = ap (weight_along g new (suc height)) row_is in let c = p.weighs g in omega arith;
          inner = λ z. low ∙ (p.inner z ∙ sym old_low);
          old = λ z. old_low ∙ p.old z;
          changed = λ z. low ∙ p.changed z;
        }
