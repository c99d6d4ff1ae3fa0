-- A page takes the records of its right sibling, and their parent loses the record of that one: what the walk makes of that.
use Rattle.std.specs.List.{AllByRecursion}
use Rattle.std.proofs.Common.{◌≡◌, ◌≢◌, ℕ, ◌+◌, ◌<◌, ◌≤◌, ◌∙◌, ◌∷◌, ◌++◌, zero, suc, List, length, refl, sym, ap, subst, arith, append_assoc}
use Rattle.ib_map.specs.Keys.{MapKey, rank}
use Rattle.ib_map.specs.Pairs.{Pairs, Rises, first_rank}
use Rattle.ib_map.proofs.RiseLaws.{Rises-append, Rises-left, Rises-lower, Rises-right}
use Rattle.ib_walk.specs.Pages.{PageMemory, Tree}
use Rattle.ib_walk.specs.Walk.{AreNodes, IsLeafAt, IsNodeAt, IsTree, Visit, below, children, children_of, records_along, weight_along}
use Rattle.ib_walk.proofs.SearchLaws.{AllByRecursion-at, above, below-above, upper-lowest, upper-nodes, upper-weight}
use Rattle.ib_walk.proofs.WalkLaws.{AllByRecursion-append, AllByRecursion-left, AllByRecursion-right, IsAlike, IsSameTree-below, children-append, children-same, children_of-append, leaves-same, nodes-same, records_along-append, records_along-same, sum_of-append}
use Rattle.ib_plans.proofs.LevelLaws.{AllByRecursion-both, below-zero}
use Rattle.ib_plans.proofs.RecordLaws.{first_rank-left, first_rank-middle, length-left, length-middle}

-- what a merge writes, but for links and clocks
pub record IsMerged (m new : PageMemory) (parent child gone : ℕ) : Type 0 where
  pub before : Pairs
  pub pair : MapKey × ℕ
  pub next : MapKey × ℕ
  pub behind : Pairs
  pub was : (m parent).records ≡ before ++ pair ∷ next ∷ behind
  pub here : pair.1 ≡ child
  pub there : next.1 ≡ gone
  pub child_kind : (new child).kind ≡ (m child).kind
  pub child_level : (new child).level ≡ (m child).level
  pub child_records : (new child).records ≡ (m child).records ++ (m gone).records
  pub parent_kind : (new parent).kind ≡ (m parent).kind
  pub parent_level : (new parent).level ≡ (m parent).level
  pub parent_records : (new parent).records ≡ before ++ pair ∷ behind
  pub others : (n : ℕ) → n ≢ parent → n ≢ child → n ≢ gone → IsAlike (new n) (m n)

-- a level in which two visits side by side have become one
pub record IsMergedRow (m new : PageMemory) (height : ℕ) (row : List Visit) (v w joined : Visit) (changed : List Visit) : Type 0 where
  pub tree : IsTree new height changed
  pub holds : records_along new (below new height changed) ≡ records_along m (below m height row)
  pub weighs : (f : ℕ → Visit → ℕ) → weight_along f new height changed + f height v + f height w ≡ weight_along f m height row + f height joined
  pub lowest : 0 < height → below new height changed ≡ below m height row

module _ (m new : PageMemory) (parent child gone : ℕ) (merge : IsMerged m new parent child gone) where
  beside : (height : ℕ) → (m parent).level ≡ suc height → (n : ℕ) → (m n).level ≤ height → n ≢ child → n ≢ gone → IsAlike (new n) (m n)
  beside height up n l nc ng = merge.others n (λ e. let z = ap (λ q. (m q).level) e in omega arith) nc ng

  -- a visit of another page than the two
  abbrev pub Apart : Visit → Type 0
  Apart u = (u.page ≢ child) × (u.page ≢ gone)

  -- so it is where the two pages are merged
  IsMergedRow-merge : (height : ℕ) → (m parent).level ≡ suc height → (m child).level ≡ height → (m gone).level ≡ height → (xs : List Visit) (v w : Visit) (ys : List Visit)
      → v.page ≡ child → w.page ≡ gone → v.high ≡ w.low → AllByRecursion Apart xs → AllByRecursion Apart ys → IsTree m height (xs ++ v ∷ w ∷ ys)
      → IsMergedRow m new height (xs ++ v ∷ w ∷ ys) v w (record { page = child; low = v.low; high = w.high }) (xs ++ record { page = child; low = v.low; high = w.high } ∷ ys)
  IsMergedRow-merge zero up at at' xs v w ys hv hw meet nx ny t =
      let l = AllByRecursion-left (IsLeafAt m) xs (v ∷ w ∷ ys) t.leaves in
      let r = AllByRecursion-right (IsLeafAt m) xs (v ∷ w ∷ ys) t.leaves in
      let a = AllByRecursion-both (IsLeafAt m) Apart (λ u. IsAlike (new u.page) (m u.page)) xs (λ u lf ne. beside zero up u.page (let e = lf.level in omega arith) ne.0 ne.1) l nx in
      let b = AllByRecursion-both (IsLeafAt m) Apart (λ u. IsAlike (new u.page) (m u.page)) ys (λ u lf ne. beside zero up u.page (let e = lf.level in omega arith) ne.0 ne.1) r.1.1 ny in
      let ca = records_along-same m new xs a in let cb = records_along-same m new ys b in
      let ra = subst (λ q. Rises v.low (m q).records v.high) hv r.0.within in
      let rb = subst (λ q. Rises w.low (m q).records w.high) hw r.1.0.within in
      let e = merge.child_records in
      record {
        tree = record {
          nodes = tt;
          leaves = AllByRecursion-append (IsLeafAt new) xs _ (leaves-same m new xs a l) (
            record {
              kind = merge.child_kind ∙ subst (λ q. (m q).kind ≡ Tree) hv r.0.kind;
              level = merge.child_level ∙ at;
              within = subst (λ rs. Rises v.low rs w.high) (sym e) (Rises-append v.low (m child).records v.high (m gone).records w.high ra (Rises-lower v.high w.low (m gone).records w.high (omega arith) rb));
            },
            leaves-same m new ys b r.1.1,
          );
        };
        holds = records_along-append new xs (record { page = child; low = v.low; high = w.high } ∷ ys) ∙ (rw (ca, cb, e) (sym (records_along-append m xs (v ∷ w ∷ ys) ∙ rw (hv, hw) (simp append_assoc))));
        weighs = λ f. let x = sum_of-append (f zero) xs (record { page = child; low = v.low; high = w.high } ∷ ys) in let y = sum_of-append (f zero) xs (v ∷ w ∷ ys) in omega arith;
        lowest = λ z. absurd (omega arith);
      }
  IsMergedRow-merge (suc height) up at at' xs v w ys hv hw meet nx ny t =
      let l = AllByRecursion-left (IsNodeAt m (suc height)) xs (v ∷ w ∷ ys) t.nodes.0 in
      let r = AllByRecursion-right (IsNodeAt m (suc height)) xs (v ∷ w ∷ ys) t.nodes.0 in
      let a = AllByRecursion-both (IsNodeAt m (suc height)) Apart (λ u. IsAlike (new u.page) (m u.page)) xs (λ u lf ne. beside (suc height) up u.page (let e = lf.level in omega arith) ne.0 ne.1) l nx in
      let b = AllByRecursion-both (IsNodeAt m (suc height)) Apart (λ u. IsAlike (new u.page) (m u.page)) ys (λ u lf ne. beside (suc height) up u.page (let e = lf.level in omega arith) ne.0 ne.1) r.1.1 ny in
      let ca = children-same m new xs a in let cb = children-same m new ys b in
      let ra = subst (λ q. Rises v.low (m q).records v.high) hv r.0.within in
      let rb = subst (λ q. Rises w.low (m q).records w.high) hw r.1.0.within in
      let fa = subst (λ q. first_rank (m q).records v.high ≡ v.low) hv r.0.first in
      let fb = subst (λ q. first_rank (m q).records w.high ≡ w.low) hw r.1.0.first in
      let sa = subst (λ (q : ℕ). 0 < length (m q).records) hv r.0.some in
      let e = merge.child_records in
      let k = children_of-append (m child).records (m gone).records w.high in
      let both : first_rank (m gone).records w.high ≡ v.high = fb ∙ sym meet in
      let same : children new (xs ++ record { page = child; low = v.low; high = w.high } ∷ ys) ≡ children m (xs ++ v ∷ w ∷ ys) =
      children-append new xs (record { page = child; low = v.low; high = w.high } ∷ ys) ∙ (rw (ca, cb, e, k, both) (sym (children-append m xs (v ∷ w ∷ ys) ∙ rw (hv, hw) (simp append_assoc)))) in
      let s = IsSameTree-below m new height (children m (xs ++ v ∷ w ∷ ys))
      (λ n kind le. beside (suc height) up n (omega arith) (λ z. let q = ap (λ p. (m p).level) z in omega arith) (λ z. let q = ap (λ p. (m p).level) z in omega arith)) (record { nodes = t.nodes.1; leaves = t.leaves }) in
      record {
        tree = record {
          nodes = (
            AllByRecursion-append (IsNodeAt new (suc height)) xs _ (nodes-same m new (suc height) xs a l) (
              record {
                kind = merge.child_kind ∙ subst (λ q. (m q).kind ≡ Tree) hv r.0.kind;
                level = merge.child_level ∙ at;
                within = subst (λ rs. Rises v.low rs w.high) (sym e) (Rises-append v.low (m child).records v.high (m gone).records w.high ra (Rises-lower v.high w.low (m gone).records w.high (omega arith) rb));
                first = ap (λ rs. first_rank rs w.high) e ∙ (first_rank-left (m child).records (m gone).records w.high v.high sa ∙ fa);
                some = subst (λ (rs : Pairs). 0 < length rs) (sym e) (length-left (m child).records (m gone).records sa);
              },
              nodes-same m new (suc height) ys b r.1.1,
            ),
            rw same s.tree.nodes,
          );
          leaves = rw same s.tree.leaves;
        };
        holds = rw same s.holds;
        weighs = λ f. let x = sum_of-append (f (suc height)) xs (record { page = child; low = v.low; high = w.high } ∷ ys) in let y = sum_of-append (f (suc height)) xs (v ∷ w ∷ ys) in
            let z = ap (weight_along f new height) same in let q = s.weighs f in omega arith;
        lowest = λ z. rw same s.lowest;
      }

-- a level with the parent in it, or one above: its tree has the same records, and weighs the two visits less and the one in their place more;
-- its lowest level is the same, or, where the two are leaves, has the one in their place
pub record IsMergedTree (m new : PageMemory) (height : ℕ) (vs : List Visit) (level : ℕ) (v w joined : Visit) (before behind : List Visit) : Type 0 where
  pub tree : IsTree new height vs
  pub holds : records_along new (below new height vs) ≡ records_along m (below m height vs)
  pub weighs : (f : ℕ → Visit → ℕ) → weight_along f new height vs + f level v + f level w ≡ weight_along f m height vs + f level joined
  pub inner : 0 < level → below new height vs ≡ below m height vs
  pub old : level ≡ 0 → below m height vs ≡ before ++ v ∷ w ∷ behind
  pub changed : level ≡ 0 → below new height vs ≡ before ++ joined ∷ behind

module _ (m new : PageMemory) (parent child gone : ℕ) (merge : IsMerged m new parent child gone)
    (height : ℕ) (up : (m parent).level ≡ suc height)
    (xs : List Visit) (u : Visit) (ys : List Visit) (here : u.page ≡ parent)
    (not_left : AllByRecursion (λ z. z.page ≢ parent) xs) (not_right : AllByRecursion (λ z. z.page ≢ parent) ys)
    (t : IsTree m (suc height) (xs ++ u ∷ ys)) where
  -- the visits of the two, the one that there is in their place, and the row that they stand in
  abbrev pub left-child : Visit
  left-child = record { page = merge.pair.1; low = rank merge.pair.0; high = rank merge.next.0 }

  abbrev pub right-child : Visit
  right-child = record { page = merge.next.1; low = rank merge.next.0; high = first_rank merge.behind u.high }

  abbrev pub merged-child : Visit
  merged-child = record { page = child; low = rank merge.pair.0; high = first_rank merge.behind u.high }

  abbrev pub row-before : List Visit
  row-before = children m xs ++ children_of merge.before (rank merge.pair.0)

  abbrev pub row-behind : List Visit
  row-behind = children_of merge.behind u.high ++ children m ys

  node : IsNodeAt m (suc height) u
  node = AllByRecursion-at (IsNodeAt m (suc height)) xs u ys t.nodes.0

  records : (m u.page).records ≡ merge.before ++ merge.pair ∷ merge.next ∷ merge.behind
  records = ap (λ q. (m q).records) here ∙ merge.was

  was : children m (xs ++ u ∷ ys) ≡ row-before ++ left-child ∷ right-child ∷ row-behind
  was = let e = children_of-append merge.before (merge.pair ∷ merge.next ∷ merge.behind) u.high in
      children-append m xs (u ∷ ys) ∙ rw (records, e) (simp append_assoc)

  row-tree : IsTree m height (row-before ++ left-child ∷ right-child ∷ row-behind)
  row-tree = subst (IsTree m height) was (record { nodes = t.nodes.1; leaves = t.leaves })

  module _ (at : (m child).level ≡ height) (at' : (m gone).level ≡ height) (nb : AllByRecursion (λ z. (z.page ≢ child) × (z.page ≢ gone)) row-before) (nh : AllByRecursion (λ z. (z.page ≢ child) × (z.page ≢ gone)) row-behind) where
    level-alike : (zs : List Visit) → AllByRecursion (IsNodeAt m (suc height)) zs → AllByRecursion (λ z. z.page ≢ parent) zs → AllByRecursion (λ z. IsAlike (new z.page) (m z.page)) zs
    level-alike zs = AllByRecursion-both (IsNodeAt m (suc height)) (λ z. z.page ≢ parent) (λ z. IsAlike (new z.page) (m z.page)) zs
        (λ z l ne. merge.others z.page ne (λ e. let q = ap (λ p. (m p).level) e in let y = l.level in omega arith)
        (λ e. let q = ap (λ p. (m p).level) e in let y = l.level in omega arith))

    left-alike : AllByRecursion (λ z. IsAlike (new z.page) (m z.page)) xs
    left-alike = level-alike xs (AllByRecursion-left (IsNodeAt m (suc height)) xs (u ∷ ys) t.nodes.0) not_left

    right-alike : AllByRecursion (λ z. IsAlike (new z.page) (m z.page)) ys
    right-alike = let r = AllByRecursion-right (IsNodeAt m (suc height)) xs (u ∷ ys) t.nodes.0 in level-alike ys r.1 not_right

    row : IsMergedRow m new height (row-before ++ left-child ∷ right-child ∷ row-behind) left-child right-child merged-child (row-before ++ merged-child ∷ row-behind)
    row = IsMergedRow-merge m new parent child gone merge height up at at' row-before left-child right-child row-behind merge.here merge.there refl nb nh row-tree

    new-records : (new u.page).records ≡ merge.before ++ merge.pair ∷ merge.behind
    new-records = ap (λ q. (new q).records) here ∙ merge.parent_records

    now : children new (xs ++ u ∷ ys) ≡ row-before ++ merged-child ∷ row-behind
    now =
        let e = children_of-append merge.before (merge.pair ∷ merge.behind) u.high in
        let a = children-same m new xs left-alike in
        let b = children-same m new ys right-alike in
        let h = merge.here in
        children-append new xs (u ∷ ys) ∙ rw (a, b, new-records, e, h) (simp append_assoc)

    within : Rises u.low (merge.before ++ merge.pair ∷ merge.next ∷ merge.behind) u.high
    within = subst (λ rs. Rises u.low rs u.high) records node.within

    new-node : IsNodeAt new (suc height) u
    new-node = record {
      kind = ap (λ q. (new q).kind) here ∙ (merge.parent_kind ∙ subst (λ q. (m q).kind ≡ Tree) here node.kind);
      level = ap (λ q. (new q).level) here ∙ (merge.parent_level ∙ up);
      within = let r = Rises-right u.low merge.before (merge.pair ∷ merge.next ∷ merge.behind) u.high within in
          subst (λ rs. Rises u.low rs u.high) (sym new-records)
          (Rises-append u.low merge.before (rank merge.pair.0) (merge.pair ∷ merge.behind) u.high (Rises-left u.low merge.before (merge.pair ∷ merge.next ∷ merge.behind) u.high within)
          (omega arith, Rises-lower (rank merge.pair.0 + 1) (rank merge.next.0 + 1) merge.behind u.high (let k = r.1.0 in omega arith) r.1.1));
      first = ap (λ rs. first_rank rs u.high) new-records ∙ (first_rank-middle merge.before merge.pair merge.behind (merge.next ∷ merge.behind) u.high ∙ (ap (λ rs. first_rank rs u.high) (sym records) ∙ node.first));
      some = subst (λ (rs : Pairs). 0 < length rs) (sym new-records) (length-middle merge.before merge.pair merge.behind);
    }

    -- in the level of the parent
    pub IsMergedTree-parent : IsMergedTree m new (suc height) (xs ++ u ∷ ys) height left-child right-child merged-child row-before row-behind
    IsMergedTree-parent = let r = AllByRecursion-right (IsNodeAt m (suc height)) xs (u ∷ ys) t.nodes.0 in record {
      tree = record {
        nodes = (
          AllByRecursion-append (IsNodeAt new (suc height)) xs (u ∷ ys)
              (nodes-same m new (suc height) xs left-alike (AllByRecursion-left (IsNodeAt m (suc height)) xs (u ∷ ys) t.nodes.0))
              (new-node, nodes-same m new (suc height) ys right-alike r.1),
          subst (AreNodes new height) (sym now) row.tree.nodes,
        );
        leaves = subst (λ us. AllByRecursion (IsLeafAt new) (below new height us)) (sym now) row.tree.leaves;
      };
      holds = ap (λ us. records_along new (below new height us)) now ∙ (row.holds ∙ ap (λ us. records_along m (below m height us)) (sym was));
      weighs = λ g. let a = ap (weight_along g new height) now in let b = ap (weight_along g m height) was in let c = row.weighs g in omega arith;
      inner = λ z. ap (below new height) now ∙ (row.lowest z ∙ ap (below m height) (sym was));
      old = λ z. below-zero m height (children m (xs ++ u ∷ ys)) z ∙ was;
      changed = λ z. below-zero new height (children new (xs ++ u ∷ ys)) z ∙ now;
    }

    -- and with the levels above the parent's
    pub IsMergedTree-merge : (depth : ℕ) (vs : List Visit) → IsTree m (above depth (suc height)) vs → below m depth vs ≡ xs ++ u ∷ ys
        → IsMergedTree m new (above depth (suc height)) vs height left-child right-child merged-child row-before row-behind
    IsMergedTree-merge depth vs whole row_is =
        let same : (n : ℕ) → (m n).kind ≡ Tree → suc height < (m n).level → IsAlike (new n) (m n) =
        λ n k l. merge.others n (λ e. let z = ap (λ q. (m q).level) e in omega arith) (λ e. let z = ap (λ q. (m q).level) e in omega arith)
        (λ e. let z = ap (λ q. (m q).level) e in omega arith) in
        let p = IsMergedTree-parent in
        let low = upper-lowest m new (suc height) same depth vs whole.nodes ∙ ap (below new (suc height)) row_is in
        let old_low = below-above m depth (suc height) vs ∙ ap (below m (suc height)) row_is in
        record {
          tree = record {
            nodes = upper-nodes m new (suc height) same depth vs whole.nodes (subst (AreNodes new (suc height)) (sym row_is) p.tree.nodes);
            leaves = subst (AllByRecursion (IsLeafAt new)) (sym low) p.tree.leaves;
          };
          holds = ap (records_along new) low ∙ (p.holds ∙ ap (records_along m) (sym old_low));
          weighs = λ g. let a = upper-weight m new (suc height) same g depth vs whole.nodes in
              let b = ap (weight_along g m (suc height)) row_is in let d = ap (weight_along g new (suc height)) row_is in let c = p.weighs g in omega arith;
          inner = λ z. low ∙ (p.inner z ∙ sym old_low);
          old = λ z. old_low ∙ p.old z;
          changed = λ z. low ∙ p.changed z;
        }
