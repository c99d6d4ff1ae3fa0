-- A root with one child takes the records of the child, and goes down a level.
use Rattle.std.specs.List.{AllByRecursion}
use Rattle.std.proofs.Common.{◌≡◌, ◌≢◌, ℕ, ◌+◌, ◌<◌, ◌≤◌, ◌∙◌, [], ◌∷◌, ◌++◌, zero, suc, inl, inr, cond, List, length, refl, sym, ap, subst, arith, eqb}
use Rattle.std.proofs.lemmas.Bool.{cases_eq}
use Rattle.ib_map.specs.Keys.{MapKey, end_rank, rank}
use Rattle.ib_map.specs.Pairs.{Pairs, Rises, first_rank}
use Rattle.ib_walk.specs.Pages.{Free, IsSound, PageMemory, PageState, Tree}
use Rattle.ib_walk.specs.Trees.{IsLawfulUpTo, IsTreeOf, content_of, height_of, leaves_of, times_met, top_of, weight_of}
use Rattle.ib_walk.specs.Walk.{AreLinked, AreNodes, IsLeafAt, IsTree, Visit, below, children, children_of, counts_page, records_along, weight_along}
use Rattle.ib_walk.proofs.LeafLaws.{IsSound-wider}
use Rattle.ib_walk.proofs.MeetLaws.{AllByRecursion-met, AreLinked-same, HasLinks, IsSameTree-met, counts_page-other, counts_page-own, lowest-le_weight}
use Rattle.ib_walk.proofs.TreeLaws.{times_met-le, weight_of-le}
use Rattle.ib_walk.proofs.WalkLaws.{IsAlike, IsAlike-same, IsSameTree, IsSameTree-below}
use Rattle.ib_plans.proofs.LevelLaws.{level-le_weight, level-visit}
use Rattle.ib_plans.proofs.LinkLaws.{HasLinks-same}
use Rattle.ib_plans.proofs.MetLaws.{bit-none, met-apart, met-some, root-met, weight_all-plus}
use Rattle.ib_walk.proofs.CountLaws.{bits-met, IsPageMap-bits}

-- what a lift writes: the root takes the records and the level of its one child
pub record IsLifted (m new : PageMemory) (root child height : ℕ) : Type 0 where
  pub pair : MapKey × ℕ
  pub was : (m root).records ≡ pair ∷ []
  pub here : pair.1 ≡ child
  pub level_was : (m root).level ≡ suc height
  pub kind : (new root).kind ≡ Tree
  pub level : (new root).level ≡ height
  pub records : (new root).records ≡ (m child).records
  pub alone : ((new root).prev ≡ 0) × ((new root).next ≡ 0)
  pub others : (n : ℕ) → n ≢ root → n ≢ child → new n ≡ m n

-- the tree of the root in place of that of the child
pub record IsLiftedTree (m new : PageMemory) (height : ℕ) (w old : Visit) : Type 0 where
  pub tree : IsTree new height (w ∷ [])
  pub holds : records_along new (below new height (w ∷ [])) ≡ records_along m (below m height (old ∷ []))
  pub weighs : (f : ℕ → Visit → ℕ) → weight_along f new height (w ∷ []) + f height old ≡ weight_along f m height (old ∷ []) + f height w
  pub inner : 0 < height → below new height (w ∷ []) ≡ below m height (old ∷ [])

-- the same records under another page, at one height
pub IsLiftedTree-row : (m new : PageMemory) (root child height high : ℕ) → (new root).kind ≡ Tree → (new root).level ≡ height → (new root).records ≡ (m child).records
    → (m child).level ≡ height → ((n : ℕ) → (m n).kind ≡ Tree → (m n).level < height → IsAlike (new n) (m n))
    → IsTree m height (record { page = child; low = 0; high = high } ∷ [])
    → IsLiftedTree m new height (record { page = root; low = 0; high = high }) (record { page = child; low = 0; high = high })
IsLiftedTree-row m new root child zero high k l r at same t = record {
  tree = record { nodes = tt; leaves = (record { kind = k; level = l; within = subst (λ rs. Rises 0 rs high) (sym r) t.leaves.0.within }, tt) };
  holds = ap (λ rs. rs ++ []) r;
  weighs = λ f. omega arith;
  inner = λ z. absurd (omega arith);
}
IsLiftedTree-row m new root child (suc height) high k l r at same t =
    let e : children new (record { page = root; low = 0; high = high } ∷ []) ≡ children m (record { page = child; low = 0; high = high } ∷ []) = ap (λ rs. children_of rs high ++ []) r in
    let s = IsSameTree-below m new height (children m (record { page = child; low = 0; high = high } ∷ [])) (λ n kind le. same n kind (omega arith)) (record { nodes = t.nodes.1; leaves = t.leaves }) in
    record {
      tree = record {
        nodes = (
          (
            record {
              kind = k;
              level = l;
              within = subst (λ rs. Rises 0 rs high) (sym r) t.nodes.0.0.within;
              first = ap (λ rs. first_rank rs high) r ∙ t.nodes.0.0.first;
              some = subst (λ (rs : Pairs). 0 < length rs) (sym r) t.nodes.0.0.some;
            },
            tt,
          ),
          subst (AreNodes new height) (sym e) s.tree.nodes,
        );
        leaves = subst (λ us. AllByRecursion (IsLeafAt new) (below new height us)) (sym e) s.tree.leaves;
      };
      holds = ap (λ us. records_along new (below new height us)) e ∙ s.holds;
      weighs = λ f. let x = ap (weight_along f new height) e in let y = s.weighs f in omega arith;
      inner = λ z. ap (below new height) e ∙ s.lowest;
    }

-- a lift of a root whose child is freed
module _ (most : ℕ → ℕ) (m new : PageMemory) (bits : ℕ → ℕ) (roots : ℕ) (law : IsLawfulUpTo most m bits roots)
    (root : ℕ) (some : 0 < root) (le : root ≤ roots) (child height : ℕ) (lifted : IsLifted m new root child height) (freed : (new child).kind ≡ Free) where
  -- the visit of the root, and that of the child, which has the same range
  abbrev pub root-visit : Visit
  root-visit = record { page = root; low = 0; high = end_rank }

  abbrev pub child-visit : Visit
  child-visit = record { page = child; low = 0; high = end_rank }

  tree-of : IsTreeOf m (suc height) root
  tree-of = subst (λ h. IsTreeOf m h root) lifted.level_was (law.trees root some le).0

  first-zero : rank lifted.pair.0 ≡ 0
  first-zero = ap (λ rs. first_rank rs end_rank) (sym lifted.was) ∙ tree-of.tree.nodes.0.0.first

  was : children m (root-visit ∷ []) ≡ child-visit ∷ []
  was = let r = lifted.was in let z = first-zero in let h = lifted.here in rw r (rw (z, h) refl)

  row : IsTree m height (child-visit ∷ [])
  row = subst (IsTree m height) was (record { nodes = tree-of.tree.nodes.1; leaves = tree-of.tree.leaves })

  at : (m child).level ≡ height
  at = level-visit m height [] child-visit [] row

  weight-was : (f : ℕ → Visit → ℕ) → weight_of f m root ≡ f (suc height) root-visit + weight_along f m height (child-visit ∷ [])
  weight-was f = let a = ap (λ h. weight_along f m h (top_of root)) lifted.level_was in let b = ap (weight_along f m height) was in omega arith

  child-met : 1 ≤ weight_of (counts_page child) m root
  child-met = let a = weight-was (counts_page child) in let b = level-le_weight (counts_page child) m height (child-visit ∷ []) in let c = counts_page-own child 0 child-visit refl in omega arith

  pub child-some : child ≢ 0
  child-some = met-some most m bits roots law root some le child child-met

  root-not_child : root ≢ child
  root-not_child z = let x = ap (λ q. (m q).level) z in let y = lifted.level_was in omega (arith, at)

  whole : IsLiftedTree m new height root-visit child-visit
  whole = IsLiftedTree-row m new root child height end_rank lifted.kind lifted.level lifted.records at
      (λ n k l. IsAlike-same (new n) (m n) (lifted.others n (λ e. let x = ap (λ q. (m q).level) e in let y = lifted.level_was in omega arith) (λ e. let x = ap (λ q. (m q).level) e in omega (arith, at)))) row

  -- another tree has no page of this one, so it is as it was
  apart : (r : ℕ) → 0 < r → r ≤ roots → r ≢ root → (n q : ℕ) → 0 < weight_of (counts_page n) m r → 1 ≤ weight_of (counts_page q) m root → n ≢ q
  apart = met-apart most m bits roots law root some le

  other-same : (r : ℕ) → 0 < r → r ≤ roots → r ≢ root → (n : ℕ) → 0 < weight_of (counts_page n) m r → new n ≡ m n
  other-same r s l ne n h = lifted.others n (apart r s l ne n root h (root-met m root)) (apart r s l ne n child h child-met)

  other-tree : (r : ℕ) → 0 < r → r ≤ roots → r ≢ root → IsSameTree m new (height_of m r) (top_of r)
  other-tree r s l ne = IsSameTree-met m new (height_of m r) (top_of r) (λ n h. IsAlike-same (new n) (m n) (other-same r s l ne n h)) (law.trees r s l).0.tree

  other-height : (r : ℕ) → 0 < r → r ≤ roots → r ≢ root → height_of new r ≡ height_of m r
  other-height r s l ne = ap (λ (p : PageState). p.level) (other-same r s l ne r (root-met m r))

  other-links : (r : ℕ) → 0 < r → r ≤ roots → r ≢ root → AreLinked new 0 (leaves_of m r) 0
  other-links r s l ne =
      AreLinked-same m new 0 (leaves_of m r) 0
      (AllByRecursion-met (λ n. HasLinks (new n) (m n)) 0 (leaves_of m r) (λ n h.
      let low = lowest-le_weight (counts_page n) m (height_of m r) (top_of r) in HasLinks-same (new n) (m n) (other-same r s l ne n (omega arith))))
      (law.trees r s l).0.linked

  -- the chain of leaves is the same
  linked-was : AreLinked m 0 (below m height (child-visit ∷ [])) 0
  linked-was = subst (λ us. AreLinked m 0 (below m height us) 0) was tree-of.linked

  own-links : AreLinked new 0 (below new height (root-visit ∷ [])) 0
  own-links = by height refl
    where
      by : (h : ℕ) → h ≡ height → AreLinked new 0 (below new height (root-visit ∷ [])) 0
      by zero e = subst (λ h. AreLinked new 0 (below new h (root-visit ∷ [])) 0) e (lifted.alone.0, lifted.alone.1, tt)
      by (suc h) e =
          let up : 0 < height = omega arith in
          subst (λ us. AreLinked new 0 us 0) (sym (whole.inner up))
          (AreLinked-same m new 0 (below m height (child-visit ∷ [])) 0
          (leaves-away (below m height (child-visit ∷ [])) up row.leaves)
          linked-was)
        where
          leaves-away : (us : List Visit) → 0 < height → AllByRecursion (IsLeafAt m) us → AllByRecursion (λ u. HasLinks (new u.page) (m u.page)) us
          leaves-away [] up l = tt
          leaves-away (u ∷ us) up l = (
            HasLinks-same (new u.page) (m u.page) (lifted.others u.page (λ e. let x = ap (λ q. (m q).level) e in let y = l.0.level in let z = lifted.level_was in omega arith)
                (λ e. let x = ap (λ q. (m q).level) e in let y = l.0.level in omega (arith, at))),
            leaves-away us up l.1,
          )

  new-tree : (r : ℕ) → 0 < r → r ≤ roots → IsTreeOf new (height_of new r) r
  new-tree r s l =
      elim (cases_eq r root) [
        | inl e ↦ subst (λ q. IsTreeOf new (height_of new q) q) (sym e) (subst (λ h. IsTreeOf new h root) (sym lifted.level) (record { tree = whole.tree; linked = own-links }))
        | inr ne ↦ subst (λ h. IsTreeOf new h r) (sym (other-height r s l ne))
            (let o = other-tree r s l ne in record { tree = o.tree; linked = subst (λ us. AreLinked new 0 us 0) (sym o.lowest) (other-links r s l ne) })
      ]

  -- the tree weighs the child less, and the root at a lower height
  pub weight_of-lift : (f : ℕ → Visit → ℕ) → weight_of f new root + f (suc height) root-visit + f height child-visit ≡ weight_of f m root + f height root-visit
  weight_of-lift f = let a = whole.weighs f in let b = ap (λ h. weight_along f new h (top_of root)) lifted.level in let c = weight-was f in omega arith

  pub weight_of-lift_other : (f : ℕ → Visit → ℕ) (r : ℕ) → 0 < r → r ≤ roots → r ≢ root → weight_of f new r ≡ weight_of f m r
  weight_of-lift_other f r s l ne = ap (λ h. weight_along f new h (top_of r)) (other-height r s l ne) ∙ (other-tree r s l ne).weighs f

  -- what weighs nothing on the two pages weighs the same
  pub weight_of-lift_away : (f : ℕ → Visit → ℕ) → ((h : ℕ) (v : Visit) → v.page ≡ root → f h v ≡ 0) → ((h : ℕ) (v : Visit) → v.page ≡ child → f h v ≡ 0)
      → (r : ℕ) → 0 < r → r ≤ roots → weight_of f new r ≡ weight_of f m r
  weight_of-lift_away f zr zc r s l =
      elim (cases_eq r root) [
        | inl e ↦ subst (λ q. weight_of f new q ≡ weight_of f m q) (sym e)
            (let w = weight_of-lift f in let a = zr (suc height) root-visit refl in let b = zc height child-visit refl in let c = zr height root-visit refl in omega arith)
        | inr ne ↦ weight_of-lift_other f r s l ne
      ]

  -- each tree has the content that it had
  pub content_of-lift : (r : ℕ) → 0 < r → r ≤ roots → content_of new r ≡ content_of m r
  content_of-lift r s l =
      elim (cases_eq r root) [
        | inl e ↦ subst (λ q. content_of new q ≡ content_of m q) (sym e)
            (ap (λ h. records_along new (below new h (top_of root))) lifted.level ∙ (whole.holds ∙ (ap (λ us. records_along m (below m height us)) (sym was) ∙ ap (λ h. records_along m (below m h (top_of root))) (sym lifted.level_was))))
        | inr ne ↦ ap (λ h. records_along new (below new h (top_of r))) (other-height r s l ne) ∙ (other-tree r s l ne).holds
      ]

  -- the child is met no more
  met-fewer : (n : ℕ) → times_met m roots n ≡ times_met new roots n + counts_page n 0 child-visit
  met-fewer n =
      weight_all-plus (counts_page n) new m root roots (counts_page n 0 child-visit) some le (let v = weight_of-lift (counts_page n) in omega arith)
      (λ r s l ne. sym (ap (λ h. weight_along (counts_page n) new h (top_of r)) (other-height r s l ne) ∙ (other-tree r s l ne).weighs (counts_page n)))

  -- so trees are lawful, with the bit of the child clear
  pub IsLawful-lift : (now after : ℕ → ℕ) → after child ≡ 0 → ((n : ℕ) → n ≢ child → after n ≡ bits n) → IsSound (now child) (new child)
      → ((n : ℕ) → n ≢ root → n ≢ child → most n ≤ now n) → length (m child).records ≤ now root → IsLawfulUpTo now new after roots
  IsLawful-lift now after there elsewhere gone-sound wide short =
      let few-bits : (n : ℕ) → after n ≤ 1 = λ n. elim (cases_eq n child) [ inl e ↦ let d = ap after e in omega arith | inr nc ↦ let d = elsewhere n nc in let b = law.bit n in omega arith ] in
      record {
        sound = λ n ne. elim (cases_eq n child) [
          | inl e ↦ subst (λ q. IsSound (now q) (new q)) (sym e) gone-sound
          | inr nc ↦ elim (cases_eq n root) [
            | inl e ↦ subst (λ q. IsSound (now q) (new q)) (sym e) (let s = law.sound child child-some in record {
              formed = λ bad. let k = lifted.kind in cc;
              ascends = subst (λ rs. Rises 0 rs end_rank) (sym lifted.records) s.ascends;
              short = let y = ap length lifted.records in omega arith;
              low = let y = lifted.level in let z = s.low in omega (arith, at);
              prev = let y = lifted.alone.0 in omega arith;
              next = let y = lifted.alone.1 in omega arith;
              node = λ up. lifted.alone;
            })
            | inr nr ↦ subst (IsSound (now n)) (sym (lifted.others n nr nc)) (IsSound-wider (most n) (now n) (m n) (wide n nr nc) (law.sound n ne))
          ]
        ];
        trees = λ r s l. (
          new-tree r s l,
          elim (cases_eq r root) [
            | inl e ↦ let x = ap (height_of new) e in let y = lifted.level in let z = (law.trees root some le).1 in let w = lifted.level_was in omega arith
            | inr ne ↦ let x = other-height r s l ne in let y = (law.trees r s l).1 in omega arith
          ],
        );
        met = IsPageMap-bits new after roots (λ n. elim (cases_eq n child) [
          | inl e ↦ subst (λ q. after q ≡ times_met new roots q + cond (eqb q 0) 1 0) (sym e)
              (let a = met-fewer child in let b = counts_page-own child 0 child-visit refl in let c = times_met-le most m bits roots child law in let z = bit-none child child-some in omega arith)
          | inr nc ↦ let a = met-fewer n in let b = counts_page-other n 0 child-visit (λ e. nc (sym e)) in let c = bits-met law n in let d = elsewhere n nc in omega arith
        ]) few-bits;
        bit = few-bits;
        few = λ n big. elim (cases_eq n child) [ inl e ↦ ap after e ∙ there | inr nc ↦ elsewhere n nc ∙ law.few n big ];
        unmet = λ n free. elim (cases_eq n child) [
          | inl e ↦ subst (λ q. (new q).kind ≡ Free) (sym e) freed
          | inr nc ↦
              let none : bits n ≡ 0 = sym (elsewhere n nc) ∙ free in
              let nr : n ≢ root = λ e. (let x = bits-met law root in let y = root-met m root in let z = weight_of-le (counts_page root) m root roots some le in let d = ap bits e in omega arith) in
              ap (λ (p : PageState). p.kind) (lifted.others n nr nc) ∙ law.unmet n none
        ];
      }
