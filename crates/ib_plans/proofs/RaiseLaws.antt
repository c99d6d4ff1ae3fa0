-- A root gives its records to two fresh pages, and goes up a level.
use Rattle.std.specs.List.{AllByRecursion}
use Rattle.std.proofs.Common.{◌≡◌, ◌≢◌, ℕ, ◌+◌, ◌<◌, ◌≤◌, ◌∙◌, [], ◌∷◌, ◌++◌, suc, inl, inr, length, refl, sym, ap, subst, arith}
use Rattle.std.proofs.lemmas.Bool.{cases_eq}
use Rattle.ib_map.specs.Keys.{MapKey, end_rank, rank}
use Rattle.ib_map.specs.Pairs.{Rises, first_rank}
use Rattle.ib_map.proofs.RiseLaws.{Rises-higher, Rises-le, Rises-left, Rises-lower, Rises-right}
use Rattle.ib_heap.specs.declared.TheConstants.{MOST_LEVEL}
use Rattle.ib_page.specs.declared.space.TheConstants.{MAPPED_PAGES}
use Rattle.ib_walk.specs.Pages.{IsSound, PageMemory, PageState, Tree}
use Rattle.ib_walk.specs.Trees.{IsLawfulUpTo, IsTreeOf, content_of, height_of, leaves_of, most_height, times_met, top_of, weight_of}
use Rattle.ib_walk.specs.Walk.{AreLinked, AreNodes, IsLeafAt, IsTree, Visit, below, children, counts_page, records_along, weight_along}
use Rattle.ib_walk.proofs.LeafLaws.{IsSound-wider}
use Rattle.ib_walk.proofs.MeetLaws.{AllByRecursion-met, AreLinked-same, HasLinks, IsSameTree-met, counts_page-other, counts_page-own, lowest-le_weight}
use Rattle.ib_walk.proofs.TreeLaws.{most_height-le, weight_of-le}
use Rattle.ib_walk.proofs.WalkLaws.{IsSameTree}
use Rattle.ib_plans.proofs.HalfLaws.{IsHalved, IsHalvedRow, IsHalvedRow-halved}
use Rattle.ib_plans.proofs.LevelLaws.{AllByRecursion-both, Rises-visit, below-zero}
use Rattle.ib_plans.proofs.MetLaws.{bit-none, clear-some, clear-unmet, met-apart, root-met, root-times_met, weight_all-plus}
use Rattle.ib_plans.proofs.RecordLaws.{Rises-apart}
use Rattle.ib_walk.proofs.CountLaws.{bits-met, IsPageMap-bits}

-- what a raise writes, but for links and clocks: a is the left page and b the right one
pub record IsRaised (m new : PageMemory) (root a b : ℕ) (height : ℕ) : Type 0 where
  pub halved : IsHalved m new height root a b
  pub bottom : MapKey
  pub least : rank bottom ≡ 0
  pub kind : (new root).kind ≡ Tree
  pub level : (new root).level ≡ suc height
  pub records : (new root).records ≡ (bottom, a) ∷ (halved.first.0, b) ∷ []
  pub links : height ≡ 0 → AreLinked new 0 (record { page = a; low = 0; high = 0 } ∷ record { page = b; low = 0; high = 0 } ∷ []) 0

-- the tree of the root, a level higher
pub record IsRaisedTree (m new : PageMemory) (root height : ℕ) (w w1 w2 : Visit) : Type 0 where
  pub tree : IsTree new (suc height) (w ∷ [])
  pub holds : records_along new (below new (suc height) (w ∷ [])) ≡ records_along m (below m height (w ∷ []))
  pub weighs : (f : ℕ → Visit → ℕ) → weight_along f new (suc height) (w ∷ []) + f height w ≡ weight_along f m height (w ∷ []) + f (suc height) w + f height w1 + f height w2
  pub inner : 0 < height → below new (suc height) (w ∷ []) ≡ below m height (w ∷ [])
  pub changed : height ≡ 0 → below new (suc height) (w ∷ []) ≡ w1 ∷ w2 ∷ []

module _ (m new : PageMemory) (root a b height : ℕ) (raised : IsRaised m new root a b height) (t : IsTree m height (top_of root)) where
  abbrev w : Visit
  w = record { page = root; low = 0; high = end_rank }

  abbrev w1 : Visit
  w1 = record { page = a; low = 0; high = rank raised.halved.first.0 }

  abbrev w2 : Visit
  w2 = record { page = b; low = rank raised.halved.first.0; high = end_rank }

  row : IsHalvedRow m new height (w ∷ []) w w1 w2 (w1 ∷ w2 ∷ [])
  row = IsHalvedRow-halved m new height root a b raised.halved [] w [] refl tt tt t

  cut : Rises 0 (raised.halved.left ++ raised.halved.first ∷ raised.halved.rest) end_rank
  cut = subst (λ rs. Rises 0 rs end_rank) raised.halved.halves (Rises-visit m height [] w [] t)

  low : 0 < rank raised.halved.first.0
  low = Rises-apart 0 raised.halved.left (rank raised.halved.first.0) (Rises-left 0 raised.halved.left (raised.halved.first ∷ raised.halved.rest) end_rank cut) raised.halved.some

  high : rank raised.halved.first.0 < end_rank
  high = Rises-apart (rank raised.halved.first.0) (raised.halved.first ∷ raised.halved.rest) end_rank
      (Rises-right 0 raised.halved.left (raised.halved.first ∷ raised.halved.rest) end_rank cut) (omega arith)

  now : children new (w ∷ []) ≡ w1 ∷ w2 ∷ []
  now = let r = raised.records in let e = raised.least in rw r (rw e refl)

  -- so it is where the root is raised
  pub IsRaisedTree-raise : IsRaisedTree m new root height (record { page = root; low = 0; high = end_rank }) (record { page = a; low = 0; high = rank raised.halved.first.0 })
      (record { page = b; low = rank raised.halved.first.0; high = end_rank })
  IsRaisedTree-raise = record {
    tree = record {
      nodes = (
        (
          record {
            kind = raised.kind;
            level = raised.level;
            within = subst (λ rs. Rises 0 rs end_rank) (sym raised.records) (omega arith, (let e = raised.least in omega (arith, low), omega (arith, high)));
            first = ap (λ rs. first_rank rs end_rank) raised.records ∙ raised.least;
            some = let e = ap length raised.records in omega arith;
          },
          tt,
        ),
        subst (AreNodes new height) (sym now) row.tree.nodes,
      );
      leaves = subst (λ us. AllByRecursion (IsLeafAt new) (below new height us)) (sym now) row.tree.leaves;
    };
    holds = ap (λ us. records_along new (below new height us)) now ∙ row.holds;
    weighs = λ f. let x = ap (weight_along f new height) now in let y = row.weighs f in omega arith;
    inner = λ z. ap (below new height) now ∙ row.lowest z;
    changed = λ z. below-zero new height (children new (w ∷ [])) z ∙ now;
  }

-- a raise of a root that may go a level higher, onto two pages whose bits are clear
module _ (most : ℕ → ℕ) (m new : PageMemory) (bits : ℕ → ℕ) (roots : ℕ) (law : IsLawfulUpTo most m bits roots)
    (root : ℕ) (some : 0 < root) (le : root ≤ roots) (room : suc (height_of m root) ≤ most_height roots)
    (a b : ℕ) (apart-ab : a ≢ b) (none-a : bits a ≡ 0) (none-b : bits b ≡ 0) (few-a : a < MAPPED_PAGES) (few-b : b < MAPPED_PAGES)
    (raised : IsRaised m new root a b (height_of m root)) (others : (n : ℕ) → n ≢ root → n ≢ a → n ≢ b → new n ≡ m n)
    (nodes : 0 < height_of m root → ((new a).prev ≡ 0) × ((new a).next ≡ 0) × ((new b).prev ≡ 0) × ((new b).next ≡ 0))
    (alone : ((new root).prev ≡ 0) × ((new root).next ≡ 0)) where
  tree-of : IsTreeOf m (height_of m root) root
  tree-of = (law.trees root some le).0

  whole : IsRaisedTree m new root (height_of m root) (record { page = root; low = 0; high = end_rank }) (record { page = a; low = 0; high = rank raised.halved.first.0 })
      (record { page = b; low = rank raised.halved.first.0; high = end_rank })
  whole = IsRaisedTree-raise m new root a b (height_of m root) raised tree-of.tree

  -- a page that a walk meets is none of the fresh ones
  met-old : (n q : ℕ) → 1 ≤ times_met m roots n → bits q ≡ 0 → n ≢ q
  met-old n q h none e = let x = clear-unmet most m bits roots law q none in let d = ap (times_met m roots) e in omega arith

  -- the tree is one higher, and each other one as high as it was
  pub height-raised : height_of new root ≡ suc (height_of m root)
  height-raised = raised.level

  root-of : (r : ℕ) → 0 < r → r ≤ roots → 1 ≤ times_met m roots r
  root-of = root-times_met most m bits roots law

  pub height-other : (r : ℕ) → 0 < r → r ≤ roots → r ≢ root → height_of new r ≡ height_of m r
  height-other r s l ne = ap (λ (p : PageState). p.level) (others r ne (met-old r a (root-of r s l) none-a) (met-old r b (root-of r s l) none-b))

  -- another tree has no page of this one, so it is as it was
  same-page : (r : ℕ) → 0 < r → r ≤ roots → r ≢ root → (n : ℕ) → 0 < weight_of (counts_page n) m r → new n ≡ m n
  same-page r s l ne n h =
      let y = weight_of-le (counts_page n) m r roots s l in
      others n (met-apart most m bits roots law root some le r s l ne n root h (root-met m root))
      (met-old n a (omega arith) none-a) (met-old n b (omega arith) none-b)

  other-tree : (r : ℕ) → 0 < r → r ≤ roots → r ≢ root → IsSameTree m new (height_of m r) (top_of r)
  other-tree r s l ne =
      IsSameTree-met m new (height_of m r) (top_of r)
      (λ n h. let e = same-page r s l ne n h in record { kind = ap (λ (p : PageState). p.kind) e; level = ap (λ (p : PageState). p.level) e; records = ap (λ (p : PageState). p.records) e })
      (law.trees r s l).0.tree

  other-links : (r : ℕ) → 0 < r → r ≤ roots → r ≢ root → AreLinked new 0 (leaves_of m r) 0
  other-links r s l ne =
      AreLinked-same m new 0 (leaves_of m r) 0
      (AllByRecursion-met (λ n. HasLinks (new n) (m n)) 0 (leaves_of m r) (λ n h.
      let low = lowest-le_weight (counts_page n) m (height_of m r) (top_of r) in
      let e = same-page r s l ne n (omega arith) in record { prev = ap (λ (p : PageState). p.prev) e; next = ap (λ (p : PageState). p.next) e }))
      (law.trees r s l).0.linked

  -- the chain of leaves of the tree
  own-links : AreLinked new 0 (below new (suc (height_of m root)) (top_of root)) 0
  own-links =
      elim (cases_eq (height_of m root) 0) [
        | inl z ↦ let l = raised.links z in subst (λ us. AreLinked new 0 us 0) (sym (whole.changed z)) (l.0, l.1, l.2)
        | inr up ↦
            let away = AllByRecursion-both (IsLeafAt m) (λ (u : Visit). (u.page ≢ a) × (u.page ≢ b)) (λ u. HasLinks (new u.page) (m u.page)) (leaves_of m root)
            (λ u lf ne. let e = others u.page (λ e. let x = ap (λ q. (m q).level) e in let y = lf.level in omega (arith, up)) ne.0 ne.1 in
            record { prev = ap (λ (p : PageState). p.prev) e; next = ap (λ (p : PageState). p.next) e })
            tree-of.tree.leaves
            (AllByRecursion-met (λ q. (q ≢ a) × (q ≢ b)) 0 (leaves_of m root) (λ q h.
            let low = lowest-le_weight (counts_page q) m (height_of m root) (top_of root) in
            let y = weight_of-le (counts_page q) m root roots some le in
            (met-old q a (omega arith) none-a, met-old q b (omega arith) none-b))) in
            subst (λ us. AreLinked new 0 us 0) (sym (whole.inner (omega (arith, up)))) (AreLinked-same m new 0 (leaves_of m root) 0 away tree-of.linked)
      ]

  new-tree : (r : ℕ) → 0 < r → r ≤ roots → IsTreeOf new (height_of new r) r
  new-tree r s l =
      elim (cases_eq r root) [
        | inl e ↦ subst (λ q. IsTreeOf new (height_of new q) q) (sym e) (subst (λ h. IsTreeOf new h root) (sym height-raised) (record { tree = whole.tree; linked = own-links }))
        | inr ne ↦ subst (λ h. IsTreeOf new h r) (sym (height-other r s l ne))
            (let o = other-tree r s l ne in record { tree = o.tree; linked = subst (λ us. AreLinked new 0 us 0) (sym o.lowest) (other-links r s l ne) })
      ]

  -- the tree weighs the two pages more, and the root at a greater height
  pub weight_of-raise : (f : ℕ → Visit → ℕ) → weight_of f new root + f (height_of m root) (record { page = root; low = 0; high = end_rank }) ≡ weight_of f m root
      + f (suc (height_of m root)) (record { page = root; low = 0; high = end_rank }) + f (height_of m root) (record { page = a; low = 0; high = rank raised.halved.first.0 })
      + f (height_of m root) (record { page = b; low = rank raised.halved.first.0; high = end_rank })
  weight_of-raise f = let x = whole.weighs f in let y = ap (λ h. weight_along f new h (top_of root)) height-raised in omega arith

  -- what weighs nothing on the three pages weighs the same
  pub weight_of-raise_away : (f : ℕ → Visit → ℕ) → ((h : ℕ) (v : Visit) → v.page ≡ root → f h v ≡ 0) → ((h : ℕ) (v : Visit) → v.page ≡ a → f h v ≡ 0)
      → ((h : ℕ) (v : Visit) → v.page ≡ b → f h v ≡ 0) → (r : ℕ) → 0 < r → r ≤ roots → weight_of f new r ≡ weight_of f m r
  weight_of-raise_away f zr za zb r s l =
      elim (cases_eq r root) [
        | inl e ↦ subst (λ q. weight_of f new q ≡ weight_of f m q) (sym e)
            (let x = weight_of-raise f in
            let c = zr (height_of m root) (record { page = root; low = 0; high = end_rank }) refl in
            let d = zr (suc (height_of m root)) (record { page = root; low = 0; high = end_rank }) refl in
            let g = za (height_of m root) (record { page = a; low = 0; high = rank raised.halved.first.0 }) refl in
            let h = zb (height_of m root) (record { page = b; low = rank raised.halved.first.0; high = end_rank }) refl in omega arith)
        | inr ne ↦ ap (λ h. weight_along f new h (top_of r)) (height-other r s l ne) ∙ (other-tree r s l ne).weighs f
      ]

  -- each tree has the content that it had
  pub content_of-raise : (r : ℕ) → 0 < r → r ≤ roots → content_of new r ≡ content_of m r
  content_of-raise r s l =
      elim (cases_eq r root) [
        | inl e ↦ subst (λ q. content_of new q ≡ content_of m q) (sym e) (ap (λ h. records_along new (below new h (top_of root))) height-raised ∙ whole.holds)
        | inr ne ↦ ap (λ h. records_along new (below new h (top_of r))) (height-other r s l ne) ∙ (other-tree r s l ne).holds
      ]

  -- the two pages are met now, the others as before
  met-now : (n : ℕ) → times_met new roots n ≡ times_met m roots n + (counts_page n 0 (record { page = a; low = 0; high = 0 }) + counts_page n 0 (record { page = b; low = 0; high = 0 }))
  met-now n =
      weight_all-plus (counts_page n) m new root roots (counts_page n 0 (record { page = a; low = 0; high = 0 }) + counts_page n 0 (record { page = b; low = 0; high = 0 })) some le
      (let x = weight_of-raise (counts_page n) in omega arith)
      (λ r s l ne. ap (λ h. weight_along (counts_page n) new h (top_of r)) (height-other r s l ne) ∙ (other-tree r s l ne).weighs (counts_page n))

  root-some : root ≢ 0
  root-some z = omega arith

  -- the pages are sound
  cut-all : Rises 0 (raised.halved.left ++ raised.halved.first ∷ raised.halved.rest) end_rank
  cut-all = let s = law.sound root root-some in subst (λ rs. Rises 0 rs end_rank) raised.halved.halves s.ascends

  first-high : rank raised.halved.first.0 < end_rank
  first-high = let r = Rises-right 0 raised.halved.left (raised.halved.first ∷ raised.halved.rest) end_rank cut-all in
      let q = Rises-le (rank raised.halved.first.0 + 1) raised.halved.rest end_rank r.1 in omega arith

  first-low : 0 < rank raised.halved.first.0
  first-low = Rises-apart 0 raised.halved.left (rank raised.halved.first.0) (Rises-left 0 raised.halved.left (raised.halved.first ∷ raised.halved.rest) end_rank cut-all) raised.halved.some

  low-level : suc (height_of m root) ≤ MOST_LEVEL
  low-level = let x = most_height-le roots in omega arith

  a-sound : (now : ℕ) → length raised.halved.left ≤ now → IsSound now (new a)
  a-sound now short = record {
    formed = λ bad. let k = raised.halved.home_kind in cc;
    ascends = subst (λ rs. Rises 0 rs end_rank) (sym raised.halved.home_records)
        (Rises-higher 0 raised.halved.left (rank raised.halved.first.0) end_rank (omega (arith, first-high))
        (Rises-left 0 raised.halved.left (raised.halved.first ∷ raised.halved.rest) end_rank cut-all));
    short = let y = ap length raised.halved.home_records in omega arith;
    low = let y = raised.halved.home_level in omega (arith, low-level);
    prev = elim (cases_eq (height_of m root) 0) [ inl z ↦ let l = raised.links z in let y = l.0 in omega arith | inr up ↦ let y = (nodes (omega (arith, up))).0 in omega arith ];
    next = elim (cases_eq (height_of m root) 0) [ inl z ↦ let l = raised.links z in let y = l.1 in omega arith | inr up ↦ let y = (nodes (omega (arith, up))).1 in omega arith ];
    node = λ up. let n = nodes (let y = raised.halved.home_level in omega arith) in (n.0, n.1);
  }

  b-sound : (now : ℕ) → length (raised.halved.first ∷ raised.halved.rest) ≤ now → IsSound now (new b)
  b-sound now short = record {
    formed = λ bad. let k = raised.halved.fresh_kind in cc;
    ascends = subst (λ rs. Rises 0 rs end_rank) (sym raised.halved.fresh_records)
        (Rises-lower 0 (rank raised.halved.first.0) (raised.halved.first ∷ raised.halved.rest) end_rank (omega arith)
        (Rises-right 0 raised.halved.left (raised.halved.first ∷ raised.halved.rest) end_rank cut-all));
    short = let y = ap length raised.halved.fresh_records in omega arith;
    low = let y = raised.halved.fresh_level in omega (arith, low-level);
    prev = elim (cases_eq (height_of m root) 0) [ inl z ↦ let l = raised.links z in let y = l.2.0 in omega arith | inr up ↦ let y = (nodes (omega (arith, up))).2 in omega arith ];
    next = elim (cases_eq (height_of m root) 0) [ inl z ↦ let l = raised.links z in let y = l.2.1 in omega arith | inr up ↦ let y = (nodes (omega (arith, up))).3 in omega arith ];
    node = λ up. let n = nodes (let y = raised.halved.fresh_level in omega arith) in (n.2, n.3);
  }

  root-sound : (now : ℕ) → 2 ≤ now → IsSound now (new root)
  root-sound now short = record {
    formed = λ bad. let k = raised.kind in cc;
    ascends = subst (λ rs. Rises 0 rs end_rank) (sym raised.records) (omega arith, (let e = raised.least in omega (arith, first-low), omega (arith, first-high)));
    short = let y = ap length raised.records in omega arith;
    low = let y = raised.level in omega (arith, low-level);
    prev = let y = alone.0 in omega arith;
    next = let y = alone.1 in omega arith;
    node = λ up. alone;
  }

  -- so trees are lawful, with the bits of the two pages set
  pub IsLawful-raise : (now after : ℕ → ℕ) → after a ≡ 1 → after b ≡ 1 → ((n : ℕ) → n ≢ a → n ≢ b → after n ≡ bits n)
      → ((n : ℕ) → n ≢ root → n ≢ a → n ≢ b → most n ≤ now n) → 2 ≤ now root → length raised.halved.left ≤ now a → length (raised.halved.first ∷ raised.halved.rest) ≤ now b
      → IsLawfulUpTo now new after roots
  IsLawful-raise now after at-a at-b elsewhere wide short-root short-a short-b =
      let few-bits : (n : ℕ) → after n ≤ 1 = λ n. elim (cases_eq n a) [ inl e ↦ let d = ap after e in omega arith | inr na ↦ elim (cases_eq n b) [ inl e ↦ let d = ap after e in omega arith | inr nb ↦ let d = elsewhere n na nb in let k = law.bit n in omega arith ] ] in
      record {
        sound = λ n ne. elim (cases_eq n a) [
          | inl e ↦ subst (λ q. IsSound (now q) (new q)) (sym e) (a-sound (now a) short-a)
          | inr na ↦ elim (cases_eq n b) [
            | inl e ↦ subst (λ q. IsSound (now q) (new q)) (sym e) (b-sound (now b) short-b)
            | inr nb ↦ elim (cases_eq n root) [
              | inl e ↦ subst (λ q. IsSound (now q) (new q)) (sym e) (root-sound (now root) short-root)
              | inr nr ↦ subst (IsSound (now n)) (sym (others n nr na nb)) (IsSound-wider (most n) (now n) (m n) (wide n nr na nb) (law.sound n ne))
            ]
          ]
        ];
        trees = λ r s l. (
          new-tree r s l,
          elim (cases_eq r root) [
            | inl e ↦ let x = ap (height_of new) e in let y = height-raised in omega arith
            | inr ne ↦ let x = height-other r s l ne in let y = (law.trees r s l).1 in omega arith
          ],
        );
        met = IsPageMap-bits new after roots (λ n. let x = met-now n in elim (cases_eq n a) [
          | inl e ↦ let p = counts_page-own n 0 (record { page = a; low = 0; high = 0 }) (sym e) in let q = counts_page-other n 0 (record { page = b; low = 0; high = 0 }) (λ z. apart-ab (sym e ∙ sym z)) in
              let u = clear-unmet most m bits roots law a none-a in let d = ap (times_met m roots) e in let z = bit-none n (λ i. clear-some most m bits roots law a none-a (sym e ∙ i)) in let f = ap after e in omega arith
          | inr na ↦ elim (cases_eq n b) [
            | inl e ↦ let p = counts_page-own n 0 (record { page = b; low = 0; high = 0 }) (sym e) in let q = counts_page-other n 0 (record { page = a; low = 0; high = 0 }) (λ z. apart-ab (z ∙ e)) in
                let u = clear-unmet most m bits roots law b none-b in let d = ap (times_met m roots) e in let z = bit-none n (λ i. clear-some most m bits roots law b none-b (sym e ∙ i)) in let f = ap after e in omega arith
            | inr nb ↦ let p = counts_page-other n 0 (record { page = a; low = 0; high = 0 }) (λ z. na (sym z)) in let q = counts_page-other n 0 (record { page = b; low = 0; high = 0 }) (λ z. nb (sym z)) in
                let w = bits-met law n in let d = elsewhere n na nb in omega arith
          ]
        ]) few-bits;
        bit = few-bits;
        few = λ n big. elsewhere n (λ e. omega arith) (λ e. omega arith) ∙ law.few n big;
        unmet = λ n free.
            let na : n ≢ a = λ e. (let d = ap after e in omega arith) in
            let nb : n ≢ b = λ e. (let d = ap after e in omega arith) in
            let none : bits n ≡ 0 = sym (elsewhere n na nb) ∙ free in
            let nr : n ≢ root = λ e. (let x = bits-met law root in let y = root-of root some le in let d = ap bits e in omega arith) in
            ap (λ (p : PageState). p.kind) (others n nr na nb) ∙ law.unmet n none;
      }
