-- Other records in one leaf.
use Rattle.std.specs.List.{AllByRecursion}
use Rattle.std.proofs.Common.{◌≡◌, ℕ, ◌+◌, ◌<◌, ◌≤◌, inl, inr, None, ◌∷◌, ◌++◌, length, sym, ap, subst, ◌∙◌, arith, ◌≢◌}
use Rattle.std.proofs.lemmas.Bool.{cases_eq}
use Rattle.ib_map.specs.Keys.{MapKey, rank, end_rank}
use Rattle.ib_map.specs.Pairs.{Pairs, Rises, put, value_at}
use Rattle.ib_heap.specs.declared.TheConstants.{MOST_RECORDS}
use Rattle.ib_walk.specs.Pages.{Tree, PageState, PageMemory, IsSound}
use Rattle.ib_walk.specs.Walk.{Visit, below, records_along, sum_of, weight_along, counts_page, IsLeafAt, AreNodes, AreLinked, IsTiled}
use Rattle.ib_walk.specs.Search.{leaf_for, IsPageFor}
use Rattle.ib_walk.specs.Trees.{top_of, height_of, leaves_of, content_of, weight_of, IsTreeOf, IsLawfulUpTo, IsLawful}
use Rattle.ib_map.proofs.PairLaws.{put-behind, put-before, Rises-put, length-put}
use Rattle.ib_walk.proofs.WalkLaws.{AllByRecursion-left, AllByRecursion-right, AllByRecursion-append, records_along-append, records_along-same, IsAlike, leaves-same, IsSameTree}
use Rattle.ib_walk.proofs.MeetLaws.{sum_of-own, lowest-le_weight, AllByRecursion-other, AllByRecursion-met, IsSameTree-met, AreLinked-same, HasLinks}
use Rattle.ib_walk.proofs.SearchLaws.{above-zero, Rises-records_along, AllByRecursion-at, upper-nodes, upper-lowest, upper-weight, IsTiled-left, IsTiled-right}
use Rattle.ib_walk.proofs.TreeLaws.{weight_of-le, weight_of-two_le, weight_all-same, IsPageFor-leaf, IsTiled-leaves, times_met-le, AreNodes-above}
use Rattle.ib_walk.proofs.CountLaws.{IsPageMap-bits, bits-met}

-- the records of the key's leaf give way to others that fit every range that has the key and those before
pub record IsLeafEdit (m new : PageMemory) (key : MapKey) (page : ℕ) : Type 0 where
  pub other : (n : ℕ) → n ≢ page → new n ≡ m n
  pub kind : (new page).kind ≡ (m page).kind
  pub level : (new page).level ≡ (m page).level
  pub links : HasLinks (new page) (m page)
  pub fits : (low high : ℕ) → Rises low (m page).records high → low ≤ rank key → rank key < high → Rises low (new page).records high

pub IsSound-wider : (a b : ℕ) (p : PageState) → a ≤ b → IsSound a p → IsSound b p
IsSound-wider a b p le s = record { formed = s.formed; ascends = s.ascends; short = let x = s.short in omega arith; low = s.low; prev = s.prev; next = s.next; node = s.node }

-- the content's pairs before those of the leaf and behind them
pub record Around (m new : PageMemory) (key : MapKey) (root page : ℕ) : Type 0 where
  pub low : ℕ
  pub high : ℕ
  pub before : Pairs
  pub behind : Pairs
  pub old : content_of m root ≡ before ++ ((m page).records ++ behind)
  pub changed : content_of new root ≡ before ++ ((new page).records ++ behind)
  pub rises_before : Rises 0 before low
  pub rises_behind : Rises high behind end_rank
  pub le : low ≤ rank key
  pub lt : rank key < high

module _ (m new : PageMemory) (key : MapKey) (page : ℕ) (edit : IsLeafEdit m new key page) where
  kind-same : (n : ℕ) → (new n).kind ≡ (m n).kind
  kind-same n = elim (cases_eq n page) [ inl e ↦ subst (λ q. (new q).kind ≡ (m q).kind) (sym e) edit.kind | inr ne ↦ ap (λ p. p.kind) (edit.other n ne) ]

  pub level-same : (n : ℕ) → (new n).level ≡ (m n).level
  level-same n = elim (cases_eq n page) [ inl e ↦ subst (λ q. (new q).level ≡ (m q).level) (sym e) edit.level | inr ne ↦ ap (λ p. p.level) (edit.other n ne) ]

  links-kept : (n : ℕ) → HasLinks (new n) (m n)
  links-kept n = elim (cases_eq n page) [
    | inl e ↦ subst (λ q. HasLinks (new q) (m q)) (sym e) edit.links
    | inr ne ↦ record { prev = ap (λ p. p.prev) (edit.other n ne); next = ap (λ p. p.next) (edit.other n ne) }
  ]

  alike-other : (n : ℕ) → n ≢ page → IsAlike (new n) (m n)
  alike-other n ne = record { kind = kind-same n; level = level-same n; records = ap (λ p. p.records) (edit.other n ne) }

  -- the tree that has the leaf
  pub record EditedTree (height root : ℕ) : Type 0 where
    pub tree : IsTreeOf new height root
    pub weighs : (f : ℕ → Visit → ℕ) → weight_along f new height (top_of root) ≡ weight_along f m height (top_of root)
    pub lowest : below new height (top_of root) ≡ below m height (top_of root)

  pub EditedTree-edit : (height root : ℕ) → (m page).level ≡ 0 → IsTreeOf m height root → IsPageFor key (below m height (top_of root)) page
      → weight_along (counts_page page) m height (top_of root) ≤ 1 → EditedTree height root
  EditedTree-edit height root leaf t p once =
      let up = AreNodes-above m height (top_of root) t.tree.nodes in
      let same : (n : ℕ) → (m n).kind ≡ Tree → 0 < (m n).level → IsAlike (new n) (m n) =
      λ n k l. alike-other n (λ e. let z = ap (λ q. (m q).level) e in omega arith) in
      let at-zero = above-zero height in
      let nodes = subst (λ n. AreNodes new n (top_of root)) at-zero (upper-nodes m new 0 same height (top_of root) up tt) in
      let lowest : below new height (top_of root) ≡ below m height (top_of root) =
      subst (λ n. below new n (top_of root) ≡ below m height (top_of root)) at-zero (upper-lowest m new 0 same height (top_of root) up) in
      let all = subst (AllByRecursion (IsLeafAt m)) p.is t.tree.leaves in
      let here = sum_of-own page 0 p.before p.visit p.behind p.here in
      let less = lowest-le_weight (counts_page page) m height (top_of root) in
      let total = ap (sum_of (counts_page page 0)) p.is in
      let none_before : sum_of (counts_page page 0) p.before ≡ 0 = omega arith in
      let none_behind : sum_of (counts_page page 0) p.behind ≡ 0 = omega arith in
      let before = leaves-same m new p.before (AllByRecursion-other (λ n. IsAlike (new n) (m n)) page 0 p.before none_before alike-other) (AllByRecursion-left (IsLeafAt m) p.before (p.visit ∷ p.behind) all) in
      let rest = AllByRecursion-right (IsLeafAt m) p.before (p.visit ∷ p.behind) all in
      let behind = leaves-same m new p.behind (AllByRecursion-other (λ n. IsAlike (new n) (m n)) page 0 p.behind none_behind alike-other) rest.1 in
      let visit : IsLeafAt new p.visit = record {
        kind = kind-same p.visit.page ∙ rest.0.kind;
        level = level-same p.visit.page ∙ rest.0.level;
        within = subst (λ q. Rises p.visit.low (new q).records p.visit.high) (sym p.here)
            (edit.fits p.visit.low p.visit.high (subst (λ q. Rises p.visit.low (m q).records p.visit.high) p.here rest.0.within) p.low p.high);
      } in
      let leaves = AllByRecursion-append (IsLeafAt new) p.before (p.visit ∷ p.behind) before (visit, behind) in
      record {
        tree = record {
          tree = record { nodes = nodes; leaves = subst (AllByRecursion (IsLeafAt new)) (sym (lowest ∙ p.is)) leaves };
          linked = subst (λ vs. AreLinked new 0 vs 0) (sym lowest)
              (AreLinked-same m new 0 (below m height (top_of root)) 0 (AllByRecursion-met (λ n. HasLinks (new n) (m n)) 0 (below m height (top_of root)) (λ n l. links-kept n)) t.linked);
        };
        weighs = λ f. let P : ℕ → Type 0 = λ n. weight_along f new n (top_of root) + sum_of (f 0) (below m height (top_of root)) ≡ weight_along f m n (top_of root) + sum_of (f 0) (below m height (top_of root)) in
            let r = subst P at-zero (upper-weight m new 0 same f height (top_of root) up) in omega arith;
        lowest = lowest;
      }

module _ (most : ℕ → ℕ) (m new : PageMemory) (bits : ℕ → ℕ) (roots : ℕ) (key : MapKey) (root : ℕ) (law : IsLawfulUpTo most m bits roots)
    (some : 0 < root) (le : root ≤ roots) (in-range : rank key < end_rank) (edit : IsLeafEdit m new key (leaf_for m key root)) where
  tree : IsTreeOf m (height_of m root) root
  tree = (law.trees root some le).0

  place : IsPageFor key (leaves_of m root) (leaf_for m key root)
  place = IsPageFor-leaf m key root in-range tree

  pub level-leaf_for : (m (leaf_for m key root)).level ≡ 0
  level-leaf_for =
      let all = subst (AllByRecursion (IsLeafAt m)) place.is tree.tree.leaves in
      let leaf = AllByRecursion-at (IsLeafAt m) place.before place.visit place.behind all in
      subst (λ q. (m q).level ≡ 0) place.here leaf.level

  -- the leaf is met in its own tree, and so in no other
  pub leaf_for-met : 1 ≤ weight_of (counts_page (leaf_for m key root)) m root
  leaf_for-met =
      let here = sum_of-own (leaf_for m key root) 0 place.before place.visit place.behind place.here in
      let less = lowest-le_weight (counts_page (leaf_for m key root)) m (height_of m root) (top_of root) in
      let total = ap (sum_of (counts_page (leaf_for m key root) 0)) place.is in
      omega arith

  leaf-once : weight_of (counts_page (leaf_for m key root)) m root ≤ 1
  leaf-once =
      let a = weight_of-le (counts_page (leaf_for m key root)) m root roots some le in
      let b = times_met-le most m bits roots (leaf_for m key root) law in omega arith

  edited : EditedTree m new key (leaf_for m key root) edit (height_of m root) root
  edited = EditedTree-edit m new key (leaf_for m key root) edit (height_of m root) root level-leaf_for tree place leaf-once

  -- another tree
  other-tree : (r : ℕ) → 0 < r → r ≤ roots → r ≢ root → IsSameTree m new (height_of m r) (top_of r)
  other-tree r s l ne =
      IsSameTree-met m new (height_of m r) (top_of r)
      (λ n at. alike-other m new key (leaf_for m key root) edit n (λ e.
      let a = weight_of-two_le (counts_page (leaf_for m key root)) m r root roots s l some le ne in
      let b = times_met-le most m bits roots (leaf_for m key root) law in
      let c = leaf_for-met in
      let d = ap (λ q. weight_along (counts_page q) m (height_of m r) (top_of r)) e in omega arith))
      (law.trees r s l).0.tree

  new-tree : (r : ℕ) → 0 < r → r ≤ roots → IsTreeOf new (height_of m r) r
  new-tree r s l =
      elim (cases_eq r root) [
        | inl e ↦ subst (λ q. IsTreeOf new (height_of m q) q) (sym e) edited.tree
        | inr ne ↦ let o = other-tree r s l ne in record {
          tree = o.tree;
          linked = subst (λ vs. AreLinked new 0 vs 0) (sym o.lowest)
              (AreLinked-same m new 0 (leaves_of m r) 0 (AllByRecursion-met (λ n. HasLinks (new n) (m n)) 0 (leaves_of m r) (λ n at. links-kept m new key (leaf_for m key root) edit n)) (law.trees r s l).0.linked);
        }
      ]

  pub height_of-edit : (r : ℕ) → height_of new r ≡ height_of m r
  height_of-edit r = level-same m new key (leaf_for m key root) edit r

  -- each visit of each tree is as it was
  pub weight_of-edit : (f : ℕ → Visit → ℕ) (r : ℕ) → 0 < r → r ≤ roots → weight_of f new r ≡ weight_of f m r
  weight_of-edit f r s l =
      let e = height_of-edit r in
      ap (λ n. weight_along f new n (top_of r)) e ∙
      elim (cases_eq r root) [
        | inl same ↦ subst (λ q. weight_along f new (height_of m q) (top_of q) ≡ weight_along f m (height_of m q) (top_of q)) (sym same) (edited.weighs f)
        | inr ne ↦ (other-tree r s l ne).weighs f
      ]

  pub IsLawful-edit : (now : ℕ → ℕ) → ((n : ℕ) → n ≢ leaf_for m key root → most n ≤ now n) → length (new (leaf_for m key root)).records ≤ now (leaf_for m key root)
      → IsLawfulUpTo now new bits roots
  IsLawful-edit now wide short = record {
    sound = λ n ne. elim (cases_eq n (leaf_for m key root)) [
      | inl e ↦ subst (λ q. IsSound (now q) (new q)) (sym e)
          (let o = law.sound (leaf_for m key root) (λ z. ne (e ∙ z)) in record {
            formed = λ bad. o.formed (sym edit.kind ∙ bad);
            ascends = edit.fits 0 end_rank o.ascends (omega arith) in-range;
            short = short;
            low = let x = edit.level in let y = o.low in omega arith;
            prev = let x = edit.links.prev in let y = o.prev in omega arith;
            next = let x = edit.links.next in let y = o.next in omega arith;
            node = λ up. absurd (let x = edit.level in let y = level-leaf_for in omega arith);
          })
      | inr other ↦ subst (IsSound (now n)) (sym (edit.other n other)) (IsSound-wider (most n) (now n) (m n) (wide n other) (law.sound n ne))
    ];
    trees = λ r s l. let e = height_of-edit r in
        (subst (λ h. IsTreeOf new h r) (sym e) (new-tree r s l), let b = (law.trees r s l).1 in omega arith);
    met = IsPageMap-bits new bits roots (λ n. let e = bits-met law n in let s = weight_all-same (counts_page n) m new roots (λ r a b. weight_of-edit (counts_page n) r a b) in omega arith) law.bit;
    bit = law.bit;
    few = law.few;
    unmet = λ n none. let ne : n ≢ leaf_for m key root = λ e.
        (let a = weight_of-le (counts_page (leaf_for m key root)) m root roots some le in
        let b = bits-met law (leaf_for m key root) in
        let c = leaf_for-met in
        let d = ap bits e in omega arith) in
        ap (λ p. p.kind) (edit.other n ne) ∙ law.unmet n none;
  }

  pub content_of-other : (r : ℕ) → 0 < r → r ≤ roots → r ≢ root → content_of new r ≡ content_of m r
  content_of-other r s l ne = let e = height_of-edit r in
      ap (λ n. records_along new (below new n (top_of r))) e ∙ (other-tree r s l ne).holds

  pub Around-edit : Around m new key root (leaf_for m key root)
  Around-edit =
      let all = subst (AllByRecursion (IsLeafAt m)) place.is tree.tree.leaves in
      let tiles = subst (λ ws. IsTiled 0 ws end_rank) place.is (IsTiled-leaves m root tree) in
      let rest = AllByRecursion-right (IsLeafAt m) place.before (place.visit ∷ place.behind) all in
      let here = sum_of-own (leaf_for m key root) 0 place.before place.visit place.behind place.here in
      let less = lowest-le_weight (counts_page (leaf_for m key root)) m (height_of m root) (top_of root) in
      let total = ap (sum_of (counts_page (leaf_for m key root) 0)) place.is in
      let once = leaf-once in
      let same = alike-other m new key (leaf_for m key root) edit in
      let before = records_along-same m new place.before (AllByRecursion-other (λ n. IsAlike (new n) (m n)) (leaf_for m key root) 0 place.before (omega arith) same) in
      let behind = records_along-same m new place.behind (AllByRecursion-other (λ n. IsAlike (new n) (m n)) (leaf_for m key root) 0 place.behind (omega arith) same) in
      record {
        low = place.visit.low;
        high = place.visit.high;
        before = records_along m place.before;
        behind = records_along m place.behind;
        old = ap (records_along m) place.is ∙ (records_along-append m place.before (place.visit ∷ place.behind) ∙
            ap (λ q. records_along m place.before ++ ((m q).records ++ records_along m place.behind)) place.here);
        changed = ap (λ n. records_along new (below new n (top_of root))) (height_of-edit root) ∙ (ap (records_along new) (edited.lowest ∙ place.is) ∙
            (records_along-append new place.before (place.visit ∷ place.behind) ∙
            (rw (before, behind) (ap (λ q. records_along m place.before ++ ((new q).records ++ records_along m place.behind)) place.here))));
        rises_before = Rises-records_along m 0 place.before place.visit.low (AllByRecursion-left (IsLeafAt m) place.before (place.visit ∷ place.behind) all)
            (IsTiled-left 0 place.before place.visit place.behind end_rank tiles);
        rises_behind = Rises-records_along m place.visit.high place.behind end_rank rest.1 (IsTiled-right 0 place.before place.visit place.behind end_rank tiles);
        le = place.low;
        lt = place.high;
      }

-- the leaf has one pair more
pub record IsLeafInsert (m new : PageMemory) (key : MapKey) (value page : ℕ) : Type 0 where
  pub other : (n : ℕ) → n ≢ page → new n ≡ m n
  pub kind : (new page).kind ≡ (m page).kind
  pub level : (new page).level ≡ (m page).level
  pub links : HasLinks (new page) (m page)
  pub records : (new page).records ≡ put key value (m page).records
  pub missing : value_at key (m page).records ≡ None

pub IsLeafEdit-insert : (m new : PageMemory) (key : MapKey) (value page : ℕ) → IsLeafInsert m new key value page → IsLeafEdit m new key page
IsLeafEdit-insert m new key value page i = record {
  other = i.other;
  kind = i.kind;
  level = i.level;
  links = i.links;
  fits = λ low high r le lt. subst (λ xs. Rises low xs high) (sym i.records) (Rises-put key value low (m page).records high r le lt i.missing);
}

pub content_of-insert : (most : ℕ → ℕ) (m new : PageMemory) (bits : ℕ → ℕ) (roots : ℕ) (key : MapKey) (value root : ℕ) → IsLawfulUpTo most m bits roots
    → 0 < root → root ≤ roots → rank key < end_rank → IsLeafInsert m new key value (leaf_for m key root)
    → content_of new root ≡ put key value (content_of m root)
content_of-insert most m new bits roots key value root law some le in-range i =
    let a = Around-edit most m new bits roots key root law some le in-range (IsLeafEdit-insert m new key value (leaf_for m key root) i) in
    let p = put-behind key value 0 a.before a.low ((m (leaf_for m key root)).records ++ a.behind) a.rises_before a.le in
    let q = put-before key value (m (leaf_for m key root)).records a.high a.behind end_rank a.rises_behind a.lt in
    a.changed ∙ (ap (λ rs. a.before ++ (rs ++ a.behind)) i.records ∙ (ap (λ rs. a.before ++ rs) (sym q) ∙ (sym p ∙ ap (put key value) (sym a.old))))

-- an insert into a leaf with room: all of the law, the content, and each visit as it was
pub record IsInserted (m new : PageMemory) (bits : ℕ → ℕ) (roots : ℕ) (key : MapKey) (value root : ℕ) : Type 0 where
  pub lawful : IsLawful new bits roots
  pub holds : content_of new root ≡ put key value (content_of m root)
  pub others : (r : ℕ) → 0 < r → r ≤ roots → r ≢ root → content_of new r ≡ content_of m r
  pub ranges : (f : ℕ → Visit → ℕ) (r : ℕ) → 0 < r → r ≤ roots → weight_of f new r ≡ weight_of f m r

pub IsInserted-leaf : (m new : PageMemory) (bits : ℕ → ℕ) (roots : ℕ) (key : MapKey) (value root : ℕ) → IsLawful m bits roots
    → 0 < root → root ≤ roots → rank key < end_rank → IsLeafInsert m new key value (leaf_for m key root)
    → length (m (leaf_for m key root)).records < MOST_RECORDS → IsInserted m new bits roots key value root
IsInserted-leaf m new bits roots key value root law some le in-range i room =
    let e = IsLeafEdit-insert m new key value (leaf_for m key root) i in
    let n : length (new (leaf_for m key root)).records ≤ MOST_RECORDS = let a = ap length i.records in let b = length-put key value (m (leaf_for m key root)).records in omega arith in
    record {
      lawful = IsLawful-edit (λ n. MOST_RECORDS) m new bits roots key root law some le in-range e (λ n. MOST_RECORDS) (λ n ne. omega arith) n;
      holds = content_of-insert (λ n. MOST_RECORDS) m new bits roots key value root law some le in-range i;
      others = content_of-other (λ n. MOST_RECORDS) m new bits roots key root law some le in-range e;
      ranges = weight_of-edit (λ n. MOST_RECORDS) m new bits roots key root law some le in-range e;
    }
