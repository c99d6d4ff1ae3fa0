-- The trees after a patch: they are lawful exactly where what is asked of the written pages holds.
use Rattle.std.specs.List.{AllByRecursion}
use Rattle.std.proofs.Common.{◌≡◌, ℕ, zero, suc, ◌+◌, ◌<◌, ◌≤◌, inl, inr, Bool, true, false, cond, List, [], ◌∷◌, refl, sym, ap, subst, ◌∙◌, arith, eqb, ◌≢◌}
use Rattle.std.proofs.lemmas.Bool.{cases_eq, cases_lt}
use Rattle.ib_map.specs.Keys.{end_rank}
use Rattle.ib_heap.specs.declared.TheConstants.{MOST_RECORDS}
use Rattle.ib_walk.specs.Pages.{Free, PageState, PageMemory, IsSound}
use Rattle.ib_walk.specs.Walk.{Visit, sum_of, counts_page, IsTree, AreLinked, IsTiled}
use Rattle.ib_walk.specs.Trees.{height_of, top_of, leaves_of, weight_of, times_met, IsTreeOf, IsLawful, most_height}
use Rattle.ib_validate.specs.Patch.{LevelVisit, over, on_written, off_written, old_visits, IsGoodAt, IsLeafIn, IsLinkedAt, IsGrounded, IsPatch, times_in, IsPatched}
use Rattle.ib_walk.specs.Walk.{counts_visit}
use Rattle.ib_walk.proofs.ChoiceLaws.{cond-ne}
use Rattle.ib_walk.proofs.SearchLaws.{IsTiled-below}
use Rattle.ib_walk.proofs.TreeLaws.{most_height-le, AreNodes-above}
use Rattle.ib_walk.proofs.WalkLaws.{IsAlike-same, IsLeafAt-same, IsNodeAt-same}
use Rattle.ib_tree.proofs.PatchLaws.{AllByRecursion-over, AreLinked-neighbours, AreNeighbours-linked, HasWidth, HasWidth-below, IsAmong, IsAmong-counted, IsGoodAt-tree, IsTree-good, counted-IsAmong, end_rank-some, counts_visit-height, counts_visit-other, counts_visit-same, next-last, over-holds, over-other, prev-first, weight_along-lowest, weight_along-off_other, weight_along-off_written}
use Rattle.ib_tree.proofs.WeightLaws.{IsBalanced-kept, over-written_below, weight_along-same, weight_along-split, weight_along-zero, weight_of-patched}
use Rattle.ib_walk.proofs.CountLaws.{bits-met, IsPageMap-bits}

pub IsGoodAt-same : (m new : PageMemory) (h : ℕ) (v : Visit) → new v.page ≡ m v.page → IsGoodAt m h v → IsGoodAt new h v
IsGoodAt-same m new zero v e g = IsLeafAt-same m new v (IsAlike-same (new v.page) (m v.page) e) g
IsGoodAt-same m new (suc h) v e g = IsNodeAt-same m new (suc h) v (IsAlike-same (new v.page) (m v.page) e) g

pub IsTiled-leaves_of : (m : PageMemory) (root : ℕ) → IsTree m (height_of m root) (top_of root) → IsTiled 0 (leaves_of m root) end_rank
IsTiled-leaves_of m root t = IsTiled-below m (height_of m root) 0 0 (top_of root) end_rank (AreNodes-above m (height_of m root) (top_of root) t.nodes) (refl, refl)

pub HasWidth-leaves_of : (m : PageMemory) (root : ℕ) → IsTree m (height_of m root) (top_of root) → AllByRecursion HasWidth (leaves_of m root)
HasWidth-leaves_of m root t = HasWidth-below m (height_of m root) (top_of root) t.nodes (end_rank-some, tt)

pub weight_of-leaf : (v : Visit) (m : PageMemory) (root : ℕ) → weight_of (counts_visit 0 v) m root ≡ sum_of (counts_visit 0 v 0) (leaves_of m root)
weight_of-leaf v m root = weight_along-lowest (counts_visit 0 v) m (height_of m root) (top_of root) (λ k u. high k u)
  where
    high : (k : ℕ) (u : Visit) → counts_visit 0 v (suc k) u ≡ 0
    high k u = elim (cases_lt 0 (counts_visit 0 v (suc k) u)) [ inl pos ↦ absurd (let e = (counts_visit-same 0 v (suc k) u pos).0 in omega arith) | inr non ↦ omega arith ]

-- whether a page is written
pub written-cases : (written : ℕ → Bool) (n : ℕ) (P : Type 0) → (written n ≡ true → P) → (written n ≡ false → P) → P
written-cases written n P a b = elim (written n) as (λ c. written n ≡ c → P) [ true ↦ λ e. a e | false ↦ λ e. b e ] refl

module _ (written : ℕ → Bool) where
  pub off_written-page : (b : Bool) (n k : ℕ) (u : Visit) → written n ≡ b → off_written written (counts_page n) k u ≡ cond b 0 (counts_page n k u)
  off_written-page b n k u e =
      elim (cases_eq u.page n) [
        | inl same ↦ let x : written u.page ≡ b = ap written same ∙ e in rw x refl
        | inr ne ↦ let z : counts_page n k u ≡ 0 = cond-ne {X = ℕ} u.page n 1 0 ne in rw z (both (written u.page) b)
      ]
    where
      both : (c d : Bool) → cond {A = ℕ} c 0 0 ≡ cond d 0 0
      both true true = refl
      both true false = refl
      both false true = refl
      both false false = refl

  pub weight_of-off_written : (m : PageMemory) (root n : ℕ) → written n ≡ true → weight_of (off_written written (counts_page n)) m root ≡ 0
  weight_of-off_written m root n e = weight_along-zero (off_written written (counts_page n)) m (height_of m root) (top_of root) (λ k u l. off_written-page true n k u e)

  pub weight_of-off_other : (m : PageMemory) (root n : ℕ) → written n ≡ false → weight_of (off_written written (counts_page n)) m root ≡ weight_of (counts_page n) m root
  weight_of-off_other m root n e = weight_along-same (off_written written (counts_page n)) (counts_page n) m (height_of m root) (top_of root) (λ k u. off_written-page false n k u e)

  pub over-counts_page : (ss : List LevelVisit) → AllByRecursion (λ s. written s.visit.page ≡ true) ss → (n : ℕ) → written n ≡ false → over (counts_page n) ss ≡ 0
  over-counts_page [] mine n e = refl
  over-counts_page (s ∷ ss) mine n e =
      let r = over-counts_page ss mine.1 n e in
      let ne : s.visit.page ≢ n = λ z. (let x = mine.0 in let y = ap written z in cc) in
      let z = cond-ne {X = ℕ} s.visit.page n 1 0 ne in omega arith

  pub on_written-visit : (k : ℕ) (v : Visit) (j : ℕ) (u : Visit) → written v.page ≡ false → on_written written (counts_visit k v) j u ≡ 0
  on_written-visit k v j u e =
      elim (cases_eq u.page v.page) [
        | inl same ↦ let x : written u.page ≡ false = ap written same ∙ e in rw x refl
        | inr ne ↦ let z = counts_visit-other k v j u ne in rw z (none (written u.page))
      ]
    where
      none : (c : Bool) → cond {A = ℕ} c 0 0 ≡ 0
      none true = refl
      none false = refl

module _ (written : ℕ → Bool) (m new : PageMemory) (same : (n : ℕ) → written n ≡ false → new n ≡ m n) (root : ℕ) (t : IsTreeOf m (height_of m root) root) (low-m : (m root).level < 8) where
  module _ (fresh : List LevelVisit) (p : IsGrounded written m new root fresh) (low-new : (new root).level < 8) where
    pub weight_of-after : (f : ℕ → Visit → ℕ) → weight_of f new root ≡ over f fresh + weight_of (off_written written f) m root
    weight_of-after = weight_of-patched written m new same root fresh p.balanced 8 low-m low-new p.low

    good-after : (k : ℕ) (v : Visit) → 0 < weight_of (counts_visit k v) new root → IsGoodAt new k v
    good-after k v some =
        let e = weight_of-after (counts_visit k v) in
        elim (cases_lt 0 (over (counts_visit k v) fresh)) [
          | inl pos ↦ over-holds (IsGoodAt new) fresh p.good k v pos
          | inr non ↦ written-cases written v.page (IsGoodAt new k v)
              (λ w. absurd (let z = weight_along-off_written written m (height_of m root) (top_of root) k v w in omega arith))
              (λ w. let z = weight_along-off_other written m (height_of m root) (top_of root) k v w in
              IsGoodAt-same m new k v (same v.page w) (IsGoodAt-tree m (height_of m root) (top_of root) t.tree k v (omega arith)))
        ]

    pub IsTree-after : IsTree new (height_of new root) (top_of root)
    IsTree-after = IsTree-good new (height_of new root) (top_of root) good-after

    pub IsLeafIn-after : (v : Visit) → IsAmong v (leaves_of new root) → IsLeafIn written m root fresh v
    IsLeafIn-after v h = let a = counted-IsAmong v (leaves_of new root) h in let b = weight_of-leaf v new root in let c = weight_of-after (counts_visit 0 v) in omega arith

    pub IsAmong-before : (v : Visit) → IsAmong v (leaves_of new root) → written v.page ≡ false → IsAmong v (leaves_of m root)
    IsAmong-before v h w =
        let a = IsLeafIn-after v h in
        let b = over-other written fresh p.mine 0 v w in
        let c = weight_along-off_other written m (height_of m root) (top_of root) 0 v w in
        let d = weight_of-leaf v m root in
        IsAmong-counted v (leaves_of m root) (omega arith)

    pub AreKept-after : (f : ℕ → Visit → ℕ) → weight_of (off_written written f) new root ≡ weight_of (off_written written f) m root
    AreKept-after f = let a = weight_of-after (off_written written f) in let b = none fresh p.mine in let c = weight_along-same (off_written written (off_written written f)) (off_written written f) m (height_of m root) (top_of root) twice in omega arith
      where
        none : (ss : List LevelVisit) → AllByRecursion (λ s. written s.visit.page ≡ true) ss → over (off_written written f) ss ≡ 0
        none [] q = refl
        none (s ∷ ss) q = let r = none ss q.1 in let e = q.0 in let z : off_written written f s.height s.visit ≡ 0 = rw e refl in omega arith

        twice : (k : ℕ) (v : Visit) → off_written written (off_written written f) k v ≡ off_written written f k v
        twice k v = elim (written v.page) as (λ b. cond b 0 (cond b 0 (f k v)) ≡ cond b 0 (f k v)) [ true ↦ refl | false ↦ refl ]

    module _ (linked : AllByRecursion (λ s. s.height ≡ 0 → IsLinkedAt (IsLeafIn written m root fresh) new s.visit) fresh) where
      mine-linked : (v : Visit) → IsAmong v (leaves_of new root) → written v.page ≡ true → IsLinkedAt (IsLeafIn written m root fresh) new v
      mine-linked v h w =
          let a = IsLeafIn-after v h in let z = weight_along-off_written written m (height_of m root) (top_of root) 0 v w in
          over-holds (λ k u. k ≡ 0 → IsLinkedAt (IsLeafIn written m root fresh) new u) fresh linked 0 v (omega arith) refl

      pub AreLinked-after : AreLinked new 0 (leaves_of new root) 0
      AreLinked-after =
          let tm = IsTiled-leaves_of m root t.tree in let rm = HasWidth-leaves_of m root t.tree in
          AreLinked-neighbours new 0 0 (leaves_of new root) end_rank 0 (IsTiled-leaves_of new root IsTree-after)
          (λ v h e. written-cases written v.page ((new v.page).prev ≡ 0)
          (λ w. (mine-linked v h w).first e)
          (λ w. ap (λ (q : PageState). q.prev) (same v.page w) ∙ prev-first m 0 0 (leaves_of m root) end_rank 0 tm rm t.linked v (IsAmong-before v h w) e))
          (λ v h e. written-cases written v.page ((new v.page).next ≡ 0)
          (λ w. (mine-linked v h w).last e)
          (λ w. ap (λ (q : PageState). q.next) (same v.page w) ∙ next-last m 0 0 (leaves_of m root) end_rank 0 tm rm t.linked v (IsAmong-before v h w) e))
          (λ u v hu hv e. written-cases written u.page (((new u.page).next ≡ v.page) × ((new v.page).prev ≡ u.page))
          (λ w. (mine-linked u hu w).right v (IsLeafIn-after v hv) e)
          (λ w. written-cases written v.page (((new u.page).next ≡ v.page) × ((new v.page).prev ≡ u.page))
          (λ x. (mine-linked v hv x).left u (IsLeafIn-after u hu) e)
          (λ x. let r = AreNeighbours-linked m 0 0 (leaves_of m root) end_rank 0 tm rm t.linked u v (IsAmong-before u hu w) (IsAmong-before v hv x) e in
          (ap (λ (q : PageState). q.next) (same u.page w) ∙ r.0, ap (λ (q : PageState). q.prev) (same v.page x) ∙ r.1))))

      pub IsTreeOf-after : IsTreeOf new (height_of new root) root
      IsTreeOf-after = record { tree = IsTree-after; linked = AreLinked-after }

  -- from the new trees back to what is asked
  module _ (n : IsTreeOf new (height_of new root) root) (low-new : (new root).level < 8)
      (kept : (f : ℕ → Visit → ℕ) → weight_of (off_written written f) new root ≡ weight_of (off_written written f) m root) where
    abbrev pub new-visits : List LevelVisit
    new-visits = old_visits written new root

    over-now : (f : ℕ → Visit → ℕ) → over f (old_visits written new root) ≡ weight_of (on_written written f) new root
    over-now f = over-written_below written f new (height_of new root) (top_of root)

    split-now : (f : ℕ → Visit → ℕ) → weight_of f new root ≡ over f (old_visits written new root) + weight_of (off_written written f) m root
    split-now f = let a = weight_along-split written f new (height_of new root) (top_of root) in let b = over-now f in let c = kept f in omega arith

    as-in : (v : Visit) → IsLeafIn written m root (old_visits written new root) v → IsAmong v (leaves_of new root)
    as-in v h = let a = split-now (counts_visit 0 v) in let b = weight_of-leaf v new root in IsAmong-counted v (leaves_of new root) (omega arith)

    pub IsPatch-lawful : IsPatch written m new root (old_visits written new root)
    IsPatch-lawful = record {
      grounded = record {
        balanced = IsBalanced-kept written m new same root kept;
        mine = AllByRecursion-over (λ s. written s.visit.page ≡ true) (old_visits written new root) (λ s l. written-cases written s.visit.page (written s.visit.page ≡ true) (λ w. w)
            (λ w. absurd (let a = over-now (counts_visit s.height s.visit) in
            let z = weight_along-zero (on_written written (counts_visit s.height s.visit)) new (height_of new root) (top_of root) (λ k u _. on_written-visit written s.height s.visit k u w) in omega arith)));
        good = AllByRecursion-over (λ s. IsGoodAt new s.height s.visit) (old_visits written new root) (λ s l. let a = split-now (counts_visit s.height s.visit) in
            IsGoodAt-tree new (height_of new root) (top_of root) n.tree s.height s.visit (omega arith));
        low = AllByRecursion-over (λ s. s.height < 8) (old_visits written new root) (λ s l. elim (cases_lt s.height 8) [
          | inl lt ↦ lt
          | inr ge ↦ absurd (let a = split-now (counts_visit s.height s.visit) in
              let z = weight_along-zero (counts_visit s.height s.visit) new (height_of new root) (top_of root) (λ k u le. counts_visit-height s.height s.visit k u (λ same. omega (arith, ge, low-new, le))) in omega arith)
        ]);
      };
      linked = AllByRecursion-over (λ s. s.height ≡ 0 → IsLinkedAt (IsLeafIn written m root (old_visits written new root)) new s.visit) (old_visits written new root) (λ s l z.
          let here = as-in s.visit (leaf-in s l z) in record {
            first = λ e. prev-first new 0 0 (leaves_of new root) end_rank 0 tn rn n.linked s.visit here e;
            last = λ e. next-last new 0 0 (leaves_of new root) end_rank 0 tn rn n.linked s.visit here e;
            left = λ w h e. AreNeighbours-linked new 0 0 (leaves_of new root) end_rank 0 tn rn n.linked w s.visit (as-in w h) here e;
            right = λ w h e. AreNeighbours-linked new 0 0 (leaves_of new root) end_rank 0 tn rn n.linked s.visit w here (as-in w h) e;
          });
    }
      where
        tn : IsTiled 0 (leaves_of new root) end_rank
        tn = IsTiled-leaves_of new root n.tree

        rn : AllByRecursion HasWidth (leaves_of new root)
        rn = HasWidth-leaves_of new root n.tree

        leaf-in : (s : LevelVisit) → 0 < over (counts_visit s.height s.visit) (old_visits written new root) → s.height ≡ 0 → IsLeafIn written m root (old_visits written new root) s.visit
        leaf-in s l z = let a : 0 < over (counts_visit 0 s.visit) (old_visits written new root) = subst (λ h. 0 < over (counts_visit h s.visit) (old_visits written new root)) z l in omega arith

pub times_met-fresh : (written : ℕ → Bool) (new : PageMemory) (fresh : ℕ → List LevelVisit) (roots n : ℕ) → ((r : ℕ) → 0 < r → r ≤ roots → weight_of (counts_page n) new r ≡ over (counts_page n) (fresh r))
    → times_met new roots n ≡ times_in fresh roots n
times_met-fresh written new fresh zero n e = refl
times_met-fresh written new fresh (suc roots) n e =
    let a = e (suc roots) (omega arith) (omega arith) in let r = times_met-fresh written new fresh roots n (λ q s l. e q s (omega arith)) in omega arith

pub times_met-kept : (m new : PageMemory) (roots n : ℕ) → ((r : ℕ) → 0 < r → r ≤ roots → weight_of (counts_page n) new r ≡ weight_of (counts_page n) m r)
    → times_met new roots n ≡ times_met m roots n
times_met-kept m new zero n e = refl
times_met-kept m new (suc roots) n e =
    let a = e (suc roots) (omega arith) (omega arith) in let r = times_met-kept m new roots n (λ q s l. e q s (omega arith)) in omega arith

pub most_height-lt : (roots : ℕ) → most_height roots < 8
most_height-lt roots = let e = most_height-le roots in omega arith

-- the pages that aren't written keep range and level in each tree
abbrev pub AreKept : (ℕ → Bool) → PageMemory → PageMemory → ℕ → Type 0
AreKept written m new roots = (r : ℕ) → 0 < r → r ≤ roots → (f : ℕ → Visit → ℕ) → weight_of (off_written written f) new r ≡ weight_of (off_written written f) m r

module _ (written : ℕ → Bool) (m new : PageMemory) (bits bits-after : ℕ → ℕ) (roots : ℕ) (law : IsLawful m bits roots) (same : (n : ℕ) → written n ≡ false → new n ≡ m n) where
  low-of : (r : ℕ) → 0 < r → r ≤ roots → (m r).level < 8
  low-of r s l = let a = (law.trees r s l).1 in let b = most_height-lt roots in omega arith

  -- the test says yes: all of the law, and all other pages keep range and level
  module _ (fresh : ℕ → List LevelVisit) (p : IsPatched written m new bits bits-after roots fresh) where
    low-then : (r : ℕ) → 0 < r → r ≤ roots → (new r).level < 8
    low-then r s l = let a = (p.trees r s l).1 in let b = most_height-lt roots in omega arith

    at : (r : ℕ) → 0 < r → r ≤ roots → (f : ℕ → Visit → ℕ) → weight_of f new r ≡ over f (fresh r) + weight_of (off_written written f) m r
    at r s l = weight_of-after written m new same r (law.trees r s l).0 (low-of r s l) (fresh r) (p.trees r s l).0.grounded (low-then r s l)

    met-written : (n : ℕ) → written n ≡ true → times_met new roots n ≡ times_in fresh roots n
    met-written n w = times_met-fresh written new fresh roots n (λ r s l. let a = at r s l (counts_page n) in let z = weight_of-off_written written m r n w in omega arith)

    met-other : (n : ℕ) → written n ≡ false → times_met new roots n ≡ times_met m roots n
    met-other n w = times_met-kept m new roots n (λ r s l. let a = at r s l (counts_page n) in let z = weight_of-off_other written m r n w in
        let y = over-counts_page written (fresh r) (p.trees r s l).0.grounded.mine n w in omega arith)

    pub AreKept-patched : AreKept written m new roots
    AreKept-patched r s l = AreKept-after written m new same r (law.trees r s l).0 (low-of r s l) (fresh r) (p.trees r s l).0.grounded (low-then r s l)

    pub IsLawful-patched : IsLawful new bits-after roots
    IsLawful-patched =
        let few-bits : (n : ℕ) → bits-after n ≤ 1 = λ n. written-cases written n (bits-after n ≤ 1) (p.once n) (λ w. let a = p.others n w in let b = law.bit n in omega arith) in
        record {
          sound = λ n ne. written-cases written n (IsSound MOST_RECORDS (new n)) (λ w. p.sound n ne w) (λ w. subst (IsSound MOST_RECORDS) (sym (same n w)) (law.sound n ne));
          trees = λ r s l. (IsTreeOf-after written m new same r (law.trees r s l).0 (low-of r s l) (fresh r) (p.trees r s l).0.grounded (low-then r s l) (p.trees r s l).0.linked, (p.trees r s l).1);
          met = IsPageMap-bits new bits-after roots (λ n. written-cases written n (bits-after n ≡ times_met new roots n + cond (eqb n 0) 1 0)
              (λ w. let a = met-written n w in p.taken n w ∙ ap (λ k. k + cond (eqb n 0) 1 0) (sym a))
              (λ w. let a = met-other n w in p.others n w ∙ (bits-met law n ∙ ap (λ k. k + cond (eqb n 0) 1 0) (sym a)))) few-bits;
          bit = few-bits;
          few = λ n big. written-cases written n (bits-after n ≡ 0) (p.few n big) (λ w. p.others n w ∙ law.few n big);
          unmet = λ n z. written-cases written n ((new n).kind ≡ Free) (λ w. p.freed n w z) (λ w. ap (λ (q : PageState). q.kind) (same n w) ∙ law.unmet n (sym (p.others n w) ∙ z));
        }

  -- a lawful memory in which all other pages keep range and level passes the test
  module _ (new-law : IsLawful new bits-after roots) (kept : AreKept written m new roots) where
    low-now : (r : ℕ) → 0 < r → r ≤ roots → (new r).level < 8
    low-now r s l = let a = (new-law.trees r s l).1 in let b = most_height-lt roots in omega arith

    over-is : (r n : ℕ) → 0 < r → r ≤ roots → written n ≡ true → weight_of (counts_page n) new r ≡ over (counts_page n) (old_visits written new r)
    over-is r n s l w = let a = weight_along-split written (counts_page n) new (height_of new r) (top_of r) in let b = over-written_below written (counts_page n) new (height_of new r) (top_of r) in
        let c = weight_of-off_written written new r n w in omega arith

    pub IsPatched-lawful : IsPatched written m new bits bits-after roots (old_visits written new)
    IsPatched-lawful = record {
      trees = λ r s l. (IsPatch-lawful written m new same r (law.trees r s l).0 (low-of r s l) (new-law.trees r s l).0 (low-now r s l) (kept r s l), (new-law.trees r s l).1);
      sound = λ n ne w. new-law.sound n ne;
      taken = λ n w. let a = times_met-fresh written new (old_visits written new) roots n (λ r s l. over-is r n s l w) in bits-met new-law n ∙ ap (λ k. k + cond (eqb n 0) 1 0) a;
      once = λ n w. new-law.bit n;
      few = λ n big w. new-law.few n big;
      freed = λ n w z. new-law.unmet n z;
      others = λ n w. let a = times_met-kept m new roots n (λ r s l. sym (weight_of-off_other written new r n w) ∙ (kept r s l (counts_page n) ∙ weight_of-off_other written m r n w)) in
          bits-met new-law n ∙ (ap (λ k. k + cond (eqb n 0) 1 0) a ∙ sym (bits-met law n));
    }
