-- The test of a patch passes exactly where the memory after it is lawful and all other pages keep range and level.
use Rattle.std.specs.List.{AllByRecursion}
use Rattle.std.proofs.Common.{◌≡◌, ℕ, zero, suc, ◌+◌, ◌<◌, ◌≤◌, inl, inr, Bool, true, false, cond, List, [], ◌∷◌, Option, Some, None, refl, sym, ap, subst, ◌∙◌, arith, eqb, ◌≢◌}
use Rattle.std.proofs.lemmas.Bool.{cases_lt, cases_eq}
use Rattle.ib_map.specs.Keys.{end_rank}
use Rattle.ib_walk.specs.Pages.{PageMemory}
use Rattle.ib_walk.specs.Walk.{Visit, counts_page, IsTiled}
use Rattle.ib_walk.specs.Trees.{leaves_of, weight_of, times_met, IsLawful}
use Rattle.ib_validate.specs.Patch.{LevelVisit, over, on_written, off_written, IsGoodAt, IsLeafIn, IsLinkedAt, IsGrounded, IsPatched, times_in}
use Rattle.ib_walk.specs.Walk.{counts_visit}
use Rattle.ib_validate.specs.PatchTest.{Position, Positions, visit_of, at_page, positions_over, position_of, is_none, detach_pages, root_at, set_roots, fresh_of, visited, IsListed, IsKeptBeside, IsLinkedBy, PassesTest}
use Rattle.ib_walk.proofs.ChoiceLaws.{Some-same, cond-eq, cond-ne}
use Rattle.ib_tree.proofs.CompleteLaws.{Reached, all_back-reached, visited-some}
use Rattle.ib_validate.proofs.RestLaws.{detach_pages-each}
use Rattle.ib_tree.proofs.PatchLaws.{AreNeighbours-linked, HasWidth, IsAmong, IsAmong-counted, IsTiled-within, counted-IsAmong, next-last, prev-first}
use Rattle.ib_tree.proofs.PatchedLaws.{AreKept, AreKept-patched, HasWidth-leaves_of, IsLawful-patched, IsTiled-leaves_of, IsTree-after, most_height-lt, weight_of-after, weight_of-leaf, weight_of-off_other, written-cases}
use Rattle.ib_tree.proofs.PositionLaws.{Stands-counted, counted-Stands}
use Rattle.ib_tree.proofs.RootLaws.{set_roots-cases}
use Rattle.ib_tree.proofs.SoundLaws.{AllByRecursion-fresh_of, IsBalanced-visited, IsGoodAt-visited, height-visited, levels-visited, over-fresh_of, positions_over-off_written, positions_over-split, unwritten-stands, written-listed, written-visited}
use Rattle.ib_tree.proofs.VisitedLaws.{Moved}
use Rattle.ib_walk.proofs.CountLaws.{bits-met}

pub IsTiled-same_low : (low : ℕ) (vs : List Visit) (high : ℕ) → IsTiled low vs high → AllByRecursion HasWidth vs → (u v : Visit) → IsAmong u vs → IsAmong v vs → u.low ≡ v.low → u ≡ v
IsTiled-same_low low [] high t r u v hu hv e = absurd hu
IsTiled-same_low low (x ∷ xs) high t r u v hu hv e = elim hu [
  | inl a ↦ elim hv [
    | inl b ↦ sym a ∙ b
    | inr j ↦ absurd (let q = IsTiled-within x.high xs high t.1 r.1 v j in let z = q.0 in let w = ap (λ (k : Visit). k.low) a in let y = r.0 in omega arith)
  ]
  | inr i ↦ elim hv [
    | inl b ↦ absurd (let q = IsTiled-within x.high xs high t.1 r.1 u i in let z = q.0 in let w = ap (λ (k : Visit). k.low) b in let y = r.0 in omega arith)
    | inr j ↦ IsTiled-same_low x.high xs high t.1 r.1 u v i j e
  ]
]

pub IsTiled-same_high : (low : ℕ) (vs : List Visit) (high : ℕ) → IsTiled low vs high → AllByRecursion HasWidth vs → (u v : Visit) → IsAmong u vs → IsAmong v vs → u.high ≡ v.high → u ≡ v
IsTiled-same_high low [] high t r u v hu hv e = absurd hu
IsTiled-same_high low (x ∷ xs) high t r u v hu hv e = elim hu [
  | inl a ↦ elim hv [
    | inl b ↦ sym a ∙ b
    | inr j ↦ absurd (let q = IsTiled-within x.high xs high t.1 r.1 v j in let z = q.0 in let p = q.2 in let w = ap (λ (k : Visit). k.high) a in omega arith)
  ]
  | inr i ↦ elim hv [
    | inl b ↦ absurd (let q = IsTiled-within x.high xs high t.1 r.1 u i in let z = q.0 in let p = q.2 in let w = ap (λ (k : Visit). k.high) b in omega arith)
    | inr j ↦ IsTiled-same_high x.high xs high t.1 r.1 u v i j e
  ]
]

pub IsTiled-next : (low : ℕ) (vs : List Visit) (high : ℕ) → IsTiled low vs high → (v : Visit) → IsAmong v vs → v.high ≢ high → (w : Visit) × IsAmong w vs × (w.low ≡ v.high)
IsTiled-next low [] high t v h ne = absurd h
IsTiled-next low (x ∷ []) high t v h ne = elim h [ inl e ↦ absurd (ne (ap (λ (k : Visit). k.high) (sym e) ∙ t.1)) | inr i ↦ absurd i ]
IsTiled-next low (x ∷ y ∷ ys) high t v h ne = elim h [
  | inl e ↦ (y, inr (inl refl), t.1.0 ∙ ap (λ (k : Visit). k.high) e)
  | inr i ↦ let r = IsTiled-next x.high (y ∷ ys) high t.1 v i ne in (r.0, inr r.1, r.2)
]

pub IsTiled-prev : (low : ℕ) (vs : List Visit) (high : ℕ) → IsTiled low vs high → (v : Visit) → IsAmong v vs → v.low ≢ low → (w : Visit) × IsAmong w vs × (w.high ≡ v.low)
IsTiled-prev low [] high t v h ne = absurd h
IsTiled-prev low (x ∷ xs) high t v h ne = elim h [
  | inl e ↦ absurd (ne (ap (λ (k : Visit). k.low) (sym e) ∙ t.0))
  | inr i ↦ elim (cases_eq v.low x.high) [
    | inl s ↦ (x, inl refl, sym s)
    | inr nx ↦ let r = IsTiled-prev x.high xs high t.1 v i nx in (r.0, inr r.1, r.2)
  ]
]

-- how often a written page is met is whether it has a position
pub positions_over-page : (written : ℕ → Bool) (root : ℕ) (t : Positions) (n p : ℕ) → written p ≡ true → (p < n → positions_over (on_written written (counts_page p)) root t n ≡ at_page (counts_page p) root p (t p))
    × (n ≤ p → positions_over (on_written written (counts_page p)) root t n ≡ 0)
positions_over-page written root t zero p w = ((λ l. absurd (omega arith)), (λ l. refl))
positions_over-page written root t (suc n) p w =
    let r = positions_over-page written root t n p w in (
      (λ l. elim (cases_eq n p) [
        | inl e ↦ let a = r.1 (omega arith) in let b = subst (λ q. at_page (on_written written (counts_page p)) root q (t q) ≡ at_page (counts_page p) root p (t p)) (sym e) (same (t p)) in omega arith
        | inr ne ↦ let a = r.0 (omega (arith, ne)) in let b = other (t n) ne in omega arith
      ]),
      (λ l. let a = r.1 (omega arith) in let b = other (t n) (λ e. omega arith) in omega arith),
    )
  where
    same : (o : Option Position) → at_page (on_written written (counts_page p)) root p o ≡ at_page (counts_page p) root p o
    same None = refl
    same (Some d) = rw w refl

    other : (o : Option Position) → n ≢ p → at_page (on_written written (counts_page p)) root n o ≡ 0
    other None ne = refl
    other (Some d) ne = let z : cond {A = ℕ} (eqb n p) 1 0 ≡ 0 = cond-ne {X = ℕ} n p 1 0 ne in
        elim (eqb d.tree root) as (λ c. cond {A = ℕ} c (cond {A = ℕ} (written n) (cond {A = ℕ} (eqb n p) 1 0) 0) 0 ≡ 0) [
          | true ↦ elim (written n) as (λ c. cond {A = ℕ} c (cond {A = ℕ} (eqb n p) 1 0) 0 ≡ 0) [ true ↦ z | false ↦ refl ]
          | false ↦ refl
        ]

-- .. over all roots
pub times_in-position : (fresh : ℕ → List LevelVisit) (roots p : ℕ) (o : Option Position) → ((r : ℕ) → 0 < r → r ≤ roots → over (counts_page p) (fresh r) ≡ at_page (counts_page p) r p o)
    → ((e : Position) → o ≡ Some e → (0 < e.tree) × (e.tree ≤ roots)) → times_in fresh roots p ≡ cond (is_none o) 0 1
times_in-position fresh roots p None h v = none roots (λ r s l. h r s l)
  where
    none : (k : ℕ) → ((r : ℕ) → 0 < r → r ≤ k → over (counts_page p) (fresh r) ≡ 0) → times_in fresh k p ≡ 0
    none zero h = refl
    none (suc k) h = let a = h (suc k) (omega arith) (omega arith) in let b = none k (λ r s l. h r s (omega arith)) in omega arith
times_in-position fresh roots p (Some d) h v = let t = v d refl in (up_to roots (λ r s l. h r s l)).0 t.1
  where
    up_to : (k : ℕ) → ((r : ℕ) → 0 < r → r ≤ k → over (counts_page p) (fresh r) ≡ at_page (counts_page p) r p (Some d))
        → (d.tree ≤ k → times_in fresh k p ≡ 1) × (k < d.tree → times_in fresh k p ≡ 0)
    up_to zero h = ((λ l. absurd (let t = (v d refl).0 in omega arith)), (λ l. refl))
    up_to (suc k) h =
        let r = up_to k (λ r s l. h r s (omega arith)) in
        let a = h (suc k) (omega arith) (omega arith) in
        let one : cond {A = ℕ} (eqb p p) 1 0 ≡ 1 = cond-eq {X = ℕ} p p 1 0 refl in
        elim (cases_eq d.tree (suc k)) [
          | inl e ↦ let b = cond-eq {X = ℕ} d.tree (suc k) (counts_page p d.height (visit_of p d)) 0 e in let c = r.1 (omega arith) in ((λ l. omega arith), (λ l. absurd (omega arith)))
          | inr ne ↦ let b = cond-ne {X = ℕ} d.tree (suc k) (counts_page p d.height (visit_of p d)) 0 ne in
              ((λ l. let c = r.0 (omega (arith, ne)) in omega arith), (λ l. let c = r.1 (omega arith) in omega arith))
        ]

module _ (written : ℕ → Bool) (m new : PageMemory) (same : (p : ℕ) → written p ≡ false → new p ≡ m p) (bits bits-after : ℕ → ℕ) (roots : ℕ) (law : IsLawful m bits roots)
    (n : ℕ) (few : (p : ℕ) → written p ≡ true → p < n) (old : Positions) (kept : IsKeptBeside m roots n old) (ps : List ℕ) (listed : IsListed written ps n)
    (good : ℕ → Visit → Bool) where
  low-m : (r : ℕ) → 0 < r → r ≤ roots → (m r).level < 8
  low-m r s l = let a = (law.trees r s l).1 in let b = most_height-lt roots in omega arith

  -- the test passes
  module _ (good-is : (h : ℕ) (v : Visit) → good h v ≡ true → IsGoodAt new h v) (table : Positions)
      (t : PassesTest written m new good bits bits-after roots end_rank ps old table) where
    pub levels : (r : ℕ) → 0 < r → r ≤ roots → (new r).level < 8
    levels r s l = let a = t.levels r s l in let b = most_height-lt roots in omega arith

    moves : Moved written old n few kept.few new good 7 (set_roots written new end_rank roots (detach_pages m old ps old)) table
    moves = (levels-visited written m new same bits roots law n few old kept ps listed good levels table t.visited_as t.back).moved

    stands : (p : ℕ) → written p ≡ false → table p ≡ old p
    stands = unwritten-stands written m new same bits roots law n few old kept ps listed good levels table t.visited_as t.back

    pub trees-passes : (p : ℕ) (e : Position) → table p ≡ Some e → (0 < e.tree) × (e.tree ≤ roots)
    trees-passes p e at =
        let q = moves.trees p e at in
        let v = before q.0 q.1 q.2 in let x = q.3 in (let a = v.0 in omega arith, let a = v.1 in omega arith)
      where
        before : (p : ℕ) (e : Position) → set_roots written new end_rank roots (detach_pages m old ps old) p ≡ Some e → (0 < e.tree) × (e.tree ≤ roots)
        before p e at = elim (set_roots-cases written new end_rank roots (detach_pages m old ps old) p) [
          | inr q ↦ let x = ap (λ (d : Position). d.tree) (Some-same (root_at new p end_rank) e (sym q.2 ∙ at)) in let y = q.0 in let z = q.1 in (omega arith, omega arith)
          | inl s ↦ elim (detach_pages-each m old ps old p) [
            | inl u ↦ kept.trees p e (sym u ∙ (sym s ∙ at))
            | inr z ↦ absurd (let x = sym z ∙ (sym s ∙ at) in cc)
          ]
        ]

    table-few : (p : ℕ) → n ≤ p → table p ≡ None
    table-few p ge = written-cases written p (table p ≡ None) (λ w. absurd (let x = few p w in omega arith)) (λ w. stands p w ∙ kept.few p ge)

    pub IsGrounded-passes : (r : ℕ) → 0 < r → r ≤ roots → IsGrounded written m new r (fresh_of ps table r)
    IsGrounded-passes r s l = record {
      balanced = IsBalanced-visited written m new same bits roots law n few old kept ps listed good levels table t.visited_as t.back r s l;
      mine = written-visited written m new same bits roots law n few old kept ps listed good levels table t.visited_as t.back r;
      good = IsGoodAt-visited written m new same bits roots law n few old kept ps listed good levels table t.visited_as t.back good-is r;
      low = height-visited written m new same bits roots law n few old kept ps listed good levels table t.visited_as t.back r;
    }

    weight_of-passes : (r : ℕ) → 0 < r → r ≤ roots → (f : ℕ → Visit → ℕ) → weight_of f new r ≡ over f (fresh_of ps table r) + weight_of (off_written written f) m r
    weight_of-passes r s l = weight_of-after written m new same r (law.trees r s l).0 (low-m r s l) (fresh_of ps table r) (IsGrounded-passes r s l) (levels r s l)

    -- the positions that are left are those of the new memory
    pub weight_of-table : (r : ℕ) → 0 < r → r ≤ roots → (f : ℕ → Visit → ℕ) → weight_of f new r ≡ positions_over f r table n
    weight_of-table r s l f =
        let a = weight_of-passes r s l f in
        let b = over-fresh_of f r ps table in
        let c = positions_over-split written f r table n in
        let d = listed.all f r table in
        let e = positions_over-off_written written f r table old n (λ p lt w. stands p w) in
        let g = kept.table r s l (off_written written f) in
        omega arith

    leaf-in : (r : ℕ) → 0 < r → r ≤ roots → (v : Visit) → 0 < weight_of (counts_visit 0 v) new r → IsAmong v (leaves_of new r)
    leaf-in r s l v pos = let a = weight_of-leaf v new r in IsAmong-counted v (leaves_of new r) (omega arith)

    linked-at : (r : ℕ) → 0 < r → r ≤ roots → (p : ℕ) → written p ≡ true → p < n → (e : Position) → table p ≡ Some e → e.tree ≡ r → e.height ≡ 0
        → IsLinkedAt (IsLeafIn written m r (fresh_of ps table r)) new (visit_of p e)
    linked-at r s l p w lt e at tr z =
        let k = t.linked p w e at z in
        let tree = IsTree-after written m new same r (law.trees r s l).0 (low-m r s l) (fresh_of ps table r) (IsGrounded-passes r s l) (levels r s l) in
        let ti = IsTiled-leaves_of new r tree in let ro = HasWidth-leaves_of new r tree in
        let there : (w : Visit) → IsLeafIn written m r (fresh_of ps table r) w → IsAmong w (leaves_of new r) = λ w h. leaf-in r s l w (let a = weight_of-passes r s l (counts_visit 0 w) in omega arith) in
        let stand : (q : ℕ) (d : Position) → table q ≡ Some d → d.tree ≡ r → d.height ≡ 0 → IsAmong (visit_of q d) (leaves_of new r) = λ q d at' tr' z'. leaf-in r s l (visit_of q d)
        (let a = weight_of-table r s l (counts_visit 0 (visit_of q d)) in
        let b = counted-Stands r 0 (visit_of q d) table n (record { within = in-n q d at'; is = at' ∙ ap Some (position-eta d r 0 tr' z') }) in omega arith) in
        record {
          first = k.first;
          last = k.last;
          left = λ u h touch.
              let i = there u h in
              let q = IsTiled-within 0 (leaves_of new r) end_rank ti ro u i in
              let x = k.left (λ zero. let a = q.2 in let b = q.0 in omega arith) in
              let same-leaf = IsTiled-same_high 0 (leaves_of new r) end_rank ti ro (visit_of (new p).prev x.0) u (stand (new p).prev x.0 x.1 (x.2 ∙ tr) x.3) i (x.4 ∙ touch) in
              let page = ap (λ (v : Visit). v.page) same-leaf in
              (subst (λ j. (new j).next ≡ p) page x.5, page);
          right = λ u h touch.
              let i = there u h in
              let q = IsTiled-within 0 (leaves_of new r) end_rank ti ro u i in
              let x = k.right (λ top. let a = q.2 in let b = q.1 in omega arith) in
              let same-leaf = IsTiled-same_low 0 (leaves_of new r) end_rank ti ro (visit_of (new p).next x.0) u (stand (new p).next x.0 x.1 (x.2 ∙ tr) x.3) i (x.4 ∙ sym touch) in
              let page = ap (λ (v : Visit). v.page) same-leaf in
              (page, subst (λ j. (new j).prev ≡ p) page x.5);
        }
      where
        in-n : (q : ℕ) (d : Position) → table q ≡ Some d → q < n
        in-n q d at = elim (cases_lt q n) [ inl lt ↦ lt | inr ge ↦ absurd (let x = sym (table-few q ge) ∙ at in cc) ]

        position-eta : (d : Position) (r h : ℕ) → d.tree ≡ r → d.height ≡ h → d ≡ record { tree = r; height = h; low = d.low; high = d.high }
        position-eta d r h a b = λ i. record { tree = a i; height = b i; low = d.low; high = d.high }

    pub IsPatched-passes : IsPatched written m new bits bits-after roots (fresh_of ps table)
    IsPatched-passes = record {
      trees = λ r s l. (
        record {
          grounded = IsGrounded-passes r s l;
          linked = AllByRecursion-fresh_of (λ h v. h ≡ 0 → IsLinkedAt (IsLeafIn written m r (fresh_of ps table r)) new v) r ps table
              (λ p i e at tr z. let w = written-listed written ps listed.mine p i in linked-at r s l p w (few p w) e at tr z);
        },
        t.levels r s l,
      );
      sound = t.sound;
      taken = λ p w. t.taken p w ∙ ap (λ k. k + cond (eqb p 0) 1 0) (sym (times_in-position (fresh_of ps table) roots p (table p) (λ r s l.
          let a = over-fresh_of (counts_page p) r ps table in let b = listed.all (counts_page p) r table in let c = (positions_over-page written r table n p w).0 (few p w) in omega arith)
          (λ e at. trees-passes p e at)));
      once = t.once;
      few = t.few;
      freed = t.freed;
      others = t.others;
    }

    pub test-sound : IsLawful new bits-after roots × AreKept written m new roots × IsKeptBeside new roots n table
    test-sound = (
      IsLawful-patched written m new bits bits-after roots law same (fresh_of ps table) IsPatched-passes,
      AreKept-patched written m new bits bits-after roots law same (fresh_of ps table) IsPatched-passes,
      record { table = weight_of-table; few = table-few; trees = trees-passes },
    )

  -- what is lawful passes
  module _ (good-so : (h : ℕ) (v : Visit) → IsGoodAt new h v → good h v ≡ true) (new-law : IsLawful new bits-after roots) (stay : AreKept written m new roots) where
    run : (table : Positions) × (visited written m new good end_rank roots ps old ≡ Some table) × Reached written m new same bits roots law n few old kept ps listed good bits-after new-law stay good-so 0 table
    run = visited-some written m new same bits roots law n few old kept ps listed good bits-after new-law stay good-so

    weighs : (f : ℕ → Visit → ℕ) (r : ℕ) → 0 < r → r ≤ roots → positions_over f r run.0 n ≡ weight_of f new r
    weighs f r s l = run.2.all f (λ k v lt. absurd (omega arith)) r s l

    met-is : (p : ℕ) → written p ≡ true → times_met new roots p ≡ cond (is_none (run.0 p)) 0 1
    met-is p w =
        sums roots (omega arith) ∙ times_in-position (λ r. fresh_of ps run.0 r) roots p (run.0 p) (λ r s l.
        let a = over-fresh_of (counts_page p) r ps run.0 in let b = listed.all (counts_page p) r run.0 in let c = (positions_over-page written r run.0 n p w).0 (few p w) in omega arith)
        (λ e at. run.2.valid.trees p e at)
      where
        alone : (r k : ℕ) (q : Positions) → positions_over (counts_page p) r q k ≡ positions_over (on_written written (counts_page p)) r q k + positions_over (off_written written (counts_page p)) r q k
        alone r k q = positions_over-split written (counts_page p) r q k

        off_written-none : (r k : ℕ) (q : Positions) → positions_over (off_written written (counts_page p)) r q k ≡ 0
        off_written-none r zero q = refl
        off_written-none r (suc k) q = let a = off_written-none r k q in let b = one k (q k) in omega arith
          where
            one : (k : ℕ) (o : Option Position) → at_page (off_written written (counts_page p)) r k o ≡ 0
            one k None = refl
            one k (Some d) = elim (cases_eq k p) [
              | inl e ↦ let z : written k ≡ true = ap written e ∙ w in rw z (elim (eqb d.tree r) as (λ c. cond {A = ℕ} c 0 0 ≡ 0) [ true ↦ refl | false ↦ refl ])
              | inr ne ↦ let z : cond {A = ℕ} (eqb k p) 1 0 ≡ 0 = cond-ne {X = ℕ} k p 1 0 ne in
                  elim (eqb d.tree r) as (λ c. cond {A = ℕ} c (cond {A = ℕ} (written k) 0 (cond {A = ℕ} (eqb k p) 1 0)) 0 ≡ 0) [
                    | true ↦ elim (written k) as (λ c. cond {A = ℕ} c 0 (cond {A = ℕ} (eqb k p) 1 0) ≡ 0) [ true ↦ refl | false ↦ z ]
                    | false ↦ refl
                  ]
            ]

        sums : (k : ℕ) → k ≤ roots → times_met new k p ≡ times_in (λ r. fresh_of ps run.0 r) k p
        sums zero le = refl
        sums (suc k) le =
            let a = weighs (counts_page p) (suc k) (omega arith) le in
            let b = alone (suc k) n run.0 in let c = off_written-none (suc k) n run.0 in
            let d = listed.all (counts_page p) (suc k) run.0 in let e = over-fresh_of (counts_page p) (suc k) ps run.0 in
            let r = sums k (omega arith) in omega arith

    linked-by : (p : ℕ) → written p ≡ true → (e : Position) → run.0 p ≡ Some e → e.height ≡ 0 → IsLinkedBy new end_rank run.0 p e
    linked-by p w e at z =
        let v = run.2.valid.trees p e at in
        let tn = (new-law.trees e.tree v.0 v.1).0 in
        let ti = IsTiled-leaves_of new e.tree tn.tree in let ro = HasWidth-leaves_of new e.tree tn.tree in
        let h : IsAmong (visit_of p e) (leaves_of new e.tree) = IsAmong-counted (visit_of p e) (leaves_of new e.tree)
        (let a = weight_of-leaf (visit_of p e) new e.tree in let b = weighs (counts_visit 0 (visit_of p e)) e.tree v.0 v.1 in
        let c = counted-Stands e.tree 0 (visit_of p e) run.0 n (record { within = run.2.valid.within p e at; is = at ∙ ap Some (position-eta e z) }) in omega arith) in
        let stand : (u : Visit) → IsAmong u (leaves_of new e.tree) → run.0 u.page ≡ Some (position_of e.tree 0 u) = λ u i.
        (Stands-counted e.tree 0 u run.0 n (let a = counted-IsAmong u (leaves_of new e.tree) i in let b = weight_of-leaf u new e.tree in let c = weighs (counts_visit 0 u) e.tree v.0 v.1 in omega arith)).is in
        record {
          first = λ q. prev-first new 0 0 (leaves_of new e.tree) end_rank 0 ti ro tn.linked (visit_of p e) h q;
          last = λ q. next-last new 0 0 (leaves_of new e.tree) end_rank 0 ti ro tn.linked (visit_of p e) h q;
          left = λ ne.
              let u = IsTiled-prev 0 (leaves_of new e.tree) end_rank ti (visit_of p e) h ne in
              let k = AreNeighbours-linked new 0 0 (leaves_of new e.tree) end_rank 0 ti ro tn.linked u.0 (visit_of p e) u.1 h (sym u.2) in
              (position_of e.tree 0 u.0, subst (λ j. run.0 j ≡ Some (position_of e.tree 0 u.0)) (sym k.1) (stand u.0 u.1), refl, refl, u.2, subst (λ j. (new j).next ≡ p) (sym k.1) k.0);
          right = λ ne.
              let u = IsTiled-next 0 (leaves_of new e.tree) end_rank ti (visit_of p e) h ne in
              let k = AreNeighbours-linked new 0 0 (leaves_of new e.tree) end_rank 0 ti ro tn.linked (visit_of p e) u.0 h u.1 u.2 in
              (position_of e.tree 0 u.0, subst (λ j. run.0 j ≡ Some (position_of e.tree 0 u.0)) (sym k.0) (stand u.0 u.1), refl, refl, u.2, subst (λ j. (new j).prev ≡ p) (sym k.0) k.1);
        }
      where
        position-eta : (d : Position) → d.height ≡ 0 → d ≡ record { tree = d.tree; height = 0; low = d.low; high = d.high }
        position-eta d b = λ i. record { tree = d.tree; height = b i; low = d.low; high = d.high }

    pub test-complete : (table : Positions) × PassesTest written m new good bits bits-after roots end_rank ps old table
    test-complete = (
      run.0,
      record {
        levels = λ r s l. (new-law.trees r s l).1;
        visited_as = run.1;
        back = all_back-reached written m new same bits roots law n few old kept ps listed good bits-after new-law stay good-so run.0 run.2;
        linked = linked-by;
        sound = λ p ne w. new-law.sound p ne;
        taken = λ p w. bits-met new-law p ∙ ap (λ k. k + cond (eqb p 0) 1 0) (met-is p w);
        once = λ p w. new-law.bit p;
        few = λ p big w. new-law.few p big;
        freed = λ p w z. new-law.unmet p z;
        others = λ p w. bits-met new-law p ∙ (ap (λ k. k + cond (eqb p 0) 1 0) (unwritten p w roots (omega arith)) ∙ sym (bits-met law p));
      },
    )
      where
        unwritten : (p : ℕ) → written p ≡ false → (k : ℕ) → k ≤ roots → times_met new k p ≡ times_met m k p
        unwritten p w zero le = refl
        unwritten p w (suc k) le =
            let r = unwritten p w k (omega arith) in
            let a = stay (suc k) (omega arith) le (counts_page p) in
            let b = weight_of-off_other written new (suc k) p w in let c = weight_of-off_other written m (suc k) p w in omega arith
