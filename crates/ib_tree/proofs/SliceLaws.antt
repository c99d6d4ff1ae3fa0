-- The content after a patch, leaf by leaf against the map.
use Rattle.std.specs.List.{AllByRecursion}
use Rattle.std.proofs.Common.{◌≡◌, ℕ, ◌+◌, ◌<◌, ◌≤◌, ◌⊎◌, inl, inr, Bool, true, false, cond, List, [], ◌∷◌, ◌++◌, refl, sym, ap, subst, ◌∙◌, arith, eqb, leb, ltb}
use Rattle.std.specs.Prelude.{◌&&◌}
use Rattle.std.proofs.lemmas.Bool.{cases_lt, cases_eq, eq-eqb}
use Rattle.std.proofs.lemmas.Bool.Decides.{nat_tests}
use Rattle.ib_map.specs.Keys.{MapKey, rank, end_rank}
use Rattle.ib_map.specs.Pairs.{Pairs, Rises, put, without, value_at}
use Rattle.ib_map.proofs.RiseLaws.{Rises-le}
use Rattle.ib_walk.specs.Pages.{PageState, PageMemory}
use Rattle.ib_walk.specs.Walk.{Visit, records_along, IsLeafAt, IsTiled, IsTree}
use Rattle.ib_walk.specs.Trees.{height_of, top_of, leaves_of, content_of, IsTreeOf}
use Rattle.ib_validate.specs.Patch.{LevelVisit, over, IsGrounded, slice, IsSliced}
use Rattle.ib_walk.specs.Walk.{counts_visit}
use Rattle.ib_walk.specs.Search.{leaf_for, IsPageFor}
use Rattle.ib_walk.proofs.SearchLaws.{Rises-records_along, value_at-records_along}
use Rattle.ib_walk.proofs.TreeLaws.{IsPageFor-leaf}
use Rattle.ib_tree.proofs.PatchLaws.{AllByRecursion-over, HasWidth, IsAmong, IsAmong-counted, IsTiled-within, counted-IsAmong, over-holds, weight_along-off_written}
use Rattle.ib_tree.proofs.PatchedLaws.{HasWidth-leaves_of, IsAmong-before, IsTiled-leaves_of, IsTree-after, weight_of-after, weight_of-leaf, written-cases}

pub slice-within : (low : ℕ) (xs : Pairs) (high : ℕ) (lo hi : ℕ) → lo ≤ low → high ≤ hi → Rises low xs high → slice xs lo hi ≡ xs
slice-within low [] high lo hi a b r = refl
slice-within low (x ∷ xs) high lo hi a b r =
    let l = Rises-le (rank x.0 + 1) xs high r.1 in let f = r.0 in
    let t : (leb lo (rank x.0) && ltb (rank x.0) hi) ≡ true = grind (arith, nat_tests) in
    rw t (ap (λ ys. x ∷ ys) (slice-within (rank x.0 + 1) xs high lo hi (omega arith) b r.1))

pub slice-below : (low : ℕ) (xs : Pairs) (high : ℕ) (lo hi : ℕ) → high ≤ lo → Rises low xs high → slice xs lo hi ≡ []
slice-below low [] high lo hi a r = refl
slice-below low (x ∷ xs) high lo hi a r =
    let l = Rises-le (rank x.0 + 1) xs high r.1 in
    let t : (leb lo (rank x.0) && ltb (rank x.0) hi) ≡ false = grind (arith, nat_tests) in
    rw t (slice-below (rank x.0 + 1) xs high lo hi a r.1)

pub slice-above : (low : ℕ) (xs : Pairs) (high : ℕ) (lo hi : ℕ) → hi ≤ low → Rises low xs high → slice xs lo hi ≡ []
slice-above low [] high lo hi a r = refl
slice-above low (x ∷ xs) high lo hi a r =
    let f = r.0 in
    let t : (leb lo (rank x.0) && ltb (rank x.0) hi) ≡ false = grind (arith, nat_tests) in
    rw t (slice-above (rank x.0 + 1) xs high lo hi (omega arith) r.1)

pub slice-append : (xs ys : Pairs) (lo hi : ℕ) → slice (xs ++ ys) lo hi ≡ slice xs lo hi ++ slice ys lo hi
slice-append [] ys lo hi = refl
slice-append (x ∷ xs) ys lo hi =
    let r = slice-append xs ys lo hi in
    elim (leb lo (rank x.0) && ltb (rank x.0) hi) as (λ b. cond b (x ∷ slice (xs ++ ys) lo hi) (slice (xs ++ ys) lo hi) ≡ cond b (x ∷ slice xs lo hi) (slice xs lo hi) ++ slice ys lo hi) [
      | true ↦ ap (λ zs. x ∷ zs) r
      | false ↦ r
    ]

pub slice-empty : (xs : Pairs) (lo hi : ℕ) → hi ≤ lo → slice xs lo hi ≡ []
slice-empty [] lo hi a = refl
slice-empty (x ∷ xs) lo hi a = let t : (leb lo (rank x.0) && ltb (rank x.0) hi) ≡ false = grind (arith, nat_tests) in rw t (slice-empty xs lo hi a)

-- neighbouring ranges
pub slice-split : (low : ℕ) (xs : Pairs) (high : ℕ) (lo mid hi : ℕ) → Rises low xs high → lo ≤ mid → mid ≤ hi → slice xs lo mid ++ slice xs mid hi ≡ slice xs lo hi
slice-split low [] high lo mid hi r a b = refl
slice-split low (x ∷ xs) high lo mid hi r a b =
    let ih = slice-split (rank x.0 + 1) xs high lo mid hi r.1 a b in
    elim (cases_lt (rank x.0) lo) [
      | inl under ↦
          let t : (leb lo (rank x.0) && ltb (rank x.0) mid) ≡ false = grind (arith, nat_tests) in
          let u : (leb mid (rank x.0) && ltb (rank x.0) hi) ≡ false = grind (arith, nat_tests) in
          let v : (leb lo (rank x.0) && ltb (rank x.0) hi) ≡ false = grind (arith, nat_tests) in
          rw (t, u, v) ih
      | inr from ↦ elim (cases_lt (rank x.0) mid) [
        | inl left ↦
            let t : (leb lo (rank x.0) && ltb (rank x.0) mid) ≡ true = grind (arith, nat_tests) in
            let u : (leb mid (rank x.0) && ltb (rank x.0) hi) ≡ false = grind (arith, nat_tests) in
            let v : (leb lo (rank x.0) && ltb (rank x.0) hi) ≡ true = grind (arith, nat_tests) in
            rw (t, u, v) (ap (λ ys. x ∷ ys) ih)
        | inr right ↦
            let e = slice-above (rank x.0 + 1) xs high lo mid (omega arith) r.1 in
            let q : slice xs mid hi ≡ slice xs lo hi = ap (λ ys. ys ++ slice xs mid hi) (sym e) ∙ ih in
            let t : (leb lo (rank x.0) && ltb (rank x.0) mid) ≡ false = grind (arith, nat_tests) in
            elim (cases_lt (rank x.0) hi) [
              | inl inside ↦
                  let u : (leb mid (rank x.0) && ltb (rank x.0) hi) ≡ true = grind (arith, nat_tests) in
                  let v : (leb lo (rank x.0) && ltb (rank x.0) hi) ≡ true = grind (arith, nat_tests) in
                  rw (t, u, v, e) (ap (λ ys. x ∷ ys) q)
              | inr behind ↦
                  let u : (leb mid (rank x.0) && ltb (rank x.0) hi) ≡ false = grind (arith, nat_tests) in
                  let v : (leb lo (rank x.0) && ltb (rank x.0) hi) ≡ false = grind (arith, nat_tests) in
                  rw (t, u, v, e) q
            ]
      ]
    ]

-- a change elsewhere
abbrev pub IsOutside : MapKey → ℕ → ℕ → Type 0
IsOutside key lo hi = (rank key < lo) ⊎ (hi ≤ rank key)

out-test : (key : MapKey) (lo hi : ℕ) → IsOutside key lo hi → (leb lo (rank key) && ltb (rank key) hi) ≡ false
out-test key lo hi (inl lt) = grind (arith, nat_tests)
out-test key lo hi (inr ge) = grind (arith, nat_tests)

pub slice-put : (key : MapKey) (value : ℕ) (xs : Pairs) (lo hi : ℕ) → IsOutside key lo hi → slice (put key value xs) lo hi ≡ slice xs lo hi
slice-put key value [] lo hi o = let t = out-test key lo hi o in rw t refl
slice-put key value (x ∷ xs) lo hi o =
    let r = slice-put key value xs lo hi o in
    let t = out-test key lo hi o in
    elim (ltb (rank x.0) (rank key)) as (λ b. slice (cond b (x ∷ put key value xs) ((key, value) ∷ x ∷ xs)) lo hi ≡ slice (x ∷ xs) lo hi) [
      | true ↦ elim (leb lo (rank x.0) && ltb (rank x.0) hi) as (λ b. cond b (x ∷ slice (put key value xs) lo hi) (slice (put key value xs) lo hi) ≡ cond b (x ∷ slice xs lo hi) (slice xs lo hi)) [
        | true ↦ ap (λ ys. x ∷ ys) r
        | false ↦ r
      ]
      | false ↦ rw t refl
    ]

pub slice-without : (key : MapKey) (xs : Pairs) (lo hi : ℕ) → IsOutside key lo hi → slice (without key xs) lo hi ≡ slice xs lo hi
slice-without key [] lo hi o = refl
slice-without key (x ∷ xs) lo hi o =
    let r = slice-without key xs lo hi o in
    elim (cases_eq (rank x.0) (rank key)) [
      | inl e ↦
          let y = eq-eqb (rank x.0) (rank key) e in
          let t : (leb lo (rank x.0) && ltb (rank x.0) hi) ≡ false = ap (λ n. leb lo n && ltb n hi) e ∙ out-test key lo hi o in
          rw (y, t) refl
      | inr ne ↦
          let y : eqb (rank x.0) (rank key) ≡ false = grind (arith, nat_tests) in
          rw y (elim (leb lo (rank x.0) && ltb (rank x.0) hi) as (λ b. cond b (x ∷ slice (without key xs) lo hi) (slice (without key xs) lo hi) ≡ cond b (x ∷ slice xs lo hi) (slice xs lo hi)) [
            | true ↦ ap (λ ys. x ∷ ys) r
            | false ↦ r
          ])
    ]

-- a leaf has the content's slice
pub slice-records_along : (m : PageMemory) (low : ℕ) (vs : List Visit) (high : ℕ) → AllByRecursion (IsLeafAt m) vs → IsTiled low vs high → AllByRecursion HasWidth vs → (v : Visit) → IsAmong v vs
    → slice (records_along m vs) v.low v.high ≡ (m v.page).records
slice-records_along m low [] high h t r v i = absurd i
slice-records_along m low (x ∷ xs) high h t r v i =
    let a = slice-append (m x.page).records (records_along m xs) v.low v.high in
    let w = h.0.within in
    let c = Rises-records_along m x.high xs high h.1 t.1 in
    elim i [
      | inl e ↦
          subst (λ (u : Visit). slice (records_along m (x ∷ xs)) u.low u.high ≡ (m u.page).records) e
          (slice-append (m x.page).records (records_along m xs) x.low x.high ∙ (ap (λ ys. ys ++ slice (records_along m xs) x.low x.high) (slice-within x.low (m x.page).records x.high x.low x.high (omega arith) (omega arith) w)
          ∙ (ap (λ ys. (m x.page).records ++ ys) (slice-above x.high (records_along m xs) high x.low x.high (omega arith) c) ∙ append-none (m x.page).records)))
      | inr j ↦
          let q = IsTiled-within x.high xs high t.1 r.1 v j in
          a ∙ (ap (λ ys. ys ++ slice (records_along m xs) v.low v.high) (slice-below x.low (m x.page).records x.high v.low v.high q.0 w) ∙ slice-records_along m x.high xs high h.1 t.1 r.1 v j)
    ]
  where
    append-none : (xs : Pairs) → xs ++ [] ≡ xs
    append-none [] = refl
    append-none (x ∷ xs) = ap (λ ys. x ∷ ys) (append-none xs)

-- leaves that have a list's slices hold that list
pub records_along-slices : (m : PageMemory) (low : ℕ) (vs : List Visit) (high : ℕ) (target : Pairs) (a b : ℕ) → Rises a target b → IsTiled low vs high → AllByRecursion HasWidth vs
    → ((v : Visit) → IsAmong v vs → (m v.page).records ≡ slice target v.low v.high) → records_along m vs ≡ slice target low high
records_along-slices m low [] high target a b ri t r e = sym (slice-empty target low high (let x = t in omega arith))
records_along-slices m low (x ∷ xs) high target a b ri t r e =
    let ih = records_along-slices m x.high xs high target a b ri t.1 r.1 (λ v i. e v (inr i)) in
    let h = e x (inl refl) in
    let top = tiled-top x.high xs high t.1 r.1 in
    let s = slice-split a target b x.low x.high high ri (let q = r.0 in omega arith) top in
    ap (λ ys. ys ++ records_along m xs) h ∙ (ap (λ ys. slice target x.low x.high ++ ys) ih ∙ (s ∙ ap (λ q. slice target q high) t.0))
  where
    tiled-top : (low : ℕ) (vs : List Visit) (high : ℕ) → IsTiled low vs high → AllByRecursion HasWidth vs → low ≤ high
    tiled-top low [] high t r = let x = t in omega arith
    tiled-top low (y ∷ ys) high t r = let a = tiled-top y.high ys high t.1 r.1 in let p = t.0 in let q = r.0 in omega arith

-- two visits of a tiling that share a rank are one
pub IsTiled-same : (low : ℕ) (vs : List Visit) (high k : ℕ) → IsTiled low vs high → AllByRecursion HasWidth vs → (u v : Visit) → IsAmong u vs → IsAmong v vs → u.low ≤ k → k < u.high → v.low ≤ k → k < v.high → u ≡ v
IsTiled-same low [] high k t r u v hu hv a b c d = absurd hu
IsTiled-same low (x ∷ xs) high k t r u v hu hv a b c d = elim hu [
  | inl e ↦ elim hv [
    | inl f ↦ sym e ∙ f
    | inr j ↦ absurd (let q = IsTiled-within x.high xs high t.1 r.1 v j in let z = q.0 in let w = ap (λ (k : Visit). k.high) e in omega arith)
  ]
  | inr i ↦ elim hv [
    | inl f ↦ absurd (let q = IsTiled-within x.high xs high t.1 r.1 u i in let z = q.0 in let w = ap (λ (k : Visit). k.high) f in omega arith)
    | inr j ↦ IsTiled-same x.high xs high k t.1 r.1 u v i j a b c d
  ]
]

module _ (written : ℕ → Bool) (m new : PageMemory) (same : (n : ℕ) → written n ≡ false → new n ≡ m n) (root : ℕ) (t : IsTreeOf m (height_of m root) root) (low-m : (m root).level < 8)
    (fresh : List LevelVisit) (p : IsGrounded written m new root fresh) (low-new : (new root).level < 8)
    (key : MapKey) (target : Pairs) (rises : Rises 0 target end_rank)
    (elsewhere : (lo hi : ℕ) → IsOutside key lo hi → slice target lo hi ≡ slice (content_of m root) lo hi) where
  tree : IsTree new (height_of new root) (top_of root)
  tree = IsTree-after written m new same root t low-m fresh p low-new

  leaf-in : (v : Visit) → 0 < over (counts_visit 0 v) fresh → IsAmong v (leaves_of new root)
  leaf-in v pos = let a = weight_of-after written m new same root t low-m fresh p low-new (counts_visit 0 v) in let b = weight_of-leaf v new root in IsAmong-counted v (leaves_of new root) (omega arith)

  fresh-in : (v : Visit) → IsAmong v (leaves_of new root) → written v.page ≡ true → 0 < over (counts_visit 0 v) fresh
  fresh-in v i w =
      let a = weight_of-after written m new same root t low-m fresh p low-new (counts_visit 0 v) in let b = weight_of-leaf v new root in let c = counted-IsAmong v (leaves_of new root) i in
      let d = weight_along-off_written written m (height_of m root) (top_of root) 0 v w in omega arith

  old-slice : (v : Visit) → IsAmong v (leaves_of new root) → written v.page ≡ false → (new v.page).records ≡ slice (content_of m root) v.low v.high
  old-slice v i w =
      let o = IsAmong-before written m new same root t low-m fresh p low-new v i w in
      ap (λ (q : PageState). q.records) (same v.page w) ∙ sym (slice-records_along m 0 (leaves_of m root) end_rank t.tree.leaves (IsTiled-leaves_of m root t.tree) (HasWidth-leaves_of m root t.tree) v o)

  pub content_of-sliced : IsSliced new fresh target key → content_of new root ≡ target
  content_of-sliced s =
      let ti = IsTiled-leaves_of new root tree in let ro = HasWidth-leaves_of new root tree in
      let home = leaf-in s.there.0 s.there.1 in
      let mine = over-holds (λ h v. written v.page ≡ true) fresh p.mine 0 s.there.0 s.there.1 in
      records_along-slices new 0 (leaves_of new root) end_rank target 0 end_rank rises ti ro (λ v i. written-cases written v.page ((new v.page).records ≡ slice target v.low v.high)
      (λ w. over-holds (λ h v. h ≡ 0 → (new v.page).records ≡ slice target v.low v.high) fresh s.each 0 v (fresh-in v i w) refl)
      (λ w. old-slice v i w ∙ sym (elsewhere v.low v.high (outside v i w ti ro s home mine))))
      ∙ slice-within 0 target end_rank 0 end_rank (omega arith) (omega arith) rises
    where
      outside : (v : Visit) → IsAmong v (leaves_of new root) → written v.page ≡ false → IsTiled 0 (leaves_of new root) end_rank → AllByRecursion HasWidth (leaves_of new root)
          → (s : IsSliced new fresh target key) → IsAmong s.there.0 (leaves_of new root) → written s.there.0.page ≡ true → IsOutside key v.low v.high
      outside v i w ti ro s home mine =
          elim (cases_lt (rank key) v.low) [
            | inl lt ↦ inl lt
            | inr ge ↦ elim (cases_lt (rank key) v.high) [
              | inr behind ↦ inr behind
              | inl inside ↦ absurd (
                  let e = IsTiled-same 0 (leaves_of new root) end_rank (rank key) ti ro v s.there.0 i home ge inside s.there.2 s.there.3 in
                  let x = ap (λ (k : Visit). written k.page) e in let y = sym w ∙ (x ∙ mine) in cc)
            ]
          ]

  pub IsSliced-content_of : rank key < end_rank → IsTreeOf new (height_of new root) root → (value_at key target ≡ value_at key (content_of m root) → ⊥) → content_of new root ≡ target → IsSliced new fresh target key
  IsSliced-content_of in-range tn differs e =
      let ti = IsTiled-leaves_of new root tn.tree in let ro = HasWidth-leaves_of new root tn.tree in
      let pl = IsPageFor-leaf new key root in-range tn in
      let i : IsAmong pl.visit (leaves_of new root) = subst (IsAmong pl.visit) (sym pl.is) (in-middle pl.before pl.visit pl.behind) in
      record {
        each = AllByRecursion-over (λ s. s.height ≡ 0 → (new s.visit.page).records ≡ slice target s.visit.low s.visit.high) fresh (λ s pos z.
            let pos' = subst (λ h. 0 < over (counts_visit h s.visit) fresh) z pos in
            sym (slice-records_along new 0 (leaves_of new root) end_rank tn.tree.leaves ti ro s.visit (leaf-in s.visit pos')) ∙ ap (λ xs. slice xs s.visit.low s.visit.high) e);
        there = (pl.visit, written-cases written pl.visit.page (0 < over (counts_visit 0 pl.visit) fresh) (λ w. fresh-in pl.visit i w) (λ w. absurd (differs (same-value pl i w))), pl.low, pl.high);
      }
    where
      in-middle : (xs : List Visit) (v : Visit) (ys : List Visit) → IsAmong v (xs ++ v ∷ ys)
      in-middle [] v ys = inl refl
      in-middle (x ∷ xs) v ys = inr (in-middle xs v ys)

      same-value : (pl : IsPageFor key (leaves_of new root) (leaf_for new key root)) → IsAmong pl.visit (leaves_of new root) → written pl.visit.page ≡ false → value_at key target ≡ value_at key (content_of m root)
      same-value pl i w =
          let a = value_at-records_along new key 0 (leaves_of new root) end_rank (leaf_for new key root) tn.tree.leaves (IsTiled-leaves_of new root tn.tree) pl in
          let o = IsAmong-before written m new same root t low-m fresh p low-new pl.visit i w in
          let q = in-split (leaves_of m root) pl.visit o in
          let b = value_at-records_along m key 0 (leaves_of m root) end_rank pl.visit.page t.tree.leaves (IsTiled-leaves_of m root t.tree) (record { before = q.0; visit = pl.visit; behind = q.1; is = q.2; here = refl; low = pl.low; high = pl.high }) in
          ap (value_at key) (sym e) ∙ (a ∙ (ap (λ n. value_at key (new n).records) (sym pl.here) ∙ (ap (λ (g : PageState). value_at key g.records) (same pl.visit.page w) ∙ sym b)))
        where
          in-split : (vs : List Visit) (v : Visit) → IsAmong v vs → (before : List Visit) × (behind : List Visit) × (vs ≡ before ++ v ∷ behind)
          in-split [] v i = absurd i
          in-split (x ∷ xs) v i = elim i [
            | inl s ↦ ([], xs, ap (λ y. y ∷ xs) s)
            | inr j ↦ let r = in-split xs v j in (x ∷ r.0, r.1, ap (λ ys. x ∷ ys) r.2)
          ]
