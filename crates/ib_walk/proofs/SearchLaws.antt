-- The path of a key, the levels above a height, and the content in order.
use Rattle.std.specs.List.{AllByRecursion}
use Rattle.std.proofs.Common.{◌≡◌, ℕ, zero, suc, ◌+◌, ◌<◌, ◌≤◌, inl, inr, List, [], ◌∷◌, ◌++◌, length, refl, sym, ap, subst, ◌∙◌, arith, append_assoc}
use Rattle.std.proofs.lemmas.Bool.{cases_lt, lt-ltb, le-ltb}
use Rattle.ib_map.specs.Keys.{MapKey, rank}
use Rattle.ib_map.specs.Pairs.{Pairs, Rises, value_at, first_rank}
use Rattle.ib_walk.specs.Pages.{Tree, PageMemory}
use Rattle.ib_walk.specs.Walk.{Visit, children_of, children, below, records_along, weight_along, IsNodeAt, IsLeafAt, AreNodes, IsTree, IsTiled}
use Rattle.ib_walk.specs.Search.{child_for, page_below, IsPageFor}
use Rattle.ib_map.proofs.RiseLaws.{Rises-append}
use Rattle.ib_map.proofs.PairLaws.{value_at-behind, value_at-before}
use Rattle.ib_walk.proofs.WalkLaws.{AllByRecursion-left, AllByRecursion-right, children-append, records_along-append, IsAlike, AreAlike-nodes, nodes-same, children-same}

-- `depth` levels above `height`
abbrev pub above : ℕ → ℕ → ℕ
above zero height = height
above (suc depth) height = suc (above depth height)

pub above-le : (depth height : ℕ) → height ≤ above depth height
above-le zero height = omega arith
above-le (suc depth) height = let r = above-le depth height in omega arith

pub above-zero : (depth : ℕ) → above depth 0 ≡ depth
above-zero zero = refl
above-zero (suc depth) = ap suc (above-zero depth)

pub IsTree-below : (m : PageMemory) (depth height : ℕ) (vs : List Visit) → IsTree m (above depth height) vs → IsTree m height (below m depth vs)
IsTree-below m zero height vs t = t
IsTree-below m (suc depth) height vs t = IsTree-below m depth height (children m vs) (record { nodes = t.nodes.1; leaves = t.leaves })

-- what a change of pages of this height and lower leaves of the levels above
module _ (m new : PageMemory) (height : ℕ) (same : (p : ℕ) → (m p).kind ≡ Tree → height < (m p).level → IsAlike (new p) (m p)) where
  pub upper-alike : (depth : ℕ) (vs : List Visit) → AllByRecursion (IsNodeAt m (suc (above depth height))) vs → AllByRecursion (λ v. IsAlike (new v.page) (m v.page)) vs
  upper-alike depth vs h = let l = above-le depth height in AreAlike-nodes m new (suc (above depth height)) vs (λ p k e. same p k (omega arith)) h

  pub upper-below : (depth : ℕ) (vs : List Visit) → AreNodes m (above depth height) vs → below new depth vs ≡ below m depth vs
  upper-below zero vs h = refl
  upper-below (suc depth) vs h =
      let e = children-same m new vs (upper-alike depth vs h.0) in rw e (upper-below depth (children m vs) h.1)

  pub upper-nodes : (depth : ℕ) (vs : List Visit) → AreNodes m (above depth height) vs → AreNodes new height (below m depth vs) → AreNodes new (above depth height) vs
  upper-nodes zero vs h t = t
  upper-nodes (suc depth) vs h t =
      let a = upper-alike depth vs h.0 in
      let e = children-same m new vs a in
      (nodes-same m new (suc (above depth height)) vs a h.0, rw e (upper-nodes depth (children m vs) h.1 t))

  pub upper-lowest : (depth : ℕ) (vs : List Visit) → AreNodes m (above depth height) vs → below new (above depth height) vs ≡ below new height (below m depth vs)
  upper-lowest zero vs h = refl
  upper-lowest (suc depth) vs h =
      ap (below new (above depth height)) (children-same m new vs (upper-alike depth vs h.0)) ∙ upper-lowest depth (children m vs) h.1

  pub upper-weight : (f : ℕ → Visit → ℕ) (depth : ℕ) (vs : List Visit) → AreNodes m (above depth height) vs
      → weight_along f new (above depth height) vs + weight_along f m height (below m depth vs) ≡ weight_along f m (above depth height) vs + weight_along f new height (below m depth vs)
  upper-weight f zero vs h = omega arith
  upper-weight f (suc depth) vs h =
      let e = ap (weight_along f new (above depth height)) (children-same m new vs (upper-alike depth vs h.0)) in
      let r = upper-weight f depth (children m vs) h.1 in omega arith

pub below-above : (m : PageMemory) (depth height : ℕ) (vs : List Visit) → below m (above depth height) vs ≡ below m height (below m depth vs)
below-above m zero height vs = refl
below-above m (suc depth) height vs = below-above m depth height (children m vs)

pub IsPageFor-child : (key : MapKey) (x : MapKey × ℕ) (xs : Pairs) (high : ℕ) → rank x.0 ≤ rank key → rank key < high → IsPageFor key (children_of (x ∷ xs) high) (child_for key x.1 xs)
IsPageFor-child key x [] high low lt = record {
  before = [];
  visit = record { page = x.1; low = rank x.0; high = high };
  behind = [];
  is = refl;
  here = refl;
  low = low;
  high = lt;
}
IsPageFor-child key x (y ∷ ys) high low lt =
    elim (cases_lt (rank key) (rank y.0)) [
      | inl b ↦ let yes = lt-ltb (rank key) (rank y.0) b in rw yes (record {
        before = [];
        visit = record { page = x.1; low = rank x.0; high = rank y.0 };
        behind = children_of (y ∷ ys) high;
        is = refl;
        here = refl;
        low = low;
        high = b;
      })
      | inr b ↦ let no = le-ltb (rank key) (rank y.0) b in
          let r = IsPageFor-child key y ys high b lt in rw no (record {
            before = record { page = x.1; low = rank x.0; high = rank y.0 } ∷ r.before;
            visit = r.visit;
            behind = r.behind;
            is = ap (λ vs. record { page = x.1; low = rank x.0; high = rank y.0 } ∷ vs) r.is;
            here = r.here;
            low = r.low;
            high = r.high;
          })
    ]

pub IsPageFor-some : (key : MapKey) (xs : Pairs) (high : ℕ) → 0 < length xs → first_rank xs high ≤ rank key → rank key < high → IsPageFor key (children_of xs high) (child_for key 0 xs)
IsPageFor-some key [] high some low lt = absurd (omega arith)
IsPageFor-some key (x ∷ xs) high some low lt =
    let no = le-ltb (rank key) (rank x.0) low in rw no (IsPageFor-child key x xs high low lt)

pub AllByRecursion-at : {X : Type 0} (P : X → Type 0) (xs : List X) (v : X) (ys : List X) → AllByRecursion P (xs ++ v ∷ ys) → P v
AllByRecursion-at P xs v ys h = let r = AllByRecursion-right P xs (v ∷ ys) h in r.0

pub IsPageFor-children : (m : PageMemory) (height : ℕ) (key : MapKey) (vs : List Visit) (page : ℕ) → AllByRecursion (IsNodeAt m height) vs → IsPageFor key vs page
    → IsPageFor key (children m vs) (child_for key 0 (m page).records)
IsPageFor-children m height key vs page h p =
    let all = subst (AllByRecursion (IsNodeAt m height)) p.is h in
    let node = AllByRecursion-at (IsNodeAt m height) p.before p.visit p.behind all in
    let r = IsPageFor-some key (m p.visit.page).records p.visit.high node.some (let e = node.first in let l = p.low in omega arith) p.high in
    record {
      before = children m p.before ++ r.before;
      visit = r.visit;
      behind = r.behind ++ children m p.behind;
      is = ap (children m) p.is ∙ (children-append m p.before (p.visit ∷ p.behind) ∙ rw r.is (simp append_assoc));
      here = r.here ∙ ap (λ q. child_for key 0 (m q).records) p.here;
      low = r.low;
      high = r.high;
    }

pub IsPageFor-below : (m : PageMemory) (depth height : ℕ) (key : MapKey) (vs : List Visit) (page : ℕ) → AreNodes m (above depth height) vs → IsPageFor key vs page
    → IsPageFor key (below m depth vs) (page_below m key depth page)
IsPageFor-below m zero height key vs page h p = p
IsPageFor-below m (suc depth) height key vs page h p =
    IsPageFor-below m depth height key (children m vs) (child_for key 0 (m page).records) h.1 (IsPageFor-children m (suc (above depth height)) key vs page h.0 p)

-- ranges stand side by side on each level
pub IsTiled-append : (low : ℕ) (xs : List Visit) (mid : ℕ) (ys : List Visit) (high : ℕ) → IsTiled low xs mid → IsTiled mid ys high → IsTiled low (xs ++ ys) high
IsTiled-append low [] mid ys high h k = subst (λ n. IsTiled n ys high) (sym h) k
IsTiled-append low (x ∷ xs) mid ys high h k = (h.0, IsTiled-append x.high xs mid ys high h.1 k)

pub IsTiled-children_of : (xs : Pairs) (high : ℕ) → IsTiled (first_rank xs high) (children_of xs high) high
IsTiled-children_of [] high = refl
IsTiled-children_of (x ∷ xs) high = (refl, IsTiled-children_of xs high)

pub IsTiled-children : (m : PageMemory) (height : ℕ) (low : ℕ) (vs : List Visit) (high : ℕ) → AllByRecursion (IsNodeAt m height) vs → IsTiled low vs high → IsTiled low (children m vs) high
IsTiled-children m height low [] high h t = t
IsTiled-children m height low (v ∷ vs) high h t =
    IsTiled-append low (children_of (m v.page).records v.high) v.high (children m vs) high
    (subst (λ n. IsTiled n (children_of (m v.page).records v.high) v.high) (h.0.first ∙ t.0) (IsTiled-children_of (m v.page).records v.high))
    (IsTiled-children m height v.high vs high h.1 t.1)

pub IsTiled-below : (m : PageMemory) (depth height : ℕ) (low : ℕ) (vs : List Visit) (high : ℕ) → AreNodes m (above depth height) vs → IsTiled low vs high → IsTiled low (below m depth vs) high
IsTiled-below m zero height low vs high h t = t
IsTiled-below m (suc depth) height low vs high h t =
    IsTiled-below m depth height low (children m vs) high h.1 (IsTiled-children m (suc (above depth height)) low vs high h.0 t)

-- the content ascends
pub Rises-records_along : (m : PageMemory) (low : ℕ) (vs : List Visit) (high : ℕ) → AllByRecursion (IsLeafAt m) vs → IsTiled low vs high → Rises low (records_along m vs) high
Rises-records_along m low [] high h t = omega arith
Rises-records_along m low (v ∷ vs) high h t =
    Rises-append low (m v.page).records v.high (records_along m vs) high (subst (λ n. Rises n (m v.page).records v.high) t.0 h.0.within)
    (Rises-records_along m v.high vs high h.1 t.1)

pub IsTiled-left : (low : ℕ) (xs : List Visit) (v : Visit) (ys : List Visit) (high : ℕ) → IsTiled low (xs ++ v ∷ ys) high → IsTiled low xs v.low
IsTiled-left low [] v ys high t = sym t.0
IsTiled-left low (x ∷ xs) v ys high t = (t.0, IsTiled-left x.high xs v ys high t.1)

pub IsTiled-right : (low : ℕ) (xs : List Visit) (v : Visit) (ys : List Visit) (high : ℕ) → IsTiled low (xs ++ v ∷ ys) high → IsTiled v.high ys high
IsTiled-right low [] v ys high t = t.1
IsTiled-right low (x ∷ xs) v ys high t = IsTiled-right x.high xs v ys high t.1

-- the content has the key where its leaf has it, and the same value
pub value_at-records_along : (m : PageMemory) (key : MapKey) (low : ℕ) (vs : List Visit) (high : ℕ) (page : ℕ) → AllByRecursion (IsLeafAt m) vs → IsTiled low vs high → IsPageFor key vs page
    → value_at key (records_along m vs) ≡ value_at key (m page).records
value_at-records_along m key low vs high page h t p =
    let all = subst (AllByRecursion (IsLeafAt m)) p.is h in
    let tiles = subst (λ ws. IsTiled low ws high) p.is t in
    let a = Rises-records_along m low p.before p.visit.low (AllByRecursion-left (IsLeafAt m) p.before (p.visit ∷ p.behind) all) (IsTiled-left low p.before p.visit p.behind high tiles) in
    let rest = AllByRecursion-right (IsLeafAt m) p.before (p.visit ∷ p.behind) all in
    let b = Rises-records_along m p.visit.high p.behind high rest.1 (IsTiled-right low p.before p.visit p.behind high tiles) in
    let c = value_at-behind key low (records_along m p.before) p.visit.low (records_along m (p.visit ∷ p.behind)) a p.low in
    let d = value_at-before key (m p.visit.page).records p.visit.high (records_along m p.behind) high b p.high in
    ap (λ ws. value_at key (records_along m ws)) p.is ∙ (ap (value_at key) (records_along-append m p.before (p.visit ∷ p.behind)) ∙ (c ∙ (d ∙ ap (λ q. value_at key (m q).records) p.here)))
