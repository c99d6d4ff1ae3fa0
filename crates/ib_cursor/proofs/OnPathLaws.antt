-- What is known of a page on the path of a key, in lawful trees.
use Rattle.std.specs.List.{AllByRecursion}
use Rattle.std.proofs.Common.{◌≡◌, ◌≢◌, ◌⊎◌, inl, inr, ℕ, zero, suc, ◌+◌, ◌<◌, ◌≤◌, List, [], ◌∷◌, ◌++◌, length, slice_get, IsSomeAnd, refl, sym, ap, subst, ◌∙◌, arith}
use Rattle.std.proofs.lemmas.Bool.{cases_lt, eq-eqb}
use Rattle.ib_map.specs.Keys.{MapKey, rank, end_rank}
use Rattle.ib_map.specs.Pairs.{Pairs, first_rank}
use Rattle.ib_map.proofs.RiseLaws.{Rises-le}
use Rattle.ib_logrec.specs.Law.{PageRange}
use Rattle.ib_walk.specs.Pages.{Tree, PageMemory}
use Rattle.ib_walk.specs.Walk.{Visit, children, below, sum_of, weight_along, counts_page, counts_visit, IsTree, IsTiled}
use Rattle.ib_walk.specs.Trees.{top_of, height_of, weight_of, times_met, IsTreeOf, IsLawful}
use Rattle.ib_walk.specs.Search.{child_for, page_below, leaf_for, IsPageFor}
use Rattle.ib_walk.proofs.MeetLaws.{counts_page-own}
use Rattle.ib_walk.proofs.SearchLaws.{above, IsTree-below, IsPageFor-below, IsTiled-below}
use Rattle.ib_walk.proofs.TreeLaws.{weight_of-le, IsPageFor-top}
use Rattle.ib_walk.proofs.WalkLaws.{sum_of-append}
use Rattle.ib_plans.proofs.LevelLaws.{above-sum, below-le_weight, level-le_weight}
use Rattle.ib_plans.proofs.PathLaws.{page_below-child}
use Rattle.ib_validate.specs.Patch.{IsGoodAt}
use Rattle.ib_tree.specs.Logs.{HasRange}
use Rattle.ib_tree.proofs.PatchLaws.{counts_visit-own, counts_visit-same, IsGoodAt-tree}
use Rattle.ib_cursor.specs.OnPath.{IsOnPath}
use Rattle.ib_walk.proofs.CountLaws.{bits-met, weight-met, met-weight}

pub root_on-path : (m : PageMemory) (root : ℕ) (key : MapKey) → IsOnPath m root key root (height_of m root)
root_on-path m root key = record { depth = 0; height = omega arith; below = refl }

pub child_on-path : (m : PageMemory) (root : ℕ) (key : MapKey) (page level : ℕ) → IsOnPath m root key page (suc level) → IsOnPath m root key (child_for key 0 (m page).records) level
child_on-path m root key page level o = record {
  depth = suc o.depth;
  height = let h = o.height in omega arith;
  below = page_below-child m key o.depth root ∙ ap (λ (p : ℕ). child_for key 0 (m p).records) o.below;
}

-- the page at the end of the path
pub leaf_on-path : (m : PageMemory) (root : ℕ) (key : MapKey) (page : ℕ) → IsOnPath m root key page 0 → page ≡ leaf_for m key root
leaf_on-path m root key page o = sym o.below ∙ ap (λ (d : ℕ). page_below m key d root) (let h = o.height in let e : o.depth ≡ height_of m root = omega arith in e)

-- a visit is among others
abbrev pub IsIn : Visit → List Visit → Type 0
IsIn v [] = ⊥
IsIn v (x ∷ xs) = (v ≡ x) ⊎ IsIn v xs

in-counted : (h : ℕ) (v : Visit) (vs : List Visit) → 0 < sum_of (counts_visit h v h) vs → IsIn v vs
in-counted h v [] some = absurd (omega arith)
in-counted h v (x ∷ xs) some = elim (cases_lt 0 (counts_visit h v h x)) [
  | inl pos ↦ inl (sym (counts_visit-same h v h x pos).1)
  | inr non ↦ inr (in-counted h v xs (omega arith))
]

in-split : (before : List Visit) (v : Visit) (behind : List Visit) → IsIn v (before ++ v ∷ behind)
in-split [] v behind = inl refl
in-split (x ∷ xs) v behind = inr (in-split xs v behind)

-- ranges that stand side by side, none of which ends before it begins: one of them has a key
in-from : (low : ℕ) (vs : List Visit) (high : ℕ) (v : Visit) → IsTiled low vs high → AllByRecursion (λ (v : Visit). v.low ≤ v.high) vs → IsIn v vs → low ≤ v.low
in-from low [] high v tiles up there = absurd there
in-from low (x ∷ xs) high v tiles up (inl is) = let e : v.low ≡ x.low = ap (λ (v : Visit). v.low) is in let t = tiles.0 in omega arith
in-from low (x ∷ xs) high v tiles up (inr later) = let r = in-from x.high xs high v tiles.1 up.1 later in let t = tiles.0 in let u = up.0 in omega arith

one-page : (low : ℕ) (vs : List Visit) (high k : ℕ) (u v : Visit) → IsTiled low vs high → AllByRecursion (λ (v : Visit). v.low ≤ v.high) vs → IsIn u vs → IsIn v vs
    → u.low ≤ k → k < u.high → v.low ≤ k → k < v.high → u.page ≡ v.page
one-page low [] high k u v tiles up a b ul uh vl vh = absurd a
one-page low (x ∷ xs) high k u v tiles up (inl a) (inl b) ul uh vl vh = ap (λ (v : Visit). v.page) (a ∙ sym b)
one-page low (x ∷ xs) high k u v tiles up (inl a) (inr b) ul uh vl vh = absurd (let r = in-from x.high xs high v tiles.1 up.1 b in let e : u.high ≡ x.high = ap (λ (v : Visit). v.high) a in omega arith)
one-page low (x ∷ xs) high k u v tiles up (inr a) (inl b) ul uh vl vh = absurd (let r = in-from x.high xs high u tiles.1 up.1 a in let e : v.high ≡ x.high = ap (λ (v : Visit). v.high) b in omega arith)
one-page low (x ∷ xs) high k u v tiles up (inr a) (inr b) ul uh vl vh = one-page x.high xs high k u v tiles.1 up.1 a b ul uh vl vh

-- the ranges of a level of a tree
ends-of : (m : PageMemory) (level : ℕ) (v : Visit) → IsGoodAt m level v → v.low ≤ v.high
ends-of m zero v g = Rises-le v.low (m v.page).records v.high g.within
ends-of m (suc level) v g = Rises-le v.low (m v.page).records v.high g.within

each-of : (P Q : Visit → Type 0) (vs : List Visit) → ((v : Visit) → P v → Q v) → AllByRecursion P vs → AllByRecursion Q vs
each-of P Q [] f h = tt
each-of P Q (v ∷ vs) f h = (f v h.0, each-of P Q vs f h.1)

level-up : (m : PageMemory) (level : ℕ) (vs : List Visit) → IsTree m level vs → AllByRecursion (λ (v : Visit). v.low ≤ v.high) vs
level-up m zero vs t = each-of (IsGoodAt m 0) (λ v. v.low ≤ v.high) vs (ends-of m 0) t.leaves
level-up m (suc level) vs t = each-of (IsGoodAt m (suc level)) (λ v. v.low ≤ v.high) vs (ends-of m (suc level)) t.nodes.0

-- a visit that is met stands on its level
pub record StandsOn (m : PageMemory) (h level : ℕ) (v : Visit) (vs : List Visit) : Type 0 where
  pub depth : ℕ
  pub height : depth + level ≡ h
  pub there : IsIn v (below m depth vs)

pub latch_page : (m : PageMemory) (h level : ℕ) (v : Visit) (vs : List Visit) → 0 < weight_along (counts_visit level v) m h vs → StandsOn m h level v vs
latch_page m zero level v vs some =
    let e = level-is zero vs some in
    record { depth = 0; height = omega arith; there = in-counted level v vs (subst (λ h. 0 < sum_of (counts_visit level v h) vs) e some) }
  where
    level-is : (h : ℕ) (vs : List Visit) → 0 < sum_of (counts_visit level v h) vs → h ≡ level
    level-is h [] some = absurd (omega arith)
    level-is h (x ∷ xs) some = elim (cases_lt 0 (counts_visit level v h x)) [
      | inl pos ↦ (counts_visit-same level v h x pos).0
      | inr non ↦ level-is h xs (omega arith)
    ]
latch_page m (suc h) level v vs some = elim (cases_lt 0 (sum_of (counts_visit level v (suc h)) vs)) [
  | inl pos ↦
      let e = level-is (suc h) vs pos in
      record { depth = 0; height = omega arith; there = in-counted level v vs (subst (λ h. 0 < sum_of (counts_visit level v h) vs) e pos) }
  | inr non ↦
      let r = latch_page m h level v (children m vs) (omega arith) in
      record { depth = suc r.depth; height = let e = r.height in omega arith; there = r.there }
]
  where
    level-is : (h : ℕ) (vs : List Visit) → 0 < sum_of (counts_visit level v h) vs → h ≡ level
    level-is h [] some = absurd (omega arith)
    level-is h (x ∷ xs) some = elim (cases_lt 0 (counts_visit level v h x)) [
      | inl pos ↦ (counts_visit-same level v h x pos).0
      | inr non ↦ level-is h xs (omega arith)
    ]

-- a page on the path is met there, with a range that has the key
pub record IsMetOn (m : PageMemory) (root : ℕ) (key : MapKey) (page level : ℕ) : Type 0 where
  pub visit : Visit
  pub here : visit.page ≡ page
  pub low : visit.low ≤ rank key
  pub high : rank key < visit.high
  pub met : 0 < weight_of (counts_visit level visit) m root
  pub met_page : 0 < weight_of (counts_page page) m root
  pub good : IsGoodAt m level visit

module _ (m : PageMemory) (root : ℕ) (tree : IsTreeOf m (height_of m root) root) (key : MapKey) (lt : rank key < end_rank) where
  tree-at : (depth level : ℕ) → depth + level ≡ height_of m root → IsTree m (above depth level) (top_of root)
  tree-at depth level h = subst (λ n. IsTree m n (top_of root)) (sym (above-sum depth level ∙ h)) tree.tree

  pub met_on-path : (page level : ℕ) → IsOnPath m root key page level → IsMetOn m root key page level
  met_on-path page level o =
      let t = tree-at o.depth level o.height in
      let p = subst (IsPageFor key (below m o.depth (top_of root))) o.below (IsPageFor-below m o.depth level key (top_of root) root t.nodes (IsPageFor-top key root lt)) in
      let own = counts_visit-own level p.visit in
      let own_page = counts_page-own page level p.visit p.here in
      let counted : (f : ℕ → Visit → ℕ) → 1 ≤ f level p.visit → 1 ≤ weight_of f m root = λ f one.
      let a = below-le_weight f m o.depth level (top_of root) in
      let b = level-le_weight f m level (below m o.depth (top_of root)) in
      let c = ap (sum_of (f level)) p.is in
      let d = sum_of-append (f level) p.before (p.visit ∷ p.behind) in
      let e = ap (λ n. weight_along f m n (top_of root)) (above-sum o.depth level ∙ o.height) in omega arith in
      let met = counted (counts_visit level p.visit) (omega arith) in
      record {
        visit = p.visit;
        here = p.here;
        low = p.low;
        high = p.high;
        met = met;
        met_page = counted (counts_page page) (omega arith);
        good = IsGoodAt-tree m (height_of m root) (top_of root) tree.tree level p.visit met;
      }

  -- .. and the other way round
  pub on-path_met : (level : ℕ) (v : Visit) → 0 < weight_of (counts_visit level v) m root → v.low ≤ rank key → rank key < v.high → IsOnPath m root key v.page level
  on-path_met level v met low high =
      let s = latch_page m (height_of m root) level v (top_of root) met in
      let t = tree-at s.depth level s.height in
      let p = IsPageFor-below m s.depth level key (top_of root) root t.nodes (IsPageFor-top key root lt) in
      let tiles = IsTiled-below m s.depth level 0 (top_of root) end_rank t.nodes (refl, refl) in
      let up = level-up m level (below m s.depth (top_of root)) (IsTree-below m s.depth level (top_of root) t) in
      record {
        depth = s.depth;
        height = s.height;
        below = sym p.here ∙ one-page 0 (below m s.depth (top_of root)) end_rank (rank key) p.visit v tiles up
            (subst (IsIn p.visit) (sym p.is) (in-split p.before p.visit p.behind)) s.there p.low p.high low high;
      }

-- a page on the path stays there where its range stays
pub stays_on-path : (roots : ℕ) (m new : PageMemory) (root : ℕ) (key : MapKey) (page level : ℕ) → 0 < root → root ≤ roots → rank key < end_rank
    → IsTreeOf m (height_of m root) root → IsTreeOf new (height_of new root) root
    → ((r : PageRange) → HasRange roots m page r → HasRange roots new page r)
    → IsOnPath m root key page level → IsOnPath new root key page level
stays_on-path roots m new root key page level some le lt tree later stays o =
    let a = met_on-path m root tree key lt page level o in
    let v = a.visit in
    let r : PageRange = record { root = root; low = v.low; end = v.high; level = level } in
    let w : Visit = record { page = page; low = v.low; high = v.high } in
    let same : v ≡ w = ap (λ (p : ℕ). let w : Visit = record { page = p; low = v.low; high = v.high } in w) a.here in
    let kept = stays r (some, le, met-weight m root level w (subst (λ u. 0 < weight_of (counts_visit level u) m root) same a.met)) in
    on-path_met new root later key lt level w (weight-met kept.2) a.low a.high

-- what the page says
pub record HasPathPage (m : PageMemory) (key : MapKey) (page level : ℕ) : Type 0 where
  pub kind : (m page).kind ≡ Tree
  pub height : (m page).level ≡ level
  pub first : 0 < level → IsSomeAnd (slice_get (m page).records 0) (λ r. rank r.0 ≤ rank key)

first-not_above : (key : MapKey) (xs : Pairs) (high : ℕ) → 0 < length xs → first_rank xs high ≤ rank key → IsSomeAnd (slice_get xs 0) (λ r. rank r.0 ≤ rank key)
first-not_above key [] high some le = absurd (omega arith)
first-not_above key (x ∷ xs) high some le = le

on_path-page : (m : PageMemory) (key : MapKey) (level : ℕ) (v : Visit) → v.low ≤ rank key → IsGoodAt m level v → HasPathPage m key v.page level
on_path-page m key zero v low g = record { kind = g.kind; height = g.level; first = λ some. absurd (omega arith) }
on_path-page m key (suc level) v low g = record { kind = g.kind; height = g.level; first = λ _. first-not_above key (m v.page).records v.high g.some (let e = g.first in omega arith) }

pub page_on-path : (m : PageMemory) (root : ℕ) (key : MapKey) (page level : ℕ) → IsTreeOf m (height_of m root) root → rank key < end_rank → IsOnPath m root key page level → HasPathPage m key page level
page_on-path m root key page level tree lt o =
    let a = met_on-path m root tree key lt page level o in
    subst (λ p. HasPathPage m key p level) a.here (on_path-page m key level a.visit a.low a.good)

-- a page that is met is none of the space page and of those that the space doesn't have
pub bit_on-path : (m : PageMemory) (bits : ℕ → ℕ) (roots root : ℕ) (key : MapKey) (page level : ℕ) → IsLawful m bits roots → 0 < root → root ≤ roots → rank key < end_rank → IsOnPath m root key page level
    → (page ≢ 0) × (0 < bits page)
bit_on-path m bits roots root key page level law some le lt o =
    let a = met_on-path m root (law.trees root some le).0 key lt page level o in
    let w = weight_of-le (counts_page page) m root roots some le in
    let met : 0 < times_met m roots page = omega (arith, a.met_page) in
    let c = bits-met law page in let b = law.bit page in
    (λ z. let y = eq-eqb page 0 z in let d : bits page ≡ times_met m roots page + 1 = rw y at c in absurd (omega arith), omega arith)
