-- The pages of a key's path, from the root down.
use Rattle.std.specs.List.{AllByRecursion}
use Rattle.std.proofs.Common.{◌≡◌, ◌≢◌, ℕ, ◌+◌, ◌<◌, ◌≤◌, ◌∙◌, zero, suc, List, refl, ap, subst, arith}
use Rattle.ib_map.specs.Keys.{MapKey, end_rank, rank}
use Rattle.ib_walk.specs.Pages.{PageMemory, PageState, Tree}
use Rattle.ib_walk.specs.Search.{IsPageFor, child_for, page_below}
use Rattle.ib_walk.specs.Trees.{IsLawfulUpTo, height_of, times_met, top_of}
use Rattle.ib_walk.specs.Walk.{AreNodes, IsNodeAt, IsTree, Visit, below, children, counts_page, sum_of, weight_along}
use Rattle.ib_walk.proofs.MeetLaws.{sum_of-own}
use Rattle.ib_walk.proofs.SearchLaws.{AllByRecursion-at, IsPageFor-below, IsPageFor-children, IsTree-below, above, above-le}
use Rattle.ib_walk.proofs.TreeLaws.{IsPageFor-top, weight_of-le}
use Rattle.ib_plans.proofs.LevelLaws.{above-suc, below-le_weight, kind-root, kind-visit, level-le_weight, level-visit}
use Rattle.ib_walk.proofs.CountLaws.{bits-met}

-- the page one level further down is the child for the key
pub page_below-child : (m : PageMemory) (key : MapKey) (depth page : ℕ) → page_below m key (suc depth) page ≡ child_for key 0 (m (page_below m key depth page)).records
page_below-child m key zero page = refl
page_below-child m key (suc depth) page = page_below-child m key depth (child_for key 0 (m page).records)

-- the path is the same in a memory whose upper pages are the same
pub page_below-same : (m new : PageMemory) (key : MapKey) (height depth : ℕ) (vs : List Visit) (page : ℕ) → ((n : ℕ) → (m n).kind ≡ Tree → height < (m n).level → new n ≡ m n)
    → AreNodes m (above depth height) vs → IsPageFor key vs page → page_below new key depth page ≡ page_below m key depth page
page_below-same m new key height zero vs page same h p = refl
page_below-same m new key height (suc depth) vs page same h p =
    let all = subst (AllByRecursion (IsNodeAt m (suc (above depth height)))) p.is h.0 in
    let node = AllByRecursion-at (IsNodeAt m (suc (above depth height))) p.before p.visit p.behind all in
    let l = above-le depth height in
    let e : new page ≡ m page = subst (λ q. new q ≡ m q) p.here (same p.visit.page node.kind (let x = node.level in omega arith)) in
    ap (λ (q : PageState). page_below new key depth (child_for key 0 q.records)) e
    ∙ page_below-same m new key height depth (children m vs) (child_for key 0 (m page).records) same h.1 (IsPageFor-children m (suc (above depth height)) key vs page h.0 p)

-- a page of the path of a key: a page of a tree at this height, met, and so not page 0
pub record PathPage (m : PageMemory) (height root page : ℕ) : Type 0 where
  pub kind : (m page).kind ≡ Tree
  pub level : (m page).level ≡ height
  pub met : 1 ≤ weight_along (counts_page page) m (height_of m root) (top_of root)
  pub some : page ≢ 0

-- each page of the path is one
pub PathPage-below : (most : ℕ → ℕ) (m : PageMemory) (bits : ℕ → ℕ) (roots : ℕ) → IsLawfulUpTo most m bits roots → (key : MapKey) → rank key < end_rank → (root : ℕ) → 0 < root → root ≤ roots
    → (depth height : ℕ) → height_of m root ≡ above depth height → PathPage m height root (page_below m key depth root)
PathPage-below most m bits roots law key in-range root some le depth height tall =
    let t = subst (λ h. IsTree m h (top_of root)) tall (law.trees root some le).0.tree in
    let p = IsPageFor-below m depth height key (top_of root) root t.nodes (IsPageFor-top key root in-range) in
    let row = subst (IsTree m height) p.is (IsTree-below m depth height (top_of root) t) in
    let n = page_below m key depth root in
    let a = sum_of-own n 0 p.before p.visit p.behind p.here in
    let b = ap (sum_of (counts_page n 0)) p.is in
    let c = level-le_weight (counts_page n) m height (below m depth (top_of root)) in
    let d = below-le_weight (counts_page n) m depth height (top_of root) in
    let f = ap (λ h. weight_along (counts_page n) m h (top_of root)) tall in
    let g = weight_of-le (counts_page n) m root roots some le in
    let x : bits 0 ≡ times_met m roots 0 + 1 = bits-met law 0 in let y = law.bit 0 in
    record {
      kind = subst (λ q. (m q).kind ≡ Tree) p.here (kind-visit m height p.before p.visit p.behind row);
      level = subst (λ q. (m q).level ≡ height) p.here (level-visit m height p.before p.visit p.behind row);
      met = omega arith;
      some = λ e. let z = ap (times_met m roots) e in omega arith;
    }

-- the child for the key is the page of the path one level further down, and another one than each page above that
pub PathPage-child : (most : ℕ → ℕ) (m : PageMemory) (bits : ℕ → ℕ) (roots : ℕ) → IsLawfulUpTo most m bits roots → (key : MapKey) → rank key < end_rank → (root : ℕ) → 0 < root → root ≤ roots
    → (depth height page : ℕ) → height_of m root ≡ above depth (suc height) → page_below m key depth root ≡ page → PathPage m height root (child_for key 0 (m page).records)
PathPage-child most m bits roots law key in-range root some le depth height page tall at =
    subst (PathPage m height root) (page_below-child m key depth root ∙ ap (λ n. child_for key 0 (m n).records) at)
    (PathPage-below most m bits roots law key in-range root some le (suc depth) height (tall ∙ above-suc depth height))

pub PathPage-other : (m : PageMemory) (height root page : ℕ) → PathPage m height root page → (n : ℕ) → height < (m n).level → n ≢ page
PathPage-other m height root page p n l e = let x = p.level in let y = ap (λ q. (m q).level) e in omega arith

-- a page of the path one level above pages that have changed: it is as it was, and the path leads to it still
pub record PathAbove (m new : PageMemory) (key : MapKey) (root depth height page : ℕ) : Type 0 where
  pub kind : (m page).kind ≡ Tree
  pub level : (m page).level ≡ suc height
  pub same : new page ≡ m page
  pub tall : height_of new root ≡ above depth (suc height)
  pub path : page_below new key depth root ≡ page
  pub child : child_for key 0 (new page).records ≡ child_for key 0 (m page).records
  pub child_page : PathPage m height root (child_for key 0 (m page).records)
  pub child_path : page_below new key (suc depth) root ≡ child_for key 0 (m page).records

-- so it is where the pages above are as they were
pub PathAbove-changed : (most : ℕ → ℕ) (m new : PageMemory) (bits : ℕ → ℕ) (roots : ℕ) → IsLawfulUpTo most m bits roots → (key : MapKey) → rank key < end_rank → (root : ℕ) → 0 < root → root ≤ roots
    → (depth height page : ℕ) → height_of m root ≡ above depth (suc height) → page_below m key depth root ≡ page
    → ((n : ℕ) → (m n).kind ≡ Tree → height < (m n).level → new n ≡ m n) → PathAbove m new key root depth height page
PathAbove-changed most m new bits roots law key in-range root some le depth height page tall at upper =
    let t = subst (λ h. IsTree m h (top_of root)) tall (law.trees root some le).0.tree in
    let p = subst (PathPage m (suc height) root) at (PathPage-below most m bits roots law key in-range root some le depth (suc height) tall) in
    let l = above-le depth (suc height) in
    let low = p.level in
    let same : new page ≡ m page = upper page p.kind (omega arith) in
    let top : new root ≡ m root = upper root (kind-root m (height_of m root) root (law.trees root some le).0.tree) (omega arith) in
    let path : page_below new key depth root ≡ page =
    page_below-same m new key (suc height) depth (top_of root) root (λ n k x. upper n k (omega arith)) t.nodes (IsPageFor-top key root in-range) ∙ at in
    let child : child_for key 0 (new page).records ≡ child_for key 0 (m page).records = ap (λ (q : PageState). child_for key 0 q.records) same in
    record {
      kind = p.kind;
      level = p.level;
      same = same;
      tall = ap (λ (q : PageState). q.level) top ∙ tall;
      path = path;
      child = child;
      child_page = PathPage-child most m bits roots law key in-range root some le depth height page tall at;
      child_path = page_below-child new key depth root ∙ (ap (λ n. child_for key 0 (new n).records) path ∙ child);
    }
