-- The leaves that a scan holds stand one behind another in the tree.
use Rattle.std.specs.List.{AllByRecursion}
use Rattle.std.proofs.Common.{◌≡◌, ◌≢◌, inl, inr, ℕ, zero, suc, ◌+◌, ◌<◌, ◌≤◌, List, [], ◌∷◌, ◌++◌, Some, map, length, slice_get, refl, sym, ap, subst, ◌∙◌, arith, append_assoc, append-nil, length-append}
use Rattle.std.proofs.lemmas.List.{map-append, length-map}
use Rattle.std.proofs.lemmas.Bool.{cases_eq}
use Rattle.ib_map.specs.Keys.{MapKey, rank, end_rank}
use Rattle.ib_map.proofs.RiseLaws.{Rises-le}
use Rattle.ib_levels.specs.declared.level.Mode.TheVariants.{S}
use Rattle.ib_page.specs.Image.{next_of, records_of}
use Rattle.ib_walk.specs.Pages.{Tree, PageMemory}
use Rattle.ib_walk.specs.Walk.{Visit, counts_page, counts_visit, sum_of, records_along, first_page, AreLinked, IsLeafAt, IsTiled}
use Rattle.ib_walk.specs.Trees.{top_of, height_of, leaves_of, weight_of, times_met, IsTreeOf, IsLawful}
use Rattle.ib_walk.specs.Chunk.{AreBelow}
use Rattle.ib_walk.proofs.MeetLaws.{counts_page-own, lowest-le_weight}
use Rattle.ib_walk.proofs.SearchLaws.{AllByRecursion-at, IsTiled-left, Rises-records_along}
use Rattle.ib_walk.proofs.TreeLaws.{weight_of-le, IsTiled-leaves}
use Rattle.ib_walk.proofs.WalkLaws.{AllByRecursion-append, AllByRecursion-left, sum_of-append}
use Rattle.ib_cursor.specs.Grants.{Grant, page_grant, IsAway}
use Rattle.ib_cursor.proofs.NextLaws.{leaf-met, linked-at}
use Rattle.ib_scan.specs.Walked.{ReadLeaf, first_read, ArePassed, leaf_grants}
use Rattle.ib_scan.specs.Leaves.{IsBehind, leaf_pages}
use Rattle.ib_scan.specs.Steps.{AreApart}
use Rattle.ib_scan.proofs.KeyLaws.{rises_below}
use Rattle.ib_walk.proofs.CountLaws.{bits-met}

-- a leaf is met once, and is a page of the space but not page 0
pub record AreMetOnce (pages : ℕ) (m : PageMemory) (root : ℕ) : Type 0 where
  pub once : (n : ℕ) → sum_of (counts_page n 0) (leaves_of m root) ≤ 1
  pub none : sum_of (counts_page 0 0) (leaves_of m root) ≡ 0
  pub inside : (n : ℕ) → 0 < sum_of (counts_page n 0) (leaves_of m root) → n < pages

pub met_once : (pages : ℕ) (m : PageMemory) (bits : ℕ → ℕ) (roots root : ℕ) → IsLawful m bits roots → 0 < root → root ≤ roots → ((n : ℕ) → 0 < bits n → n < pages) → AreMetOnce pages m root
met_once pages m bits roots root law some le within =
    let most : (n : ℕ) → sum_of (counts_page n 0) (leaves_of m root) ≤ times_met m roots n = λ n.
    let a = lowest-le_weight (counts_page n) m (height_of m root) (top_of root) in
    let b = weight_of-le (counts_page n) m root roots some le in omega arith in
    record {
      once = λ n. let a = most n in let b = bits-met law n in let c = law.bit n in omega arith;
      none = let a = most 0 in let b = bits-met law 0 in let c = law.bit 0 in omega arith;
      inside = λ n lt. within n (let a = most n in let b = bits-met law n in omega arith);
    }

abbrev pub grant_at : Visit → Grant
grant_at v = page_grant v.page S

-- pages that are not met are not held, and pages that are met once are held apart
pub away_from : (n : ℕ) (vs : List Visit) → sum_of (counts_page n 0) vs ≡ 0 → IsAway (n + 2) (map grant_at vs)
away_from n [] z = tt
away_from n (v ∷ vs) z = ((λ f. let q : v.page ≡ n = omega (arith, f) in let one = counts_page-own n 0 v q in omega (arith, one, z)), away_from n vs (omega (arith, z)))

pub apart_in : (vs : List Visit) → ((n : ℕ) → sum_of (counts_page n 0) vs ≤ 1) → AreApart (map grant_at vs)
apart_in [] once = tt
apart_in (v ∷ vs) once = (away_from v.page vs (let one = counts_page-own v.page 0 v refl in let a = once v.page in omega arith), apart_in vs (λ n. let a = once n in omega arith))

-- no more of them are there than pages
abbrev all_met : ℕ → List Visit → ℕ
all_met zero vs = 0
all_met (suc n) vs = all_met n vs + sum_of (counts_page n 0) vs

all-most : (n : ℕ) (vs : List Visit) → ((k : ℕ) → sum_of (counts_page k 0) vs ≤ 1) → all_met n vs ≤ n
all-most zero vs h = omega arith
all-most (suc n) vs h = let r = all-most n vs h in let k = h n in omega arith

all-cons : (n : ℕ) (v : Visit) (vs : List Visit) → all_met n (v ∷ vs) ≡ all_met n (v ∷ []) + all_met n vs
all-cons zero v vs = refl
all-cons (suc n) v vs = let r = all-cons n v vs in omega arith

all-one : (n : ℕ) (v : Visit) → v.page < n → 1 ≤ all_met n (v ∷ [])
all-one zero v lt = absurd (omega arith)
all-one (suc n) v lt = elim (cases_eq v.page n) [
  | inl e ↦ let one = counts_page-own n 0 v e in omega arith
  | inr ne ↦ let r = all-one n v (omega (arith, lt, ne)) in omega arith
]

all-length : (n : ℕ) (vs : List Visit) → AllByRecursion (λ v. v.page < n) vs → length vs ≤ all_met n vs
all-length n [] h = omega arith
all-length n (v ∷ vs) h = let r = all-length n vs h.1 in let o = all-one n v h.0 in let c = all-cons n v vs in omega arith

all-within : (pages : ℕ) (vs : List Visit) → ((n : ℕ) → 0 < sum_of (counts_page n 0) vs → n < pages) → AllByRecursion (λ v. v.page < pages) vs
all-within pages [] h = tt
all-within pages (v ∷ vs) h = (h v.page (let one = counts_page-own v.page 0 v refl in omega arith), all-within pages vs (λ n lt. h n (omega arith)))

pub few_leaves : (pages : ℕ) (m : PageMemory) (root : ℕ) → AreMetOnce pages m root → length (leaves_of m root) ≤ pages
few_leaves pages m root met =
    let a = all-most pages (leaves_of m root) met.once in
    let b = all-length pages (leaves_of m root) (all-within pages (leaves_of m root) met.inside) in omega arith

-- the leaves held, as the walk meets them: all before the last one have only keys below the start
pub record Stands (m : PageMemory) (root : ℕ) (start : MapKey) (ps : List ReadLeaf) (page : ℕ) : Type 0 where
  pub before : List Visit
  pub passed : List Visit
  pub visit : Visit
  pub behind : List Visit
  pub is : leaves_of m root ≡ (before ++ passed) ++ visit ∷ behind
  pub grants : leaf_grants ps ≡ map grant_at passed
  pub here : visit.page ≡ page
  pub below : AllByRecursion (λ v. AreBelow start (m v.page).records) (before ++ passed)

-- leaves whose ranges end not above the start have only keys below it
tiled-below : (m : PageMemory) (low : ℕ) (vs : List Visit) (high : ℕ) (start : MapKey) → AllByRecursion (IsLeafAt m) vs → IsTiled low vs high → high ≤ rank start → AllByRecursion (λ v. AreBelow start (m v.page).records) vs
tiled-below m low [] high start leaves tiles le = tt
tiled-below m low (v ∷ vs) high start leaves tiles le = (
  let up = Rises-le v.high (records_along m vs) high (Rises-records_along m v.high vs high leaves.1 tiles.1) in rises_below v.low (m v.page).records v.high start (omega arith) leaves.0.within,
  tiled-below m v.high vs high start leaves.1 tiles.1 le,
)

-- the first element behind others
slice_get-seam : (xs : List ℕ) (y : ℕ) (ys : List ℕ) (i : ℕ) → i ≡ length xs → slice_get (xs ++ y ∷ ys) i ≡ Some y
slice_get-seam [] y ys zero e = refl
slice_get-seam [] y ys (suc i) e = absurd (omega arith)
slice_get-seam (x ∷ xs) y ys zero e = absurd (omega arith)
slice_get-seam (x ∷ xs) y ys (suc i) e = slice_get-seam xs y ys i (omega arith)

-- the first of the leaves that are held is the first of those that the walk meets
first-page : (ps : List ReadLeaf) (last : ReadLeaf) (passed : List Visit) (v : Visit) (vs : List Visit) → leaf_grants ps ≡ map grant_at passed → v.page ≡ last.page
    → (tail : List ℕ) × (map (λ (w : Visit). w.page) (passed ++ v ∷ vs) ≡ (first_read ps last).page ∷ tail)
first-page [] last [] v vs e here = (map (λ (w : Visit). w.page) vs, ap (λ n. n ∷ map (λ (w : Visit). w.page) vs) here)
first-page [] last (w ∷ ws) v vs e here = absurd cc
first-page (p ∷ ps) last [] v vs e here = absurd cc
first-page (p ∷ ps) last (w ∷ ws) v vs e here =
    let grants : page_grant p.page S ≡ page_grant w.page S = cc in
    let latches = ap (λ (g : Grant). g.latch) grants in
    let same : w.page ≡ p.page = omega arith in
    (map (λ (u : Visit). u.page) (ws ++ v ∷ vs), ap (λ n. n ∷ map (λ (u : Visit). u.page) (ws ++ v ∷ vs)) same)

-- the last of the leaves that are held is so many leaves behind the first one
pub stands_behind : (m : PageMemory) (root : ℕ) (start : MapKey) (ps : List ReadLeaf) (last : ReadLeaf) → Stands m root start ps last.page → IsBehind m root (first_read ps last).page last.page (length ps)
stands_behind m root start ps last s =
    let page = λ (v : Visit). v.page in
    let first = first-page ps last s.passed s.visit s.behind s.grants s.here in
    let all : leaf_pages m root ≡ map page s.before ++ (first_read ps last).page ∷ first.0 =
    ap (map page) (s.is ∙ append_assoc s.before s.passed (s.visit ∷ s.behind)) ∙ (map-append page s.before (s.passed ++ s.visit ∷ s.behind) ∙ ap (λ xs. map page s.before ++ xs) first.1) in
    let to : leaf_pages m root ≡ map page (s.before ++ s.passed) ++ last.page ∷ map page s.behind =
    ap (map page) s.is ∙ (map-append page (s.before ++ s.passed) (s.visit ∷ s.behind) ∙ ap (λ n. map page (s.before ++ s.passed) ++ n ∷ map page s.behind) s.here) in
    let same : length ps ≡ length s.passed = sym (length-map ps (λ (q : ReadLeaf). page_grant q.page S)) ∙ (ap length s.grants ∙ length-map s.passed grant_at) in
    let before = length-map s.before page in
    let both = length-map (s.before ++ s.passed) page in
    let sum = length-append s.before s.passed in
    record {
      index = length s.before;
      from_there = ap (λ xs. slice_get xs (length s.before)) all ∙ slice_get-seam (map page s.before) (first_read ps last).page first.0 (length s.before) (sym before);
      to_there = ap (λ xs. slice_get xs (length s.before + length ps)) to ∙ slice_get-seam (map page (s.before ++ s.passed)) last.page (map page s.behind) (length s.before + length ps) (omega arith);
    }

-- what the image of a leaf says, the memory says
pub record IsSameLeaf (m : PageMemory) (p : ReadLeaf) : Type 0 where
  pub next : (m p.page).next ≡ next_of p.image
  pub records : (m p.page).records ≡ records_of p.image

module _ (m : PageMemory) (root : ℕ) (t : IsTreeOf m (height_of m root) root) (start : MapKey) where
  -- the link of the leaf names the one behind it
  pub link_behind : (ps : List ReadLeaf) (page : ℕ) (s : Stands m root start ps page) → (m page).next ≡ first_page s.behind 0
  link_behind ps page s = ap (λ k. (m k).next) (sym s.here) ∙ linked-at m 0 (s.before ++ s.passed) s.visit s.behind 0 (subst (λ ws. AreLinked m 0 ws 0) s.is t.linked)

  pub stands_leaf : (ps : List ReadLeaf) (page : ℕ) (s : Stands m root start ps page) → IsLeafAt m s.visit
  stands_leaf ps page s = AllByRecursion-at (IsLeafAt m) (s.before ++ s.passed) s.visit s.behind (subst (AllByRecursion (IsLeafAt m)) s.is t.tree.leaves)

  pub stands_kind : (ps : List ReadLeaf) (page : ℕ) → Stands m root start ps page → (m page).kind ≡ Tree
  stands_kind ps page s = subst (λ k. (m k).kind ≡ Tree) s.here (stands_leaf ps page s).kind

  -- one leaf further
  further : (qs : List ReadLeaf) (p : ReadLeaf) (next : ℕ) → Stands m root start qs p.page → (m p.page).next ≡ next → next ≢ 0 → AreBelow start (m p.page).records → Stands m root start (qs ++ p ∷ []) next
  further qs p next s link some below = go s.behind s.is (sym (link_behind qs p.page s) ∙ link)
    where
      go : (vs : List Visit) → leaves_of m root ≡ (s.before ++ s.passed) ++ s.visit ∷ vs → first_page vs 0 ≡ next → Stands m root start (qs ++ p ∷ []) next
      go [] is e = absurd (some (sym e))
      go (x ∷ xs) is e = record {
        before = s.before;
        passed = s.passed ++ s.visit ∷ [];
        visit = x;
        behind = xs;
        is = is ∙ (sym (append_assoc (s.before ++ s.passed) (s.visit ∷ []) (x ∷ xs)) ∙ ap (λ ws. ws ++ x ∷ xs) (append_assoc s.before s.passed (s.visit ∷ [])));
        grants = map-append (λ (q : ReadLeaf). page_grant q.page S) qs (p ∷ [])
            ∙ (ap (λ gs. gs ++ page_grant p.page S ∷ []) s.grants ∙ (ap (λ n. map grant_at s.passed ++ page_grant n S ∷ []) (sym s.here) ∙ sym (map-append grant_at s.passed (s.visit ∷ []))));
        here = e;
        below = subst (AllByRecursion (λ v. AreBelow start (m v.page).records)) (append_assoc s.before s.passed (s.visit ∷ []))
            (AllByRecursion-append (λ v. AreBelow start (m v.page).records) (s.before ++ s.passed) (s.visit ∷ []) s.below (subst (λ k. AreBelow start (m k).records) (sym s.here) below, tt));
      }

  onward : (I : ReadLeaf → Type 0) → ((p : ReadLeaf) → (m p.page).kind ≡ Tree → I p → IsSameLeaf m p) → (qs ps : List ReadLeaf) (last : ReadLeaf) → Stands m root start qs (first_read ps last).page → ArePassed start ps last → AllByRecursion I ps
      → Stands m root start (qs ++ ps) last.page
  onward I read qs [] last s a e = subst (λ rs. Stands m root start rs last.page) (sym (append-nil qs)) s
  onward I read qs (p ∷ ps) last s a e =
      let l = read p (stands_kind qs p.page s) e.0 in
      subst (λ rs. Stands m root start rs last.page) (append_assoc qs (p ∷ []) ps)
      (onward I read (qs ++ p ∷ []) ps last (further qs p (first_read ps last).page s (l.next ∙ a.1) (λ z. a.0.some (a.1 ∙ z)) (subst (AreBelow start) (sym l.records) a.0.below)) a.2 e.1)

  begins : (page low high : ℕ) → 0 < weight_of (counts_visit 0 (record { page = page; low = low; high = high })) m root → low ≤ rank start → Stands m root start [] page
  begins page low high met le =
      let v : Visit = record { page = page; low = low; high = high } in
      let l = leaf-met m root (record { page = page; low = low; high = high }) met in
      let tiles = IsTiled-left 0 l.before v l.behind end_rank (subst (λ vs. IsTiled 0 vs end_rank) l.is (IsTiled-leaves m root t)) in
      record {
        before = l.before;
        passed = [];
        visit = v;
        behind = l.behind;
        is = l.is ∙ ap (λ ws. ws ++ v ∷ l.behind) (sym (append-nil l.before));
        grants = refl;
        here = refl;
        below = subst (AllByRecursion (λ v. AreBelow start (m v.page).records)) (sym (append-nil l.before))
            (tiled-below m 0 l.before low start (AllByRecursion-left (IsLeafAt m) l.before (v ∷ l.behind) (subst (AllByRecursion (IsLeafAt m)) l.is t.tree.leaves)) tiles le);
      }

  pub stands_at : (I : ReadLeaf → Type 0) → ((p : ReadLeaf) → (m p.page).kind ≡ Tree → I p → IsSameLeaf m p) → (ps : List ReadLeaf) (last : ReadLeaf) (low high : ℕ)
      → 0 < weight_of (counts_visit 0 (record { page = (first_read ps last).page; low = low; high = high })) m root → low ≤ rank start → ArePassed start ps last → AllByRecursion I ps → Stands m root start ps last.page
  stands_at I read ps last low high met le a e = onward I read [] ps last (begins (first_read ps last).page low high met le) a e

  -- the leaf behind is a page of the space, and none of those that are held
  pub record IsFresh (pages next : ℕ) (ps : List ReadLeaf) (page : ℕ) : Type 0 where
    pub inside : next < pages
    pub away : IsAway (next + 2) (leaf_grants ps ++ page_grant page S ∷ [])
    pub few : length ps + 2 ≤ pages

  module _ (pages : ℕ) (met : AreMetOnce pages m root) (ps : List ReadLeaf) (page : ℕ) (s : Stands m root start ps page) where
    grants-are : leaf_grants ps ++ page_grant page S ∷ [] ≡ map grant_at (s.passed ++ s.visit ∷ [])
    grants-are = ap (λ gs. gs ++ page_grant page S ∷ []) s.grants ∙ (ap (λ n. map grant_at s.passed ++ page_grant n S ∷ []) (sym s.here) ∙ sym (map-append grant_at s.passed (s.visit ∷ [])))

    sum-is : (n : ℕ) → sum_of (counts_page n 0) (leaves_of m root) ≡ sum_of (counts_page n 0) s.before + sum_of (counts_page n 0) (s.passed ++ s.visit ∷ []) + sum_of (counts_page n 0) s.behind
    sum-is n =
        let a = ap (sum_of (counts_page n 0)) s.is in
        let b = sum_of-append (counts_page n 0) (s.before ++ s.passed) (s.visit ∷ s.behind) in
        let c = sum_of-append (counts_page n 0) s.before s.passed in
        let d = sum_of-append (counts_page n 0) s.passed (s.visit ∷ []) in omega arith

    -- the grants are on pages of their own
    pub held_apart : AreApart (leaf_grants ps ++ page_grant page S ∷ [])
    held_apart = subst AreApart (sym grants-are) (apart_in (s.passed ++ s.visit ∷ []) (λ n. let a = sum-is n in let b = met.once n in omega arith))

    pub behind_fresh : (next : ℕ) → (m page).next ≡ next → next ≢ 0 → IsFresh pages next ps page
    behind_fresh next link some = go s.behind refl
      where
        go : (vs : List Visit) → s.behind ≡ vs → IsFresh pages next ps page
        go [] e = absurd (some (sym link ∙ (link_behind ps page s ∙ ap (λ ws. first_page ws 0) e)))
        go (x ∷ xs) e =
            let at : x.page ≡ next = sym (ap (λ ws. first_page ws 0) e) ∙ (sym (link_behind ps page s) ∙ link) in
            let one = counts_page-own next 0 x at in
            let rest : sum_of (counts_page next 0) s.behind ≡ counts_page next 0 x + sum_of (counts_page next 0) xs = ap (sum_of (counts_page next 0)) e in
            let all = sum-is next in
            let most = met.once next in
            let many = few_leaves pages m root met in
            let len = ap length s.is in
            let len1 = length-append (s.before ++ s.passed) (s.visit ∷ s.behind) in
            let len2 = length-append s.before s.passed in
            let len3 : length s.behind ≡ length xs + 1 = ap length e ∙ (omega arith) in
            let same : length ps ≡ length s.passed = sym (length-map ps (λ (q : ReadLeaf). page_grant q.page S)) ∙ (ap length s.grants ∙ length-map s.passed grant_at) in
            record {
              inside = met.inside next (omega arith);
              away = subst (IsAway (next + 2)) (sym grants-are) (away_from next (s.passed ++ s.visit ∷ []) (omega arith));
              few = omega arith;
            }
