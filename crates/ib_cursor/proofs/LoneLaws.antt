-- An entry that writes one page leaves every page's range and level, its own page's too, and the links of every leaf.
use Rattle.std.specs.List.{AllByRecursion, list_any}
use Rattle.std.specs.Prelude.{not}
use Rattle.std.proofs.Common.{◌≡◌, ◌≢◌, ◌⊎◌, inl, inr, ℕ, zero, suc, ◌+◌, ◌<◌, ◌≤◌, true, false, List, [], ◌∷◌, ◌++◌, length, refl, sym, ap, subst, ◌∙◌, arith, eqb}
use Rattle.std.proofs.lemmas.Bool.{cases_eq, eq-eqb, ne_eqb}
use Rattle.ib_map.specs.Keys.{rank, end_rank}
use Rattle.ib_map.specs.Pairs.{Pairs, Rises, first_rank}
use Rattle.ib_map.specs.Writes.{page_at, touches, spans_pages}
use Rattle.ib_map.specs.declared.write.Write.{Write}
use Rattle.ib_walk.specs.Pages.{PageMemory}
use Rattle.ib_walk.specs.Walk.{Visit, children_of, children, below, sum_of, weight_along, counts_visit, IsNodeAt, AreNodes, IsTree, IsTiled, AreLinked}
use Rattle.ib_walk.specs.Trees.{top_of, height_of, leaves_of, weight_of, IsTreeOf}
use Rattle.ib_walk.proofs.SearchLaws.{above, IsTiled-below}
use Rattle.ib_validate.specs.Patch.{IsGoodAt}
use Rattle.ib_plans.proofs.LevelLaws.{above-sum, level-le_weight}
use Rattle.ib_tree.proofs.PatchLaws.{counts_visit-own, IsGoodAt-tree, end_rank-some}
use Rattle.ib_tree.proofs.ContentLaws.{below-children}
use Rattle.ib_cursor.proofs.OnPathLaws.{IsIn, latch_page}

-- where a visit is in a list
in-left : (v : Visit) (xs ys : List Visit) → IsIn v xs → IsIn v (xs ++ ys)
in-left v [] ys h = absurd h
in-left v (x ∷ xs) ys (inl e) = inl e
in-left v (x ∷ xs) ys (inr h) = inr (in-left v xs ys h)

in-right : (v : Visit) (xs ys : List Visit) → IsIn v ys → IsIn v (xs ++ ys)
in-right v [] ys h = h
in-right v (x ∷ xs) ys h = inr (in-right v xs ys h)

in-append : (v : Visit) (xs ys : List Visit) → IsIn v (xs ++ ys) → IsIn v xs ⊎ IsIn v ys
in-append v [] ys h = inr h
in-append v (x ∷ xs) ys (inl e) = inl (inl e)
in-append v (x ∷ xs) ys (inr h) = elim (in-append v xs ys h) [ inl a ↦ inl (inr a) | inr b ↦ inr b ]

in-each : (P : Visit → Type 0) (v : Visit) (vs : List Visit) → AllByRecursion P vs → IsIn v vs → P v
in-each P v [] a h = absurd h
in-each P v (x ∷ xs) a (inl e) = subst P (sym e) a.0
in-each P v (x ∷ xs) a (inr h) = in-each P v xs a.1 h

in-counts : (h : ℕ) (v : Visit) (vs : List Visit) → IsIn v vs → 0 < sum_of (counts_visit h v h) vs
in-counts h v [] i = absurd i
in-counts h v (x ∷ xs) (inl e) = let o = counts_visit-own h v in let s : counts_visit h v h x ≡ 1 = subst (λ u. counts_visit h v h u ≡ 1) e o in omega arith
in-counts h v (x ∷ xs) (inr i) = let r = in-counts h v xs i in omega arith

-- the visit above one
record HasParent (m : PageMemory) (v : Visit) (vs : List Visit) : Type 0 where
  pub visit : Visit
  pub there : IsIn visit vs
  pub child : IsIn v (children_of (m visit.page).records visit.high)

parent-of : (m : PageMemory) (v : Visit) (vs : List Visit) → IsIn v (children m vs) → HasParent m v vs
parent-of m v [] h = absurd h
parent-of m v (x ∷ xs) h = elim (in-append v (children_of (m x.page).records x.high) (children m xs) h) [
  | inl a ↦ record { visit = x; there = inl refl; child = a }
  | inr b ↦ let r = parent-of m v xs b in record { visit = r.visit; there = inr r.there; child = r.child }
]

child-in : (m : PageMemory) (v x : Visit) (vs : List Visit) → IsIn x vs → IsIn v (children_of (m x.page).records x.high) → IsIn v (children m vs)
child-in m v x [] h k = absurd h
child-in m v x (y ∷ ys) (inl e) k = in-left v (children_of (m y.page).records y.high) (children m ys) (subst (λ z. IsIn v (children_of (m z.page).records z.high)) e k)
child-in m v x (y ∷ ys) (inr h) k = in-right v (children_of (m y.page).records y.high) (children m ys) (child-in m v x ys h k)

-- what stands on a level is met
weight-in : (f : ℕ → Visit → ℕ) (m : PageMemory) (depth level : ℕ) (vs : List Visit) → sum_of (f level) (below m depth vs) ≤ weight_along f m (above depth level) vs
weight-in f m zero level vs = level-le_weight f m level vs
weight-in f m (suc depth) level vs = let r = weight-in f m depth level (children m vs) in omega arith

in-met : (m : PageMemory) (root depth level : ℕ) (v : Visit) → depth + level ≡ height_of m root → IsIn v (below m depth (top_of root)) → 0 < weight_of (counts_visit level v) m root
in-met m root depth level v h i =
    let c = in-counts level v (below m depth (top_of root)) i in
    let w = weight-in (counts_visit level v) m depth level (top_of root) in
    let e = ap (λ n. weight_along (counts_visit level v) m n (top_of root)) (above-sum depth level ∙ h) in omega arith

-- ranges with something in them, side by side: a list of them is told by what is in it
tiles-le : (low : ℕ) (vs : List Visit) (high : ℕ) → IsTiled low vs high → AllByRecursion (λ (v : Visit). v.low < v.high) vs → low ≤ high
tiles-le low [] high t w = omega (arith, t)
tiles-le low (x ∷ xs) high t w = let r = tiles-le x.high xs high t.1 w.1 in let a = t.0 in let b = w.0 in omega arith

tiles-from : (low : ℕ) (vs : List Visit) (high : ℕ) (v : Visit) → IsTiled low vs high → AllByRecursion (λ (v : Visit). v.low < v.high) vs → IsIn v vs → low ≤ v.low
tiles-from low [] high v t w i = absurd i
tiles-from low (x ∷ xs) high v t w (inl e) = let a = t.0 in let b = ap (λ (u : Visit). u.low) e in omega arith
tiles-from low (x ∷ xs) high v t w (inr i) = let r = tiles-from x.high xs high v t.1 w.1 i in let a = t.0 in let b = w.0 in omega arith

tiles-same : (low : ℕ) (xs ys : List Visit) (high : ℕ) → IsTiled low xs high → IsTiled low ys high → AllByRecursion (λ (v : Visit). v.low < v.high) xs → AllByRecursion (λ (v : Visit). v.low < v.high) ys
    → ((v : Visit) → IsIn v xs → IsIn v ys) → ys ≡ xs
tiles-same low [] [] high s t a b f = refl
tiles-same low [] (y ∷ ys) high s t a b f = absurd (let r = tiles-le y.high ys high t.1 b.1 in let c = t.0 in let d = b.0 in omega (arith, s))
tiles-same low (x ∷ xs) [] high s t a b f = absurd (f x (inl refl))
tiles-same low (x ∷ xs) (y ∷ ys) high s t a b f =
    let e : x ≡ y = first (f x (inl refl)) in
    let h = ap (λ (u : Visit). u.high) e in
    let r = tiles-same x.high xs ys high s.1 (subst (λ n. IsTiled n ys high) (sym h) t.1) a.1 b.1 (λ v i. later v i (f v (inr i))) in
    ap (λ u. u ∷ ys) (sym e) ∙ ap (λ us. x ∷ us) r
  where
    first : IsIn x (y ∷ ys) → x ≡ y
    first (inl e) = e
    first (inr i) = absurd (let r = tiles-from y.high ys high x t.1 b.1 i in let c = s.0 in let d = t.0 in let g = b.0 in omega arith)

    later : (v : Visit) → IsIn v xs → IsIn v (y ∷ ys) → IsIn v ys
    later v i (inl e) = absurd (let r = tiles-from x.high xs high v s.1 a.1 i in let c = s.0 in let d = t.0 in let g = a.0 in let k = ap (λ (u : Visit). u.low) e in omega arith)
    later v i (inr j) = j

-- the children of a node have something in their ranges
wide-children : (low : ℕ) (rs : Pairs) (high : ℕ) → Rises low rs high → AllByRecursion (λ (v : Visit). v.low < v.high) (children_of rs high)
wide-children low [] high r = tt
wide-children low (x ∷ xs) high r = (first xs r.1, wide-children (rank x.0 + 1) xs high r.1)
  where
    first : (ys : Pairs) → Rises (rank x.0 + 1) ys high → rank x.0 < first_rank ys high
    first [] h = omega (arith, h)
    first (y ∷ ys) h = omega (arith, h.0)

wide-append : (xs ys : List Visit) → AllByRecursion (λ (v : Visit). v.low < v.high) xs → AllByRecursion (λ (v : Visit). v.low < v.high) ys → AllByRecursion (λ (v : Visit). v.low < v.high) (xs ++ ys)
wide-append [] ys a b = b
wide-append (x ∷ xs) ys a b = (a.0, wide-append xs ys a.1 b)

wide-nodes : (m : PageMemory) (h : ℕ) (vs : List Visit) → AllByRecursion (IsNodeAt m h) vs → AllByRecursion (λ (v : Visit). v.low < v.high) (children m vs)
wide-nodes m h [] n = tt
wide-nodes m h (v ∷ vs) n = wide-append (children_of (m v.page).records v.high) (children m vs) (wide-children v.low (m v.page).records v.high n.0.within) (wide-nodes m h vs n.1)

wide-below : (m : PageMemory) (depth level : ℕ) (vs : List Visit) → AreNodes m (above depth level) vs → AllByRecursion (λ (v : Visit). v.low < v.high) vs → AllByRecursion (λ (v : Visit). v.low < v.high) (below m depth vs)
wide-below m zero level vs n w = w
wide-below m (suc depth) level vs n w = wide-below m depth level (children m vs) n.1 (wide-nodes m (suc (above depth level)) vs n.0)

-- what the page of a visit says of its level
good-level : (m : PageMemory) (level : ℕ) (v : Visit) → IsGoodAt m level v → (m v.page).level ≡ level
good-level m zero v g = g.level
good-level m (suc level) v g = g.level

-- the first child of a root that is a node
record HasFirst (m : PageMemory) (root : ℕ) : Type 0 where
  pub visit : Visit
  pub there : IsIn visit (below m 1 (top_of root))

first-child : (m : PageMemory) (root level : ℕ) → IsTree m (suc level) (top_of root) → HasFirst m root
first-child m root level t = go (m root).records t.nodes.0.0.some refl
  where
    go : (rs : Pairs) → 0 < length rs → (m root).records ≡ rs → HasFirst m root
    go [] some is = absurd (omega arith)
    go (x ∷ xs) some is =
        let v : Visit = record { page = x.1; low = rank x.0; high = first_rank xs end_rank } in
        record { visit = v; there = in-left v (children_of (m root).records end_rank) [] (subst (λ rs. IsIn v (children_of rs end_rank)) (sym is) (inl refl)) }

-- two trees under one root that agree on every page but one, and on where the others are met
pub record IsLone (m new : PageMemory) (root page : ℕ) : Type 0 where
  pub was : IsTreeOf m (height_of m root) root
  pub is : IsTreeOf new (height_of new root) root
  pub same : (n : ℕ) → n ≢ page → new n ≡ m n
  pub stays : (level : ℕ) (v : Visit) → v.page ≢ page → 0 < weight_of (counts_visit level v) m root → 0 < weight_of (counts_visit level v) new root
  pub stayed : (level : ℕ) (v : Visit) → v.page ≢ page → 0 < weight_of (counts_visit level v) new root → 0 < weight_of (counts_visit level v) m root

turned : (m new : PageMemory) (root page : ℕ) → IsLone m new root page → IsLone new m root page
turned m new root page a = record { was = a.is; is = a.was; same = λ n ne. sym (a.same n ne); stays = a.stayed; stayed = a.stays }

-- the other root is no lower
root-le : (m new : PageMemory) (root page level : ℕ) → IsLone m new root page → page ≡ root → height_of m root ≡ level → level ≤ height_of new root
root-le m new root page zero a e h = omega arith
root-le m new root page (suc level) a e h =
    let t = subst (λ n. IsTree m n (top_of root)) h a.was.tree in
    let k = first-child m root level t in
    let met = in-met m root 1 level k.visit (omega (arith, h)) k.there in
    let at = good-level m level k.visit (IsGoodAt-tree m (height_of m root) (top_of root) a.was.tree level k.visit met) in
    let ne : k.visit.page ≢ page = λ q. let z = ap (λ n. (m n).level) (q ∙ e) in omega (arith, z, at, h) in
    let s = latch_page new (height_of new root) level k.visit (top_of root) (a.stays level k.visit ne met) in
    go k.visit s.depth s.height s.there (λ q. ne (q ∙ sym e))
  where
    go : (v : Visit) (depth : ℕ) → depth + level ≡ height_of new root → IsIn v (below new depth (top_of root)) → (v.page ≢ root) → suc level ≤ height_of new root
    go v zero q (inl i) ne = absurd (ne (ap (λ (u : Visit). u.page) i))
    go v zero q (inr i) ne = absurd i
    go v (suc depth) q i ne = omega (arith, q)

pub lone_height : (m new : PageMemory) (root page : ℕ) → IsLone m new root page → height_of new root ≡ height_of m root
lone_height m new root page a = elim (cases_eq page root) [
  | inl e ↦ let x = root-le m new root page (height_of m root) a e refl in let y = root-le new m root page (height_of new root) (turned m new root page a) e refl in omega arith
  | inr ne ↦ ap (λ s. s.level) (a.same root (λ e. ne (sym e)))
]

tree-nodes : (m : PageMemory) (root depth level : ℕ) → IsTreeOf m (height_of m root) root → depth + level ≡ height_of m root → AreNodes m (above depth level) (top_of root)
tree-nodes m root depth level t h = let u : IsTree m (above depth level) (top_of root) = subst (λ n. IsTree m n (top_of root)) (sym (above-sum depth level ∙ h)) t.tree in u.nodes

-- every level has the same visits
pub lone_below : (m new : PageMemory) (root page : ℕ) → IsLone m new root page → (depth level : ℕ) → depth + level ≡ height_of m root → below new depth (top_of root) ≡ below m depth (top_of root)
lone_below m new root page a zero level h = refl
lone_below m new root page a (suc depth) level h =
    let up = lone_below m new root page a depth (suc level) (omega (arith, h)) in
    let high = lone_height m new root page a in
    let n = tree-nodes m root (suc depth) level a.was h in
    let k = tree-nodes new root (suc depth) level a.is (h ∙ sym high) in
    let top : AllByRecursion (λ (v : Visit). v.low < v.high) (top_of root) = (end_rank-some, tt) in
    tiles-same 0 (below m (suc depth) (top_of root)) (below new (suc depth) (top_of root)) end_rank
    (IsTiled-below m (suc depth) level 0 (top_of root) end_rank n (refl, refl)) (IsTiled-below new (suc depth) level 0 (top_of root) end_rank k (refl, refl))
    (wide-below m (suc depth) level (top_of root) n top) (wide-below new (suc depth) level (top_of root) k top) (there up high)
  where
    level-is : (v : Visit) → IsIn v (below m (suc depth) (top_of root)) → (m v.page).level ≡ level
    level-is v i = good-level m level v (IsGoodAt-tree m (height_of m root) (top_of root) a.was.tree level v (in-met m root (suc depth) level v h i))

    there : below new depth (top_of root) ≡ below m depth (top_of root) → height_of new root ≡ height_of m root → (v : Visit) → IsIn v (below m (suc depth) (top_of root)) → IsIn v (below new (suc depth) (top_of root))
    there up high v i = elim (cases_eq v.page page) [
      | inr ne ↦
          let s = latch_page new (height_of new root) level v (top_of root) (a.stays level v ne (in-met m root (suc depth) level v h i)) in
          let d : s.depth ≡ suc depth = let e = s.height in omega (arith, h, high) in
          subst (λ d. IsIn v (below new d (top_of root))) d s.there
      | inl e ↦
          let r = parent-of m v (below m depth (top_of root)) (subst (IsIn v) (below-children m depth (top_of root)) i) in
          let met = in-met m root depth (suc level) r.visit (omega (arith, h)) r.there in
          let at = good-level m (suc level) r.visit (IsGoodAt-tree m (height_of m root) (top_of root) a.was.tree (suc level) r.visit met) in
          let here = level-is v i in
          let ne : r.visit.page ≢ page = λ q. let z = ap (λ n. (m n).level) (q ∙ sym e) in omega (arith, z, at, here) in
          let child = subst (λ s. IsIn v (children_of s.records r.visit.high)) (sym (a.same r.visit.page ne)) r.child in
          let all = child-in new v r.visit (below new depth (top_of root)) (subst (IsIn r.visit) (sym up) r.there) child in
          subst (IsIn v) (sym (below-children new depth (top_of root))) all
    ]

-- so what is met stays met
pub lone_met : (m new : PageMemory) (root page : ℕ) → IsLone m new root page → (level : ℕ) (v : Visit) → 0 < weight_of (counts_visit level v) m root → 0 < weight_of (counts_visit level v) new root
lone_met m new root page a level v met =
    let s = latch_page m (height_of m root) level v (top_of root) met in
    in-met new root s.depth level v (s.height ∙ sym (lone_height m new root page a)) (subst (IsIn v) (sym (lone_below m new root page a s.depth level s.height)) s.there)

-- .. and a leaf's links stay
links-same : (m new : PageMemory) (prev : ℕ) (vs : List Visit) (next : ℕ) → AreLinked m prev vs next → AreLinked new prev vs next → (v : Visit) → IsIn v vs
    → ((new v.page).prev ≡ (m v.page).prev) × ((new v.page).next ≡ (m v.page).next)
links-same m new prev [] next a b v i = absurd i
links-same m new prev (x ∷ xs) next a b v (inl e) = subst (λ (u : Visit). ((new u.page).prev ≡ (m u.page).prev) × ((new u.page).next ≡ (m u.page).next)) (sym e) (b.0 ∙ sym a.0, b.1 ∙ sym a.1)
links-same m new prev (x ∷ xs) next a b v (inr i) = links-same m new x.page xs next a.2 b.2 v i

pub lone_links : (m new : PageMemory) (root page : ℕ) → IsLone m new root page → (v : Visit) → 0 < weight_of (counts_visit 0 v) m root
    → ((new v.page).prev ≡ (m v.page).prev) × ((new v.page).next ≡ (m v.page).next)
lone_links m new root page a v met =
    let s = latch_page m (height_of m root) 0 v (top_of root) met in
    let all : s.depth ≡ height_of m root = let h = s.height in omega arith in
    let high = lone_height m new root page a in
    let same : leaves_of new root ≡ leaves_of m root = ap (λ d. below new d (top_of root)) high ∙ lone_below m new root page a (height_of m root) 0 (omega arith) in
    links-same m new 0 (leaves_of m root) 0 a.was.linked (subst (λ vs. AreLinked new 0 vs 0) same a.is.linked) v (subst (λ d. IsIn v (below m d (top_of root))) all s.there)

-- writes on one page
pub record OnOne (ws : List Write) : Type 0 where
  pub page : ℕ
  pub other : (n : ℕ) → n ≢ page → touches n ws ≡ false

none-there : (page n : ℕ) (ws : List Write) → list_any (λ v. not (eqb (page_at v.place) page)) ws ≡ false → n ≢ page → touches n ws ≡ false
none-there page n [] h ne = refl
none-there page n (w ∷ ws) h ne = elim (cases_eq (page_at w.place) page) [
  | inl e ↦ let yes = eq-eqb (page_at w.place) page e in
      let other = ne_eqb (page_at w.place) n (λ q. ne (sym q ∙ e)) in rw other (none-there page n ws (rw yes at h) ne)
  | inr differ ↦ let other = ne_eqb (page_at w.place) page differ in let bad : true ≡ false = rw other at h in cc
]

pub one_page : (ws : List Write) → spans_pages ws ≡ false → OnOne ws
one_page [] h = record { page = 0; other = λ n ne. refl }
one_page (w ∷ ws) h = record {
  page = page_at w.place;
  other = λ n ne. let other = ne_eqb (page_at w.place) n (λ q. ne (sym q)) in rw other (none-there (page_at w.place) n ws h ne);
}
