-- The walk of a lawful tree down to its first leaf, and from there along the links.
use Rattle.std.specs.List.{AllByRecursion}
use Rattle.std.proofs.Common.{◌≡◌, ◌≢◌, ℕ, zero, suc, ◌+◌, ◌<◌, ◌≤◌, true, false, List, [], ◌∷◌, ◌++◌, length, take, drop, slice_get, Option, Some, None, refl, sym, ap, subst, ◌∙◌, arith, eqb, cond, inl, inr, append_assoc, add-one, length-append}
use Rattle.std.proofs.lemmas.List.{append-nil, take-append-drop}
use Rattle.std.proofs.lemmas.Bool.{cases_lt, cases_eq}
use Rattle.ib_map.specs.Keys.{MapKey, rank, end_rank}
use Rattle.ib_map.specs.Pairs.{Pairs, Rises, first_rank, put}
use Rattle.ib_map.proofs.PairLaws.{put-behind}
use Rattle.ib_map.proofs.RiseLaws.{Rises-le, Rises-higher, Rises-left, Rises-right}
use Rattle.ib_page.specs.Page.{PageValue, HoldsTree}
use Rattle.ib_page.specs.Page.PageValue.{Malformed as MalformedValue, Free as FreeValue, Tree as TreeValue}
use Rattle.ib_walk.specs.Pages.{Tree, PageMemory}
use Rattle.ib_walk.specs.Walk.{Visit, children_of, children, below, records_along, sum_of, weight_along, counts_page, IsNodeAt, AreNodes, AreLinked, first_page}
use Rattle.ib_walk.specs.Trees.{top_of, height_of, leaves_of, content_of, weight_of, IsTreeOf}
use Rattle.ib_walk.specs.Words.{memory_of, state_of}
use Rattle.ib_walk.proofs.ChoiceLaws.{Some-same}
use Rattle.ib_walk.proofs.MeetLaws.{AreLinked-right, counts_page-own, lowest-le_weight}
use Rattle.ib_walk.proofs.TreeLaws.{weight_of-le, Rises-content_of}
use Rattle.ib_walk.proofs.WalkLaws.{records_along-append}
use Rattle.ib_validate.specs.PatchTest.{Position, Positions, at_page, positions_over}
use Rattle.ib_validate.proofs.ChildLaws.{drop-slice_get}
use Rattle.ib_validate.proofs.PassLaws.{image_bits-past}
use Rattle.ib_tree.specs.Roots.{HasRoot}
use Rattle.ib_tree.proofs.WholeTestLaws.{lawful-positions}
use Rattle.ib_walk.proofs.CountLaws.{bits-met}

-- a key above all keys goes behind them
pub put-last : (xs : Pairs) (x : MapKey × ℕ) (ys : Pairs) → Rises 0 (xs ++ x ∷ ys) end_rank → put x.0 x.1 xs ≡ xs ++ x ∷ []
put-last xs x ys rises =
    ap (put x.0 x.1) (sym (append-nil xs)) ∙ put-behind x.0 x.1 0 xs (rank x.0) [] (Rises-left 0 xs (x ∷ ys) end_rank rises) (omega arith)

-- the records of a page are inserted in their order
pub put-next : (old records : Pairs) (i : ℕ) (x : MapKey × ℕ) → slice_get records i ≡ Some x → Rises 0 (old ++ records) end_rank → put x.0 x.1 (old ++ take i records) ≡ old ++ take (i + 1) records
put-next old records i x at rises =
    let rest = drop (i + 1) records in
    let split : records ≡ take i records ++ x ∷ rest = sym (take-append-drop i records) ∙ ap (λ xs. take i records ++ xs) (drop-slice_get records i x at) in
    let all = subst (λ xs. Rises 0 xs end_rank) (ap (λ xs. old ++ xs) split ∙ sym (append_assoc old (take i records) (x ∷ rest))) rises in
    put-last (old ++ take i records) x rest all ∙ (append_assoc old (take i records) (x ∷ []) ∙ ap (λ xs. old ++ xs) (sym (take-next records i x at)))
  where
    take-next : (xs : Pairs) (k : ℕ) (y : MapKey × ℕ) → slice_get xs k ≡ Some y → take (k + 1) xs ≡ take k xs ++ y ∷ []
    take-next [] k y found = absurd (let e = found in cc)
    take-next (z ∷ zs) zero y found = ap (λ w. w ∷ []) (Some-same z y found)
    take-next (z ∷ zs) (suc k) y found = ap (λ n. take n (z ∷ zs)) (add-one (suc k)) ∙ ap (λ ws. z ∷ ws) (ap (λ n. take n zs) (sym (add-one k)) ∙ take-next zs k y found)

-- a page with records is one of a tree
pub tree-held : (v : PageValue) → 0 < length (state_of v).records → HoldsTree v
tree-held (TreeValue p) lt = tt
tree-held (FreeValue clock) lt = absurd (omega arith)
tree-held MalformedValue lt = absurd (omega arith)

-- the level below a level, and what its pages weigh
pub below-children : (m : PageMemory) (depth : ℕ) (vs : List Visit) → below m (suc depth) vs ≡ children m (below m depth vs)
below-children m zero vs = refl
below-children m (suc depth) vs = below-children m depth (children m vs)

level-le_weight : (page : ℕ) (m : PageMemory) (depth height : ℕ) (vs : List Visit) → depth ≤ height → sum_of (counts_page page 0) (below m depth vs) ≤ weight_along (counts_page page) m height vs
level-le_weight page m zero zero vs le = omega arith
level-le_weight page m zero (suc height) vs le = omega arith
level-le_weight page m (suc depth) zero vs le = absurd (omega arith)
level-le_weight page m (suc depth) (suc height) vs le = let r = level-le_weight page m depth height (children m vs) (omega arith) in omega arith

-- a node of a tree, whatever its level
record IsNode (m : PageMemory) (v : Visit) : Type 0 where
  kind : (m v.page).kind ≡ Tree
  some : 0 < length (m v.page).records

all-nodes : (m : PageMemory) (height : ℕ) (vs : List Visit) → AllByRecursion (IsNodeAt m height) vs → AllByRecursion (IsNode m) vs
all-nodes m height [] nodes = tt
all-nodes m height (v ∷ vs) nodes = (record { kind = nodes.0.kind; some = nodes.0.some }, all-nodes m height vs nodes.1)

nodes-below : (m : PageMemory) (depth height : ℕ) (vs : List Visit) → depth < height → AreNodes m height vs → AllByRecursion (IsNode m) (below m depth vs)
nodes-below m depth zero vs lt nodes = absurd (omega arith)
nodes-below m zero (suc height) vs lt nodes = all-nodes m (suc height) vs nodes.0
nodes-below m (suc depth) (suc height) vs lt nodes = nodes-below m depth height (children m vs) (omega arith) nodes.1

-- the first child is that of the first record
record BeginsWith (vs : List Visit) (page : ℕ) : Type 0 where
  visit : Visit
  rest : List Visit
  is : vs ≡ visit ∷ rest
  here : visit.page ≡ page

children_of-first : (xs : Pairs) (x : MapKey × ℕ) (high : ℕ) (more : List Visit) → slice_get xs 0 ≡ Some x → BeginsWith (children_of xs high ++ more) x.1
children_of-first [] x high more at = absurd (let e = at in cc)
children_of-first (y ∷ ys) x high more at = record {
  visit = record { page = y.1; low = rank y.0; high = first_rank ys high };
  rest = children_of ys high ++ more;
  is = refl;
  here = let same : y ≡ x = Some-same y x at in ap (λ (z : MapKey × ℕ). z.1) same;
}

-- the first of some leaves
first-visit : (vs : List Visit) (page : ℕ) → page ≡ first_page vs 0 → page ≢ 0 → BeginsWith vs page
first-visit [] page at ne = absurd (ne at)
first-visit (v ∷ vs) page at ne = record { visit = v; rest = vs; is = refl; here = sym at }

page-first : (vs : List Visit) (page : ℕ) → BeginsWith vs page → page ≡ first_page vs 0
page-first vs page begins = sym (ap (λ (xs : List Visit). first_page xs 0) begins.is ∙ begins.here)

-- no more leaves than pages
each-one : (vs : List Visit) → sum_of (λ v. 1) vs ≡ length vs
each-one [] = refl
each-one (v ∷ vs) = let r = each-one vs in omega arith

positions-few : (root : ℕ) (table : Positions) (n : ℕ) → positions_over (λ h v. 1) root table n ≤ n
positions-few root table zero = omega arith
positions-few root table (suc n) = let r = positions-few root table n in let one = at-most (table n) in omega arith
  where
    at-most : (o : Option Position) → at_page (λ h v. 1) root n o ≤ 1
    at-most None = omega arith
    at-most (Some e) = elim (eqb e.tree root) as (λ b. cond {A = ℕ} b 1 0 ≤ 1) [ true ↦ omega arith | false ↦ omega arith ]

-- the page at the front of a level
pub record IsFirstAt (m : PageMemory) (root depth page : ℕ) : Type 0 where
  begins : BeginsWith (below m depth (top_of root)) page

-- the leaves before a page, which the map has, and those from the page on
pub record IsWalked (m : PageMemory) (root count page : ℕ) (map : Pairs) : Type 0 where
  front : List Visit
  back : List Visit
  is : leaves_of m root ≡ front ++ back
  holds : map ≡ records_along m front
  here : page ≡ first_page back 0
  counted : length front ≡ count

module _ (images : List (List ℕ)) (root : ℕ) (has : HasRoot images root) where
  tree : IsTreeOf (memory_of images) (height_of (memory_of images) root) root
  tree = (has.lawful.law.trees root has.some has.within).0

  -- a page that the walk meets is a page of the space, and not page 0
  record IsInside (page : ℕ) : Type 0 where
    low : 0 < page
    high : page < length images

  met-inside : (page : ℕ) → 0 < weight_of (counts_page page) (memory_of images) root → IsInside page
  met-inside page lt =
      let times = weight_of-le (counts_page page) (memory_of images) root has.roots has.some has.within in
      let met = bits-met has.lawful.law page in
      let bit = has.lawful.law.bit page in
      record {
        low = elim (cases_eq page 0) [
          | inl is ↦ absurd (let zero_page : cond {A = ℕ} (eqb page 0) 1 0 ≡ 1 = rw is refl in omega arith)
          | inr ne ↦ omega (arith, ne)
        ];
        high = elim (cases_lt page (length images)) [
          | inl within ↦ within
          | inr past ↦ absurd (let none = image_bits-past images page past in omega arith)
        ];
      }

  begins-counted : (vs : List Visit) (page : ℕ) → BeginsWith vs page → 0 < sum_of (counts_page page 0) vs
  begins-counted vs page begins =
      let own = counts_page-own page 0 begins.visit begins.here in
      let is = ap (sum_of (counts_page page 0)) begins.is in omega arith

  pub first-root : IsFirstAt (memory_of images) root 0 root
  first-root = record { begins = record { visit = record { page = root; low = 0; high = end_rank }; rest = []; is = refl; here = refl } }

  first-inside : (depth page : ℕ) → depth ≤ height_of (memory_of images) root → IsFirstAt (memory_of images) root depth page → IsInside page
  first-inside depth page le first =
      let weighs = level-le_weight page (memory_of images) depth (height_of (memory_of images) root) (top_of root) le in
      let counted = begins-counted (below (memory_of images) depth (top_of root)) page first.begins in
      met-inside page (omega arith)

  pub first-high : (depth page : ℕ) → depth ≤ height_of (memory_of images) root → IsFirstAt (memory_of images) root depth page → page < length images
  first-high depth page le first = (first-inside depth page le first).high

  first-node : (depth page : ℕ) → depth < height_of (memory_of images) root → IsFirstAt (memory_of images) root depth page → IsNode (memory_of images) (record { page = page; low = 0; high = 0 })
  first-node depth page lt first =
      let all = subst (AllByRecursion (IsNode (memory_of images))) first.begins.is (nodes-below (memory_of images) depth (height_of (memory_of images) root) (top_of root) lt tree.tree.nodes) in
      let here = first.begins.here in
      record { kind = ap (λ p. (memory_of images p).kind) (sym here) ∙ all.0.kind; some = subst (λ p. 0 < length (memory_of images p).records) here all.0.some }

  pub first-kind : (depth page : ℕ) → depth < height_of (memory_of images) root → IsFirstAt (memory_of images) root depth page → (memory_of images page).kind ≡ Tree
  first-kind depth page lt first = (first-node depth page lt first).kind

  pub first-some : (depth page : ℕ) → depth < height_of (memory_of images) root → IsFirstAt (memory_of images) root depth page → 0 < length (memory_of images page).records
  first-some depth page lt first = (first-node depth page lt first).some

  pub first-child : (depth page : ℕ) (x : MapKey × ℕ) → IsFirstAt (memory_of images) root depth page → slice_get (memory_of images page).records 0 ≡ Some x → IsFirstAt (memory_of images) root (depth + 1) x.1
  first-child depth page x first at =
      let b = first.begins in
      let found = children_of-first (memory_of images b.visit.page).records x b.visit.high (children (memory_of images) b.rest) (ap (λ p. slice_get (memory_of images p).records 0) b.here ∙ at) in
      let down : below (memory_of images) (depth + 1) (top_of root) ≡ children (memory_of images) (b.visit ∷ b.rest) =
      let next : depth + 1 ≡ suc depth = omega arith in
      ap (λ d. below (memory_of images) d (top_of root)) next ∙ (below-children (memory_of images) depth (top_of root) ∙ ap (children (memory_of images)) b.is) in
      record { begins = record { visit = found.visit; rest = found.rest; is = down ∙ found.is; here = found.here } }

  pub first-leaf : (page : ℕ) → IsFirstAt (memory_of images) root (height_of (memory_of images) root) page → page ≡ first_page (leaves_of (memory_of images) root) 0
  first-leaf page first = page-first (leaves_of (memory_of images) root) page first.begins

  pub walked-none : (page : ℕ) → page ≡ first_page (leaves_of (memory_of images) root) 0 → IsWalked (memory_of images) root 0 page []
  walked-none page first = record { front = []; back = leaves_of (memory_of images) root; is = refl; holds = refl; here = first; counted = refl }

  few-leaves : length (leaves_of (memory_of images) root) ≤ length images
  few-leaves =
      let kept = lawful-positions images has.least has.most has.roots has.few has.lawful in
      let same = kept.1.table root has.some has.within (λ h v. 1) in
      let few = positions-few root kept.0 (length images) in
      let weighs = lowest-le_weight (λ h v. 1) (memory_of images) (height_of (memory_of images) root) (top_of root) in
      let each = each-one (leaves_of (memory_of images) root) in omega arith

  sum_of-behind : (f : Visit → ℕ) (xs ys : List Visit) → sum_of f ys ≤ sum_of f (xs ++ ys)
  sum_of-behind f [] ys = omega arith
  sum_of-behind f (x ∷ xs) ys = let r = sum_of-behind f xs ys in omega arith

  -- the leaves from a page on begin with a page of the space
  back-inside : (count page : ℕ) (map : Pairs) (walked : IsWalked (memory_of images) root count page map) → BeginsWith walked.back page → IsInside page
  back-inside count page map walked begins =
      let counted = begins-counted walked.back page begins in
      let more = sum_of-behind (counts_page page 0) walked.front walked.back in
      let is = ap (sum_of (counts_page page 0)) walked.is in
      let weighs = lowest-le_weight (counts_page page) (memory_of images) (height_of (memory_of images) root) (top_of root) in
      met-inside page (omega arith)

  pub walked-high : (count page : ℕ) (map : Pairs) → IsWalked (memory_of images) root count page map → page ≢ 0 → page < length images
  walked-high count page map walked ne = (back-inside count page map walked (first-visit walked.back page walked.here ne)).high

  -- the content is the map, the records of the page, and those of the leaves behind it
  split-content : (count page : ℕ) (map : Pairs) (walked : IsWalked (memory_of images) root count page map) (begins : BeginsWith walked.back page)
      → content_of (memory_of images) root ≡ (map ++ (memory_of images page).records) ++ records_along (memory_of images) begins.rest
  split-content count page map walked begins =
      ap (records_along (memory_of images)) (walked.is ∙ ap (λ vs. walked.front ++ vs) begins.is)
      ∙ (records_along-append (memory_of images) walked.front (begins.visit ∷ begins.rest)
      ∙ (ap (λ xs. xs ++ ((memory_of images begins.visit.page).records ++ records_along (memory_of images) begins.rest)) (sym walked.holds)
      ∙ (ap (λ p. map ++ ((memory_of images p).records ++ records_along (memory_of images) begins.rest)) begins.here
      ∙ sym (append_assoc map (memory_of images page).records (records_along (memory_of images) begins.rest)))))

  pub walked-rises : (count page : ℕ) (map : Pairs) → IsWalked (memory_of images) root count page map → page ≢ 0 → Rises 0 (map ++ (memory_of images page).records) end_rank
  walked-rises count page map walked ne =
      let begins = first-visit walked.back page walked.here ne in
      let records = map ++ (memory_of images page).records in
      let rest = records_along (memory_of images) begins.rest in
      let all = subst (λ xs. Rises 0 xs end_rank) (split-content count page map walked begins) (Rises-content_of (memory_of images) root tree) in
      Rises-higher 0 records (first_rank rest end_rank) end_rank (Rises-le (first_rank rest end_rank) rest end_rank (Rises-right 0 records rest end_rank all)) (Rises-left 0 records rest end_rank all)

  pub walked-next : (count page : ℕ) (map : Pairs) → IsWalked (memory_of images) root count page map → page ≢ 0 → IsWalked (memory_of images) root (count + 1) (memory_of images page).next (map ++ (memory_of images page).records)
  walked-next count page map walked ne =
      let begins = first-visit walked.back page walked.here ne in
      let back = walked.is ∙ ap (λ vs. walked.front ++ vs) begins.is in
      let links = AreLinked-right (memory_of images) 0 walked.front (begins.visit ∷ begins.rest) 0 (subst (λ vs. AreLinked (memory_of images) 0 vs 0) back tree.linked) in
      record {
        front = walked.front ++ begins.visit ∷ [];
        back = begins.rest;
        is = back ∙ sym (append_assoc walked.front (begins.visit ∷ []) begins.rest);
        holds = ap (λ xs. xs ++ (memory_of images page).records) walked.holds
            ∙ (ap (λ p. records_along (memory_of images) walked.front ++ (memory_of images p).records) (sym begins.here)
            ∙ (ap (λ xs. records_along (memory_of images) walked.front ++ xs) (sym (append-nil (memory_of images begins.visit.page).records))
            ∙ sym (records_along-append (memory_of images) walked.front (begins.visit ∷ []))));
        here = ap (λ p. (memory_of images p).next) (sym begins.here) ∙ links.1;
        counted = length-append walked.front (begins.visit ∷ []) ∙ ap (λ n. n + 1) walked.counted;
      }

  none-left : (count page : ℕ) (map : Pairs) (walked : IsWalked (memory_of images) root count page map) → walked.back ≡ [] → map ≡ content_of (memory_of images) root
  none-left count page map walked none =
      walked.holds ∙ ap (records_along (memory_of images)) (sym (walked.is ∙ (ap (λ vs. walked.front ++ vs) none ∙ append-nil walked.front)))

  -- the map has the content where no page follows, and where as many leaves were met as there are pages
  pub walked-end : (count : ℕ) (map : Pairs) → IsWalked (memory_of images) root count 0 map → map ≡ content_of (memory_of images) root
  walked-end count map walked = by walked.back refl
    where
      by : (vs : List Visit) → walked.back ≡ vs → map ≡ content_of (memory_of images) root
      by [] is = none-left count 0 map walked is
      by (v ∷ vs) is =
          let at : v.page ≡ 0 = sym (walked.here ∙ ap (λ (xs : List Visit). first_page xs 0) is) in
          absurd (let inside = (back-inside count 0 map walked (record { visit = v; rest = vs; is = is; here = at })).low in omega arith)

  pub walked-all : (page : ℕ) (map : Pairs) → IsWalked (memory_of images) root (length images) page map → map ≡ content_of (memory_of images) root
  walked-all page map walked = by walked.back refl
    where
      by : (vs : List Visit) → walked.back ≡ vs → map ≡ content_of (memory_of images) root
      by [] is = none-left (length images) page map walked is
      by (v ∷ vs) is = absurd (
          let few = few-leaves in
          let all = ap (λ (xs : List Visit). length xs) (walked.is ∙ ap (λ xs. walked.front ++ xs) is) ∙ length-append walked.front (v ∷ vs) in
          let counted = walked.counted in omega arith)
