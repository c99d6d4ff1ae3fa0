-- Two paths that were read one after the other, and what is held when the pages of both are taken.
use Rattle.std.specs.List.{AllByRecursion}
use Rattle.std.specs.Prelude.{◌||◌}
use Rattle.std.proofs.Common.{◌≡◌, ◌≢◌, inl, inr, ℕ, zero, suc, ◌<◌, ◌≤◌, false, cond, List, [], ◌∷◌, ◌++◌, length, Some, refl, sym, ap, subst, ◌∙◌, arith, ne_eqb, eq-eqb, length-append}
use Rattle.std.proofs.lemmas.Bool.{cases_eq}
use Rattle.ib_map.specs.Keys.{MapKey, rank, end_rank}
use Rattle.ib_heap.specs.declared.TheConstants.{MOST_RECORDS}
use Rattle.ib_layout.specs.Geometry.{Sizes}
use Rattle.ib_logrec.specs.declared.entry.Entry.{Entry}
use Rattle.ib_logrec.specs.Log.{memory_after}
use Rattle.ib_levels.specs.declared.level.Mode.TheVariants.{Sx}
use Rattle.ib_rule.specs.declared.looks.Grants.{Grants}
use Rattle.ib_rule.specs.Pass.{PassState}
use Rattle.ib_rule.specs.Views.{with_grant}
use Rattle.ib_walk.specs.Pages.{PageMemory, Tree}
use Rattle.ib_walk.specs.Search.{child_for}
use Rattle.ib_walk.specs.Walk.{counts_page}
use Rattle.ib_walk.specs.Trees.{height_of, weight_of, IsTreeOf}
use Rattle.ib_walk.specs.Words.{bits_of}
use Rattle.ib_walk.proofs.WalkLaws.{AllByRecursion-append, AllByRecursion-left, AllByRecursion-right}
use Rattle.ib_plans.specs.Agreement.{path_down, path_of}
use Rattle.ib_plans.proofs.MetLaws.{met-apart}
use Rattle.ib_tree.specs.Logs.{pages_after}
use Rattle.ib_tree.specs.PageLists.{is_listed, AreOnce}
use Rattle.ib_cursor.specs.Claims.{beside, claim_grant, IsPathWithLeaves}
use Rattle.ib_cursor.specs.Going.{IsKnown, HasLatched}
use Rattle.ib_cursor.specs.Pairs.{HasClaimedPair}
use Rattle.ib_cursor.specs.Shapes.{ShapeLaws, KeepsClaim, HasReadPath}
use Rattle.ib_cursor.specs.Takings.{HasTakenMore, MayTakePath}
use Rattle.ib_cursor.specs.OnPath.{IsOnPath}
use Rattle.ib_cursor.proofs.ClaimLaws.{keeps_both}
use Rattle.ib_cursor.proofs.EndLaws.{all_once, beside-leaf, holds_none, keeps_links}
use Rattle.ib_cursor.proofs.LogLaws.{tree_of-log}
use Rattle.ib_cursor.proofs.OnceLaws.{among_append}
use Rattle.ib_cursor.proofs.LinkReadLaws.{keeps_on_path}
use Rattle.ib_cursor.proofs.ReadLaws.{keeps_path}
use Rattle.ib_cursor.proofs.LatchingLaws.{went_both, looked_first, some_end}
use Rattle.ib_cursor.proofs.TakeLaws.{beside_few}
use Rattle.ib_cursor.proofs.OnPathLaws.{child_on-path, met_on-path, page_on-path, root_on-path}

-- pages that are each there once, in two lists that have none in common
once-join : (xs ys : List ℕ) (pages : ℕ) → AreOnce xs pages → AreOnce ys pages → AllByRecursion (λ x. is_listed ys x ≡ false) xs → AreOnce (xs ++ ys) pages
once-join [] ys pages a b c = b
once-join (x ∷ xs) ys pages a b c = (a.0, among_append xs ys x a.1 c.0, once-join xs ys pages a.2 b c.1)

none-listed : (x : ℕ) (ys : List ℕ) → AllByRecursion (λ y. x ≢ y) ys → is_listed ys x ≡ false
none-listed x [] all = refl
none-listed x (y ∷ ys) all = ap (λ b. b || is_listed ys x) (ne_eqb y x (λ e. all.0 (sym e))) ∙ none-listed x ys all.1

each : (P Q : ℕ → Type 0) (xs : List ℕ) → ((x : ℕ) → P x → Q x) → AllByRecursion P xs → AllByRecursion Q xs
each P Q [] so all = tt
each P Q (x ∷ xs) so all = (so x all.0, each P Q xs so all.1)

-- the page of a link, where there is one
beside-all : (P : ℕ → Type 0) (page : ℕ) → (page ≢ 0 → P page) → AllByRecursion P (beside page)
beside-all P page so = elim (cases_eq page 0) [
  | inl z ↦ subst (AllByRecursion P) (sym (ap (λ b. cond b [] (page ∷ [])) (eq-eqb page 0 z))) tt
  | inr ne ↦ subst (AllByRecursion P) (sym (ap (λ b. cond b [] (page ∷ [])) (ne_eqb page 0 ne))) (so ne, tt)
]

module _ (sizes : Sizes) (roots : ℕ) (lawful : List Entry → Type 0) (opening : ℕ → ℕ) (shape : ShapeLaws sizes.pages roots lawful opening) where
  module _ (root : ℕ) (some : 0 < root) (le : root ≤ roots) (key : MapKey) (lt : rank key < end_rank) where
    -- the pages of a path, and the leaves beside its leaf, are met
    module _ (log : List Entry) (legal : lawful log) where
      abbrev m : PageMemory
      m = pages_after opening log

      tree : IsTreeOf m (height_of m root) root
      tree = tree_of-log sizes.pages roots lawful opening shape.laws root some le log legal

      nodes-met : (level page : ℕ) → IsOnPath m root key page level → AllByRecursion (λ n. 0 < weight_of (counts_page n) m root) (path_down m key level page)
      nodes-met zero page o = ((met_on-path m root tree key lt page zero o).met_page, tt)
      nodes-met (suc level) page o = ((met_on-path m root tree key lt page (suc level) o).met_page, nodes-met level (child_for key 0 (m page).records) (child_on-path m root key page level o))

      pub all-met : (path front : List ℕ) (leaf : ℕ) → path ≡ path_of m key root → path ≡ front ++ leaf ∷ [] → IsOnPath m root key leaf 0
          → AllByRecursion (λ n. 0 < weight_of (counts_page n) m root) (front ++ (beside (m leaf).prev ++ leaf ∷ beside (m leaf).next))
      all-met path front leaf on_path ends o =
          let P : ℕ → Type 0 = λ n. 0 < weight_of (counts_page n) m root in
          let whole = subst (AllByRecursion P) (sym on_path ∙ ends) (nodes-met (height_of m root) root (root_on-path m root key)) in
          let b = beside-leaf sizes roots lawful opening shape root some le key lt log legal leaf o in
          AllByRecursion-append P front (beside (m leaf).prev ++ leaf ∷ beside (m leaf).next) (AllByRecursion-left P front (leaf ∷ []) whole)
          (AllByRecursion-append P (beside (m leaf).prev) (leaf ∷ beside (m leaf).next) (beside-all P (m leaf).prev (λ ne. let l = (b.left ne).0 in omega arith))
          ((AllByRecursion-right P front (leaf ∷ []) whole).0, beside-all P (m leaf).next (λ ne. let r = (b.right ne).0 in omega arith)))

    -- a path that was read, as it is later behind the claim
    pub record KnowsPath (path : List ℕ) (leaf left : ℕ) (r : PassState) : Type 0 where
      pub front : List ℕ
      pub ends : path ≡ front ++ leaf ∷ []
      pub on_path : path ≡ path_of (pages_after opening r.view.memory.seen) key root
      pub lowest : IsOnPath (pages_after opening r.view.memory.seen) root key leaf 0
      pub left_of : left ≡ (pages_after opening r.view.memory.seen leaf).prev
      pub short : length front ≤ 7

    pub knows-read : (path : List ℕ) (leaf left : ℕ) (q r : PassState) → HasReadPath sizes lawful opening root key path leaf left q r → KnowsPath path leaf left r
    knows-read path leaf left q r w = record { front = w.front; ends = w.ends; on_path = w.on_path; lowest = w.lowest; left_of = w.left_of; short = w.short }

    pub knows-later : (path : List ℕ) (leaf left : ℕ) (r u : PassState) → KnowsPath path leaf left r → IsKnown sizes lawful u → KeepsClaim r u → KnowsPath path leaf left u
    knows-later path leaf left r u w known keeps = record {
      front = w.front;
      ends = w.ends;
      on_path = w.on_path ∙ sym (keeps_path sizes roots lawful opening shape root some le key lt r u known keeps);
      lowest = keeps_on_path sizes roots lawful opening shape root some le key lt r u known keeps leaf 0 w.lowest;
      left_of = let l = keeps_links sizes roots lawful opening shape root some le key lt r u known keeps leaf w.lowest in w.left_of ∙ sym l.prev;
      short = w.short;
    }

    -- all its pages
    abbrev pub pages-of : (front : List ℕ) → ℕ → ℕ → PassState → List ℕ
    pages-of front leaf left r = front ++ (beside left ++ leaf ∷ beside (pages_after opening r.view.memory.seen leaf).next)

    pub knows-once : (path : List ℕ) (leaf left : ℕ) (r : PassState) (w : KnowsPath path leaf left r) → IsKnown sizes lawful r → AreOnce (pages-of w.front leaf left r) sizes.pages
    knows-once path leaf left r w known =
        subst (λ l. AreOnce (pages-of w.front leaf l r) sizes.pages) (sym w.left_of)
        (all_once sizes roots lawful opening shape root some le key lt r.view.memory.seen known.legal path w.front leaf w.on_path w.ends w.lowest)

    pub knows-met : (path : List ℕ) (leaf left : ℕ) (r : PassState) (w : KnowsPath path leaf left r) → IsKnown sizes lawful r
        → AllByRecursion (λ n. 0 < weight_of (counts_page n) (pages_after opening r.view.memory.seen) root) (pages-of w.front leaf left r)
    knows-met path leaf left r w known =
        subst (λ l. AllByRecursion (λ n. 0 < weight_of (counts_page n) (pages_after opening r.view.memory.seen) root) (pages-of w.front leaf l r)) (sym w.left_of)
        (all-met r.view.memory.seen known.legal path w.front leaf w.on_path w.ends w.lowest)

    pub knows-few : (path : List ℕ) (leaf left : ℕ) (r : PassState) (w : KnowsPath path leaf left r) → length (pages-of w.front leaf left r) ≤ 10
    knows-few path leaf left r w =
        let a = w.short in let b = beside_few left in let c = beside_few (pages_after opening r.view.memory.seen leaf).next in
        let d = length-append w.front (beside left ++ leaf ∷ beside (pages_after opening r.view.memory.seen leaf).next) in
        let e = length-append (beside left) (leaf ∷ beside (pages_after opening r.view.memory.seen leaf).next) in omega arith

    -- what the leaf names from then on
    pub knows-names : (path : List ℕ) (leaf left : ℕ) (r : PassState) → KnowsPath path leaf left r → (u : PassState) → IsKnown sizes lawful u → KeepsClaim r u
        → ((pages_after opening u.view.memory.seen leaf).kind ≡ Tree) × ((pages_after opening u.view.memory.seen leaf).next ≡ (pages_after opening r.view.memory.seen leaf).next)
    knows-names path leaf left r w u known keeps =
        let on = keeps_on_path sizes roots lawful opening shape root some le key lt r u known keeps leaf 0 w.lowest in (
          (page_on-path (pages_after opening u.view.memory.seen) root key leaf 0 (tree_of-log sizes.pages roots lawful opening shape.laws root some le u.view.memory.seen known.legal) lt on).kind,
          (keeps_links sizes roots lawful opening shape root some le key lt r u known keeps leaf w.lowest).next,
        )

    pub knows-leaves : (path : List ℕ) (leaf left : ℕ) (r u : PassState) (w : KnowsPath path leaf left r) → IsKnown sizes lawful u → KeepsClaim r u → IsPathWithLeaves (pages_after opening u.view.memory.seen) path (pages-of w.front leaf left r)
    knows-leaves path leaf left r u w known keeps =
        let l = keeps_links sizes roots lawful opening shape root some le key lt r u known keeps leaf w.lowest in
        record {
          front = w.front;
          leaf = leaf;
          ends = w.ends;
          are = ap (λ (x : ℕ × ℕ). w.front ++ (beside x.0 ++ leaf ∷ beside x.1)) (λ j. ((w.left_of ∙ sym l.prev) j, sym l.next j));
        }

    -- they are met by the tree then
    pub knows-met_later : (path : List ℕ) (leaf left : ℕ) (r u : PassState) (w : KnowsPath path leaf left r) → IsKnown sizes lawful u → KeepsClaim r u
        → AllByRecursion (λ n. 0 < weight_of (counts_page n) (pages_after opening u.view.memory.seen) root) (pages-of w.front leaf left r)
    unfolding knows-later
    knows-met_later path leaf left r u w known keeps =
        let l = keeps_links sizes roots lawful opening shape root some le key lt r u known keeps leaf w.lowest in
        subst (λ n. AllByRecursion (λ k. 0 < weight_of (counts_page k) (pages_after opening u.view.memory.seen) root) (w.front ++ (beside left ++ leaf ∷ beside n))) l.next
        (knows-met path leaf left u (knows-later path leaf left r u w known keeps) known)

  -- two paths in two trees
  module _ (root : ℕ) (some : 0 < root) (le : root ≤ roots) (key : MapKey) (lt : rank key < end_rank) (root2 : ℕ) (some2 : 0 < root2) (le2 : root2 ≤ roots) (key2 : MapKey) (lt2 : rank key2 < end_rank) (apart : root2 ≢ root)
      (path : List ℕ) (leaf left : ℕ) (path2 : List ℕ) (leaf2 left2 : ℕ) (p q r1 r2 : PassState) (latched : HasLatched sizes lawful claim_grant p q)
      (first : HasReadPath sizes lawful opening root key path leaf left q r1) (second : HasReadPath sizes lawful opening root2 key2 path2 leaf2 left2 r1 r2) where
    pub known2 : IsKnown sizes lawful r2
    known2 = second.index.known

    abbrev pub one : KnowsPath root some le key lt path leaf left r2
    one = knows-later root some le key lt path leaf left r1 r2 (knows-read root some le key lt path leaf left q r1 first) known2 second.keeps

    abbrev pub two : KnowsPath root2 some2 le2 key2 lt2 path2 leaf2 left2 r2
    two = knows-read root2 some2 le2 key2 lt2 path2 leaf2 left2 r1 r2 second

    abbrev pub list1 : List ℕ
    list1 = pages-of root some le key lt one.front leaf left r2

    abbrev pub list2 : List ℕ
    list2 = pages-of root2 some2 le2 key2 lt2 two.front leaf2 left2 r2

    pub few1 : length list1 ≤ 10
    few1 = knows-few root some le key lt path leaf left r2 one

    pub few2 : length list2 ≤ 10
    few2 = knows-few root2 some2 le2 key2 lt2 path2 leaf2 left2 r2 two

    pub both-once : AreOnce (list1 ++ list2) sizes.pages
    both-once =
        let law = (shape.laws.memory r2.view.memory.seen known2.legal).law in
        let m : PageMemory = pages_after opening r2.view.memory.seen in
        let met1 = knows-met root some le key lt path leaf left r2 one known2 in
        let met2 = knows-met root2 some2 le2 key2 lt2 path2 leaf2 left2 r2 two known2 in
        once-join list1 list2 sizes.pages (knows-once root some le key lt path leaf left r2 one known2) (knows-once root2 some2 le2 key2 lt2 path2 leaf2 left2 r2 two known2)
        (each (λ n. 0 < weight_of (counts_page n) m root) (λ n. is_listed list2 n ≡ false) list1 (λ x at.
        none-listed x list2 (each (λ n. 0 < weight_of (counts_page n) m root2) (λ y. x ≢ y) list2 (λ y other.
        met-apart (λ n. MOST_RECORDS) m (bits_of sizes.pages (memory_after opening r2.view.memory.seen)) roots law root2 some2 le2 root some le (λ e. apart (sym e)) x y at (omega arith)) met2)) met1)

    abbrev pub may-first : MayTakePath sizes lawful opening [] path leaf left r2
    may-first = record {
      front = one.front;
      right = (pages_after opening r2.view.memory.seen leaf).next;
      ends = one.ends;
      will = record { holds = holds_none sizes lawful opening r2 second.index; once = knows-once root some le key lt path leaf left r2 one known2; few = let f = few1 in omega arith };
      names = knows-names root some le key lt path leaf left r2 one;
    }

    module _ (t1 : PassState) (more1 : HasTakenMore sizes lawful opening [] list1 r2 t1) where
      abbrev pub may-second : MayTakePath sizes lawful opening list1 path2 leaf2 left2 t1
      may-second = record {
        front = two.front;
        right = (pages_after opening r2.view.memory.seen leaf2).next;
        ends = two.ends;
        will = record { holds = more1.holds; once = both-once; few = let f = few1 in let g = few2 in let l = length-append list1 list2 in omega arith };
        names = λ u known keeps. knows-names root2 some2 le2 key2 lt2 path2 leaf2 left2 r2 two u known (keeps_both r2 t1 u more1.keeps keeps);
      }

      pub pair-claimed : (t2 : PassState) → HasTakenMore sizes lawful opening list1 list2 t1 t2 → HasClaimedPair sizes lawful opening root key path root2 key2 path2 p t2
      pair-claimed t2 more2 =
          let g1 : q.view.grants ≡ with_grant (Some Sx) p.view.grants = latched.grants in
          let s1 = ap (λ (g : Grants). g.s) g1 in let sx1 = ap (λ (g : Grants). g.sx) g1 in let x1 = ap (λ (g : Grants). g.x) g1 in
          let a1 = first.s in let a2 = first.sx in let a3 = first.x in let b1 = second.s in let b2 = second.sx in let b3 = second.x in
          let c1 = more1.s in let c2 = more1.sx in let c3 = more1.x in let d1 = more2.s in let d2 = more2.sx in let d3 = more2.x in
          let keeps = keeps_both r2 t1 t2 more1.keeps more2.keeps in
          let known = more2.holds.known in
          let later = went_both q r1 t2 first.went (went_both r1 r2 t2 second.went (went_both r2 t1 t2 more1.went more2.went)) in
          record {
            held = list1;
            other_held = list2;
            on_path = (knows-later root some le key lt path leaf left r2 t2 one known keeps).on_path;
            on_other_path = (knows-later root2 some2 le2 key2 lt2 path2 leaf2 left2 r2 t2 two known keeps).on_path;
            holds = more2.holds;
            leaves = knows-leaves root some le key lt path leaf left r2 t2 one known keeps;
            other_leaves = knows-leaves root2 some2 le2 key2 lt2 path2 leaf2 left2 r2 t2 two known keeps;
            once = both-once;
            met = knows-met_later root some le key lt path leaf left r2 t2 one known keeps;
            other_met = knows-met_later root2 some2 le2 key2 lt2 path2 leaf2 left2 r2 t2 two known keeps;
            went = went_both p q t2 latched.seen.went later;
            looked = looked_first p q t2 latched.seen.went later (some_end latched.seen.one);
            s = omega arith;
            sx = omega arith;
            x = omega arith;
          }
