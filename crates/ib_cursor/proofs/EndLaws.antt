-- What is held at the end of a search for a change of the tree's structure.
use Rattle.std.specs.List.{All, AllByRecursion}
use Rattle.std.specs.Prelude.{◌==◌, ◌||◌, ◌&&◌, ◌↔◌, ◌-◌, IsSome}
use Rattle.std.proofs.Common.{◌≡◌, ◌≢◌, ◌⊎◌, inl, inr, ℕ, zero, suc, ◌+◌, ◌<◌, ◌≤◌, Bool, true, false, cond, List, [], ◌∷◌, ◌++◌, Some, length, refl, sym, ap, subst, ◌∙◌, arith, ne_eqb, eq-eqb, length-append}
use Rattle.std.proofs.lemmas.Bool.{cases_eq}
use Rattle.ib_rule.proofs.Lists.{or_says, and_says}
use Rattle.ib_map.specs.Keys.{MapKey, rank, end_rank}
use Rattle.ib_layout.specs.Geometry.{Sizes}
use Rattle.ib_logrec.specs.declared.entry.Entry.{Entry}
use Rattle.ib_logrec.specs.Law.{PageRange}
use Rattle.ib_logrec.specs.Log.{memory_after}
use Rattle.ib_page.specs.Work.{WorkPage, changed_of}
use Rattle.ib_rule.specs.declared.memory.Since.{Since}
use Rattle.ib_rule.specs.Pass.{PassState}
use Rattle.ib_rule.specs.Views.{is_watched, with_grant}
use Rattle.ib_walk.specs.Pages.{PageMemory}
use Rattle.ib_walk.specs.Walk.{Visit, counts_page, counts_visit}
use Rattle.ib_walk.specs.Search.{child_for}
use Rattle.ib_walk.specs.Trees.{height_of, weight_of, IsTreeOf}
use Rattle.ib_walk.specs.Words.{bits_of}
use Rattle.ib_walk.proofs.TreeLaws.{weight_of-le}
use Rattle.ib_plans.specs.Agreement.{path_down, path_of}
use Rattle.ib_tree.specs.Logs.{HasRange, pages_after}
use Rattle.ib_tree.specs.PageLists.{is_listed, AreOnce}
use Rattle.ib_cursor.specs.OnPath.{IsOnPath}
use Rattle.std.proofs.lemmas.List.Elements.{All-nil, All-cons, All-head, All-tail}
use Rattle.ib_levels.specs.declared.level.Mode.TheVariants.{Sx}
use Rattle.ib_rule.specs.declared.looks.Grants.{Grants}
use Rattle.ib_cursor.specs.Grants.{HasGrants}
use Rattle.ib_cursor.specs.Claims.{beside, claim_grant, IsAsRead, HasClaimed, IsPathWithLeaves}
use Rattle.ib_cursor.specs.Going.{IsKnown, HasLatched}
use Rattle.ib_cursor.specs.Shapes.{ShapeLaws, KeepsClaim, is_claimed, HasIndex, HasReadPath}
use Rattle.ib_cursor.specs.Takings.{is_loaded, IsHeldPage, HoldsClaimed, WillTake, HasTakenMore, MayTakeLeaves}
use Rattle.ib_cursor.proofs.OnPathLaws.{met_on-path, page_on-path, child_on-path, root_on-path}
use Rattle.ib_cursor.proofs.NextLaws.{leaf-met}
use Rattle.ib_cursor.proofs.LogLaws.{tree_of-log, bit_inside, path_image}
use Rattle.ib_cursor.proofs.ShapeLaws.{HasLinks, single_links}
use Rattle.ib_cursor.proofs.LatchingLaws.{went_both, looked_first, some_end}
use Rattle.ib_cursor.proofs.GrantLaws.{grants_more}
use Rattle.ib_cursor.proofs.ClaimLaws.{keeps_both}
use Rattle.ib_cursor.proofs.LinkReadLaws.{keeps_on_path}
use Rattle.ib_cursor.proofs.ReadLaws.{keeps_path}
use Rattle.ib_cursor.proofs.TakeLaws.{more_both, will_rest, beside_few}
use Rattle.ib_cursor.proofs.OnceLaws.{AreBeside, are_beside}
use Rattle.ib_cursor.proofs.LevelLaws.{first-of, others-of}
use Rattle.ib_walk.proofs.CountLaws.{bits-met, met-weight}

-- a claimed index is watched
pub claimed_watched : (ss : List Since) → is_claimed ss ≡ true → is_watched 1 ss ≡ true
claimed_watched [] is = cc
claimed_watched (s ∷ ss) is = elim (or_says (s.claims && (s.latch == 1)) (is_claimed ss) is) [
  | inl here ↦ ap (λ t. t || is_watched 1 ss) (and_says s.claims (s.latch == 1) here).1
  | inr there ↦ either (s.latch == 1) (claimed_watched ss there)
]
  where
    either : (t : Bool) → is_watched 1 ss ≡ true → (t || is_watched 1 ss) ≡ true
    either true e = refl
    either false e = e

-- a page is loaded exactly where its image is there
pub loaded_some : (page : ℕ) (ws : List WorkPage) → IsSome (changed_of page ws) ↔ (is_loaded page ws ≡ true)
loaded_some page [] = ((λ s. s), (λ e. e))
loaded_some page (w ∷ ws) = by_test (w.page == page) (loaded_some page ws)
  where
    by_test : (t : Bool) → IsSome (changed_of page ws) ↔ (is_loaded page ws ≡ true) → IsSome (cond t (Some w.changed) (changed_of page ws)) ↔ ((t || is_loaded page ws) ≡ true)
    by_test true r = ((λ s. refl), (λ e. refl))
    by_test false r = r

-- pages on lower levels are not this one
none-lower : (m : PageMemory) (level page : ℕ) (ps : List ℕ) → (m page).level ≡ suc level → AllByRecursion (λ n. (m n).level ≤ level) ps → is_listed ps page ≡ false
none-lower m level page [] at low = refl
none-lower m level page (p ∷ ps) at low =
    let differ : (p == page) ≡ false = ne_eqb p page (λ e. let z = ap (λ n. (m n).level) e in let l = low.0 in omega arith) in
    ap (λ t. t || is_listed ps page) differ ∙ none-lower m level page ps at low.1

wider : (m : PageMemory) (a b : ℕ) (ps : List ℕ) → a ≤ b → AllByRecursion (λ n. (m n).level ≤ a) ps → AllByRecursion (λ n. (m n).level ≤ b) ps
wider m a b [] le low = tt
wider m a b (p ∷ ps) le low = (let l = low.0 in omega arith, wider m a b ps le low.1)

one-or_more : (m : PageMemory) (key : MapKey) (level page : ℕ) → 1 ≤ length (path_down m key level page)
one-or_more m key zero page = omega arith
one-or_more m key (suc level) page = omega arith

pub all-read : (P Q : WorkPage → Type 0) (ws : List WorkPage) → ((w : WorkPage) → P w → Q w) → All P ws → All Q ws
all-read P Q [] f a = All-nil Q
all-read P Q (w ∷ ws) f a = All-cons Q w ws (f w (All-head P w ws a)) (all-read P Q ws f (All-tail P w ws a))

-- where the index alone is held, no page is
pub holds_none : (sizes : Sizes) (lawful : List Entry → Type 0) (opening : ℕ → ℕ) (p : PassState) → HasIndex sizes lawful p → HoldsClaimed sizes lawful opening [] p
holds_none sizes lawful opening p index = record {
  grants = index.grants;
  claimed = index.claimed;
  watched = tt;
  loaded = λ page. ap (is_loaded page) index.work;
  count = ap length index.work;
  read = subst (All (IsHeldPage opening p)) (sym index.work) (All-nil (IsHeldPage opening p));
  known = index.known;
}

module _ (sizes : Sizes) (roots : ℕ) (lawful : List Entry → Type 0) (opening : ℕ → ℕ) (shape : ShapeLaws sizes.pages roots lawful opening) (root : ℕ) (some : 0 < root) (le : root ≤ roots) (key : MapKey) (lt : rank key < end_rank) where
  -- a leaf's links stay
  pub keeps_links : (p q : PassState) → IsKnown sizes lawful q → KeepsClaim p q → (leaf : ℕ) → IsOnPath (pages_after opening p.view.memory.seen) root key leaf 0
      → HasLinks (pages_after opening p.view.memory.seen) (pages_after opening q.view.memory.seen) leaf
  keeps_links p q known k leaf o =
      let m : PageMemory = pages_after opening p.view.memory.seen in
      let legal = subst lawful k.seen known.legal in
      let a = met_on-path m root (tree_of-log sizes.pages roots lawful opening shape.laws root some le p.view.memory.seen (shape.laws.begins p.view.memory.seen k.more legal)) key lt leaf 0 o in
      let r : PageRange = record { root = root; low = a.visit.low; end = a.visit.high; level = 0 } in
      let same : a.visit ≡ record { page = leaf; low = a.visit.low; high = a.visit.high } = ap (λ (n : ℕ). let w : Visit = record { page = n; low = a.visit.low; high = a.visit.high } in w) a.here in
      let met : HasRange roots m leaf r = (some, le, met-weight m root 0 (record { page = leaf; low = a.visit.low; high = a.visit.high }) (subst (λ u. 0 < weight_of (counts_visit 0 u) m root) same a.met)) in
      subst (λ l. HasLinks m (pages_after opening l) leaf) (sym k.seen) (single_links sizes.pages roots lawful opening shape p.view.memory.seen k.more leaf r legal k.single refl met)

  module _ (log : List Entry) (legal : lawful log) where
    abbrev m : PageMemory
    m = pages_after opening log

    tree : IsTreeOf m (height_of m root) root
    tree = tree_of-log sizes.pages roots lawful opening shape.laws root some le log legal

    level-is : (page level : ℕ) → IsOnPath m root key page level → (m page).level ≡ level
    level-is page level o = (page_on-path m root key page level tree lt o).height

    inside : (page level : ℕ) → IsOnPath m root key page level → page < sizes.pages
    inside page level o = (path_image sizes.pages roots lawful opening shape.laws root some le key lt log page level legal o).there

    pub inside-met : (page : ℕ) → 1 ≤ weight_of (counts_page page) m root → page < sizes.pages
    inside-met page one =
        let all = weight_of-le (counts_page page) m root roots some le in
        let law = bits-met (shape.laws.memory log legal).law page in
        bit_inside sizes.pages (memory_after opening log) page (let e : weight_of (counts_page page) m root ≡ weight_of (counts_page page) (pages_after opening log) root = refl in omega (arith, one, all, law))

    pub beside-leaf : (leaf : ℕ) → IsOnPath m root key leaf 0 → AreBeside m root leaf
    beside-leaf leaf o =
        let a = met_on-path m root tree key lt leaf 0 o in
        are_beside m (bits_of sizes.pages (memory_after opening log)) roots root (shape.laws.memory log legal).law some le leaf a.visit a.here (leaf-met m root a.visit a.met)

    -- the pages of the leaf level
    leaves-once : (leaf : ℕ) → IsOnPath m root key leaf 0 → AreOnce (beside (m leaf).prev ++ leaf ∷ beside (m leaf).next) sizes.pages × AllByRecursion (λ n. (m n).level ≤ 0) (beside (m leaf).prev ++ leaf ∷ beside (m leaf).next)
    leaves-once leaf o = by_left (cases_eq (m leaf).prev 0)
      where
        right : AreOnce (leaf ∷ beside (m leaf).next) sizes.pages × AllByRecursion (λ n. (m n).level ≤ 0) (leaf ∷ beside (m leaf).next)
        right = elim (cases_eq (m leaf).next 0) [
          | inl z ↦
              let e : beside (m leaf).next ≡ [] = ap (λ b. cond b [] ((m leaf).next ∷ [])) (eq-eqb (m leaf).next 0 z) in
              subst (λ ps. AreOnce (leaf ∷ ps) sizes.pages × AllByRecursion (λ n. (m n).level ≤ 0) (leaf ∷ ps)) (sym e)
              ((inside leaf 0 o, refl, tt), (let l = level-is leaf 0 o in omega arith, tt))
          | inr ne ↦
              let e : beside (m leaf).next ≡ (m leaf).next ∷ [] = ap (λ b. cond b [] ((m leaf).next ∷ [])) (ne_eqb (m leaf).next 0 ne) in
              let b = (beside-leaf leaf o).right ne in
              let differ : ((m leaf).next == leaf) ≡ false = ne_eqb (m leaf).next leaf b.1 in
              subst (λ ps. AreOnce (leaf ∷ ps) sizes.pages × AllByRecursion (λ n. (m n).level ≤ 0) (leaf ∷ ps)) (sym e)
              ((inside leaf 0 o, ap (λ t. t || false) differ, (inside-met (m leaf).next b.0, refl, tt)), (let l = level-is leaf 0 o in omega arith, (let l = b.2 in omega arith, tt)))
        ]

        none-right : (page : ℕ) → page ≢ leaf → (m leaf).next ≢ page → is_listed (leaf ∷ beside (m leaf).next) page ≡ false
        none-right page a b = elim (cases_eq (m leaf).next 0) [
          | inl z ↦
              let e : beside (m leaf).next ≡ [] = ap (λ b. cond b [] ((m leaf).next ∷ [])) (eq-eqb (m leaf).next 0 z) in
              let d : (leaf == page) ≡ false = ne_eqb leaf page (λ q. a (sym q)) in
              ap (λ ps. is_listed (leaf ∷ ps) page) e ∙ ap (λ t. t || false) d
          | inr ne ↦
              let e : beside (m leaf).next ≡ (m leaf).next ∷ [] = ap (λ b. cond b [] ((m leaf).next ∷ [])) (ne_eqb (m leaf).next 0 ne) in
              let d : (leaf == page) ≡ false = ne_eqb leaf page (λ q. a (sym q)) in
              let f : ((m leaf).next == page) ≡ false = ne_eqb (m leaf).next page b in
              ap (λ ps. is_listed (leaf ∷ ps) page) e ∙ (ap (λ t. t || (((m leaf).next == page) || false)) d ∙ ap (λ t. t || false) f)
        ]

        by_left : ((m leaf).prev ≡ 0) ⊎ ((m leaf).prev ≢ 0) → AreOnce (beside (m leaf).prev ++ leaf ∷ beside (m leaf).next) sizes.pages × AllByRecursion (λ n. (m n).level ≤ 0) (beside (m leaf).prev ++ leaf ∷ beside (m leaf).next)
        by_left (inl z) =
            let e : beside (m leaf).prev ≡ [] = ap (λ b. cond b [] ((m leaf).prev ∷ [])) (eq-eqb (m leaf).prev 0 z) in
            subst (λ ps. AreOnce (ps ++ leaf ∷ beside (m leaf).next) sizes.pages × AllByRecursion (λ n. (m n).level ≤ 0) (ps ++ leaf ∷ beside (m leaf).next)) (sym e) right
        by_left (inr ne) =
            let e : beside (m leaf).prev ≡ (m leaf).prev ∷ [] = ap (λ b. cond b [] ((m leaf).prev ∷ [])) (ne_eqb (m leaf).prev 0 ne) in
            let b = (beside-leaf leaf o).left ne in
            subst (λ ps. AreOnce (ps ++ leaf ∷ beside (m leaf).next) sizes.pages × AllByRecursion (λ n. (m n).level ≤ 0) (ps ++ leaf ∷ beside (m leaf).next)) (sym e)
            ((inside-met (m leaf).prev b.0, none-right (m leaf).prev b.1 ((beside-leaf leaf o).apart ne), right.0), (let l = b.2 in omega arith, right.1))

    -- .. behind the nodes of the path
    nodes-once : (level page : ℕ) → IsOnPath m root key page level → (tail : List ℕ) → AreOnce tail sizes.pages → AllByRecursion (λ n. (m n).level ≤ 0) tail → (front : List ℕ) (leaf : ℕ) → path_down m key level page ≡ front ++ leaf ∷ []
        → AreOnce (front ++ tail) sizes.pages × AllByRecursion (λ n. (m n).level ≤ level) (front ++ tail)
    nodes-once zero page o tail once low [] leaf is = (once, low)
    nodes-once zero page o tail once low (x ∷ xs) leaf is = absurd (let a = ap length is in let b = length-append xs (leaf ∷ []) in omega arith)
    nodes-once (suc level) page o tail once low [] leaf is = absurd (let a = ap length is in let b = one-or_more m key level (child_for key 0 (m page).records) in omega arith)
    nodes-once (suc level) page o tail once low (x ∷ xs) leaf is =
        let first : page ≡ x = ap first-of is in
        let r = nodes-once level (child_for key 0 (m page).records) (child_on-path m root key page level o) tail once low xs leaf (ap others-of is) in
        let at = level-is page (suc level) o in
        subst (λ n. AreOnce (n ∷ xs ++ tail) sizes.pages × AllByRecursion (λ n. (m n).level ≤ suc level) (n ∷ xs ++ tail)) first
        ((inside page (suc level) o, none-lower m level page (xs ++ tail) at r.1, r.0), (omega (arith, at), wider m level (suc level) (xs ++ tail) (omega arith) r.1))

    -- the whole list that is to be held
    pub all_once : (path front : List ℕ) (leaf : ℕ) → path ≡ path_of m key root → path ≡ front ++ leaf ∷ [] → IsOnPath m root key leaf 0 → AreOnce (front ++ (beside (m leaf).prev ++ leaf ∷ beside (m leaf).next)) sizes.pages
    all_once path front leaf on_path ends o =
        let l = leaves-once leaf o in
        (nodes-once (height_of m root) root (root_on-path m root key) (beside (m leaf).prev ++ leaf ∷ beside (m leaf).next) l.0 l.1 front leaf (sym on_path ∙ ends)).0

  -- how long a path is that was read
  pub path_long : (path : List ℕ) (leaf left : ℕ) (p q : PassState) → HasReadPath sizes lawful opening root key path leaf left p q → (length path ≤ 8) × (length path - 1 + 1 ≡ length path)
  path_long path leaf left p q on_path = let a = on_path.short in let b = ap length on_path.ends in let d = length-append on_path.front (leaf ∷ []) in (omega arith, omega arith)

  -- the whole search, step by step
  module _ (path : List ℕ) (leaf left : ℕ) (p q r s t : PassState) (idle : HasGrants [] p) (none : p.work ≡ []) (latched : HasLatched sizes lawful claim_grant p q) (claimed : is_claimed q.view.memory.since ≡ true) where
    pub start_index : HasIndex sizes lawful q
    start_index = record { grants = grants_more [] claim_grant p q idle latched.memo latched.session; claimed = claimed; work = latched.work ∙ none; known = latched.seen.known }

    module _ (on_path : HasReadPath sizes lawful opening root key path leaf left q r) where
      pub will_nodes : WillTake sizes lawful opening [] (on_path.front ++ (beside left ++ leaf ∷ beside (pages_after opening r.view.memory.seen leaf).next)) r
      will_nodes = record {
        holds = holds_none sizes lawful opening r on_path.index;
        once = subst (λ l. AreOnce (on_path.front ++ (beside l ++ leaf ∷ beside (pages_after opening r.view.memory.seen leaf).next)) sizes.pages) (sym on_path.left_of)
            (all_once r.view.memory.seen on_path.index.known.legal path on_path.front leaf on_path.on_path on_path.ends on_path.lowest);
        few = let a = on_path.short in let b = beside_few left in let c = beside_few (pages_after opening r.view.memory.seen leaf).next in
            let d = length-append on_path.front (beside left ++ leaf ∷ beside (pages_after opening r.view.memory.seen leaf).next) in
            let e = length-append (beside left) (leaf ∷ beside (pages_after opening r.view.memory.seen leaf).next) in omega arith;
      }

      -- these pages are held behind the claimed index
      pub claimed_with : (held : List ℕ) (u : PassState) → HasTakenMore sizes lawful opening [] held r u → HasClaimed sizes lawful opening root key path held p u
      claimed_with held u more =
          let g1 : q.view.grants ≡ with_grant (Some Sx) p.view.grants = latched.grants in
          let s1 = ap (λ (g : Grants). g.s) g1 in let sx1 = ap (λ (g : Grants). g.sx) g1 in let x1 = ap (λ (g : Grants). g.x) g1 in
          let s2 = on_path.s in let sx2 = on_path.sx in let x2 = on_path.x in let s3 = more.s in let sx3 = more.sx in let x3 = more.x in
          let later = went_both q r u on_path.went more.went in
          record {
            on_path = on_path.on_path ∙ sym (keeps_path sizes roots lawful opening shape root some le key lt r u more.holds.known more.keeps);
            grants = more.holds.grants;
            claimed = claimed_watched u.view.memory.since more.holds.claimed;
            watched = more.holds.watched;
            there = λ page. ((λ i. sym (more.holds.loaded page) ∙ (loaded_some page u.work).0 i), (λ e. (loaded_some page u.work).1 (more.holds.loaded page ∙ e)));
            count = more.holds.count;
            read = all-read (IsHeldPage opening u) (IsAsRead opening u.view.memory.seen) u.work (λ w h. h.read) more.holds.read;
            went = went_both p q u latched.seen.went later;
            looked = looked_first p q u latched.seen.went later (some_end latched.seen.one);
            known = more.holds.known;
            s = omega arith;
            sx = omega arith;
            x = omega arith;
          }

      module _ (nodes : HasTakenMore sizes lawful opening [] on_path.front r s) where
        abbrev pub ready : MayTakeLeaves sizes lawful opening leaf left s
        ready = record {
          held = on_path.front;
          right = (pages_after opening r.view.memory.seen leaf).next;
          will = will_rest sizes lawful opening [] on_path.front (beside left ++ leaf ∷ beside (pages_after opening r.view.memory.seen leaf).next) r s will_nodes nodes;
          names = λ u known keeps.
              let k = keeps_both r s u nodes.keeps keeps in
              let on = keeps_on_path sizes roots lawful opening shape root some le key lt r u known k leaf 0 on_path.lowest in (
                (page_on-path (pages_after opening u.view.memory.seen) root key leaf 0 (tree_of-log sizes.pages roots lawful opening shape.laws root some le u.view.memory.seen known.legal) lt on).kind,
                (keeps_links r u known k leaf on_path.lowest).next,
              );
        }

        module _ (last : HasTakenMore sizes lawful opening on_path.front (beside left ++ leaf ∷ beside (pages_after opening r.view.memory.seen leaf).next) s t) where
          abbrev pub all_held : List ℕ
          all_held = on_path.front ++ (beside left ++ leaf ∷ beside (pages_after opening r.view.memory.seen leaf).next)

          all : KeepsClaim r t
          all = keeps_both r s t nodes.keeps last.keeps

          pub has_claimed : HasClaimed sizes lawful opening root key path all_held p t
          has_claimed = claimed_with all_held t (more_both sizes lawful opening [] on_path.front (beside left ++ leaf ∷ beside (pages_after opening r.view.memory.seen leaf).next) r s t nodes last)

          pub with_leaves : IsPathWithLeaves (pages_after opening t.view.memory.seen) path all_held
          with_leaves =
              let l = keeps_links r t last.holds.known all leaf on_path.lowest in
              record {
                front = on_path.front;
                leaf = leaf;
                ends = on_path.ends;
                are = ap (λ (x : ℕ × ℕ). on_path.front ++ (beside x.0 ++ leaf ∷ beside x.1)) (λ j. ((on_path.left_of ∙ sym l.prev) j, sym l.next j));
              }
