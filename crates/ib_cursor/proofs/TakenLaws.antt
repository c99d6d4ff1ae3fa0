-- Rows that are taken one after the other, and the leaf behind them.
use Rattle.std.specs.List.{AllByRecursion, flat_map}
use Rattle.std.specs.Prelude.{get_or}
use Rattle.std.proofs.Common.{◌≡◌, ℕ, zero, suc, ◌+◌, ◌*◌, ◌<◌, ◌≤◌, true, List, [], ◌∷◌, ◌++◌, length, refl, sym, ap, subst, ◌∙◌, arith, append_assoc, append-nil, length-append}
use Rattle.std.proofs.lemmas.List.{flat_map_more, get_or_at}
use Rattle.ib_map.specs.Keys.{MapKey, rank, end_rank}
use Rattle.ib_layout.specs.Geometry.{Sizes}
use Rattle.ib_logrec.specs.declared.entry.Entry.{Entry}
use Rattle.ib_logrec.specs.Log.{memory_after}
use Rattle.ib_rule.specs.Pass.{PassState}
use Rattle.ib_rule.specs.Views.{total}
use Rattle.ib_walk.specs.Pages.{PageMemory, Tree}
use Rattle.ib_walk.specs.Search.{child_for}
use Rattle.ib_walk.specs.Trees.{height_of, weight_of, IsLawful}
use Rattle.ib_walk.specs.Walk.{counts_page}
use Rattle.ib_walk.specs.Words.{bits_of}
use Rattle.ib_walk.proofs.WalkLaws.{AllByRecursion-append, AllByRecursion-left}
use Rattle.ib_plans.specs.Agreement.{last_of, path_down, path_of}
use Rattle.ib_plans.proofs.MetLaws.{root-met}
use Rattle.ib_tree.specs.Logs.{pages_after}
use Rattle.ib_tree.specs.PageLists.{is_listed, AreOnce}
use Rattle.ib_cursor.specs.OnPath.{IsOnPath}
use Rattle.ib_cursor.specs.Claims.{beside}
use Rattle.ib_cursor.specs.Going.{IsKnown}
use Rattle.ib_cursor.specs.Rows.{CanTakeRow, HasTakenRows, MayTakeRows}
use Rattle.ib_cursor.specs.Shapes.{ShapeLaws, HasIndex}
use Rattle.ib_cursor.specs.Siblings.{IsPathWithSiblings, with_siblings}
use Rattle.ib_cursor.specs.Takings.{AreSteady, CanTakePage, HasTakenMore, HasTakenPage, WillTake}
use Rattle.ib_cursor.proofs.EndLaws.{holds_none, inside-met}
use Rattle.ib_cursor.proofs.LevelLaws.{all_once, among_right, apart_once, behind_all_met, last_among, last_append, on, row_met, row_once, rows_met, path_among}
use Rattle.ib_cursor.proofs.ClaimLaws.{keeps_beside}
use Rattle.ib_cursor.proofs.ReadLaws.{keeps_path}
use Rattle.ib_cursor.proofs.RowLaws.{few_siblings, some_siblings}
use Rattle.ib_cursor.proofs.TakeLaws.{IsRightLink, beside_few, more_both, more_one, right_link, steady_at}
use Rattle.ib_cursor.proofs.OnPathLaws.{page_on-path}
use Rattle.ib_cursor.proofs.OnceLaws.{once_here}

-- a path begins with its root
pub path-first : (m : PageMemory) (key : MapKey) (height page : ℕ) → (rest : List ℕ) × (path_down m key height page ≡ page ∷ rest)
path-first m key zero page = ([], refl)
path-first m key (suc height) page = (path_down m key height (child_for key 0 (m page).records), refl)

pub path_some : (m : PageMemory) (key : MapKey) (root : ℕ) → 1 ≤ length (path_of m key root)
path_some m key root = let first = path-first m key (height_of m root) root in let l = ap length first.1 in omega arith

-- where nodes are the same, so are their rows
pub rows-same : (m new : PageMemory) (key : MapKey) (ps : List ℕ) → AllByRecursion (λ n. new n ≡ m n) ps → flat_map (with_siblings new key) ps ≡ flat_map (with_siblings m key) ps
rows-same m new key [] same = refl
rows-same m new key (p ∷ ps) same = ap (λ s. with_siblings (λ n. s) key p ++ flat_map (with_siblings new key) ps) same.0 ∙ ap (λ qs. with_siblings m key p ++ qs) (rows-same m new key ps same.1)

pub rows-few : (m : PageMemory) (key : MapKey) (ps : List ℕ) → length (flat_map (with_siblings m key) ps) ≤ 3 * length ps
rows-few m key [] = omega arith
rows-few m key (p ∷ ps) = let a = length-append (with_siblings m key p) (flat_map (with_siblings m key) ps) in let b = few_siblings m key p in let c = rows-few m key ps in omega arith

-- pages that are held are as they were
pub steady-all : (opening : ℕ → ℕ) (held : List ℕ) (p q : PassState) → AreSteady opening held p q → (ps : List ℕ) → AllByRecursion (λ n. is_listed held n ≡ true) ps
    → AllByRecursion (λ n. pages_after opening q.view.memory.seen n ≡ pages_after opening p.view.memory.seen n) ps
steady-all opening held p q steady [] among = tt
steady-all opening held p q steady (n ∷ ns) among = (steady_at opening held p q steady n among.0, steady-all opening held p q steady ns among.1)

module _ (sizes : Sizes) (roots : ℕ) (lawful : List Entry → Type 0) (opening : ℕ → ℕ) (shape : ShapeLaws sizes.pages roots lawful opening) (root : ℕ) (some : 0 < root) (le : root ≤ roots) (key : MapKey) (lt : rank key < end_rank) where
  -- where nothing is held but the index
  pub rows_none : (path : List ℕ) (p : PassState) → length path ≤ 8 → HasIndex sizes lawful p → MayTakeRows sizes lawful opening root path [] p
  rows_none path p short index = record { holds = holds_none sizes lawful opening p index; once = tt; apart = λ q known keeps. tt; few = omega arith }

  -- the root
  pub root_can : (path held : List ℕ) (p : PassState) → path ≡ path_of (pages_after opening p.view.memory.seen) key root → MayTakeRows sizes lawful opening root path held p → CanTakePage sizes lawful opening held root p × (root < sizes.pages)
  root_can path held p on_path may =
      let holds = may.holds in
      let m : PageMemory = pages_after opening p.view.memory.seen in
      let inside = inside-met sizes roots lawful opening shape root some le key lt p.view.memory.seen holds.known.legal root (root-met m root) in
      let apart = may.apart p holds.known (keeps_beside p p refl holds.claimed) in (
        record {
          holds = holds;
          other = (once_here held root [] sizes.pages (apart_once m root sizes.pages held (root ∷ []) may.once apart (inside, refl, tt) (root-met m root, tt))).0;
          few = let f = may.few in let l = path_some m key root in let e = ap length on_path in omega arith;
        },
        inside,
      )

  pub rows_first : (path held : List ℕ) (p q : PassState) → path ≡ path_of (pages_after opening p.view.memory.seen) key root → HasTakenPage sizes lawful opening held root p q
      → HasTakenRows sizes lawful opening held root key path 0 root p q
  rows_first path held p q on_path t =
      let m : PageMemory = pages_after opening p.view.memory.seen in
      let first = path-first m key (height_of m root) root in
      record {
        above = [];
        node = root;
        rest = first.0;
        is = on_path ∙ first.1;
        many = refl;
        on_path = on_path ∙ sym (keeps_path sizes roots lawful opening shape root some le key lt p q t.holds.known t.keeps);
        taken = more_one sizes lawful opening held root p q t;
        last_is = refl;
      }

  module _ (path held : List ℕ) (count last : ℕ) (p q : PassState) (may : MayTakeRows sizes lawful opening root path held p) (rows : HasTakenRows sizes lawful opening held root key path count last p q) where
    abbrev m : PageMemory
    m = pages_after opening q.view.memory.seen

    -- the rows that are taken, behind the pages that were held before
    abbrev pub own_rows : List ℕ
    own_rows = root ∷ flat_map (with_siblings m key) rows.above

    abbrev pub rows_held : List ℕ
    rows_held = held ++ own_rows

    known : IsKnown sizes lawful q
    known = rows.taken.holds.known

    law : IsLawful m (bits_of sizes.pages (memory_after opening q.view.memory.seen)) roots
    law = (shape.laws.memory q.view.memory.seen known.legal).law

    within : (n : ℕ) → 1 ≤ weight_of (counts_page n) m root → n < sizes.pages
    within n met = inside-met sizes roots lawful opening shape root some le key lt q.view.memory.seen known.legal n met

    pub among : AllByRecursion (λ n. is_listed rows_held n ≡ true) (rows.above ++ rows.node ∷ [])
    among = lifted (rows.above ++ rows.node ∷ []) (path_among sizes.pages m (bits_of sizes.pages (memory_after opening q.view.memory.seen)) roots law root some le within key lt path rows.above rows.node rows.rest rows.on_path rows.is)
      where
        lifted : (ps : List ℕ) → AllByRecursion (λ n. is_listed own_rows n ≡ true) ps → AllByRecursion (λ n. is_listed rows_held n ≡ true) ps
        lifted [] all = tt
        lifted (n ∷ ns) all = (among_right held own_rows n all.0, lifted ns all.1)

    apart : AllByRecursion (λ n. weight_of (counts_page n) m root ≡ 0) held
    apart = may.apart q known rows.taken.keeps

    -- behind the pages that were held, rows of the tree are each there once
    behind-held : (more : List ℕ) → AreOnce (own_rows ++ more) sizes.pages → AllByRecursion (λ n. 1 ≤ weight_of (counts_page n) m root) more → AreOnce (rows_held ++ more) sizes.pages
    behind-held more once met =
        let mine = rows_met sizes.pages m (bits_of sizes.pages (memory_after opening q.view.memory.seen)) roots law root some le within key lt path rows.above rows.node rows.rest rows.on_path rows.is in
        subst (λ ps. AreOnce ps sizes.pages) (sym (append_assoc held own_rows more))
        (apart_once m root sizes.pages held (own_rows ++ more) may.once apart once (AllByRecursion-append (λ n. 1 ≤ weight_of (counts_page n) m root) own_rows more mine met))

    pub many : length path ≡ count + 1 + length rows.rest
    many = let a = ap length rows.is in let b = length-append rows.above (rows.node ∷ rows.rest) in let c = rows.many in omega arith

    pub few-own : length own_rows ≤ 1 + 3 * count
    few-own = let a = rows-few m key rows.above in let b = rows.many in omega arith

    few : length rows_held ≤ length held + 1 + 3 * count
    few = let a = few-own in let b = length-append held own_rows in omega arith

    pub rows_room : total q.view.grants ≤ total p.view.grants + 22
    rows_room = let a = rows.taken.s in let b = rows.taken.sx in let c = rows.taken.x in let d = few-own in let e = many in let f = may.few in omega arith

    -- the row below the next node
    module _ (up : count + 1 < length path) where
      level-of : (n : ℕ) → n ≡ length rows.rest → (l : ℕ) × (length rows.rest ≡ suc l)
      level-of zero e = absurd (let a = many in omega arith)
      level-of (suc l) e = (l, sym e)

      level : (l : ℕ) × (length rows.rest ≡ suc l)
      level = level-of (length rows.rest) refl

      on-path : IsOnPath m root key rows.node (suc level.0)
      on-path = subst (IsOnPath m root key rows.node) level.1 (on sizes.pages m (bits_of sizes.pages (memory_after opening q.view.memory.seen)) roots law root some le within key lt path rows.above rows.node rows.rest rows.on_path rows.is)

      pub row_node : get_or path count 0 ≡ rows.node
      row_node = ap (λ ps. get_or ps count 0) rows.is ∙ get_or_at rows.above rows.node rows.rest 0 count rows.many

      pub row_can : CanTakeRow sizes lawful opening key rows_held rows.node q
      row_can =
          let is = page_on-path m root key rows.node (suc level.0) (law.trees root some le).0 lt on-path in
          record {
            will = record {
              holds = rows.taken.holds;
              once = behind-held (with_siblings m key rows.node)
                  (row_once sizes.pages m (bits_of sizes.pages (memory_after opening q.view.memory.seen)) roots law root some le within key lt path rows.above rows.node rows.rest rows.on_path rows.is level.0 level.1)
                  (row_met sizes.pages m (bits_of sizes.pages (memory_after opening q.view.memory.seen)) roots law root some le within key lt path rows.above rows.node rows.rest rows.on_path rows.is level.0 level.1);
              few = let a = length-append rows_held (with_siblings m key rows.node) in let b = few_siblings m key rows.node in let c = few in let d = may.few in omega arith;
            };
            there = last-in rows.above rows.node among;
            kind = is.kind;
            first = is.first (omega arith);
          }
        where
          last-in : (xs : List ℕ) (node : ℕ) → AllByRecursion (λ n. is_listed rows_held n ≡ true) (xs ++ node ∷ []) → is_listed rows_held node ≡ true
          last-in [] node a = a.0
          last-in (x ∷ xs) node a = last-in xs node a.1

      pub row_more : (t : PassState) (new : ℕ) → HasTakenMore sizes lawful opening rows_held (with_siblings m key rows.node) q t → new ≡ last_of (with_siblings m key rows.node)
          → HasTakenRows sizes lawful opening held root key path (count + 1) new p t
      row_more t new more is =
          let later : PageMemory = pages_after opening t.view.memory.seen in
          let same : own_rows ++ with_siblings m key rows.node ≡ root ∷ flat_map (with_siblings later key) (rows.above ++ rows.node ∷ []) =
          flat_map_more (with_siblings m key) (root ∷ []) rows.above rows.node
          ∙ ap (λ ps. root ∷ ps) (sym (rows-same m later key (rows.above ++ rows.node ∷ []) (steady-all opening rows_held q t more.steady (rows.above ++ rows.node ∷ []) among))) in
          let below = begins rows.rest (let e = level.1 in omega arith) in
          record {
            above = rows.above ++ rows.node ∷ [];
            node = below.0;
            rest = below.1;
            is = rows.is ∙ (ap (λ ps. rows.above ++ rows.node ∷ ps) below.2 ∙ sym (append_assoc rows.above (rows.node ∷ []) (below.0 ∷ below.1)));
            many = let a = length-append rows.above (rows.node ∷ []) in let b = rows.many in omega arith;
            on_path = rows.on_path ∙ sym (keeps_path sizes roots lawful opening shape root some le key lt q t more.holds.known more.keeps);
            taken = subst (λ ps. HasTakenMore sizes lawful opening held ps p t) same (more_both sizes lawful opening held own_rows (with_siblings m key rows.node) p q t rows.taken more);
            last_is = is ∙ (sym (last_append own_rows (with_siblings m key rows.node) (some_siblings m key rows.node)) ∙ ap last_of same);
          }
        where
          begins : (ps : List ℕ) → 0 < length ps → (x : ℕ) × (xs : List ℕ) × (ps ≡ x ∷ xs)
          begins [] lt = absurd (omega arith)
          begins (x ∷ xs) lt = (x, xs, refl)

    -- the leaf behind the last row
    module _ (done : count + 1 ≡ length path) where
      pub ends : path ≡ rows.above ++ rows.node ∷ []
      ends = rows.is ∙ ap (λ ps. rows.above ++ rows.node ∷ ps) (none rows.rest (let a = many in omega arith))
        where
          none : (ps : List ℕ) → length ps ≡ 0 → ps ≡ []
          none [] e = refl
          none (x ∷ xs) e = absurd (omega arith)

      abbrev next : ℕ
      next = (m last).next

      own-once : AreOnce (own_rows ++ beside (m (last_of own_rows)).next) sizes.pages × ((m (last_of own_rows)).kind ≡ Tree)
      own-once = all_once sizes.pages m (bits_of sizes.pages (memory_after opening q.view.memory.seen)) roots law root some le within key lt path rows.above rows.node rows.on_path ends

      once : AreOnce (rows_held ++ beside (m (last_of own_rows)).next) sizes.pages
      once = behind-held (beside (m (last_of own_rows)).next) own-once.0
          (behind_all_met sizes.pages m (bits_of sizes.pages (memory_after opening q.view.memory.seen)) roots law root some le within key lt path rows.above rows.node rows.on_path ends)

      pub held-last : is_listed rows_held last ≡ true
      held-last = subst (λ n. is_listed rows_held n ≡ true) (sym rows.last_is) (among_right held own_rows (last_of own_rows) (last_among own_rows (omega arith)))

      pub behind_link : IsRightLink opening q last next
      behind_link = right_link sizes lawful opening rows_held last next q rows.taken.holds held-last (subst (λ n. (m n).kind ≡ Tree) (sym rows.last_is) own-once.1) refl

      pub behind_will : WillTake sizes lawful opening rows_held (beside next ++ []) q
      behind_will = subst (λ ps. WillTake sizes lawful opening rows_held ps q) (sym (append-nil (beside next))) (record {
        holds = rows.taken.holds;
        once = subst (λ n. AreOnce (rows_held ++ beside (m n).next) sizes.pages) (sym rows.last_is) once;
        few = let a = length-append rows_held (beside next) in let b = beside_few next in let c = few in let d = may.few in omega arith;
      })

      module _ (t : PassState) (more : HasTakenMore sizes lawful opening rows_held (beside next) q t) where
        pub all_taken : HasTakenMore sizes lawful opening held (own_rows ++ beside next) p t
        all_taken = more_both sizes lawful opening held own_rows (beside next) p q t rows.taken more

        pub all_siblings : IsPathWithSiblings (pages_after opening t.view.memory.seen) root key path (own_rows ++ beside next)
        all_siblings =
            let later : PageMemory = pages_after opening t.view.memory.seen in
            let nodes = AllByRecursion-left (λ n. later n ≡ m n) rows.above (rows.node ∷ []) (steady-all opening rows_held q t more.steady (rows.above ++ rows.node ∷ []) among) in
            record {
              front = rows.above;
              leaf = rows.node;
              ends = ends;
              levels = own_rows;
              are = ap (λ ps. root ∷ ps) (sym (rows-same m later key rows.above nodes));
              behind = ap (λ n. own_rows ++ beside n) (sym (ap (λ s. s.next) (steady_at opening rows_held q t more.steady last held-last)) ∙ ap (λ n. (later n).next) rows.last_is);
            }
