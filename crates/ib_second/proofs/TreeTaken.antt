-- What is held of one of two trees when the rows of a path and the leaf behind them were taken: each page once, and each is met by that tree.
use Rattle.std.specs.List.{AllByRecursion, flat_map}
use Rattle.std.specs.Prelude.{◌-◌}
use Rattle.std.proofs.Common.{◌≡◌, ◌∙◌, ℕ, ◌+◌, ◌<◌, ◌≤◌, true, List, [], ◌∷◌, ◌++◌, Some, length, sym, ap, subst, arith}
use Rattle.ib_map.specs.Keys.{MapKey}
use Rattle.ib_map.specs.Space.{has_pages}
use Rattle.ib_map.proofs.KeyLaws.{rank-lt_end}
use Rattle.ib_layout.specs.Geometry.{Sizes}
use Rattle.ib_logrec.specs.declared.entry.Entry.{Entry}
use Rattle.ib_logrec.specs.Log.{by_place}
use Rattle.ib_page.specs.Image.{next_of}
use Rattle.ib_page.specs.Work.{changed_of}
use Rattle.ib_walk.specs.Pages.{PageMemory}
use Rattle.ib_walk.specs.Trees.{IsLawful, weight_of}
use Rattle.ib_walk.specs.Walk.{counts_page}
use Rattle.ib_walk.proofs.WalkLaws.{AllByRecursion-append}
use Rattle.ib_plans.specs.Agreement.{last_of, path_of}
use Rattle.ib_tree.specs.Logs.{pages_after}
use Rattle.ib_tree.specs.PageLists.{AreOnce}
use Rattle.ib_rule.specs.Pass.{PassState}
use Rattle.ib_rule.specs.Views.{total}
use Rattle.ib_cursor.specs.Claims.{beside}
use Rattle.ib_cursor.specs.Rows.{HasTakenRows, MayTakeRows}
use Rattle.ib_cursor.specs.Shapes.{ShapeLaws}
use Rattle.ib_cursor.specs.Siblings.{IsPathWithSiblings, with_siblings}
use Rattle.ib_cursor.specs.Takings.{HasTakenMore, MayTakeFirst, TakesFirst, WillTake}
use Rattle.ib_cursor.proofs.EndLaws.{inside-met}
use Rattle.ib_cursor.proofs.LevelLaws.{all_once, apart_once, behind_all_met, rows_met}
use Rattle.ib_cursor.proofs.TakeLaws.{IsRightLink}
use Rattle.ib_cursor.proofs.TakenLaws.{all_siblings, all_taken, behind_link, behind_will, own_rows, path_some, rows_held, rows_room}
use Rattle.ib_pair_law.specs.Opening.{pair_opening}
use Rattle.ib_pair_law.specs.PairKept.{IsPairLog}
use Rattle.ib_pair_law.proofs.PushLaws.{lawful-before}
use Rattle.ib_second.specs.PairComes.{HasTakenTree}
use Rattle.ib_second.specs.PairReady.{bits_seen, pages_seen}
use Rattle.ib_second.proofs.ClaimedPair.{all-later, pair-shapes, seen-same}

module _ (sizes : Sizes) (fits : has_pages sizes.pages ≡ true) (root : ℕ) (some : 0 < root) (le : root ≤ 2) (key : MapKey) where
  abbrev start : ℕ → ℕ
  start = by_place pair_opening sizes.pages

  abbrev lawful : List Entry → Type 0
  lawful = IsPairLog sizes.pages

  shape : ShapeLaws sizes.pages 2 lawful start
  shape = pair-shapes sizes.pages fits

  -- the pages of a path with those beside them
  module _ (path held : List ℕ) (q : PassState) (legal : lawful q.view.memory.seen) (on_path : path ≡ path_of (pages_seen sizes q) key root) (w : IsPathWithSiblings (pages_seen sizes q) root key path held) where
    abbrev m : PageMemory
    m = pages_seen sizes q

    abbrev levels : List ℕ
    levels = root ∷ flat_map (with_siblings m key) w.front

    law : IsLawful m (bits_seen sizes q) 2
    law = (lawful-before sizes.pages fits q.view.memory.seen legal).law

    within : (n : ℕ) → 1 ≤ weight_of (counts_page n) m root → n < sizes.pages
    within n met = inside-met sizes 2 lawful start shape root some le key (rank-lt_end key) q.view.memory.seen legal n met

    held-are : held ≡ levels ++ beside (m (last_of levels)).next
    held-are = w.behind ∙ ap (λ ns. ns ++ beside (m (last_of ns)).next) w.are

    -- .. are each there once,
    pub tree-once : AreOnce held sizes.pages
    tree-once = subst (λ ns. AreOnce ns sizes.pages) (sym held-are) (all_once sizes.pages m (bits_seen sizes q) 2 law root some le within key (rank-lt_end key) path w.front w.leaf on_path w.ends).0

    -- .. and are met by the tree
    pub tree-met : AllByRecursion (λ n. 1 ≤ weight_of (counts_page n) m root) held
    tree-met = subst (AllByRecursion (λ n. 1 ≤ weight_of (counts_page n) m root)) (sym held-are)
        (AllByRecursion-append (λ n. 1 ≤ weight_of (counts_page n) m root) levels (beside (m (last_of levels)).next)
        (rows_met sizes.pages m (bits_seen sizes q) 2 law root some le within key (rank-lt_end key) path w.front w.leaf [] on_path w.ends)
        (behind_all_met sizes.pages m (bits_seen sizes q) 2 law root some le within key (rank-lt_end key) path w.front w.leaf on_path w.ends))

  -- the rows of the path were taken
  module _ (path held : List ℕ) (last : ℕ) (p q : PassState) (on_path : path ≡ path_of (pages_seen sizes p) key root) (may : MayTakeRows sizes lawful start root path held p) (rows : HasTakenRows sizes lawful start held root key path (length path - 1) last p q) where
    done : length path - 1 + 1 ≡ length path
    done = let some-page = path_some (pages_seen sizes p) key root in let same = ap length on_path in omega arith

    abbrev next : ℕ
    next = (pages_seen sizes q last).next

    -- those that are held by then
    abbrev all-rows : List ℕ
    all-rows = rows_held sizes 2 lawful start shape root some le key (rank-lt_end key) path held (length path - 1) last p q may rows

    abbrev mine : List ℕ
    mine = own_rows sizes 2 lawful start shape root some le key (rank-lt_end key) path held (length path - 1) last p q may rows

    pub rows-room : total q.view.grants ≤ total p.view.grants + 22
    rows-room = rows_room sizes 2 lawful start shape root some le key (rank-lt_end key) path held (length path - 1) last p q may rows

    -- the last page is loaded, and its link names the leaf behind
    pub last-link : IsRightLink start q last next
    last-link = behind_link sizes 2 lawful start shape root some le key (rank-lt_end key) path held (length path - 1) last p q may rows done

    will : WillTake sizes lawful start all-rows (beside next ++ []) q
    will = behind_will sizes 2 lawful start shape root some le key (rank-lt_end key) path held (length path - 1) last p q may rows done

    -- that leaf may be taken
    pub may-behind : (image : List ℕ) → changed_of last q.work ≡ Some image → MayTakeFirst sizes lawful start (beside (next_of image)) q
    may-behind image there =
        let same : last-link.image ≡ image = let a = sym last-link.there ∙ there in cc in
        let is : next ≡ next_of image = sym last-link.right_is ∙ ap next_of same in
        (all-rows, [], subst (λ n. WillTake sizes lawful start all-rows (beside n ++ []) q) is will)

    -- and when it is, all of the tree is held that a delete may change
    module _ (t : PassState) (takes : TakesFirst sizes lawful start (beside (next_of last-link.image)) q t) where
      more : HasTakenMore sizes lawful start all-rows (beside next) q t
      more = (subst (λ n. TakesFirst sizes lawful start (beside n) q t) last-link.right_is takes) all-rows [] will

      all : HasTakenMore sizes lawful start held (mine ++ beside next) p t
      all = all_taken sizes 2 lawful start shape root some le key (rank-lt_end key) path held (length path - 1) last p q may rows done t more

      siblings : IsPathWithSiblings (pages_seen sizes t) root key path (mine ++ beside next)
      siblings = all_siblings sizes 2 lawful start shape root some le key (rank-lt_end key) path held (length path - 1) last p q may rows done t more

      on-path : path ≡ path_of (pages_seen sizes t) key root
      on-path = subst (λ log. path ≡ path_of (pages_after start log) key root) (sym (seen-same sizes fits p t all.holds.known all.keeps)) on_path

      met : AllByRecursion (λ n. 1 ≤ weight_of (counts_page n) (pages_seen sizes t) root) (mine ++ beside next)
      met = tree-met path (mine ++ beside next) t all.holds.known.legal on-path siblings

      pub tree-taken : HasTakenTree sizes held root key path p t
      tree-taken = record {
        more = mine ++ beside next;
        taken = all;
        siblings = siblings;
        on_path = on-path;
        once = apart_once (pages_seen sizes t) root sizes.pages held (mine ++ beside next) may.once (may.apart t all.holds.known all.keeps) (tree-once path (mine ++ beside next) t all.holds.known.legal on-path siblings) met;
        met = all-later (λ n. 1 ≤ weight_of (counts_page n) (pages_seen sizes t) root) (λ n. 0 < weight_of (counts_page n) (pages_seen sizes t) root) (mine ++ beside next) (λ n one. omega arith) met;
      }
