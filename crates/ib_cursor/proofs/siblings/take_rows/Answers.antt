-- The root, and then row by row.
use Rattle.std.specs.Prelude.{get_or}
use Rattle.std.proofs.Common.{◌≡◌, ◌∙◌, ◌+◌, ◌<◌, List, ℕ, ap, sym, subst, arith, length}
use Rattle.ib_layout.specs.Geometry.{Sizes}
use Rattle.ib_logrec.specs.Log.{by_place}
use Rattle.ib_plans.specs.Agreement.{last_of}
use Rattle.ib_rule.specs.Pass.{PassState}
use Rattle.ib_tree.specs.Logs.{pages_after}
use Rattle.ib_mtr.proofs.Keeping.{still_then}
use Rattle.ib_cursor.specs.Rows.{CanTakeRow}
use Rattle.ib_cursor.specs.Siblings.{with_siblings}
use Rattle.ib_cursor.specs.Takings.{HasTakenMore}
use Rattle.ib_cursor.proofs.TakenLaws.{path_some, root_can, rows_first, rows_held, rows_room, row_can, row_more, row_node}
use Rattle.ib_cursor.proofs.siblings.take_rows.Goals as goal

pub take_page-requires-clause-page : goal.take_page-requires-clause-page
take_page-requires-clause-page g c =
    let sizes : Sizes = c.args.mtr.now.latches.now.sizes in
    (root_can sizes g.L.Trees.ROOTS (g.L.Law.lawful sizes.pages) (by_place g.L.Law.opening sizes.pages) c.facts_of_trees.ensures.shapes c.args.sought.root c.requires.sought.some c.requires.sought.there c.args.sought.key c.requires.sought.is_key c.args.path.now c.requires.ready.0 c.args.mtr.now.pass.now c.requires.on_path c.requires.ready.1).1

pub take_page-requires-clause-holds : goal.take_page-requires-clause-holds
take_page-requires-clause-holds g c =
    let sizes : Sizes = c.args.mtr.now.latches.now.sizes in
    (c.requires.ready.0, (root_can sizes g.L.Trees.ROOTS (g.L.Law.lawful sizes.pages) (by_place g.L.Law.opening sizes.pages) c.facts_of_trees.ensures.shapes c.args.sought.root c.requires.sought.some c.requires.sought.there c.args.sought.key c.requires.sought.is_key c.args.path.now c.requires.ready.0 c.args.mtr.now.pass.now c.requires.on_path c.requires.ready.1).0)

pub loop-at-init : goal.loop-at-init
loop-at-init g c =
    let sizes : Sizes = c.args.mtr.now.latches.now.sizes in
    let p : PassState = c.args.mtr.now.pass.now in let q : PassState = c.take_page.new.mtr.pass.now in
    record {
      still = c.take_page.ensures.still;
      within = let a = path_some (pages_after (by_place g.L.Law.opening sizes.pages) p.view.memory.seen) c.args.sought.key c.args.sought.root in let b = ap length c.requires.on_path in omega arith;
      taken = λ held may.
          let can = (root_can sizes g.L.Trees.ROOTS (g.L.Law.lawful sizes.pages) (by_place g.L.Law.opening sizes.pages) c.facts_of_trees.ensures.shapes c.args.sought.root c.requires.sought.some c.requires.sought.there c.args.sought.key c.requires.sought.is_key c.args.path.now held p c.requires.on_path may).0 in
          rows_first sizes g.L.Trees.ROOTS (g.L.Law.lawful sizes.pages) (by_place g.L.Law.opening sizes.pages) c.facts_of_trees.ensures.shapes c.args.sought.root c.requires.sought.some c.requires.sought.there c.args.sought.key c.requires.sought.is_key c.args.path.now held p q c.requires.on_path (c.take_page.ensures.taken held can);
    }

pub take_row-last-requires-clause-room : goal.take_row-last-requires-clause-room
take_row-last-requires-clause-room g c =
    let sizes : Sizes = c.args.mtr.now.latches.now.sizes in
    let inv = c.loop-at.invariant in let rows = inv.taken c.requires.ready.0 c.requires.ready.1 in
    let more = rows_room sizes g.L.Trees.ROOTS (g.L.Law.lawful sizes.pages) (by_place g.L.Law.opening sizes.pages) c.facts_of_trees.ensures.shapes c.args.sought.root c.requires.sought.some c.requires.sought.there c.args.sought.key c.requires.sought.is_key c.args.path.now c.requires.ready.0 c.loop-at.at c.loop-at.last c.args.mtr.now.pass.now c.loop-at.mtr.pass.now c.requires.ready.1 rows in
    let room = c.requires.room in omega arith

pub take_row-last-requires-clause-ready : goal.take_row-last-requires-clause-ready
take_row-last-requires-clause-ready g c =
    let sizes : Sizes = c.args.mtr.now.latches.now.sizes in
    let p : PassState = c.args.mtr.now.pass.now in let q : PassState = c.loop-at.mtr.pass.now in
    let inv = c.loop-at.invariant in let rows = inv.taken c.requires.ready.0 c.requires.ready.1 in
    let page = get_or c.pages-pages.result.now c.loop-at.at 0 in
    let up : c.loop-at.at + 1 < length c.args.path.now = let a = ap length c.pages-pages.ensures.pages in let b = c.loop-at-test.true in omega arith in
    let is : rows.node ≡ page = sym (ap (λ ps. get_or ps c.loop-at.at 0) c.pages-pages.ensures.pages
    ∙ row_node sizes g.L.Trees.ROOTS (g.L.Law.lawful sizes.pages) (by_place g.L.Law.opening sizes.pages) c.facts_of_trees.ensures.shapes c.args.sought.root c.requires.sought.some c.requires.sought.there c.args.sought.key c.requires.sought.is_key c.args.path.now c.requires.ready.0 c.loop-at.at c.loop-at.last p q c.requires.ready.1 rows up) in
    let can = row_can sizes g.L.Trees.ROOTS (g.L.Law.lawful sizes.pages) (by_place g.L.Law.opening sizes.pages) c.facts_of_trees.ensures.shapes c.args.sought.root c.requires.sought.some c.requires.sought.there c.args.sought.key c.requires.sought.is_key c.args.path.now c.requires.ready.0 c.loop-at.at c.loop-at.last p q c.requires.ready.1 rows up in
    let held = rows_held sizes g.L.Trees.ROOTS (g.L.Law.lawful sizes.pages) (by_place g.L.Law.opening sizes.pages) c.facts_of_trees.ensures.shapes c.args.sought.root c.requires.sought.some c.requires.sought.there c.args.sought.key c.requires.sought.is_key c.args.path.now c.requires.ready.0 c.loop-at.at c.loop-at.last p q c.requires.ready.1 rows in
    subst (λ (s : Sizes). (held : List ℕ) × CanTakeRow s (g.L.Law.lawful s.pages) (by_place g.L.Law.opening s.pages) c.args.sought.key held page q) (sym (ap (λ m. m.now.sizes) inv.still.latches))
    (held, subst (λ n. CanTakeRow sizes (g.L.Law.lawful sizes.pages) (by_place g.L.Law.opening sizes.pages) c.args.sought.key held n q) is can)

pub loop-at-preserved : goal.loop-at-preserved
loop-at-preserved g c =
    let sizes : Sizes = c.args.mtr.now.latches.now.sizes in
    let p : PassState = c.args.mtr.now.pass.now in let q : PassState = c.loop-at.mtr.pass.now in let t : PassState = c.take_row-last.new.mtr.pass.now in
    let inv = c.loop-at.invariant in
    let page = get_or c.pages-pages.result.now c.loop-at.at 0 in
    let up : c.loop-at.at + 1 < length c.args.path.now = let a = ap length c.pages-pages.ensures.pages in let b = c.loop-at-test.true in omega arith in
    let same = ap (λ m. m.now.sizes) inv.still.latches in
    let m = pages_after (by_place g.L.Law.opening sizes.pages) q.view.memory.seen in
    let taken = subst (λ (s : Sizes). (held : List ℕ) → CanTakeRow s (g.L.Law.lawful s.pages) (by_place g.L.Law.opening s.pages) c.args.sought.key held page q
    → HasTakenMore s (g.L.Law.lawful s.pages) (by_place g.L.Law.opening s.pages) held (with_siblings (pages_after (by_place g.L.Law.opening s.pages) q.view.memory.seen) c.args.sought.key page) q t) same c.take_row-last.ensures.taken in
    record {
      still = still_then inv.still c.take_row-last.ensures.still;
      within = let a = ap length c.pages-pages.ensures.pages in let b = c.loop-at-test.true in omega arith;
      taken = λ before may.
          let rows = inv.taken before may in
          let is : page ≡ rows.node = ap (λ ps. get_or ps c.loop-at.at 0) c.pages-pages.ensures.pages
          ∙ row_node sizes g.L.Trees.ROOTS (g.L.Law.lawful sizes.pages) (by_place g.L.Law.opening sizes.pages) c.facts_of_trees.ensures.shapes c.args.sought.root c.requires.sought.some c.requires.sought.there c.args.sought.key c.requires.sought.is_key c.args.path.now before c.loop-at.at c.loop-at.last p q may rows up in
          let can = row_can sizes g.L.Trees.ROOTS (g.L.Law.lawful sizes.pages) (by_place g.L.Law.opening sizes.pages) c.facts_of_trees.ensures.shapes c.args.sought.root c.requires.sought.some c.requires.sought.there c.args.sought.key c.requires.sought.is_key c.args.path.now before c.loop-at.at c.loop-at.last p q may rows up in
          let held = rows_held sizes g.L.Trees.ROOTS (g.L.Law.lawful sizes.pages) (by_place g.L.Law.opening sizes.pages) c.facts_of_trees.ensures.shapes c.args.sought.root c.requires.sought.some c.requires.sought.there c.args.sought.key c.requires.sought.is_key c.args.path.now before c.loop-at.at c.loop-at.last p q may rows in
          let one = subst (λ n. (held : List ℕ) → CanTakeRow sizes (g.L.Law.lawful sizes.pages) (by_place g.L.Law.opening sizes.pages) c.args.sought.key held n q
          → HasTakenMore sizes (g.L.Law.lawful sizes.pages) (by_place g.L.Law.opening sizes.pages) held (with_siblings m c.args.sought.key n) q t) is taken held can in
          let last = subst (λ n. c.take_row-last.result ≡ last_of (with_siblings m c.args.sought.key n)) is (subst (λ (s : Sizes). c.take_row-last.result ≡ last_of (with_siblings (pages_after (by_place g.L.Law.opening s.pages) q.view.memory.seen) c.args.sought.key page)) same c.take_row-last.ensures.last) in
          row_more sizes g.L.Trees.ROOTS (g.L.Law.lawful sizes.pages) (by_place g.L.Law.opening sizes.pages) c.facts_of_trees.ensures.shapes c.args.sought.root c.requires.sought.some c.requires.sought.there c.args.sought.key c.requires.sought.is_key c.args.path.now before c.loop-at.at c.loop-at.last p q may rows up t c.take_row-last.result one last;
    }
