-- The root, and then row by row.
use Rattle.std.specs.Prelude.{get_or, ◌-◌}
use Rattle.std.proofs.Common.{◌≡◌, ◌∙◌, ◌+◌, ◌<◌, List, ℕ, ap, sym, subst, arith, length}
use Rattle.ib_layout.specs.Geometry.{Sizes}
use Rattle.ib_logrec.specs.Log.{by_place}
use Rattle.ib_plans.specs.Agreement.{last_of}
use Rattle.ib_rule.specs.Pass.{PassState}
use Rattle.ib_tree.specs.Logs.{pages_after}
use Rattle.ib_mtr.proofs.Keeping.{still_then}
use Rattle.ib_cursor.specs.Rows.{CanTakeRow, HasTakenRows}
use Rattle.ib_cursor.specs.Siblings.{with_siblings}
use Rattle.ib_cursor.specs.Takings.{HasTakenMore}
use Rattle.ib_cursor.proofs.TakenLaws.{path_some, root_can, rows_first, rows_held, rows_room, row_can, row_more, row_node}
use Rattle.ib_cursor.specs.Refusals.{IsRefusedBehind}
use Rattle.ib_cursor.proofs.RefusalLaws.{few_both}
use Rattle.ib_cursor.proofs.RowRefusalLaws.{root_refused, row_refused}
use Rattle.ib_cursor.proofs.nowait_siblings.try_take_rows.Goals as goal

pub try_take_page-requires-clause-page : goal.try_take_page-requires-clause-page
try_take_page-requires-clause-page g c =
    let sizes : Sizes = c.args.mtr.now.latches.now.sizes in
    (root_can sizes g.L.Trees.ROOTS (g.L.Law.lawful sizes.pages) (by_place g.L.Law.opening sizes.pages) c.facts_of_trees.ensures.shapes c.args.sought.root c.requires.sought.some c.requires.sought.there c.args.sought.key c.requires.sought.is_key c.args.path.now c.requires.ready.0 c.args.mtr.now.pass.now c.requires.on_path c.requires.ready.1).1

pub try_take_page-requires-clause-holds : goal.try_take_page-requires-clause-holds
try_take_page-requires-clause-holds g c =
    let sizes : Sizes = c.args.mtr.now.latches.now.sizes in
    (c.requires.ready.0, (root_can sizes g.L.Trees.ROOTS (g.L.Law.lawful sizes.pages) (by_place g.L.Law.opening sizes.pages) c.facts_of_trees.ensures.shapes c.args.sought.root c.requires.sought.some c.requires.sought.there c.args.sought.key c.requires.sought.is_key c.args.path.now c.requires.ready.0 c.args.mtr.now.pass.now c.requires.on_path c.requires.ready.1).0)

pub loop-at-init : goal.loop-at-init
loop-at-init g c =
    let sizes : Sizes = c.args.mtr.now.latches.now.sizes in
    let p : PassState = c.args.mtr.now.pass.now in let q : PassState = c.try_take_page.new.mtr.pass.now in
    record {
      still = c.try_take_page.ensures.still;
      within = let a = path_some (pages_after (by_place g.L.Law.opening sizes.pages) p.view.memory.seen) c.args.sought.key c.args.sought.root in let b = ap length c.requires.on_path in omega arith;
      taken = λ held may.
          let can = (root_can sizes g.L.Trees.ROOTS (g.L.Law.lawful sizes.pages) (by_place g.L.Law.opening sizes.pages) c.facts_of_trees.ensures.shapes c.args.sought.root c.requires.sought.some c.requires.sought.there c.args.sought.key c.requires.sought.is_key c.args.path.now held p c.requires.on_path may).0 in
          rows_first sizes g.L.Trees.ROOTS (g.L.Law.lawful sizes.pages) (by_place g.L.Law.opening sizes.pages) c.facts_of_trees.ensures.shapes c.args.sought.root c.requires.sought.some c.requires.sought.there c.args.sought.key c.requires.sought.is_key c.args.path.now held p q c.requires.on_path (c.in-Ok.ensures.taken held can);
      few = c.in-Ok.ensures.few;
    }

pub try_take_row-requires-clause-room : goal.try_take_row-requires-clause-room
try_take_row-requires-clause-room g c =
    let sizes : Sizes = c.args.mtr.now.latches.now.sizes in
    let inv = c.loop-at.invariant in let rows = inv.taken c.requires.ready.0 c.requires.ready.1 in
    let more = rows_room sizes g.L.Trees.ROOTS (g.L.Law.lawful sizes.pages) (by_place g.L.Law.opening sizes.pages) c.facts_of_trees.ensures.shapes c.args.sought.root c.requires.sought.some c.requires.sought.there c.args.sought.key c.requires.sought.is_key c.args.path.now c.requires.ready.0 c.loop-at.at c.loop-at.last c.args.mtr.now.pass.now c.loop-at.mtr.pass.now c.requires.ready.1 rows in
    let room = c.requires.room in omega arith

pub try_take_row-requires-clause-ready : goal.try_take_row-requires-clause-ready
try_take_row-requires-clause-ready g c =
    let sizes : Sizes = c.args.mtr.now.latches.now.sizes in
    let p : PassState = c.args.mtr.now.pass.now in let q : PassState = c.loop-at.mtr.pass.now in
    let inv = c.loop-at.invariant in let rows = inv.taken c.requires.ready.0 c.requires.ready.1 in
    let page = get_or c.pages-pages.result.now c.loop-at.at 0 in
    let up : c.loop-at.at + 1 < length c.args.path.now = let a = ap length c.pages-pages.ensures.pages in let b = c.loop-at-test.true in omega arith in
    let is : rows.node ≡ page = sym (ap (λ ps. get_or ps c.loop-at.at 0) c.pages-pages.ensures.pages
    ∙ row_node sizes g.L.Trees.ROOTS (g.L.Law.lawful sizes.pages) (by_place g.L.Law.opening sizes.pages) c.facts_of_trees.ensures.shapes c.args.sought.root c.requires.sought.some c.requires.sought.there c.args.sought.key c.requires.sought.is_key c.args.path.now c.requires.ready.0 c.loop-at.at c.loop-at.last p q c.requires.ready.1 rows up) in
    let can = row_can sizes g.L.Trees.ROOTS (g.L.Law.lawful sizes.pages) (by_place g.L.Law.opening sizes.pages) c.facts_of_trees.ensures.shapes c.args.sought.root c.requires.sought.some c.requires.sought.there c.args.sought.key c.requires.sought.is_key c.args.path.now c.requires.ready.0 c.loop-at.at c.loop-at.last p q c.requires.ready.1 rows up in
    let held = rows_held sizes g.L.Trees.ROOTS (g.L.Law.lawful sizes.pages) (by_place g.L.Law.opening sizes.pages) c.facts_of_trees.ensures.shapes c.args.sought.root c.requires.sought.some c.requires.sought.there c.args.sought.key c.requires.sought.is_key c.args.path.now c.requires.ready.0 c.loop-at.at c.loop-at.last p q c.requires.ready.1 rows in
    subst (λ (s : Sizes). (held : List ℕ) × CanTakeRow s (g.L.Law.lawful s.pages) (by_place g.L.Law.opening s.pages) c.args.sought.key held page q) (sym (ap (λ m. m.now.sizes) inv.still.latches))
    (held, subst (λ n. CanTakeRow sizes (g.L.Law.lawful sizes.pages) (by_place g.L.Law.opening sizes.pages) c.args.sought.key held n q) is can)

pub loop-at-preserved : goal.loop-at-preserved
loop-at-preserved g c =
    let sizes : Sizes = c.args.mtr.now.latches.now.sizes in
    let p : PassState = c.args.mtr.now.pass.now in let q : PassState = c.loop-at.mtr.pass.now in let t : PassState = c.try_take_row.new.mtr.pass.now in
    let inv = c.loop-at.invariant in
    let page = get_or c.pages-pages.result.now c.loop-at.at 0 in
    let up : c.loop-at.at + 1 < length c.args.path.now = let a = ap length c.pages-pages.ensures.pages in let b = c.loop-at-test.true in omega arith in
    let same = ap (λ m. m.now.sizes) inv.still.latches in
    let m = pages_after (by_place g.L.Law.opening sizes.pages) q.view.memory.seen in
    let taken = subst (λ (s : Sizes). (held : List ℕ) → CanTakeRow s (g.L.Law.lawful s.pages) (by_place g.L.Law.opening s.pages) c.args.sought.key held page q
    → HasTakenMore s (g.L.Law.lawful s.pages) (by_place g.L.Law.opening s.pages) held (with_siblings (pages_after (by_place g.L.Law.opening s.pages) q.view.memory.seen) c.args.sought.key page) q t) same c.in-Ok-try_take_row.ensures.taken in
    record {
      still = still_then inv.still c.try_take_row.ensures.still;
      within = let a = ap length c.pages-pages.ensures.pages in let b = c.loop-at-test.true in omega arith;
      taken = λ before may.
          let rows = inv.taken before may in
          let is : page ≡ rows.node = ap (λ ps. get_or ps c.loop-at.at 0) c.pages-pages.ensures.pages
          ∙ row_node sizes g.L.Trees.ROOTS (g.L.Law.lawful sizes.pages) (by_place g.L.Law.opening sizes.pages) c.facts_of_trees.ensures.shapes c.args.sought.root c.requires.sought.some c.requires.sought.there c.args.sought.key c.requires.sought.is_key c.args.path.now before c.loop-at.at c.loop-at.last p q may rows up in
          let can = row_can sizes g.L.Trees.ROOTS (g.L.Law.lawful sizes.pages) (by_place g.L.Law.opening sizes.pages) c.facts_of_trees.ensures.shapes c.args.sought.root c.requires.sought.some c.requires.sought.there c.args.sought.key c.requires.sought.is_key c.args.path.now before c.loop-at.at c.loop-at.last p q may rows up in
          let held = rows_held sizes g.L.Trees.ROOTS (g.L.Law.lawful sizes.pages) (by_place g.L.Law.opening sizes.pages) c.facts_of_trees.ensures.shapes c.args.sought.root c.requires.sought.some c.requires.sought.there c.args.sought.key c.requires.sought.is_key c.args.path.now before c.loop-at.at c.loop-at.last p q may rows in
          let one = subst (λ n. (held : List ℕ) → CanTakeRow sizes (g.L.Law.lawful sizes.pages) (by_place g.L.Law.opening sizes.pages) c.args.sought.key held n q
          → HasTakenMore sizes (g.L.Law.lawful sizes.pages) (by_place g.L.Law.opening sizes.pages) held (with_siblings m c.args.sought.key n) q t) is taken held can in
          let last = subst (λ n. c.in-Ok-try_take_row.page ≡ last_of (with_siblings m c.args.sought.key n)) is (subst (λ (s : Sizes). c.in-Ok-try_take_row.page ≡ last_of (with_siblings (pages_after (by_place g.L.Law.opening s.pages) q.view.memory.seen) c.args.sought.key page)) same c.in-Ok-try_take_row.ensures.last) in
          row_more sizes g.L.Trees.ROOTS (g.L.Law.lawful sizes.pages) (by_place g.L.Law.opening sizes.pages) c.facts_of_trees.ensures.shapes c.args.sought.root c.requires.sought.some c.requires.sought.there c.args.sought.key c.requires.sought.is_key c.args.path.now before c.loop-at.at c.loop-at.last p q may rows up t c.in-Ok-try_take_row.page one last;
      few = few_both 0 p.view q.view t.view inv.few c.in-Ok-try_take_row.ensures.few;
    }

pub returns-in-Err-clause-refused : goal.returns-in-Err-clause-refused
returns-in-Err-clause-refused g c =
    let sizes : Sizes = c.args.mtr.now.latches.now.sizes in
    let p : PassState = c.args.mtr.now.pass.now in let q : PassState = c.try_take_page.new.mtr.pass.now in
    let can = (root_can sizes g.L.Trees.ROOTS (g.L.Law.lawful sizes.pages) (by_place g.L.Law.opening sizes.pages) c.facts_of_trees.ensures.shapes c.args.sought.root c.requires.sought.some c.requires.sought.there c.args.sought.key c.requires.sought.is_key c.args.path.now c.requires.ready.0 p c.requires.on_path c.requires.ready.1).0 in
    root_refused sizes g.L.Trees.ROOTS (g.L.Law.lawful sizes.pages) (by_place g.L.Law.opening sizes.pages) c.facts_of_trees.ensures.shapes c.args.sought.root c.requires.sought.some c.requires.sought.there c.args.sought.key c.requires.sought.is_key c.in-Err.fault c.args.path.now p q c.requires.on_path (c.in-Err.ensures.refused c.requires.ready.0 can).refused

pub returns-in-Err-try_take_row-clause-refused : goal.returns-in-Err-try_take_row-clause-refused
returns-in-Err-try_take_row-clause-refused g c =
    let sizes : Sizes = c.args.mtr.now.latches.now.sizes in
    let p : PassState = c.args.mtr.now.pass.now in let q : PassState = c.loop-at.mtr.pass.now in let t : PassState = c.try_take_row.new.mtr.pass.now in
    let inv = c.loop-at.invariant in let before = c.requires.ready.0 in let may = c.requires.ready.1 in let rows = inv.taken before may in let f = c.in-Err-try_take_row.fault in
    let page = get_or c.pages-pages.result.now c.loop-at.at 0 in
    let up : c.loop-at.at + 1 < length c.args.path.now = let a = ap length c.pages-pages.ensures.pages in let b = c.loop-at-test.true in omega arith in
    let same = ap (λ m. m.now.sizes) inv.still.latches in
    let m = pages_after (by_place g.L.Law.opening sizes.pages) q.view.memory.seen in
    let is : page ≡ rows.node = ap (λ ps. get_or ps c.loop-at.at 0) c.pages-pages.ensures.pages
    ∙ row_node sizes g.L.Trees.ROOTS (g.L.Law.lawful sizes.pages) (by_place g.L.Law.opening sizes.pages) c.facts_of_trees.ensures.shapes c.args.sought.root c.requires.sought.some c.requires.sought.there c.args.sought.key c.requires.sought.is_key c.args.path.now before c.loop-at.at c.loop-at.last p q may rows up in
    let can = row_can sizes g.L.Trees.ROOTS (g.L.Law.lawful sizes.pages) (by_place g.L.Law.opening sizes.pages) c.facts_of_trees.ensures.shapes c.args.sought.root c.requires.sought.some c.requires.sought.there c.args.sought.key c.requires.sought.is_key c.args.path.now before c.loop-at.at c.loop-at.last p q may rows up in
    let held = rows_held sizes g.L.Trees.ROOTS (g.L.Law.lawful sizes.pages) (by_place g.L.Law.opening sizes.pages) c.facts_of_trees.ensures.shapes c.args.sought.root c.requires.sought.some c.requires.sought.there c.args.sought.key c.requires.sought.is_key c.args.path.now before c.loop-at.at c.loop-at.last p q may rows in
    let refused = subst (λ (s : Sizes). (held : List ℕ) → CanTakeRow s (g.L.Law.lawful s.pages) (by_place g.L.Law.opening s.pages) c.args.sought.key held page q
    → IsRefusedBehind s (g.L.Law.lawful s.pages) (by_place g.L.Law.opening s.pages) held (with_siblings (pages_after (by_place g.L.Law.opening s.pages) q.view.memory.seen) c.args.sought.key page) f q t) same c.in-Err-try_take_row.ensures.refused in
    let v = subst (λ n. (held : List ℕ) → CanTakeRow sizes (g.L.Law.lawful sizes.pages) (by_place g.L.Law.opening sizes.pages) c.args.sought.key held n q
    → IsRefusedBehind sizes (g.L.Law.lawful sizes.pages) (by_place g.L.Law.opening sizes.pages) held (with_siblings m c.args.sought.key n) f q t) is refused held can in
    row_refused sizes g.L.Trees.ROOTS (g.L.Law.lawful sizes.pages) (by_place g.L.Law.opening sizes.pages) c.facts_of_trees.ensures.shapes c.args.sought.root c.requires.sought.some c.requires.sought.there c.args.sought.key c.requires.sought.is_key f c.args.path.now before c.loop-at.at c.loop-at.last p q may rows inv.few up t v

pub returns-clause-taken : goal.returns-clause-taken
returns-clause-taken g c = λ held may.
    let sizes : Sizes = c.args.mtr.now.latches.now.sizes in
    let inv = c.loop-at.invariant in
    let at : c.loop-at.at ≡ length c.args.path.now - 1 = let a = ap length c.pages-pages.ensures.pages in let b = c.loop-at-test.false in let w = inv.within in omega arith in
    subst (λ n. HasTakenRows sizes (g.L.Law.lawful sizes.pages) (by_place g.L.Law.opening sizes.pages) held c.args.sought.root c.args.sought.key c.args.path.now n c.loop-at.last c.args.mtr.now.pass.now c.loop-at.mtr.pass.now) at (inv.taken held may)
