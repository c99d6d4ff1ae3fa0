use Rattle.std.proofs.Common.{◌≡◌, ◌∙◌, ◌-◌, ◌+◌, suc, sym, ap, arith, Some, None, length}
use Rattle.std.proofs.lemmas.Bool.{cond-true, lt-ltb}
use Rattle.ib_map.specs.Keys.{rank, end_rank}
use Rattle.ib_map.proofs.KeyLaws.{rank-least}
use Rattle.ib_walk.specs.Pages.{PageState}
use Rattle.ib_walk.specs.Words.{memory_of}
use Rattle.ib_validate.specs.declared.position.PagePosition.{PagePosition}
use Rattle.ib_validate.specs.PatchTest.{set_at, root_at, set_roots}
use Rattle.ib_validate.specs.Positions.{position_in, positions_of}
use Rattle.ib_validate.proofs.MemoryLaws.{memory_of-page}
use Rattle.ib_validate.proofs.PositionLaws.{positions_of-set}
use Rattle.ib_tree.specs.PageLists.{is_below}
use Rattle.ib_tree.proofs.whole.meet_roots.Goals as goal

pub loop-met-preserved : goal.loop-met-preserved
loop-met-preserved c =
    let lt = c.requires.roots in
    let size = c.requires.size in
    let more = c.loop-met-test.true in
    let kept = c.loop-met.auto.table in
    let root = c.args.roots - c.loop-met.met in
    let left = c.args.roots - (c.loop-met.met + 1) in
    let next : root ≡ suc left = omega arith in
    let n = length c.args.memory.now in
    let m = memory_of c.args.memory.now in
    let before = positions_of c.loop-met.table in
    let page = memory_of-page c.args.memory.now root c.page.result (omega arith) c.page.ensures c.level.ensures.size in
    let level : c.level.result ≡ (m root).level = c.level.ensures.level ∙ ap (λ (p : PageState). p.level) (sym page) in
    let low = ap rank c.least.ensures ∙ rank-least in
    let position : PagePosition = record { tree = root; height = c.level.result; low = c.least.result; high = None } in
    let same : position_in position ≡ root_at m root end_rank = λ i. record { tree = root; height = level i; low = low i; high = end_rank } in
    ap (set_roots (is_below n) m end_rank left)
    (positions_of-set c.loop-met.table root (Some position) (omega arith)
    ∙ (ap (λ e. set_at before root (Some e)) same
    ∙ (ap (λ r. set_at before r (Some (root_at m r end_rank))) next
    ∙ sym (cond-true (is_below n (suc left)) (set_at before (suc left) (Some (root_at m (suc left) end_rank))) before (lt-ltb (suc left) n (omega arith))))))
    ∙ (ap (λ k. set_roots (is_below n) m end_rank k before) (sym next) ∙ c.loop-met.invariant)
