-- One page more of the path, from its end.
use Rattle.std.proofs.Common.{◌∙◌, sym, arith}
use Rattle.ib_plans.specs.Agreement.{memory_in}
use Rattle.ib_split.proofs.OnPathLaws.{full_run-at}
use Rattle.ib_split.proofs.need.full_pages.Goals as goal

pub returns-then-not-is_full-clause-run : goal.returns-then-not-is_full-clause-run
returns-then-not-is_full-clause-run c =
    let r = full_run-at (memory_in c.args.work.now) c.args.path.now c.loop-count.count _ c.loop-count-test.true
    (sym c.is_full.ensures ∙ c.if-not-is_full.true) in
    let i = c.loop-count.invariant in omega arith

pub loop-count-preserved : goal.loop-count-preserved
loop-count-preserved c =
    let r = full_run-at (memory_in c.args.work.now) c.args.path.now c.loop-count.count _ c.loop-count-test.true
    (sym c.is_full.ensures ∙ c.if-not-is_full.false) in
    let i = c.loop-count.invariant in omega arith
