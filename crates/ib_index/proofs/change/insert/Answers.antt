-- Both tries are one call.
use Rattle.ib_map.specs.declared.call.Call.TheVariants.{Insert}
use Rattle.ib_logrec.specs.Log.{by_place}
use Rattle.ib_tree.specs.TreeLog.{opening}
use Rattle.ib_planned_log.specs.Kept.{IsKeptLog}
use Rattle.ib_rule.specs.Pass.{PassState}
use Rattle.ib_layout.specs.Geometry.{Sizes}
use Rattle.ib_leaf.specs.Leaf.{IsFullFor}
use Rattle.ib_leaf.proofs.AfterLaws.{called-after_stop}
use Rattle.ib_index.proofs.ChangeLaws.{few-again}
use Rattle.ib_index.proofs.change.insert.Goals as goal

pub returns-in-None-clause-called : goal.returns-in-None-clause-called
returns-in-None-clause-called g c =
    let sizes : Sizes = c.args.latches.now.sizes in let p : PassState = c.args.pass.now in let q : PassState = c.optimistic_insert.new.pass in let r : PassState = c.pessimistic_insert.new.pass in
    called-after_stop sizes (IsKeptLog sizes.pages) (by_place opening sizes.pages) (Insert c.args.key c.args.value) c.pessimistic_insert.result p q r
    (λ h session one other reply place fits. fits) c.in-None.ensures.tried.called.stopped c.pessimistic_insert.ensures.changed.called

pub returns-in-None-clause-grants : goal.returns-in-None-clause-grants
returns-in-None-clause-grants g c =
    let sizes : Sizes = c.args.latches.now.sizes in let p : PassState = c.args.pass.now in let q : PassState = c.optimistic_insert.new.pass in let r : PassState = c.pessimistic_insert.new.pass in
    let called = c.pessimistic_insert.ensures.changed.called in
    few-again sizes (IsKeptLog sizes.pages) (by_place opening sizes.pages) (IsFullFor c.args.key) c.args.key p q r c.pessimistic_insert.result.reply
    c.in-None.ensures.tried.called c.in-None.ensures.tried.grants c.pessimistic_insert.ensures.changed.grants called.more called.seen
