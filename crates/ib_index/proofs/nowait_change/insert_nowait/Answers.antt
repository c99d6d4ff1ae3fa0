-- Both tries are one call.
use Rattle.std.proofs.Common.{inl, inr, Option, None, Some, subst, arith}
use Rattle.ib_map.specs.declared.call.Call.TheVariants.{Insert}
use Rattle.ib_map.specs.declared.call.Record.{Record}
use Rattle.ib_logrec.specs.Log.{by_place}
use Rattle.ib_tree.specs.TreeLog.{opening}
use Rattle.ib_planned_log.specs.Kept.{IsKeptLog}
use Rattle.ib_rule.specs.Pass.{PassState}
use Rattle.ib_layout.specs.Geometry.{Sizes}
use Rattle.ib_cursor.proofs.RefusalLaws.{few_both}
use Rattle.ib_leaf.specs.Leaf.{IsFullFor}
use Rattle.ib_leaf.proofs.AfterLaws.{called-after_stop}
use Rattle.ib_index.specs.Refusals.{HasTriedLeafAtOnce, TakesToInsert, most_to_insert}
use Rattle.ib_index.proofs.ChangeLaws.{few-again, few-alone}
use Rattle.ib_index.proofs.ContendedLaws.{contended-again}
use Rattle.ib_index.proofs.nowait_change.insert_nowait.Goals as goal

pub returns-in-Err-clause-contended : goal.returns-in-Err-clause-contended
returns-in-Err-clause-contended g c = inl c.in-Err.ensures.contended

pub returns-in-Some-clause-called : goal.returns-in-Some-clause-called
returns-in-Some-clause-called g c =
    let sizes : Sizes = c.args.latches.now.sizes in let p : PassState = c.args.pass.now in let q : PassState = c.optimistic_insert_nowait.new.pass in
    let tried : HasTriedLeafAtOnce sizes (IsFullFor c.args.key) c.args.key (Insert c.args.key c.args.value) (Some c.in-Some.answer) p q = subst (λ (o : Option Record). HasTriedLeafAtOnce sizes (IsFullFor c.args.key) c.args.key (Insert c.args.key c.args.value) o p q) c.in-Some.is c.in-Ok.ensures.tried in
    tried.tried.called

pub returns-in-Some-clause-grants : goal.returns-in-Some-clause-grants
returns-in-Some-clause-grants g c =
    let sizes : Sizes = c.args.latches.now.sizes in let p : PassState = c.args.pass.now in let q : PassState = c.optimistic_insert_nowait.new.pass in
    let tried : HasTriedLeafAtOnce sizes (IsFullFor c.args.key) c.args.key (Insert c.args.key c.args.value) (Some c.in-Some.answer) p q = subst (λ (o : Option Record). HasTriedLeafAtOnce sizes (IsFullFor c.args.key) c.args.key (Insert c.args.key c.args.value) o p q) c.in-Some.is c.in-Ok.ensures.tried in
    few-alone sizes (IsKeptLog sizes.pages) (by_place opening sizes.pages) (IsFullFor c.args.key) c.args.key p q q c.in-Some.answer.reply tried.tried.grants

pub returns-in-Some-clause-twice : goal.returns-in-Some-clause-twice
returns-in-Some-clause-twice g c = c.in-Ok.ensures.tried.few

pub returns-in-Ok-pessimistic_insert_nowait-clause-called : goal.returns-in-Ok-pessimistic_insert_nowait-clause-called
returns-in-Ok-pessimistic_insert_nowait-clause-called g c =
    let sizes : Sizes = c.args.latches.now.sizes in let p : PassState = c.args.pass.now in let q : PassState = c.optimistic_insert_nowait.new.pass in let r : PassState = c.pessimistic_insert_nowait.new.pass in
    let tried : HasTriedLeafAtOnce sizes (IsFullFor c.args.key) c.args.key (Insert c.args.key c.args.value) None p q = subst (λ (o : Option Record). HasTriedLeafAtOnce sizes (IsFullFor c.args.key) c.args.key (Insert c.args.key c.args.value) o p q) c.in-None.is c.in-Ok.ensures.tried in
    called-after_stop sizes (IsKeptLog sizes.pages) (by_place opening sizes.pages) (Insert c.args.key c.args.value) c.in-Ok-pessimistic_insert_nowait.answer p q r
    (λ h session one other reply place fits. fits) tried.tried.called.stopped c.in-Ok-pessimistic_insert_nowait.ensures.changed.called

pub returns-in-Ok-pessimistic_insert_nowait-clause-grants : goal.returns-in-Ok-pessimistic_insert_nowait-clause-grants
returns-in-Ok-pessimistic_insert_nowait-clause-grants g c =
    let sizes : Sizes = c.args.latches.now.sizes in let p : PassState = c.args.pass.now in let q : PassState = c.optimistic_insert_nowait.new.pass in let r : PassState = c.pessimistic_insert_nowait.new.pass in
    let tried : HasTriedLeafAtOnce sizes (IsFullFor c.args.key) c.args.key (Insert c.args.key c.args.value) None p q = subst (λ (o : Option Record). HasTriedLeafAtOnce sizes (IsFullFor c.args.key) c.args.key (Insert c.args.key c.args.value) o p q) c.in-None.is c.in-Ok.ensures.tried in
    let called = c.in-Ok-pessimistic_insert_nowait.ensures.changed.called in
    few-again sizes (IsKeptLog sizes.pages) (by_place opening sizes.pages) (IsFullFor c.args.key) c.args.key p q r c.in-Ok-pessimistic_insert_nowait.answer.reply
    tried.tried.called tried.tried.grants c.in-Ok-pessimistic_insert_nowait.ensures.changed.grants called.more called.seen

pub returns-in-Ok-pessimistic_insert_nowait-clause-twice : goal.returns-in-Ok-pessimistic_insert_nowait-clause-twice
returns-in-Ok-pessimistic_insert_nowait-clause-twice g c =
    let p : PassState = c.args.pass.now in let q : PassState = c.optimistic_insert_nowait.new.pass in let r : PassState = c.pessimistic_insert_nowait.new.pass in
    few_both 0 p.view q.view r.view c.in-Ok.ensures.tried.few c.in-Ok-pessimistic_insert_nowait.ensures.twice

pub returns-in-Err-pessimistic_insert_nowait-clause-contended : goal.returns-in-Err-pessimistic_insert_nowait-clause-contended
returns-in-Err-pessimistic_insert_nowait-clause-contended g c =
    let sizes : Sizes = c.args.latches.now.sizes in let p : PassState = c.args.pass.now in let q : PassState = c.optimistic_insert_nowait.new.pass in let r : PassState = c.pessimistic_insert_nowait.new.pass in
    let tried : HasTriedLeafAtOnce sizes (IsFullFor c.args.key) c.args.key (Insert c.args.key c.args.value) None p q = subst (λ (o : Option Record). HasTriedLeafAtOnce sizes (IsFullFor c.args.key) c.args.key (Insert c.args.key c.args.value) o p q) c.in-None.is c.in-Ok.ensures.tried in
    inr (contended-again sizes (IsFullFor c.args.key) c.args.key (TakesToInsert sizes c.args.key) most_to_insert (record { s = 17; sx = 1; x = 21 }) c.in-Err-pessimistic_insert_nowait.fault p q r (omega arith) (omega arith) (omega arith)
    tried.tried.called tried.tried.grants tried.few c.in-Err-pessimistic_insert_nowait.ensures.contended)
