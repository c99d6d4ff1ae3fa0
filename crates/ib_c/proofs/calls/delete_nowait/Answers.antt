use Rattle.std.proofs.Common.{refl, subst}
use Rattle.std.specs.Prelude.{Ok, Err}
use Rattle.ib_map.specs.Keys.{MapKey}
use Rattle.ib_c.specs.Calls.{IsDelete}
use Rattle.ib_c.proofs.calls.delete_nowait.Goals as goal

pub returns-in-Err-clause-deleted : goal.returns-in-Err-clause-deleted
returns-in-Err-clause-deleted c = (Err c.in-Err.status, c.told_answer.ensures, (c.in-Err.ensures.refused, refl))

pub returns-in-Ok-clause-deleted : goal.returns-in-Ok-clause-deleted
returns-in-Ok-clause-deleted c =
    let is : IsDelete c.in-Ok.key c.args.table.now c.args.pass.now c.delete_nowait.result c.delete_nowait.new.pass = record {
      rest = c.delete_nowait.ensures.rest;
      called = c.delete_nowait.ensures.called;
      grants = c.delete_nowait.ensures.grants;
      twice = c.delete_nowait.ensures.twice;
      contended = c.delete_nowait.ensures.contended;
    } in
    let same = subst (λ (key : MapKey). IsDelete key c.args.table.now c.args.pass.now c.delete_nowait.result c.delete_nowait.new.pass) c.in-Ok.ensures.ok.0 is in
    (Ok c.delete_nowait.result, c.told_answer-in-Ok.ensures, (c.in-Ok.ensures.ok.1, c.in-Ok.ensures.ok.2, same))
