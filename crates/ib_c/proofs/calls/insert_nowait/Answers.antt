use Rattle.std.proofs.Common.{refl, subst}
use Rattle.std.specs.Prelude.{Ok, Err}
use Rattle.ib_map.specs.Keys.{MapKey}
use Rattle.ib_c.specs.Calls.{IsInsert}
use Rattle.ib_c.proofs.calls.insert_nowait.Goals as goal

pub returns-in-Err-clause-inserted : goal.returns-in-Err-clause-inserted
returns-in-Err-clause-inserted c = (Err c.in-Err.status, c.told_answer.ensures, (c.in-Err.ensures.refused, refl))

pub returns-in-Ok-clause-inserted : goal.returns-in-Ok-clause-inserted
returns-in-Ok-clause-inserted c =
    let is : IsInsert c.args.value c.in-Ok.key c.args.table.now c.args.pass.now c.insert_nowait.result c.insert_nowait.new.pass = record {
      rest = c.insert_nowait.ensures.rest;
      called = c.insert_nowait.ensures.called;
      grants = c.insert_nowait.ensures.grants;
      twice = c.insert_nowait.ensures.twice;
      contended = c.insert_nowait.ensures.contended;
    } in
    let same = subst (λ (key : MapKey). IsInsert c.args.value key c.args.table.now c.args.pass.now c.insert_nowait.result c.insert_nowait.new.pass) c.in-Ok.ensures.ok.0 is in
    (Ok c.insert_nowait.result, c.told_answer-in-Ok.ensures, (c.in-Ok.ensures.ok.1, c.in-Ok.ensures.ok.2, same))
