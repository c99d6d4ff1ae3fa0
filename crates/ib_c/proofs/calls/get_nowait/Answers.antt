use Rattle.std.proofs.Common.{refl, subst}
use Rattle.std.specs.Prelude.{Ok, Err}
use Rattle.ib_map.specs.Keys.{MapKey}
use Rattle.ib_c.specs.Calls.{IsLookup}
use Rattle.ib_c.proofs.calls.get_nowait.Goals as goal

pub returns-in-Err-clause-looked_up : goal.returns-in-Err-clause-looked_up
returns-in-Err-clause-looked_up c = (Err c.in-Err.status, c.told_answer.ensures, (c.in-Err.ensures.refused, refl))

pub returns-in-Ok-clause-looked_up : goal.returns-in-Ok-clause-looked_up
returns-in-Ok-clause-looked_up c =
    let is : IsLookup c.in-Ok.key c.args.table.now c.args.pass.now c.get_nowait.result c.get_nowait.new.pass = record {
      rest = c.get_nowait.ensures.rest;
      looked_up = c.get_nowait.ensures.looked_up;
      contended = c.get_nowait.ensures.contended;
      twice = c.get_nowait.ensures.twice;
      vain = c.get_nowait.ensures.vain;
      looks = c.get_nowait.ensures.looks;
    } in
    let same = subst (λ (key : MapKey). IsLookup key c.args.table.now c.args.pass.now c.get_nowait.result c.get_nowait.new.pass) c.in-Ok.ensures.ok.0 is in
    (Ok c.get_nowait.result, c.told_answer-in-Ok.ensures, (c.in-Ok.ensures.ok.1, c.in-Ok.ensures.ok.2, same))
