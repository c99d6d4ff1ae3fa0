-- The law of raises, clause by clause.
use Rattle.std.proofs.Common.{◌+◌, arith}
use Rattle.ib_core.proofs.Left.{raise_owed, ex_raise_owed}
use Rattle.ib_core.proofs.Near.{near_response}
use Rattle.ib_core.proofs.Pays.{response_pays, marks_pay}
use Rattle.ib_core.proofs.turn_laws.debt_law.Goals as goal

pub returns-clause-paid : goal.returns-clause-paid
returns-clause-paid c event w m a proper =
    let grows = response_pays w m event a proper in let made = marks_pay m a.phase event in let near = near_response a proper.single w m event in record {
      here = let g = grows.here in omega arith;
      grants = grows.few;
      away = λ l n. let o = grows.away l n in let g = near.away l n (λ h. h.s + h.sx + h.x) in omega arith;
    }

pub returns-clause-generation : goal.returns-clause-generation
returns-clause-generation c event w m a = raise_owed m a.phase event

pub returns-clause-ex_generation : goal.returns-clause-ex_generation
returns-clause-ex_generation c event w m a = ex_raise_owed m a.phase event
