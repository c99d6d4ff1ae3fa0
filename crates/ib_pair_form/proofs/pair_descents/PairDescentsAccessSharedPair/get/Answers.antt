-- A lookup by a descent.
use Rattle.std.proofs.Common.{false, arith}
use Rattle.ib_map.specs.declared.call.Call.TheVariants.{Get}
use Rattle.ib_runs.proofs.GrantLaws.{takes_one}
use Rattle.ib_pair_form.proofs.pair_descents.PairDescentsAccessSharedPair.get.Goals as goal

pub get-requires-clause-may : goal.get-requires-clause-may
get-requires-clause-may g c = record { rest = c.requires.rest; room = let room = c.requires.room in omega arith }

pub returns : goal.returns
returns g c =
    let h = c.get.ensures.looked_up in
    let least = h.least in let most = h.most in let sx = h.sx in let x = h.x in
    record { seat = tt; rest = c.get.ensures.rest; called = h.called; takes = takes_one false (Get c.args.key) c.args.pass.now c.get.new.pass (omega arith) (λ read. omega arith); within = omega arith; modes = record { reads = λ read. (sx, x); claims = omega arith } }
