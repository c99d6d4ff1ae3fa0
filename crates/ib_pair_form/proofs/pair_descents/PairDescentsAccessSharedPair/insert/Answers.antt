-- A change by descents of both trees.
use Rattle.std.proofs.Common.{false, arith}
use Rattle.ib_map.specs.declared.call.Call.TheVariants.{Insert}
use Rattle.ib_runs.proofs.GrantLaws.{takes_one}
use Rattle.ib_pair_form.proofs.pair_descents.PairDescentsAccessSharedPair.insert.Goals as goal

pub insert-requires-clause-may : goal.insert-requires-clause-may
insert-requires-clause-may g c = record { rest = c.requires.rest; room = let room = c.requires.room in omega arith }

pub returns : goal.returns
returns g c =
    let few = c.insert.ensures.grants in let claims = few.claims in let all = few.all in
    record { seat = tt; rest = c.insert.ensures.rest; called = c.insert.ensures.called; takes = takes_one false (Insert c.args.key c.args.value) c.args.pass.now c.insert.new.pass (omega arith) (λ read. absurd cc); within = omega arith; modes = record { reads = λ read. absurd cc; claims = omega arith } }
