-- A change by descents of both trees.
use Rattle.std.proofs.Common.{false, arith}
use Rattle.ib_map.specs.declared.call.Call.TheVariants.{Delete}
use Rattle.ib_runs.proofs.GrantLaws.{takes_one}
use Rattle.ib_pair_form.proofs.pair_descents.PairDescentsAccessSharedPair.delete.Goals as goal

pub delete-requires-clause-may : goal.delete-requires-clause-may
delete-requires-clause-may g c = record { rest = c.requires.rest; room = let room = c.requires.room in omega arith }

pub returns : goal.returns
returns g c =
    let few = c.delete.ensures.grants in let claims = few.claims in let all = few.all in
    record { seat = tt; rest = c.delete.ensures.rest; called = c.delete.ensures.called; takes = takes_one false (Delete c.args.key) c.args.pass.now c.delete.new.pass (omega arith) (λ read. absurd cc); within = omega arith; modes = record { reads = λ read. absurd cc; claims = omega arith } }
