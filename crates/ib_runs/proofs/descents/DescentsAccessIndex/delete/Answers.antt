-- A change by a descent.
use Rattle.std.proofs.Common.{false, arith, refl}
use Rattle.ib_map.specs.declared.call.Call.TheVariants.{Delete}
use Rattle.ib_runs.proofs.AccessLaws.{accessed-changed}
use Rattle.ib_runs.proofs.GrantLaws.{within_one}
use Rattle.ib_runs.proofs.descents.DescentsAccessIndex.delete.Goals as goal

pub delete-requires : goal.delete-requires
delete-requires g c = record { may = record { rest = c.requires.rest; room = let room = c.requires.room in omega arith } }

pub returns : goal.returns
returns g c =
    let a = accessed-changed c.args.index.now.sizes (Delete c.args.key) c.delete.result c.args.pass.now c.delete.new.pass refl (λ read. cc) c.delete.ensures.called c.delete.ensures.grants.all c.delete.ensures.grants.claims in
    record { seat = tt; rest = c.delete.ensures.rest; called = a.0; takes = a.1; within = within_one false (Delete c.args.key) c.args.pass.now c.delete.new.pass a.1; modes = a.2 }
