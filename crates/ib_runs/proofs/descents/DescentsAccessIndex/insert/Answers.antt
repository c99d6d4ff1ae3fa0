-- A change by a descent.
use Rattle.std.proofs.Common.{false, arith, refl}
use Rattle.ib_map.specs.declared.call.Call.TheVariants.{Insert}
use Rattle.ib_runs.proofs.AccessLaws.{accessed-changed}
use Rattle.ib_runs.proofs.GrantLaws.{within_one}
use Rattle.ib_runs.proofs.descents.DescentsAccessIndex.insert.Goals as goal

pub insert-requires : goal.insert-requires
insert-requires g c = record { may = record { rest = c.requires.rest; room = let room = c.requires.room in omega arith } }

pub returns : goal.returns
returns g c =
    let a = accessed-changed c.args.index.now.sizes (Insert c.args.key c.args.value) c.insert.result c.args.pass.now c.insert.new.pass refl (λ read. cc) c.insert.ensures.called c.insert.ensures.grants.all c.insert.ensures.grants.claims in
    record { seat = tt; rest = c.insert.ensures.rest; called = a.0; takes = a.1; within = within_one false (Insert c.args.key c.args.value) c.args.pass.now c.insert.new.pass a.1; modes = a.2 }
