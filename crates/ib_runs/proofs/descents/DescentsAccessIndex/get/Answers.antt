-- A lookup by a descent.
use Rattle.std.proofs.Common.{false, arith}
use Rattle.ib_map.specs.declared.call.Call.TheVariants.{Get}
use Rattle.ib_runs.proofs.AccessLaws.{accessed-looked}
use Rattle.ib_runs.proofs.GrantLaws.{within_one}
use Rattle.ib_runs.proofs.descents.DescentsAccessIndex.get.Goals as goal

pub get-requires : goal.get-requires
get-requires g c = record { may = record { rest = c.requires.rest; room = let room = c.requires.room in omega arith } }

pub returns : goal.returns
returns g c =
    let a = accessed-looked c.args.index.now.sizes c.args.key c.get.result c.args.pass.now c.get.new.pass c.get.ensures.looked_up in
    record { seat = tt; rest = c.get.ensures.rest; called = a.0; takes = a.1; within = within_one false (Get c.args.key) c.args.pass.now c.get.new.pass a.1; modes = a.2 }
