use Rattle.std.proofs.Common.{◌-◌, ◌<◌, length, arith}
use Rattle.ib_script.proofs.ListsGrow.{lists-set}
use Rattle.ib_script.proofs.lists.push_to.Goals as goal

pub returns-clause-lists : goal.returns-clause-lists
returns-clause-lists c =
    let lists = c.args.lists.now in
    let lt : c.args.session - 1 < length lists.items = omega (arith, lists.ok.0) in
    lists-set lists.items (c.args.session - 1) c.args.call c.index_mut.result.now c.push.new.self lt c.index_mut.ensures.value c.in_ok-push.ensures.items
