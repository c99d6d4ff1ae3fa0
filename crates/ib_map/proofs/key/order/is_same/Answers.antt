-- Each key has a rank below the end.
use Rattle.ib_map.proofs.KeyLaws.{rank-lt_end}
use Rattle.ib_map.proofs.key.order.is_same.Goals as goal

pub returns-then-a-b-clause-first : goal.returns-then-a-b-clause-first
returns-then-a-b-clause-first c = rank-lt_end c.args.a

pub returns-then-a-b-clause-second : goal.returns-then-a-b-clause-second
returns-then-a-b-clause-second c = rank-lt_end c.args.b

pub returns-else-a-b-clause-first : goal.returns-else-a-b-clause-first
returns-else-a-b-clause-first c = rank-lt_end c.args.a

pub returns-else-a-b-clause-second : goal.returns-else-a-b-clause-second
returns-else-a-b-clause-second c = rank-lt_end c.args.b
