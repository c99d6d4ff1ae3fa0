-- A key of 64 bits is below the end.
use Rattle.std.proofs.Common.{arith}
use Rattle.ib_map.proofs.KeyLaws.{rank-lt_end}
use Rattle.ib_cursor.proofs.RefusalLaws.{few_same}
use Rattle.ib_cursor.proofs.descent.descend_nowait.Goals as goal

pub reach_leaf_nowait-requires-clause-sought : goal.reach_leaf_nowait-requires-clause-sought
reach_leaf_nowait-requires-clause-sought g c = record { some = omega arith; there = c.requires.root; is_key = rank-lt_end c.args.key }

pub load_end-requires-clause-sought : goal.load_end-requires-clause-sought
load_end-requires-clause-sought g c = record { some = omega arith; there = c.requires.root; is_key = rank-lt_end c.args.key }

pub returns-in-Ok-clause-twice : goal.returns-in-Ok-clause-twice
returns-in-Ok-clause-twice g c = few_same 0 c.args.mtr.now.pass.now.view c.reach_leaf_nowait.new.mtr.pass.now.view c.load_end.new.mtr.pass.now.view c.load_end.ensures.looks c.load_end.ensures.grants c.in-Ok.ensures.twice
