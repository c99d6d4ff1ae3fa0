-- A key of 64 bits is below the end.
use Rattle.std.proofs.Common.{arith}
use Rattle.ib_map.proofs.KeyLaws.{rank-lt_end}
use Rattle.ib_cursor.proofs.lookup.find_leaf.Goals as goal

pub reach_leaf-path-requires-clause-sought : goal.reach_leaf-path-requires-clause-sought
reach_leaf-path-requires-clause-sought g c = record { some = omega arith; there = c.requires.root; is_key = rank-lt_end c.args.key }
