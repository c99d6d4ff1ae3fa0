-- A key of 64 bits is below the end.
use Rattle.ib_map.proofs.KeyLaws.{rank-lt_end}
use Rattle.ib_cursor.proofs.descent.descend_at.Goals as goal

pub reach_leaf-path-requires-clause-sought : goal.reach_leaf-path-requires-clause-sought
reach_leaf-path-requires-clause-sought g c = record { some = c.requires.root.some; there = c.requires.root.there; is_key = rank-lt_end c.args.key }

pub load_end-requires-clause-sought : goal.load_end-requires-clause-sought
load_end-requires-clause-sought g c = record { some = c.requires.root.some; there = c.requires.root.there; is_key = rank-lt_end c.args.key }
