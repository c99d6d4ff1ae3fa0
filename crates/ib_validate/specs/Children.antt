-- A child of a node, as the code has it.
use Rattle.ib_map.specs.Keys.{rank}
use Rattle.ib_walk.specs.Walk.{Visit}
use Rattle.ib_validate.specs.declared.children.Child.{Child}
use Rattle.ib_validate.specs.Positions.{end_of}

abbrev pub visit_of_child : Child → Visit
visit_of_child c = record { page = c.page; low = rank c.low; high = end_of c.high }
