-- The rooms are kept, and there is room for each of them among the spare ones.
use Rattle.std.proofs.Common.{◌≤◌, length}
use Rattle.std.specs.Vec.{vec_capacity}
use Rattle.ib_page.specs.declared.work.TheConstants.{MOST_WORK_PAGES}
use Rattle.ib_page.specs.Rooms.{IsRoomed}
use Rattle.ib_page.proofs.work.WorkSet.clear.Given as goal

abbrev pub invariant-loop-slot : goal.invariant-loop-slot
invariant-loop-slot l = record {
  kept : IsRoomed l.self-inside.slots.items l.self-inside.before.items l.self-inside.changed.items l.self-inside.spare.items;
  slots_room : MOST_WORK_PAGES ≤ vec_capacity l.self-inside.slots;
  spare_room : MOST_WORK_PAGES ≤ vec_capacity l.self-inside.spare;
}

abbrev pub decreases-loop-slot : goal.decreases-loop-slot
decreases-loop-slot l = length l.self-inside.slots.items
