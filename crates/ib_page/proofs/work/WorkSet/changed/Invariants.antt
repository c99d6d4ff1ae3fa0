-- The words that differ so far.
use Rattle.std.proofs.Common.{◌≡◌, ◌≤◌, ◌*◌, length, take}
use Rattle.ib_map.specs.declared.TheConstants.{PAGE_WORDS}
use Rattle.ib_page.specs.Rooms.{pages_in}
use Rattle.ib_page.specs.Writes.{writes_of}
use Rattle.ib_page.proofs.work.WorkSet.changed.Given as goal

abbrev pub invariant-loop-slot : goal.invariant-loop-slot
invariant-loop-slot l = record {
  count : l.count ≡ length (writes_of (pages_in l.self-inside.before.items l.self-inside.changed.items (take l.slot-index l.self-inside.slots.items)));
  few : l.count ≤ PAGE_WORDS * l.slot-index;
}
