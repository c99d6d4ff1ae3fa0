-- The writes of the pages so far stand at the front.
use Rattle.std.proofs.Common.{◌≡◌, ◌*◌, ◌++◌, length, take, drop}
use Rattle.ib_map.specs.Writes.{write_words, spans_pages}
use Rattle.ib_page.specs.Rooms.{pages_in}
use Rattle.ib_page.specs.Writes.{writes_of}
use Rattle.ib_page.proofs.work.WorkSet.write_into.Given as goal

abbrev pub invariant-loop-slot : goal.invariant-loop-slot
invariant-loop-slot l = record {
  count : l.count ≡ length (writes_of (pages_in l.self-inside.before.items l.self-inside.changed.items (take l.slot-index l.self-inside.slots.items)));
  structural : l.structural ≡ spans_pages (writes_of (pages_in l.self-inside.before.items l.self-inside.changed.items (take l.slot-index l.self-inside.slots.items)));
  words : l.out ≡ write_words (writes_of (pages_in l.self-inside.before.items l.self-inside.changed.items (take l.slot-index l.self-inside.slots.items))) ++ drop (2 * l.count) l.initial.out;
}
