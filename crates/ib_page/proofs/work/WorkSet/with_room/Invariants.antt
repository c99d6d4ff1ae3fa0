-- Each room so far is spare once.
use Rattle.std.proofs.Common.{◌≡◌, ◌≤◌, ℕ, length}
use Rattle.std.specs.Prelude.{count_by, ◌==◌, nat_lt, if◌then◌else◌}
use Rattle.std.specs.Vec.{vec_capacity}
use Rattle.ib_page.specs.declared.work.TheConstants.{MOST_WORK_PAGES}
use Rattle.ib_page.proofs.work.WorkSet.with_room.Given as goal

abbrev pub invariant-loop-room : goal.invariant-loop-room
invariant-loop-room l = record {
  count : length l.spare.items ≡ l.room;
  once : (room : ℕ) → count_by (λ r. r == room) l.spare.items ≡ (if nat_lt room l.room then 1 else 0);
  capacity : MOST_WORK_PAGES ≤ vec_capacity l.spare;
}
