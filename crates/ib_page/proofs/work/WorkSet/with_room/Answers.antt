-- All rooms are spare at the end.
use Rattle.std.proofs.Common.{◌≡◌, ◌+◌, [], ap, arith, ◌∙◌, ℕ, cond, ltb, map}
use Rattle.ib_page.specs.declared.work.TheConstants.{MOST_WORK_PAGES}
use Rattle.std.proofs.lemmas.List.{length_push}
use Rattle.ib_page.specs.Rooms.{work_page_in}
use Rattle.ib_page.proofs.RoomLaws.{once_more, kept_new}
use Rattle.ib_page.proofs.work.WorkSet.with_room.Goals as goal

pub push_reserved-requires : goal.push_reserved-requires
push_reserved-requires c = omega (arith, c.loop-room.invariant.count, c.loop-room.invariant.capacity, c.loop-room.spare.ok)

pub loop-room-preserved : goal.loop-room-preserved
loop-room-preserved c =
    let items = c.push_reserved.ensures.items in
    record {
      count = rw items (length_push c.loop-room.spare.items c.loop-room.room ∙ ap (λ n. n + 1) c.loop-room.invariant.count);
      once = λ r. rw items (once_more c.loop-room.spare.items c.loop-room.room r (c.loop-room.invariant.once r));
      capacity = omega (arith, c.push_reserved.ensures.capacity, c.loop-room.invariant.capacity);
    }

pub invariant_of-result : goal.invariant_of-result
invariant_of-result c =
    let count = c.loop-room.invariant.count in
    let ended : c.loop-room.room ≡ MOST_WORK_PAGES = omega arith in
    let none : c.in_ok-slots.slots.items ≡ [] = c.in_ok-slots.ensures.items in
    record {
      kept = rw none (kept_new c.in_ok-before.before.items c.in_ok-changed.changed.items c.loop-room.spare.items
          (omega (arith, c.in_ok-before.ensures.len, c.in_ok-before.before.ok)) (omega (arith, c.in_ok-changed.ensures.len, c.in_ok-changed.changed.ok)) (omega arith)
          (λ r. c.loop-room.invariant.once r ∙ ap (λ (n : ℕ). cond {A = ℕ} (ltb r n) 1 0) ended));
      slots_room = omega (arith, c.in_ok-slots.ensures.capacity);
      spare_room = c.loop-room.invariant.capacity;
    }

pub returns : goal.returns
returns c = ap (λ ss. map (work_page_in c.in_ok-before.before.items c.in_ok-changed.changed.items) ss) c.in_ok-slots.ensures.items
