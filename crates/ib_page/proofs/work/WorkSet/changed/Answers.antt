-- One more page's differences.
use Rattle.std.proofs.Common.{◌<◌, length, get_or, ap, subst, arith, false}
use Rattle.ib_page.specs.declared.work.Slot.{Slot}
use Rattle.ib_page.specs.Work.{IsWork}
use Rattle.ib_page.proofs.RoomLaws.{is_work, room-lt}
use Rattle.ib_page.proofs.work.WorkSet.changed.Goals as goal

pub differing-count-requires-clause-before : goal.differing-count-requires-clause-before
differing-count-requires-clause-before c =
    let d : Slot = record { page = 0; room = 0; edited = false } in
    let same = ap (λ ss. (get_or ss c.loop-slot.slot-index d).room) c.deref-slot-items.ensures.value in
    let lt : c.loop-slot.slot-index < length c.self.inside.slots.items = omega (arith, ap length c.deref-slot-items.ensures.value) in
    omega (arith, same, room-lt _ _ _ _ c.loop-slot.slot-index d c.self.invariant.kept lt, c.self.invariant.kept.before_size, ap length c.deref.ensures.value)

pub differing-count-requires-clause-changed : goal.differing-count-requires-clause-changed
differing-count-requires-clause-changed c =
    let d : Slot = record { page = 0; room = 0; edited = false } in
    let same = ap (λ ss. (get_or ss c.loop-slot.slot-index d).room) c.deref-slot-items.ensures.value in
    let lt : c.loop-slot.slot-index < length c.self.inside.slots.items = omega (arith, ap length c.deref-slot-items.ensures.value) in
    omega (arith, same, room-lt _ _ _ _ c.loop-slot.slot-index d c.self.invariant.kept lt, c.self.invariant.kept.changed_size, ap length c.deref-in-loop-slot.ensures.value)

pub returns-clause-work : goal.returns-clause-work
returns-clause-work c = subst IsWork c.self.view_is (is_work _ _ _ _ c.self.invariant.kept)
