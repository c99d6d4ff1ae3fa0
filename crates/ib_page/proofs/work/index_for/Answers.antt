-- The index is behind all lower pages.
use Rattle.std.proofs.Common.{arith, length, false}
use Rattle.ib_page.specs.declared.work.Slot.{Slot}
use Rattle.ib_page.proofs.RoomLaws.{place_in-is}
use Rattle.ib_page.proofs.work.index_for.Goals as goal

pub returns-then-slot-page-clause-index : goal.returns-then-slot-page-clause-index
returns-then-slot-page-clause-index c =
    let d : Slot = record { page = 0; room = 0; edited = false } in
    place_in-is c.args.page c.args.slots.now c.loop-i.i d (omega arith) (λ k lt. c.loop-i.invariant k d lt) (λ lt. c.if-slot-page.true)

pub returns-clause-index : goal.returns-clause-index
returns-clause-index c =
    let d : Slot = record { page = 0; room = 0; edited = false } in
    place_in-is c.args.page c.args.slots.now (length c.args.slots.now) d (omega arith) (λ k lt. c.loop-i.invariant k d (omega arith)) (λ lt. absurd (omega arith))
