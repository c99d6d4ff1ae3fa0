-- The slot's room has its images.
use Rattle.std.proofs.Common.{◌<◌, ◌∙◌, length, ap, subst, arith}
use Rattle.ib_page.specs.Work.{IsWork}
use Rattle.ib_page.specs.Rooms.{changed_in}
use Rattle.ib_page.proofs.RoomLaws.{is_work, index-lt, room_at-lt, image_read, page_read}
use Rattle.ib_page.proofs.work.WorkSet.page_at.Goals as goal

pub index-requires : goal.index-requires
index-requires c =
    let lt = room_at-lt _ _ _ _ c.args.index c.index-slot.result.now c.self.invariant.kept (index-lt _ _ _ _ c.args.index c.self.view_is c.requires) c.index-slot.ensures in
    omega (arith, lt, c.self.invariant.kept.before_size, c.self.inside.before.ok)

pub latest-requires-clause-before : goal.latest-requires-clause-before
latest-requires-clause-before c =
    let lt = room_at-lt _ _ _ _ c.args.index c.index-slot.result.now c.self.invariant.kept (index-lt _ _ _ _ c.args.index c.self.view_is c.requires) c.index-slot.ensures in
    omega (arith, lt, c.self.invariant.kept.before_size, ap length c.deref.ensures.value)

pub latest-requires-clause-changed : goal.latest-requires-clause-changed
latest-requires-clause-changed c =
    let lt = room_at-lt _ _ _ _ c.args.index c.index-slot.result.now c.self.invariant.kept (index-lt _ _ _ _ c.args.index c.self.view_is c.requires) c.index-slot.ensures in
    omega (arith, lt, c.self.invariant.kept.changed_size, ap length c.deref-2.ensures.value)

pub returns-clause-page : goal.returns-clause-page
returns-clause-page c =
    let within = index-lt _ _ _ _ c.args.index c.self.view_is c.requires in
    let lt = room_at-lt _ _ _ _ c.args.index c.index-slot.result.now c.self.invariant.kept within c.index-slot.ensures in
    let lt_before : c.index-slot.result.now.room < length c.self.inside.before.items = omega (arith, lt, c.self.invariant.kept.before_size) in
    page_read _ _ _ _ c.args.index c.index-slot.result.now c.index.result.now c.latest.result.now c.self.view_is within c.index-slot.ensures
    (image_read c.self.inside.before.items c.index-slot.result.now.room c.index.result.now lt_before c.index.ensures)
    (c.latest.ensures ∙ (ap (λ v. changed_in v c.deref-2.result.now c.index-slot.result.now) c.deref.ensures.value ∙ ap (λ v. changed_in c.self.inside.before.items v c.index-slot.result.now) c.deref-2.ensures.value))

pub returns-clause-work : goal.returns-clause-work
returns-clause-work c = subst IsWork c.self.view_is (is_work _ _ _ _ c.self.invariant.kept)
