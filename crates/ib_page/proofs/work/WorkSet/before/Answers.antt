-- The page is found by its slot.
use Rattle.std.proofs.Common.{◌≡◌, ◌<◌, ◌≢◌, ◌∙◌, List, length, ap, subst, sym, arith, IsSomeAnd, slice_get}
use Rattle.std.specs.List.{All}
use Rattle.ib_page.specs.declared.work.Slot.{Slot}
use Rattle.ib_page.specs.Work.{IsWork, before_of}
use Rattle.ib_page.proofs.RoomLaws.{is_work, found_slot, room_at-lt, image_read, before_found, before_of-absent}
use Rattle.ib_page.proofs.work.WorkSet.before.Goals as goal

pub index-requires-in-Some : goal.index-requires-in-Some
index-requires-in-Some c =
    let found = subst (λ (ss : List Slot). IsSomeAnd (slice_get ss c.in-Some.index) (λ s. s.page ≡ c.args.page)) c.deref.ensures.value c.in-Some.ensures.there in
    let lt = room_at-lt _ _ _ _ c.in-Some.index c.index.result.now c.self.invariant.kept (found_slot _ _ _ c.index.result.now found).0 c.index.ensures in
    omega (arith, lt, c.self.invariant.kept.before_size, c.self.inside.before.ok)

pub returns-in-Some-clause-image : goal.returns-in-Some-clause-image
returns-in-Some-clause-image c =
    let found = subst (λ (ss : List Slot). IsSomeAnd (slice_get ss c.in-Some.index) (λ s. s.page ≡ c.args.page)) c.deref.ensures.value c.in-Some.ensures.there in
    let lt = room_at-lt _ _ _ _ c.in-Some.index c.index.result.now c.self.invariant.kept (found_slot _ _ _ c.index.result.now found).0 c.index.ensures in
    let lt_before : c.index.result.now.room < length c.self.inside.before.items = omega (arith, lt, c.self.invariant.kept.before_size) in
    before_found _ _ _ _ c.in-Some.index c.args.page c.index.result.now c.index-in-Some.result.now c.self.view_is c.self.invariant.kept.ascends found c.index.ensures
    (image_read c.self.inside.before.items c.index.result.now.room c.index-in-Some.result.now lt_before c.index-in-Some.ensures)

pub returns-in-None-clause-image : goal.returns-in-None-clause-image
returns-in-None-clause-image c =
    let apart = subst (λ (ss : List Slot). All (λ s. s.page ≢ c.args.page) ss) c.deref.ensures.value (c.find.ensures.absent c.in-None.is) in
    ap (λ ps. before_of c.args.page ps) (sym c.self.view_is) ∙ before_of-absent _ _ _ c.args.page apart

pub returns-in-Some-clause-work : goal.returns-in-Some-clause-work
returns-in-Some-clause-work c = subst IsWork c.self.view_is (is_work _ _ _ _ c.self.invariant.kept)

pub returns-in-None-clause-work : goal.returns-in-None-clause-work
returns-in-None-clause-work c = subst IsWork c.self.view_is (is_work _ _ _ _ c.self.invariant.kept)
