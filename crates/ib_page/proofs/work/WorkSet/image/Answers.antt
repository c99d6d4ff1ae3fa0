-- The page is found by its slot.
use Rattle.std.proofs.Common.{◌≡◌, ◌≢◌, ◌∙◌, List, length, ap, subst, sym, arith, IsSomeAnd, slice_get}
use Rattle.std.specs.List.{All}
use Rattle.ib_page.specs.declared.work.Slot.{Slot}
use Rattle.ib_page.specs.Work.{IsWork, changed_of}
use Rattle.ib_page.specs.Rooms.{changed_in}
use Rattle.ib_page.proofs.RoomLaws.{is_work, found_slot, room_at-lt, image_found, changed_of-absent}
use Rattle.ib_page.proofs.work.WorkSet.image.Goals as goal

pub latest-requires-clause-before : goal.latest-requires-clause-before
latest-requires-clause-before c =
    let found = subst (λ (ss : List Slot). IsSomeAnd (slice_get ss c.in-Some.index) (λ s. s.page ≡ c.args.page)) c.deref.ensures.value c.in-Some.ensures.there in
    let lt = room_at-lt _ _ _ _ c.in-Some.index c.index.result.now c.self.invariant.kept (found_slot _ _ _ c.index.result.now found).0 c.index.ensures in
    omega (arith, lt, c.self.invariant.kept.before_size, ap length c.deref-in-Some.ensures.value)

pub latest-requires-clause-changed : goal.latest-requires-clause-changed
latest-requires-clause-changed c =
    let found = subst (λ (ss : List Slot). IsSomeAnd (slice_get ss c.in-Some.index) (λ s. s.page ≡ c.args.page)) c.deref.ensures.value c.in-Some.ensures.there in
    let lt = room_at-lt _ _ _ _ c.in-Some.index c.index.result.now c.self.invariant.kept (found_slot _ _ _ c.index.result.now found).0 c.index.ensures in
    omega (arith, lt, c.self.invariant.kept.changed_size, ap length c.deref-in-Some-2.ensures.value)

pub returns-in-Some-clause-image : goal.returns-in-Some-clause-image
returns-in-Some-clause-image c =
    let found = subst (λ (ss : List Slot). IsSomeAnd (slice_get ss c.in-Some.index) (λ s. s.page ≡ c.args.page)) c.deref.ensures.value c.in-Some.ensures.there in
    image_found _ _ _ _ c.in-Some.index c.args.page c.index.result.now c.latest.result.now c.self.view_is c.self.invariant.kept.ascends found c.index.ensures
    (c.latest.ensures ∙ (ap (λ v. changed_in v c.deref-in-Some-2.result.now c.index.result.now) c.deref-in-Some.ensures.value ∙ ap (λ v. changed_in c.self.inside.before.items v c.index.result.now) c.deref-in-Some-2.ensures.value))

pub returns-in-None-clause-image : goal.returns-in-None-clause-image
returns-in-None-clause-image c =
    let apart = subst (λ (ss : List Slot). All (λ s. s.page ≢ c.args.page) ss) c.deref.ensures.value (c.find.ensures.absent c.in-None.is) in
    ap (λ ps. changed_of c.args.page ps) (sym c.self.view_is) ∙ changed_of-absent _ _ _ c.args.page apart

pub returns-in-Some-clause-work : goal.returns-in-Some-clause-work
returns-in-Some-clause-work c = subst IsWork c.self.view_is (is_work _ _ _ _ c.self.invariant.kept)

pub returns-in-None-clause-work : goal.returns-in-None-clause-work
returns-in-None-clause-work c = subst IsWork c.self.view_is (is_work _ _ _ _ c.self.invariant.kept)
