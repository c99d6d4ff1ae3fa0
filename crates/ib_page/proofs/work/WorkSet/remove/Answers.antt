-- The page's room is spare again.
use Rattle.std.proofs.Common.{◌≡◌, ◌≢◌, ◌∙◌, ℕ, List, Option, ap, subst, sym, arith, IsSomeAnd, slice_get}
use Rattle.std.specs.Prelude.{IfSome}
use Rattle.std.specs.List.{All, remove}
use Rattle.ib_page.specs.declared.work.Slot.{Slot}
use Rattle.ib_page.specs.Work.{IsWork}
use Rattle.ib_page.specs.Rooms.{IsRoomed, pages_in}
use Rattle.ib_page.proofs.RoomLaws.{is_work, is_found, found_slot-lt, remove_kept, remove_gives}
use Rattle.ib_page.proofs.work.WorkSet.remove.Goals as goal

pub unwrap-index-requires : goal.unwrap-index-requires
unwrap-index-requires c = is_found _ _ _ _ c.args.page c.find.result c.self.view_is c.requires.there
    (λ none. subst (λ (ss : List Slot). All (λ s. s.page ≢ c.args.page) ss) c.deref.ensures.value (c.find.ensures.absent none))

pub remove-slot-requires : goal.remove-slot-requires
remove-slot-requires c =
    let found = subst (λ (ss : List Slot). IsSomeAnd (slice_get ss c.unwrap-index.result) (λ s. s.page ≡ c.args.page)) c.deref.ensures.value
    (subst (λ (o : Option ℕ). IfSome o (λ i. IsSomeAnd (slice_get c.deref.result.now i) (λ s. s.page ≡ c.args.page))) c.unwrap-index.ensures c.find.ensures.there) in
    omega (arith, found_slot-lt c.self.inside.slots.items c.unwrap-index.result c.args.page found, c.self.inside.slots.ok)

pub push_reserved-requires : goal.push_reserved-requires
push_reserved-requires c =
    let found = subst (λ (ss : List Slot). IsSomeAnd (slice_get ss c.unwrap-index.result) (λ s. s.page ≡ c.args.page)) c.deref.ensures.value
    (subst (λ (o : Option ℕ). IfSome o (λ i. IsSomeAnd (slice_get c.deref.result.now i) (λ s. s.page ≡ c.args.page))) c.unwrap-index.ensures c.find.ensures.there) in
    omega (arith, found_slot-lt c.self.inside.slots.items c.unwrap-index.result c.args.page found, c.self.inside.spare.ok, c.self.invariant.kept.rooms, c.self.invariant.spare_room)

pub invariant_of-self : goal.invariant_of-self
invariant_of-self c =
    let found = subst (λ (ss : List Slot). IsSomeAnd (slice_get ss c.unwrap-index.result) (λ s. s.page ≡ c.args.page)) c.deref.ensures.value
    (subst (λ (o : Option ℕ). IfSome o (λ i. IsSomeAnd (slice_get c.deref.result.now i) (λ s. s.page ≡ c.args.page))) c.unwrap-index.ensures c.find.ensures.there) in
    record {
      kept = subst (λ (ss : List Slot). IsRoomed ss c.self.inside.before.items c.self.inside.changed.items c.push_reserved.new.self.items) (sym c.remove-slot.ensures.items)
          (subst (λ (ns : List ℕ). IsRoomed (remove c.self.inside.slots.items c.unwrap-index.result) c.self.inside.before.items c.self.inside.changed.items ns) (sym c.push_reserved.ensures.items) (remove_kept _ _ _ _ _ c.unwrap-index.result c.args.page c.remove-slot.result c.self.invariant.kept c.self.view_is found c.remove-slot.ensures.value));
      slots_room = omega (arith, c.remove-slot.ensures.capacity, c.self.invariant.slots_room);
      spare_room = omega (arith, c.push_reserved.ensures.capacity, c.self.invariant.spare_room);
    }

pub returns-clause-removed : goal.returns-clause-removed
returns-clause-removed c =
    let found = subst (λ (ss : List Slot). IsSomeAnd (slice_get ss c.unwrap-index.result) (λ s. s.page ≡ c.args.page)) c.deref.ensures.value
    (subst (λ (o : Option ℕ). IfSome o (λ i. IsSomeAnd (slice_get c.deref.result.now i) (λ s. s.page ≡ c.args.page))) c.unwrap-index.ensures c.find.ensures.there) in
    ap (λ ss. pages_in c.self.inside.before.items c.self.inside.changed.items ss) c.remove-slot.ensures.items ∙ remove_gives _ _ _ _ _ c.unwrap-index.result c.args.page c.remove-slot.result c.self.invariant.kept c.self.view_is found c.remove-slot.ensures.value

pub returns-clause-work : goal.returns-clause-work
returns-clause-work c = subst IsWork c.self.view_is (is_work _ _ _ _ c.self.invariant.kept)
