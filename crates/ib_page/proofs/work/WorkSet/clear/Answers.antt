-- The last page's room is spare again.
use Rattle.std.proofs.Common.{◌≡◌, ◌∙◌, ℕ, List, [], ◌∷◌, ◌++◌, ap, sym, subst, arith, length, length-append}
use Rattle.std.specs.Option.{option_to_list}
use Rattle.ib_page.specs.Work.{IsWork}
use Rattle.ib_page.specs.Rooms.{IsRoomed}
use Rattle.ib_page.proofs.RoomLaws.{is_work, kept_popped}
use Rattle.ib_page.proofs.work.WorkSet.clear.Goals as goal

pub push_reserved-requires : goal.push_reserved-requires
push_reserved-requires c =
    let inside = c.loop-slot.self-inside in
    let popped : inside.slots.items ≡ c.pop.new.self.items ++ c.in-Some.slot ∷ [] = c.pop.ensures.items ∙ ap (λ o. c.pop.new.self.items ++ option_to_list o) c.in-Some.is in
    let some = ap length popped in
    let joined = length-append c.pop.new.self.items (c.in-Some.slot ∷ []) in
    omega (arith, inside.spare.ok, c.loop-slot.invariant.kept.rooms, c.loop-slot.invariant.spare_room)

pub loop-slot-preserved : goal.loop-slot-preserved
loop-slot-preserved c =
    let inside = c.loop-slot.self-inside in
    let popped : inside.slots.items ≡ c.pop.new.self.items ++ c.in-Some.slot ∷ [] = c.pop.ensures.items ∙ ap (λ o. c.pop.new.self.items ++ option_to_list o) c.in-Some.is in
    record {
      kept = subst (λ (ns : List ℕ). IsRoomed c.pop.new.self.items inside.before.items inside.changed.items ns) (sym c.push_reserved.ensures.items) (kept_popped inside.slots.items c.pop.new.self.items inside.before.items inside.changed.items inside.spare.items c.in-Some.slot c.loop-slot.invariant.kept popped);
      slots_room = omega (arith, c.pop.ensures.capacity, c.loop-slot.invariant.slots_room);
      spare_room = omega (arith, c.push_reserved.ensures.capacity, c.loop-slot.invariant.spare_room);
    }

pub returns-clause-work : goal.returns-clause-work
returns-clause-work c = subst IsWork c.self.view_is (is_work _ _ _ _ c.self.invariant.kept)
