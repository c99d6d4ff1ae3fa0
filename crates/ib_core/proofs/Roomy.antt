-- The room in a session's list: for each latch that it does not hold, before and after an event.
use Rattle.std.proofs.Common.{◌≡◌, ◌≢◌, ℕ, ◌<◌, ◌≤◌, ℤ, ap, ◌∙◌, vec_capacity, arith}
use Rattle.ib_core.specs.declared.actor.Actor.{Actor}
use Rattle.ib_core.specs.declared.event.Event.{Event}
use Rattle.ib_core.specs.declared.session.Marks.{Marks}
use Rattle.ib_core.specs.Sessions.{holdings}
use Rattle.ib_core.specs.Responses.{latch_of}
use Rattle.ib_core.specs.Table.{response_of}
use Rattle.ib_core.specs.Good.{IsProper}
use Rattle.ib_core.specs.Actor.{HasRoom, HasRoomFor, session_of}
use Rattle.ib_core.proofs.Near.{near_response}
use Rattle.ib_core.proofs.RoomLemmas.{has_room}

pub room_for : (latches : ℕ) (m : Actor) (l : ℕ) → HasRoomFor latches m → IsProper (session_of m) → l < latches → HasRoom l m
room_for latches m l roomy proper within = record {
  room = λ none.
      let free = has_room latches l m.held.items proper.single roomy.within within none in
      let enough = roomy.room in omega arith;
}

pub roomy_after : (latches : ℕ) (m m' : Actor) (w : ℤ) (marks : Marks) (e : Event) → HasRoomFor latches m → IsProper (session_of m) → latch_of e < latches
    → session_of m' ≡ (response_of w marks e (session_of m)).session → vec_capacity m.held ≤ vec_capacity m'.held → HasRoomFor latches m'
roomy_after latches m m' w marks e roomy proper inside is more = record {
  room = let r = roomy.room in omega arith;
  within = λ k past.
      let other : latch_of e ≢ k = λ q. omega arith in
      let near = near_response (session_of m) proper.single w marks e in
      ap (holdings k) is ∙ (near.away k other (λ h. 1) ∙ roomy.within k past);
}
