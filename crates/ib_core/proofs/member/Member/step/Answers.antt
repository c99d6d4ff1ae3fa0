-- There is room for what the session does not hold yet, and the event leaves as much.
use Rattle.std.proofs.Common.{◌<◌, sym, ap, subst}
use Rattle.ib_core.specs.Responses.{Response, latch_of}
use Rattle.ib_core.specs.Good.{IsProper}
use Rattle.ib_core.specs.Member.{CanStep, SessionAmong}
use Rattle.ib_core.proofs.Roomy.{room_for, roomy_after}
use Rattle.ib_core.proofs.member.Member.step.Goals as goal

pub step-requires : goal.step-requires
step-requires c =
    let view = sym c.self.view_is in
    let can = subst (λ (m : SessionAmong). CanStep (latch_of c.args.event) c.args.word.now.0 m.session) view c.requires.can in
    record {
      can = can;
      room = room_for c.self.inside.latches c.self.inside.actor (latch_of c.args.event) c.self.invariant can.proper
          (subst (λ (m : SessionAmong). latch_of c.args.event < m.latches) view c.requires.latch);
      generation = c.requires.generation;
      ex_generation = c.requires.ex_generation;
    }

pub invariant_of-self : goal.invariant_of-self
invariant_of-self c =
    let view = sym c.self.view_is in
    roomy_after c.self.inside.latches c.self.inside.actor c.step.new.self c.args.word.now.0 c.args.marks.now c.args.event c.self.invariant
    (subst (λ (m : SessionAmong). IsProper m.session) view c.requires.can.proper)
    (subst (λ (m : SessionAmong). latch_of c.args.event < m.latches) view c.requires.latch)
    (ap (λ (r : Response). r.session) c.step.ensures.responds) c.step.ensures.moves.capacity
