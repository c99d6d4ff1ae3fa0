use Rattle.std.proofs.Common.{get_or, ◌∙◌, [], ◌∷◌, ap}
use Rattle.ib_rule.specs.Space.{SpaceState}
use Rattle.ib_rule.proofs.Lists.{and_says}
use Rattle.ib_runs.specs.declared.turns.Turn.{Turn}
use Rattle.ib_rule.specs.Pass.{IsAtRest}
use Rattle.ib_runs.proofs.TurnLaws.{all_left, outs_left, space_left}
use Rattle.ib_runs.proofs.turns.leave_all.Goals as goal

pub loop-turn-preserved : goal.loop-turn-preserved
loop-turn-preserved g c =
    let A = g.A.Access in
    let i = c.loop-turn.invariant in
    let all = c.loop-turn.turns.items in
    let front = c.pop.new.self.items in
    let t : Turn g.row.A-Seat.Denot = c.in-Some.turn in
    let is = c.in-Some.ensures.items in
    record {
      sits = λ k d lt. c.disconnect.ensures.others (get_or front k d).seat (all_left (λ (u : Turn g.row.A-Seat.Denot). A.sits c.loop-turn.access u.seat) all front (t ∷ []) is i.sits k d lt);
      table = ap (λ (s : SpaceState). s.table) c.disconnect-in-Some.ensures ∙ i.table;
      sizes = ap (λ (s : SpaceState). s.sizes) c.disconnect-in-Some.ensures ∙ i.sizes;
      space = space_left (g.S.Shared.space c.loop-turn.shared) all front t (g.S.Shared.space c.disconnect-in-Some.new.self) is c.disconnect-in-Some.ensures ∙ i.space;
      rest = all_left (λ (u : Turn g.row.A-Seat.Denot). IsAtRest (g.S.Shared.space c.args.shared.now) u.pass) all front (t ∷ []) is i.rest;
      outs = λ whole. outs_left all front t c.loop-turn.outs.items c.put_first-whole.new.outs.items _ is (c.put_first-whole.ensures (and_says c.loop-turn.whole c.put_first-whole.result whole).1) (i.outs (and_says c.loop-turn.whole c.put_first-whole.result whole).0);
    }
