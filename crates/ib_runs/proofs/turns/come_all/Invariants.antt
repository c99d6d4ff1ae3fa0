use Rattle.std.proofs.Common.{◌≡◌, ℕ, ◌≤◌, map, All, length}
use Rattle.ib_rule.specs.Space.{SpaceState}
use Rattle.ib_runs.specs.Turns.{AreNumbered, HasNotBegun}
use Rattle.ib_runs.proofs.turns.come_all.Given as goal

abbrev pub invariant-loop-before : goal.invariant-loop-before
invariant-loop-before g l =
    let now : SpaceState = g.S.Shared.space l.shared in
    let initial : SpaceState = g.S.Shared.space l.initial.shared in
    record {
      serves : (pages : ℕ) → g.A.Access.serves l.initial.access pages → g.A.Access.serves l.access pages;
      drawn : g.A.Access.drawn l.access ≤ length l.turns.items;
      sits : All (λ t. g.A.Access.sits l.access t.seat) l.turns.items;
      space : now ≡ record initial { drawn = length l.turns.items };
      few : length l.turns.items ≤ l.before;
      numbered : AreNumbered 1 (map (λ t. t.pass) l.turns.items);
      ready : All (λ t. HasNotBegun initial l.count t.pass) l.turns.items;
    }
