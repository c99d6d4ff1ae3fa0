use Rattle.std.proofs.Common.{◌≡◌, ◌++◌, map, All, true, Some}
use Rattle.std.specs.Prelude.{vec_len}
use Rattle.ib_rule.specs.Views.{ended_as}
use Rattle.ib_rule.specs.Pass.{IsAtRest}
use Rattle.ib_rule.specs.Space.{SpaceState}
use Rattle.ib_runs.proofs.turns.leave_all.Given as goal

abbrev pub invariant-loop-turn : goal.invariant-loop-turn
invariant-loop-turn g l =
    let now : SpaceState = g.S.Shared.space l.shared in
    let initial : SpaceState = g.S.Shared.space l.initial.shared in
    record {
      sits : All (λ t. g.A.Access.sits l.access t.seat) l.turns.items;
      table : now.table ≡ initial.table;
      sizes : now.sizes ≡ initial.sizes;
      space : record now { ended = map (λ t. ended_as t.pass.view) l.turns.items ++ now.ended }
          ≡ record initial { ended = map (λ t. ended_as t.pass.view) l.initial.turns.items ++ initial.ended };
      rest : All (λ t. IsAtRest initial t.pass) l.turns.items;
      outs : l.whole ≡ true → map (λ t. t.answers) l.turns.items ++ map Some l.outs.items ≡ map (λ t. t.answers) l.initial.turns.items;
    }

abbrev pub decreases-loop-turn : goal.decreases-loop-turn
decreases-loop-turn g l = vec_len l.turns
