use Rattle.std.proofs.Common.{◌≡◌, ◌≤◌, ◌-◌}
use Rattle.ib_map.specs.Keys.{rank}
use Rattle.ib_rule.specs.Pass.{IsAtRest}
use Rattle.ib_runs.specs.Shared.{calls_under}
use Rattle.ib_runs.specs.Steps.{IsSoFar}
use Rattle.ib_runs.proofs.session.read_all.Given as goal

abbrev pub invariant-loop-pass : goal.invariant-loop-pass
invariant-loop-pass g l =
    let shared = g.S.Shared in
    let space = shared.space l.shared in
    record {
      rest : IsAtRest space l.pass;
      number : l.pass.number ≡ l.fn.pass.number;
      room : l.chunks.chunk_room ≤ 64;
      ascends : rank l.fn.low ≤ rank l.fn.high;
      up_to : shared.last l.rest ≡ l.fn.high;
      to : rank (shared.next l.rest) ≤ rank l.fn.high;
      goes_on : shared.goes_on space.sizes l.rest l.pass;
      so_far : IsSoFar (calls_under shared.law space.sizes) shared.root space.sizes (shared.begun l.rest) l.fn.low l.fn.high (shared.next l.rest) l.fn.chunks l.chunks l.fn.pass l.pass;
    }

abbrev pub decreases-loop-pass : goal.decreases-loop-pass
decreases-loop-pass g l = rank l.fn.high - rank (g.S.Shared.next l.rest)
