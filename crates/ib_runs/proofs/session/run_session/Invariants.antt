use Rattle.std.proofs.Common.{◌≡◌, ◌≤◌, take}
use Rattle.ib_runs.specs.Answers.{IsWhole, answers_of}
use Rattle.ib_rule.specs.Pass.{IsAtRest}
use Rattle.ib_runs.specs.Sessions.{HasAnswered, TakesGrants}
use Rattle.ib_runs.specs.Shared.{calls_under}
use Rattle.ib_runs.proofs.session.run_session.Given as goal

abbrev pub invariant-loop-call : goal.invariant-loop-call
invariant-loop-call g l =
    let space = g.S.Shared.space l.shared in
    record {
      sits : g.A.Access.sits l.access l.seat;
      rest : IsAtRest space l.pass;
      same : l.pass.number ≡ l.fn.pass.number;
      answered : HasAnswered (calls_under g.S.Shared.law space.sizes) space.sizes (take l.call-index l.commands) (answers_of l.out) l.fn.pass l.pass;
      takes : TakesGrants g.A.Access.guesses (take l.call-index l.commands) l.fn.pass l.pass;
      whole : IsWhole l.out;
      room : l.out.chunks.chunk_room ≤ 64;
      number : l.number ≡ l.call-index;
    }
