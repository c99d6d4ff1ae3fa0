use Rattle.std.proofs.Common.{◌≡◌, ◌↔◌, Bool, false, map, subst, sym}
use Rattle.ib_runs.specs.Alone.{AreNeverFull}
use Rattle.ib_runs.specs.Answers.{answers_of}
use Rattle.ib_runs.proofs.FullLogLaws.{never_full}
use Rattle.ib_runs.proofs.first_log.met_full_log.Goals as goal

pub returns : goal.returns
returns c = subst (λ (b : Bool). (b ≡ false) ↔ AreNeverFull (map answers_of c.args.sessions.now)) (sym c.any_tells_full.ensures) (never_full c.args.sessions.now)
