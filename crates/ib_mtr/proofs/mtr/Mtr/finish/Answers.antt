-- With an empty memo the session holds nothing.
use Rattle.std.proofs.Common.{ap, ◌∙◌}
use Rattle.ib_rule.specs.Pass.{PassState}
use Rattle.ib_mtr.proofs.Held.{idle_by}
use Rattle.ib_mtr.proofs.mtr.Mtr.finish.Goals as goal

pub returns-clause-idle : goal.returns-clause-idle
returns-clause-idle g c =
    let mtr = c.requires.mtr in
    ap (λ (p : PassState). p.view.session) c.end_work.ensures.ended ∙ idle_by c.args.self.pass.now.memo c.args.self.pass.now.view.session mtr.exact mtr.proper c.requires.none mtr.free
