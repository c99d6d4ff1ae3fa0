-- Nothing is held any more.
use Rattle.std.proofs.Common.{List, ap, ◌∙◌}
use Rattle.ib_page.specs.Work.{WorkPage}
use Rattle.ib_rule.specs.Pass.{PassState, raising_as}
use Rattle.ib_mtr.specs.Mtr.{released_to, with_work}
use Rattle.ib_mtr.proofs.Held.{idle_by}
use Rattle.ib_mtr.proofs.mtr.Mtr.give_back.Goals as goal

pub returns-clause-given : goal.returns-clause-given
returns-clause-given g c = c.release_all.ensures.released ∙ ap (λ (ws : List WorkPage). raising_as c.release_all.new.self.pass.now (released_to 0 (with_work ws c.args.self.now.pass.now))) c.clear.ensures.none

pub returns-clause-idle : goal.returns-clause-idle
returns-clause-idle g c =
    let q = c.release_all.new.self.pass.now in let r = c.release_all.ensures in
    idle_by q.memo q.view.session r.still.mtr.exact r.still.mtr.proper (ap (λ (p : PassState). p.memo) r.released) r.still.mtr.free
