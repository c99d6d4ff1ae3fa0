-- Who reads the latch holds it.
use Rattle.std.proofs.Common.{◌≡◌, ◌+◌, ◌<◌, ap, ◌∙◌, arith}
use Rattle.ib_levels.specs.declared.latch.Latch.{Latch}
use Rattle.ib_core.specs.Sessions.{reads}
use Rattle.ib_core.proofs.OnLatch.{held_by_grant}
use Rattle.ib_rule.specs.Pass.{PassState}
use Rattle.ib_mtr_tests.proofs.asked.load_read.Goals as goal

pub load-requires-clause-held : goal.load-requires-clause-held
load-requires-clause-held g c =
    let p = c.args.mtr.now.pass.now in let q = c.pass.result.now in let s = c.counts.ensures.s in
    let same : reads c.page.result.0 q.view.session ≡ reads (c.args.page + 2) p.view.session =
    ap (λ (l : Latch). reads l.0 q.view.session) c.page.ensures ∙ ap (λ (q : PassState). reads (c.args.page + 2) q.view.session) c.pass.ensures in
    let reads_it : 0 < reads (c.args.page + 2) p.view.session = omega arith in
    held_by_grant (c.args.page + 2) (λ h. h.s) p.view.session.held reads_it
