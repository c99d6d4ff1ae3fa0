-- Who owns X holds the latch.
use Rattle.std.proofs.Common.{◌≡◌, ap, ◌∙◌, arith}
use Rattle.ib_levels.specs.declared.latch.Latch.{Latch}
use Rattle.ib_core.specs.Sessions.{x_grants}
use Rattle.ib_rule.specs.Pass.{PassState}
use Rattle.ib_frames.proofs.Trying.{held_by_x}
use Rattle.ib_example.proofs.transactions.load_owned.Goals as goal

pub load-requires-clause-held : goal.load-requires-clause-held
load-requires-clause-held c =
    let p = c.args.mtr.now.pass.now in let q = c.pass.result.now in let x = c.counts-owned.ensures.x in
    let same : x_grants c.page.result.0 q.view.session ≡ x_grants 7 p.view.session =
    ap (λ (l : Latch). x_grants l.0 q.view.session) c.page.ensures ∙ ap (λ (q : PassState). x_grants 7 q.view.session) c.pass.ensures in
    held_by_x 7 p.view.session (omega arith)
