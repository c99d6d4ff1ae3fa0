-- One more SX.
use Rattle.std.proofs.Common.{◌+◌, ◌<◌, ap, arith, sym, subst, List}
use Rattle.ib_levels.specs.declared.holding.Holding.{Holding}
use Rattle.ib_levels.specs.declared.level.Mode.TheVariants.{Sx}
use Rattle.ib_levels.specs.Holding.{on}
use Rattle.ib_rule.specs.Pass.{PassState}
use Rattle.ib_latch.proofs.Claims.{claims_are, claims_kept}
use Rattle.ib_latch.proofs.latches.Latches.sx_more.Goals as goal

pub store_writer-requires-clause-claims : goal.store_writer-requires-clause-claims
store_writer-requires-clause-claims g c =
    let s = claims_are c.args.latch.0 c.args.pass.now.view.session in
    let k = claims_kept Sx c.args.latch.0 c.args.pass.now.view.session.held in
    let e = ap (λ (p : PassState). p.view.session.held) c.take_sx_under_x.ensures.taken in
    subst (λ (held : List Holding). 0 < on c.args.latch.0 (λ h. h.sx + h.x) held) (sym e) (omega arith)
