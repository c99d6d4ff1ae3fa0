-- An upgrade that was won.
use Rattle.std.proofs.Common.{◌+◌, ◌<◌, pos, ◌-ℤ◌, refl, ap, ◌∙◌, arith, sym, subst, List}
use Rattle.ib_levels.specs.declared.holding.Holding.{Holding}
use Rattle.ib_levels.specs.declared.level.Mode.TheVariants.{X}
use Rattle.ib_levels.specs.Holding.{changed_on, on}
use Rattle.ib_levels.specs.declared.level.Level.TheVariants.{Log}
use Rattle.ib_core.specs.declared.session.Session.{Session}
use Rattle.ib_core.specs.Takings.{level_on, one_more}
use Rattle.ib_word.specs.declared.word.TheConstants.{X_LOCK_DECR}
use Rattle.ib_latch.proofs.Takes.{reserving_is}
use Rattle.ib_rule.specs.Pass.{PassState}
use Rattle.ib_latch.proofs.Claims.{claims_are, claims_kept}
use Rattle.ib_latch.proofs.latches.Latches.exchange_more.Goals as goal

pub store_writer-requires-clause-claims : goal.store_writer-requires-clause-claims
store_writer-requires-clause-claims g c =
    let s = claims_are c.args.latch.0 c.args.pass.now.view.session in
    let k = claims_kept X c.args.latch.0 c.args.pass.now.view.session.held in
    let e = ap (λ (p : PassState). p.view.session.held) (c.in_ok-upgrade.ensures.taken refl) ∙ ap (λ (a : Session). a.held) (reserving_is c.args.latch.0 (level_on c.args.latch.0 Log c.args.pass.now.view.session.held) (c.args.word.0 -ℤ pos X_LOCK_DECR) (changed_on c.args.latch.0 (one_more X) c.args.pass.now.view.session.held)) in
    subst (λ (held : List Holding). 0 < on c.args.latch.0 (λ h. h.sx + h.x) held) (sym e) (omega arith)
