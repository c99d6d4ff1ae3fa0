-- A second try that was won, that was lost, and that was refused.
use Rattle.std.proofs.Common.{None, Err, refl, sym, ap, ◌∙◌, subst}
use Rattle.ib_layout.specs.Places.{latches_of}
use Rattle.ib_core.specs.declared.phase.Phase.{Phase}
use Rattle.ib_core.specs.declared.phase.Phase.TheVariants.{Checked, Flagged, Free}
use Rattle.ib_rule.specs.Conditions.{MayLoadGen}
use Rattle.ib_rule.specs.Pass.{PassState}
use Rattle.ib_latch.specs.declared.tries.TryFault.{TryFault}
use Rattle.ib_latch.specs.Waits.{IsRecheck, MayStandDown}
use Rattle.ib_latch.proofs.Stills.{looked_still, none_tried, waited_still, raced_still, still_then, won_is}
use Rattle.ib_latch.proofs.waiting.Latches+L+Parkers.recheck_or_sleep.Goals as goal

pub stand_down-requires-clause-waits : goal.stand_down-requires-clause-waits
stand_down-requires-clause-waits g c =
    let tried = subst (λ (fault : TryFault). IsRecheck c.args.mode c.args.latch.0 c.args.level c.requires.flagged.0 c.args.pass.now (Err fault) c.recheck.new.pass) c.in-Err-Raced.field-0-is (c.in-Err-Raced.ensures.tried c.args.mode c.args.level c.requires.flagged.0 c.requires.flagged.1) in
    let phase = ap (λ (q : PassState). q.view.session.phase) tried.2 ∙ c.requires.flagged.1 in
    subst (MayStandDown (latches_of c.args.self.now.sizes)) (sym phase) c.requires.latch

pub sleep_on-requires-clause-checked : goal.sleep_on-requires-clause-checked
sleep_on-requires-clause-checked g c =
    let tried = subst (λ (fault : TryFault). IsRecheck c.args.mode c.args.latch.0 c.args.level c.requires.flagged.0 c.args.pass.now (Err fault) c.recheck.new.pass) c.in-Err-Busy.field-0-is (c.in-Err-Busy.ensures.tried c.args.mode c.args.level c.requires.flagged.0 c.requires.flagged.1) in
    let phase = ap (λ (q : PassState). q.view.session.phase) tried.1 in
    subst (λ (f : Phase). MayLoadGen c.args.latch.0 None c.recheck.new.pass.view.session f) (sym phase) refl

pub returns-in-Ok : goal.returns-in-Ok
returns-in-Ok g c =
    let tried = c.in-Ok.ensures.tried c.args.mode c.args.level c.requires.flagged.0 c.requires.flagged.1 in
    record {
      still = c.in-Ok.ensures.still;
      some = won_is c.args.latch.0 c.args.level tried.0 c.args.pass.now c.recheck.new.pass c.args.mode c.in-Ok.reserve tried.1 tried.2 tried.3;
      none = tt;
    }

pub returns-in-Err-Raced : goal.returns-in-Err-Raced
returns-in-Err-Raced g c =
    let tried = subst (λ (fault : TryFault). IsRecheck c.args.mode c.args.latch.0 c.args.level c.requires.flagged.0 c.args.pass.now (Err fault) c.recheck.new.pass) c.in-Err-Raced.field-0-is (c.in-Err-Raced.ensures.tried c.args.mode c.args.level c.requires.flagged.0 c.requires.flagged.1) in
    none_tried c.args.self.now c.args.mode c.args.latch.0 c.args.level c.args.pass.now c.stand_down.new.pass c.requires.own
    (still_then (Flagged c.args.latch.0 c.args.mode c.args.level c.requires.flagged.0) Free c.args.pass.now c.recheck.new.pass c.stand_down.new.pass
    (raced_still (Flagged c.args.latch.0 c.args.mode c.args.level c.requires.flagged.0) c.args.latch.0 c.in-Err-Raced.field-0-0 c.in-Err-Raced.field-0-1 c.args.pass.now c.recheck.new.pass c.requires.flagged.1 tried.2)
    (waited_still Free c.recheck.new.pass c.stand_down.new.pass c.stand_down.ensures))

pub returns-in-Err-Busy : goal.returns-in-Err-Busy
returns-in-Err-Busy g c =
    let tried = subst (λ (fault : TryFault). IsRecheck c.args.mode c.args.latch.0 c.args.level c.requires.flagged.0 c.args.pass.now (Err fault) c.recheck.new.pass) c.in-Err-Busy.field-0-is (c.in-Err-Busy.ensures.tried c.args.mode c.args.level c.requires.flagged.0 c.requires.flagged.1) in
    none_tried c.args.self.now c.args.mode c.args.latch.0 c.args.level c.args.pass.now c.sleep_on.new.pass c.requires.own
    (still_then (Checked c.args.latch.0 c.args.mode c.args.level c.requires.flagged.0) Free c.args.pass.now c.recheck.new.pass c.sleep_on.new.pass
    (looked_still (Checked c.args.latch.0 c.args.mode c.args.level c.requires.flagged.0) c.args.latch.0 c.in-Err-Busy.field-0-0 c.args.pass.now c.recheck.new.pass tried.1)
    c.sleep_on.ensures.still)
