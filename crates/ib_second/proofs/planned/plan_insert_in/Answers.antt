-- Both plans change images of pages that are held, and leave them as they were read.
use Rattle.std.specs.Prelude.{List}
use Rattle.std.proofs.Common.{◌∙◌, ap, refl, subst, sym}
use Rattle.ib_layout.specs.Geometry.{Sizes}
use Rattle.ib_page.specs.Work.{WorkPage}
use Rattle.ib_plans.specs.Agreement.{reads_of}
use Rattle.ib_rule.specs.Pass.{PassState}
use Rattle.ib_pair_change.specs.PairPlans.{CanInsertPair, IsPlannedPair}
use Rattle.ib_second.proofs.MtrLaws.{planned-mtr}
use Rattle.ib_second.proofs.ReadyLaws.{ready-can, ready-may}
use Rattle.ib_second.proofs.planned.plan_insert_in.Goals as goal

pub plan_pair_insert-requires-clause-can : goal.plan_pair_insert-requires-clause-can
plan_pair_insert-requires-clause-can c =
    let sizes : Sizes = c.args.mtr.now.latches.now.sizes in let p : PassState = c.args.mtr.now.pass.now in
    let r = c.requires.ready.1 in
    let can = ready-can sizes c.args.key c.args.value (c.requires.primary, c.ranges.value.fits) c.args.paths.now.first c.args.fresh.now.first c.args.paths.now.second c.args.fresh.now.second r.held p c.requires.seated r.ready in
    subst (CanInsertPair c.args.paths.now.first c.args.fresh.now.first c.args.key c.args.value c.args.paths.now.second c.args.fresh.now.second) (sym c.work-work.ensures.work) can

pub returns-clause-still : goal.returns-clause-still
returns-clause-still c = record {
  mtr = planned-mtr c.args.mtr.now.latches.now c.args.mtr.now.pass.now c.plan_pair_insert.new.work c.requires.mtr
      (c.plan_pair_insert.ensures.second_reads ∙ (c.plan_pair_insert.ensures.first_reads ∙ ap reads_of c.work-work.ensures.work));
  latches = refl;
  pass = refl;
}

pub returns-clause-may : goal.returns-clause-may
returns-clause-may c =
    let sizes : Sizes = c.args.mtr.now.latches.now.sizes in let p : PassState = c.args.mtr.now.pass.now in
    let r = c.requires.ready.1 in
    let new : List WorkPage = c.plan_pair_insert.new.work in
    let planned = subst (λ (ws : List WorkPage). IsPlannedPair c.args.paths.now.first c.args.fresh.now.first c.args.key c.args.value c.args.paths.now.second c.args.fresh.now.second ws new) c.work-work.ensures.work c.plan_pair_insert.ensures in
    ready-may sizes c.args.key c.args.value (c.requires.primary, c.ranges.value.fits) c.args.paths.now.first c.args.fresh.now.first c.args.paths.now.second c.args.fresh.now.second r.held p c.requires.seated r.ready
    new planned c.len.ensures.work c.requires.room r.few r.follow

pub returns-clause-planned : goal.returns-clause-planned
returns-clause-planned c = (c.plan_pair_insert.new.work, refl)
