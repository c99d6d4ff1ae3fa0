-- The plan changes images of pages that are held, and leaves them as they were read.
use Rattle.std.proofs.Common.{rules, ◌∙◌}
use Rattle.ib_plans.specs.Agreement.{reads_of}
use Rattle.ib_index.proofs.GrowLaws.{planned-mtr}
use Rattle.ib_index.proofs.pessimistic_insert.plan_in.Goals as goal
use Rattle.std.proofs.Common.{ap}

pub returns-clause-still : goal.returns-clause-still
returns-clause-still g c = record {
  mtr = planned-mtr c.args.mtr.now.latches.now c.args.mtr.now.pass.now c.plan_insert.new.work c.requires.mtr (c.plan_insert.ensures.reads ∙ ap reads_of c.work-work.ensures.work);
  latches = search rules;
  pass = search rules;
}
