-- Page 0 has a bit for each page of the space, and the work set is as it was.
use Rattle.std.proofs.Common.{ap, refl}
use Rattle.ib_plans.specs.Agreement.{reads_of}
use Rattle.ib_second.proofs.MtrLaws.{planned-mtr}
use Rattle.ib_second.proofs.SpaceLaws.{few-pages}
use Rattle.ib_second.proofs.fresh.choose.Goals as goal

pub choose_pair_pages-requires-clause-pages : goal.choose_pair_pages-requires-clause-pages
choose_pair_pages-requires-clause-pages c = few-pages c.pages-pages.result c.pages-pages.ensures.in_range

pub returns-clause-still : goal.returns-clause-still
returns-clause-still c = record {
  mtr = planned-mtr c.args.mtr.now.latches.now c.args.mtr.now.pass.now c.work.result.now c.requires.mtr (ap reads_of c.work.ensures.work);
  latches = refl;
  pass = refl;
}
