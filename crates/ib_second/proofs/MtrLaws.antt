-- A work set that was planned on is one of the mini-transaction.
use Rattle.std.proofs.Common.{◌≡◌, ◌+◌, ◌<◌, List}
use Rattle.ib_core.specs.Sessions.{holdings}
use Rattle.ib_page.specs.Work.{WorkPage}
use Rattle.ib_plans.specs.Agreement.{reads_of}
use Rattle.ib_frames.specs.Reads.{IsLoadedImage}
use Rattle.ib_rule.specs.Pass.{PassState}
use Rattle.ib_rule.specs.Space.{SpaceState}
use Rattle.ib_mtr.specs.Mtr.{IsMtr, with_work}
use Rattle.ib_planned_change.proofs.WorkLaws.{reads-each}

-- a work set with the same images as read is one of the mini-transaction
pub planned-mtr : (space : SpaceState) (p : PassState) (work : List WorkPage) → IsMtr space p → reads_of work ≡ reads_of p.work → IsMtr space (with_work work p)
planned-mtr space p work mtr same = record {
  own = record { table = mtr.own.table; sizes = mtr.own.sizes; closed = mtr.own.closed };
  works = mtr.works;
  free = mtr.free;
  proper = mtr.proper;
  exact = mtr.exact;
  known = mtr.known;
  held = reads-each (λ page before. 0 < holdings (page + 2) p.view.session) work p.work same mtr.held;
  read = reads-each (λ page before. IsLoadedImage p.view.memory.loaded page before) work p.work same mtr.read;
}
