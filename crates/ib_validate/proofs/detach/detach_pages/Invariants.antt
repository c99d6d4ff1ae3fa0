use Rattle.std.proofs.Common.{◌≡◌, drop}
use Rattle.ib_walk.specs.Words.{memory_of}
use Rattle.ib_validate.specs.PatchTest.{detach_pages}
use Rattle.ib_validate.specs.Positions.{positions_of}
use Rattle.ib_validate.proofs.detach.detach_pages.Given as goal

abbrev pub invariant-loop-page : goal.invariant-loop-page
invariant-loop-page l = detach_pages (memory_of l.fn.before) (positions_of l.fn.old) (drop l.page-index l.fn.pages) (positions_of l.table)
    ≡ detach_pages (memory_of l.fn.before) (positions_of l.fn.old) l.fn.pages (positions_of l.fn.table)
