use Rattle.std.proofs.Common.{◌≡◌, drop}
use Rattle.ib_walk.specs.Words.{memory_of}
use Rattle.ib_validate.specs.Positions.{marks_of, positions_of}
use Rattle.ib_validate.specs.PatchTest.{all_back}
use Rattle.ib_validate.proofs.back.are_pages_back.Given as goal

abbrev pub invariant-loop-page : goal.invariant-loop-page
invariant-loop-page l = all_back (marks_of l.fn.written) (memory_of l.fn.before) (positions_of l.fn.old) (drop l.page-index l.fn.pages) (positions_of l.fn.table)
    ≡ all_back (marks_of l.fn.written) (memory_of l.fn.before) (positions_of l.fn.old) l.fn.pages (positions_of l.fn.table)
