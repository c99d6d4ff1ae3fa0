-- So many starts are read.
use Rattle.std.proofs.Common.{◌≡◌}
use Rattle.ib_image.specs.Parsed.{copy_in, starts_from}
use Rattle.ib_image.proofs.parts.starts_in.Given as goal

abbrev pub invariant-loop-page : goal.invariant-loop-page
invariant-loop-page l = l.starts.items ≡ starts_from l.front.first (copy_in l.numbers l.page)
