-- So many places may stand.
use Rattle.ib_image.specs.ImageFaults.{ArePlaces}
use Rattle.ib_image.specs.Parsed.{copy_in}
use Rattle.ib_image.proofs.parts.test_places.Given as goal

abbrev pub invariant-loop-page : goal.invariant-loop-page
invariant-loop-page l = ArePlaces l.front.first l.entries (copy_in l.numbers l.front.pages) l.page
