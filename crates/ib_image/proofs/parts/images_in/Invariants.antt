-- So many images are read.
use Rattle.std.proofs.Common.{◌≡◌}
use Rattle.ib_image.specs.Parsed.{copy_in, images_of}
use Rattle.ib_image.proofs.parts.images_in.Given as goal

abbrev pub invariant-loop-page : goal.invariant-loop-page
invariant-loop-page l = l.images.items ≡ images_of (copy_in l.numbers l.page)
