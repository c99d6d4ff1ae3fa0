-- The file is that of the copy and the tail.
use Rattle.ib_image.proofs.LogCopyLaws.{copy-file}
use Rattle.ib_image.proofs.laws.file_law.Goals as goal

pub returns : goal.returns
returns c = copy-file
