-- The first word has two bits, and all others none.
use Rattle.ib_page.proofs.SpaceLaws.{space_words}
use Rattle.ib_page.proofs.space.opening_page.Goals as goal

pub returns : goal.returns
returns c = space_words
