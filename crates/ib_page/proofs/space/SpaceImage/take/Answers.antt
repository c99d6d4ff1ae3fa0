-- One bit of one word changes.
use Rattle.std.proofs.Common.{rules}
use Rattle.ib_page.proofs.SpaceLaws.{sets_taken}
use Rattle.ib_page.proofs.space.SpaceImage.take.Goals as goal

pub returns : goal.returns
returns c = rw (← c.self.view_is) (sets_taken c.self.inside.words c.args.page (search rules) c.requires.in_range)
