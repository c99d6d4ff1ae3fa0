-- One bit of one word changes.
use Rattle.std.proofs.Common.{rules}
use Rattle.ib_page.proofs.SpaceLaws.{sets_free}
use Rattle.ib_page.proofs.space.SpaceImage.give.Goals as goal

pub returns : goal.returns
returns c = rw (← c.self.view_is) (sets_free c.self.inside.words c.args.page (search rules) c.requires.in_range)
