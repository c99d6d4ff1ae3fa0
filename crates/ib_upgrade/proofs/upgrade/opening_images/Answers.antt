-- The images of a new space are those before any entry.
use Rattle.std.proofs.Common.{◌∙◌}
use Rattle.ib_upgrade.proofs.UpgradeLaws.{images-count, images-opening}
use Rattle.ib_upgrade.proofs.upgrade.opening_images.Goals as goal

pub returns-clause-size : goal.returns-clause-size
returns-clause-size c = images-count c.args.pages c.into_images.result.items (c.into_images.ensures ∙ c.in_ok-opening.ensures.images)

pub returns-clause-opening : goal.returns-clause-opening
returns-clause-opening c = images-opening c.args.pages c.into_images.result.items (c.into_images.ensures ∙ c.in_ok-opening.ensures.images)
