-- Links and a clock leave the records where they stand.
use Rattle.std.proofs.Common.{◌∙◌}
use Rattle.ib_page.specs.Image.{IsTreePage}
use Rattle.ib_page.specs.Work.{changed_of}
use Rattle.ib_plans.specs.Moves.{Stays}
use Rattle.ib_plans.proofs.EditLaws.{changed_of-same, IsSome-and}
use Rattle.ib_plans.proofs.MoveLaws.{moved-some}
use Rattle.ib_plans.proofs.pages.link_back.Goals as goal

pub returns-clause-stays : goal.returns-clause-stays
returns-clause-stays c =
    moved-some Stays (changed_of c.args.page c.args.work.now) _ c.edit-image.result.now c.touch.new.self c.edit-image.ensures.image
    (changed_of-same c.args.page c.touch.new.self c.args.work.now (IsSome-and IsTreePage (changed_of c.args.page c.args.work.now) c.requires.tree))
    (c.touch.ensures.heap ∙ c.set_links.ensures.heap)
