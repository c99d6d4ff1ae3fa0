use Rattle.ib_validate.proofs.MemoryLaws.{memory_of-page}
use Rattle.ib_tree.proofs.content.image_of.Goals as goal

pub returns : goal.returns
returns g c = memory_of-page (g.P.Images.images c.args.pages.now) c.args.page c.image-image.result c.requires c.image-image.ensures c.word-first.ensures.size
