use Rattle.std.proofs.Common.{◌<◌, ℕ, subst}
use Rattle.ib_runs.proofs.ReadOffLaws.{image-is, length-images_in}
use Rattle.ib_runs.proofs.ran.ClosedPagesImages.image.Goals as goal

pub page-image-requires : goal.page-image-requires
page-image-requires c = subst (λ (n : ℕ). c.args.page < n) (length-images_in c.args.self.now.closed.now.sizes c.args.self.now.closed.now.words) c.requires

pub returns : goal.returns
returns c =
    let sizes = c.args.self.now.closed.now.sizes in let words = c.args.self.now.closed.now.words in
    image-is sizes words c.args.page c.page-image.result (subst (λ (n : ℕ). c.args.page < n) (length-images_in sizes words) c.requires) c.word-first.ensures.size c.page-image.ensures
