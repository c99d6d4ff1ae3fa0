use Rattle.std.proofs.Common.{◌∙◌, ap, sym}
use Rattle.ib_layout.specs.Geometry.{Sizes}
use Rattle.ib_runs.proofs.ReadOffLaws.{length-images_in}
use Rattle.ib_runs.proofs.ran.ClosedPagesImages.len.Goals as goal

pub returns : goal.returns
returns c = c.pages.ensures.pages ∙ (ap (λ (k : Sizes). k.pages) c.geometry.ensures ∙ sym (length-images_in c.args.self.now.closed.now.sizes c.args.self.now.closed.now.words))
