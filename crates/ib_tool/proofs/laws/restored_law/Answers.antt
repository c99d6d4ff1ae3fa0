-- What is owed for the image file of a run is the map that its pages hold in the end.
use Rattle.std.proofs.Common.{◌∙◌, ap, sym}
use Rattle.ib_io.specs.Told.{ends}
use Rattle.ib_io.specs.declared.status.Status.TheVariants.{Done}
use Rattle.ib_map.specs.Pairs.{Pairs}
use Rattle.ib_text.specs.Output.{map_text}
use Rattle.ib_tool.proofs.TextLaws.{map-walked}
use Rattle.ib_tool.proofs.laws.restored_law.Goals as goal

pub returns : goal.returns
returns c script bytes e image owed =
    let file = image.file in
    c.image_law.ensures.copied bytes script.sizes.pages image.log image.copy e file owed
    ∙ ap (λ (m : Pairs). ends Done (map_text m)) (sym (map-walked script.sizes image.log file.space file.lawful))
