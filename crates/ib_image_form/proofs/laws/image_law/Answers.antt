-- An image file is owed the map of what it restores; that of a copy of a log and its tail is the map of the log.
use Rattle.std.proofs.Common.{◌∙◌, ap}
use Rattle.ib_map.specs.Pairs.{Pairs}
use Rattle.ib_io.specs.Told.{ends}
use Rattle.ib_io.specs.declared.status.Status.TheVariants.{Done}
use Rattle.ib_text.specs.Output.{map_text}
use Rattle.ib_image.specs.Copies.{tail_of}
use Rattle.ib_image.proofs.LogCopyLaws.{file_of_copy, restored-content}
use Rattle.ib_image_form.proofs.RestoredLaws.{owed-one}
use Rattle.ib_image_form.proofs.laws.image_law.Goals as goal

pub returns-clause-restored : goal.returns-clause-restored
returns-clause-restored c = owed-one

pub returns-clause-copied : goal.returns-clause-copied
returns-clause-copied c input pages log copy e is owed =
    let file = file_of_copy input pages log copy is in
    owed-one input copy (tail_of copy log) e file.0 file.1 owed ∙ ap (λ (pairs : Pairs). ends Done (map_text pairs)) (restored-content pages log copy is.space is.lawful is.copied)
