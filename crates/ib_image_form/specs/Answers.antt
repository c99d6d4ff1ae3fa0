-- What is owed for the bytes of an image file.
use Rattle.std.specs.Prelude.{◌≡◌, ◌⊎◌, ℕ, List, length}
use Rattle.ib_io.specs.Told.{Ending, ends}
use Rattle.ib_io.specs.declared.status.Status.TheVariants.{Done, BadLog}
use Rattle.ib_logrec.specs.declared.entry.Entry.{Entry}
use Rattle.ib_text.specs.Output.{map_text}
use Rattle.ib_walk.specs.Words.{IsLawfulMemory}
use Rattle.ib_image.specs.Copies.{restored}
use Rattle.ib_image.specs.ImageFaults.{IsImageFault}
use Rattle.ib_image.specs.Restored.{IsImageFile}
use Rattle.ib_image.specs.declared.copy.CopiedPage.{CopiedPage}
use Rattle.ib_image.specs.declared.fault.ImageFault.{ImageFault}
use Rattle.ib_image_form.specs.Restoring.{bad_image_line, restored_map}

-- the bytes are the image file of a copy and a tail that restore a lawful memory, whose map is printed, or else their first fault is told
abbrev pub AnswersImage : List ℕ → Ending → Type 0
AnswersImage input e =
    ((copy : List CopiedPage) × (tail : List Entry) × IsImageFile input copy tail × IsLawfulMemory (length copy) 1 (restored copy tail) × (e ≡ ends Done (map_text (restored_map copy tail))))
    ⊎ ((fault : ImageFault) × IsImageFault input fault × (e ≡ ends BadLog (bad_image_line fault)))
