-- What is printed of an image file: the map that it restores, or its first fault.
use Rattle.std.specs.Prelude.{ℕ, List, ◌++◌, codes, decimal}
use Rattle.ib_map.specs.Pairs.{Pairs}
use Rattle.ib_logrec.specs.declared.entry.Entry.{Entry}
use Rattle.ib_walk.specs.Trees.{content_of}
use Rattle.ib_walk.specs.Words.{pages_of}
use Rattle.ib_replay_form.specs.Replaying.{log_fault_text}
use Rattle.ib_image.specs.Copies.{restored}
use Rattle.ib_image.specs.declared.copy.CopiedPage.{CopiedPage}
use Rattle.ib_image.specs.declared.fault.ImageFault.{ImageFault}
use Rattle.ib_image.specs.declared.fault.ImageFault.TheVariants.{OddLength, Short, BadImage, Tail, NotATree, OutOfMemory}

-- the map of the tree that a copy and a tail restore
abbrev pub restored_map : List CopiedPage → List Entry → Pairs
restored_map copy tail = content_of (pages_of (restored copy tail)) 1

-- want of memory is no fault of the bytes
abbrev pub image_fault_text : ImageFault → List ℕ
image_fault_text (OddLength bytes) = codes "odd length " ++ decimal bytes
image_fault_text (Short numbers) = codes "short " ++ decimal numbers
image_fault_text (BadImage at word) = codes "word at " ++ decimal at ++ codes " " ++ decimal word
image_fault_text (Tail fault) = codes "tail " ++ log_fault_text fault
image_fault_text NotATree = codes "not a tree"
image_fault_text OutOfMemory = codes "out of memory"

-- the line that tells a fault
abbrev pub bad_image_line : ImageFault → List ℕ
bad_image_line fault = codes "bad image: " ++ image_fault_text fault ++ codes "\n"
