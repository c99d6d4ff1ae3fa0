-- The first fault of bytes as an image file.
use Rattle.std.specs.Prelude.{◌≡◌, ◌⊎◌, ℕ, ◌+◌, ◌/◌, ◌%◌, ◌^◌, ◌<◌, ◌==◌, ◌&&◌, Bool, true, false, List, length, nat_le, nat_lt, Option, Some, None, if◌then◌else◌}
use Rattle.ib_map.specs.Space.{has_pages}
use Rattle.ib_logrec.specs.declared.entry.Entry.{Entry}
use Rattle.ib_logrec.specs.declared.fault.LogFault.{LogFault}
use Rattle.ib_logrec.specs.Law.{AreInGrammar}
use Rattle.ib_logrec.specs.Log.{log_words}
use Rattle.ib_walk.specs.Words.{IsLawfulMemory}
use Rattle.ib_replay.specs.Files.{file_number}
use Rattle.ib_image.specs.declared.copy.CopiedPage.{CopiedPage}
use Rattle.ib_image.specs.declared.fault.ImageFault.{ImageFault}
use Rattle.ib_image.specs.declared.fault.ImageFault.TheVariants.{OddLength, Short, BadImage, Tail, NotATree}
use Rattle.ib_image.specs.declared.image_file.TheConstants.{HEAD_NUMBERS, IMAGE_FORM}
use Rattle.ib_image.specs.Copies.{page_in, restored}
use Rattle.ib_image.specs.ImageFiles.{IsLaidOut, number_of}
use Rattle.ib_image.specs.Tails.{IsTailFault}

-- the fault, unless the test holds
abbrev pub unless : Bool → ImageFault → Option ImageFault
unless test fault = if test then None else Some fault

-- the first of two faults
infixr 4 ◌or◌
abbrev pub ◌or◌ : Option ImageFault → Option ImageFault → Option ImageFault
(Some fault) or next = Some fault
None or next = next

-- the first fault of the numbers in front of the pages, and that all pages stand there. How many numbers there are is told
unfoldable pub front_fault : List ℕ → Option ImageFault
front_fault bytes =
    unless (length bytes % 8 == 0) (OddLength (length bytes))
    or unless (nat_le HEAD_NUMBERS (length bytes / 8)) (Short (length bytes / 8))
    or unless (file_number bytes 0 == IMAGE_FORM) (BadImage 0 (file_number bytes 0))
    or unless (has_pages (file_number bytes 1)) (BadImage 1 (file_number bytes 1))
    or unless (nat_lt (file_number bytes 2) (2 ^ 32)) (BadImage 2 (file_number bytes 2))
    or unless (nat_le (number_of (file_number bytes 1)) (length bytes / 8)) (Short (length bytes / 8))

-- the place of a page may stand before a tail of so many entries that begins at the first place: that of page 0 is the first, and no other is lower, or behind the tail
abbrev pub is_place : ℕ → ℕ → ℕ → ℕ → Bool
is_place first entries page place =
    if page == 0 then place == first
    else nat_le first place && nat_le place (first + entries)

-- the places of the first pages may
abbrev pub ArePlaces : ℕ → ℕ → List CopiedPage → ℕ → Type 0
ArePlaces first entries copy count = (page : ℕ) → page < count → is_place first entries page (page_in copy page).place ≡ true

-- the fault that the place of a page may not, of the first such page
pub record IsPlaceFault (first entries : ℕ) (copy : List CopiedPage) (fault : ImageFault) : Type 0 where
  pub page : ℕ
  pub inside : page < length copy
  pub before : ArePlaces first entries copy page
  pub wrong : is_place first entries page (page_in copy page).place ≡ false
  pub is : fault ≡ BadImage (number_of page) (page_in copy page).place

-- the words of a tail are those of these entries
pub record HasTail (copy : List CopiedPage) (words : List ℕ) (tail : List Entry) : Type 0 where
  pub grammar : AreInGrammar (length copy) tail
  pub words_are : words ≡ log_words tail

-- the fault that the restored memory is no lawful tree, where nothing else is wrong
pub record IsNoTree (first : ℕ) (copy : List CopiedPage) (tail : List Entry) (fault : ImageFault) : Type 0 where
  pub places : ArePlaces first (length tail) copy (length copy)
  pub none : IsLawfulMemory (length copy) 1 (restored copy tail) → ⊥
  pub is : fault ≡ NotATree

-- the first fault behind the front: of the tail's words, or else of the places, or else of the memory
abbrev pub IsFaultBehind : ℕ → List CopiedPage → List ℕ → ImageFault → Type 0
IsFaultBehind first copy words fault =
    ((found : LogFault) × (fault ≡ Tail found) × IsTailFault (length copy) words found)
    ⊎ ((tail : List Entry) × HasTail copy words tail × (IsPlaceFault first (length tail) copy fault ⊎ IsNoTree first copy tail fault))

-- bytes are laid out as an image file, and this is the first fault behind the front
pub record IsFaultOfLaidOut (bytes : List ℕ) (fault : ImageFault) : Type 0 where
  pub first : ℕ
  pub copy : List CopiedPage
  pub words : List ℕ
  pub laid_out : IsLaidOut bytes first copy words
  pub behind : IsFaultBehind first copy words fault

-- the first fault of bytes: that of the front, or else one behind it
abbrev pub IsImageFault : List ℕ → ImageFault → Type 0
IsImageFault bytes fault = (front_fault bytes ≡ Some fault) ⊎ IsFaultOfLaidOut bytes fault
