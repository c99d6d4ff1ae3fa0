-- What the numbers of a file say, part by part.
use Rattle.std.specs.Prelude.{◌≡◌, ℕ, zero, suc, ◌+◌, ◌-◌, ◌*◌, ◌%◌, ◌^◌, ◌<◌, ◌≤◌, true, List, [], ◌∷◌, ◌++◌, length, map, take, drop, slice_index}
use Rattle.ib_map.specs.Space.{has_pages}
use Rattle.ib_map.specs.declared.TheConstants.{PAGE_WORDS}
use Rattle.ib_logrec.specs.declared.fault.LogFault.{LogFault}
use Rattle.ib_logrec.specs.declared.fault.LogFault.TheVariants.{OutOfMemory as LogOutOfMemory}
use Rattle.ib_replay.specs.Files.{file_number}
use Rattle.ib_image.specs.declared.copy.CopiedPage.{CopiedPage}
use Rattle.ib_image.specs.declared.fault.ImageFault.{ImageFault}
use Rattle.ib_image.specs.declared.fault.ImageFault.TheVariants.{Tail, OutOfMemory}
use Rattle.ib_image.specs.declared.front.Front.{Front}
use Rattle.ib_image.specs.declared.image_file.TheConstants.{IMAGE_FORM}
use Rattle.ib_image.specs.ImageFiles.{number_of}

-- the bytes are a whole number of numbers, those in front are right, and say so many pages and this first place
pub record IsFront (bytes : List ℕ) (front : Front) : Type 0 where
  pub even : length bytes % 8 ≡ 0
  pub form : file_number bytes 0 ≡ IMAGE_FORM
  pub pages : front.pages ≡ file_number bytes 1
  pub first : front.first ≡ file_number bytes 2
  pub space : has_pages front.pages ≡ true
  pub small : front.first < 2 ^ 32
  pub whole : 8 * number_of front.pages ≤ length bytes

-- the page of this number
abbrev pub page_in_file : List ℕ → ℕ → CopiedPage
page_in_file numbers page = record { image = take PAGE_WORDS (drop (number_of page + 1) numbers); place = slice_index numbers (number_of page) }

-- the first pages
abbrev pub copy_in : List ℕ → ℕ → List CopiedPage
copy_in numbers zero = []
copy_in numbers (suc n) = copy_in numbers n ++ page_in_file numbers n ∷ []

-- the words behind so many pages
abbrev pub tail_in : List ℕ → ℕ → List ℕ
tail_in numbers pages = drop (number_of pages) numbers

-- the images of a copy, and the entries of its tail at which they begin
abbrev pub images_of : List CopiedPage → List (List ℕ)
images_of copy = map (λ c. c.image) copy

abbrev pub starts_from : ℕ → List CopiedPage → List ℕ
starts_from first copy = map (λ c. c.place - first) copy

-- a fault of the tail as one of the file
abbrev pub of_tail : LogFault → ImageFault
of_tail LogOutOfMemory = OutOfMemory
of_tail fault = Tail fault
