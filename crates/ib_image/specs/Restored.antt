-- What an image file restores.
use Rattle.std.specs.Prelude.{◌≡◌, ℕ, ◌*◌, ◌^◌, ◌<◌, true, List, length}
use Rattle.ib_map.specs.Space.{has_pages}
use Rattle.ib_map.specs.declared.TheConstants.{PAGE_WORDS}
use Rattle.ib_page.specs.Memory.{word_at}
use Rattle.ib_logrec.specs.declared.entry.Entry.{Entry}
use Rattle.ib_logrec.specs.Law.{AreInGrammar}
use Rattle.ib_logrec.specs.Log.{by_place, log_words}
use Rattle.ib_walk.specs.Words.{IsLawfulMemory}
use Rattle.ib_tree.specs.TreeLog.{IsTreeLog, opening}
use Rattle.ib_replay.specs.Files.{AreWords}
use Rattle.ib_image.specs.declared.copy.CopiedPage.{CopiedPage}
use Rattle.ib_image.specs.Copies.{IsCopy, first_place, restored, tail_of}
use Rattle.ib_image.specs.ImageFiles.{IsLaidOut, image_bytes, image_numbers}
use Rattle.ib_image.specs.ImageFaults.{ArePlaces, HasTail}

-- bytes are the image file of a copy and the entries of its tail
pub record IsImageFile (bytes : List ℕ) (copy : List CopiedPage) (tail : List Entry) : Type 0 where
  pub laid_out : IsLaidOut bytes (first_place copy) copy (log_words tail)
  pub grammar : AreInGrammar (length copy) tail
  pub places : ArePlaces (first_place copy) (length tail) copy (length copy)

-- an image for each page, with the words that the copy and the tail restore
pub record IsRestoredMemory (copy : List CopiedPage) (tail : List Entry) (memory : List (List ℕ)) : Type 0 where
  pub size : length memory ≡ length copy
  pub words : (place : ℕ) → place < length copy * PAGE_WORDS → word_at memory place ≡ restored copy tail place

-- bytes are an image file that restores this lawful memory
pub record IsRestored (bytes : List ℕ) (memory : List (List ℕ)) : Type 0 where
  pub copy : List CopiedPage
  pub tail : List Entry
  pub file : IsImageFile bytes copy tail
  pub memory_is : IsRestoredMemory copy tail memory
  pub lawful : IsLawfulMemory (length copy) 1 (restored copy tail)

-- .. by what stands behind its front
pub record IsRestoredBehind (first : ℕ) (copy : List CopiedPage) (words : List ℕ) (memory : List (List ℕ)) : Type 0 where
  pub tail : List Entry
  pub has : HasTail copy words tail
  pub places : ArePlaces first (length tail) copy (length copy)
  pub memory_is : IsRestoredMemory copy tail memory
  pub lawful : IsLawfulMemory (length copy) 1 (restored copy tail)

-- bytes are the image file of a copy of a lawful log and of its tail
pub record IsFileOfCopy (bytes : List ℕ) (pages : ℕ) (log : List Entry) (copy : List CopiedPage) : Type 0 where
  pub space : has_pages pages ≡ true
  pub lawful : IsTreeLog pages log
  pub copied : IsCopy (by_place opening pages) pages log copy
  pub small : first_place copy < 2 ^ 32
  pub fits : AreWords (image_numbers (first_place copy) copy (log_words (tail_of copy log)))
  pub file : bytes ≡ image_bytes (first_place copy) copy (log_words (tail_of copy log))
