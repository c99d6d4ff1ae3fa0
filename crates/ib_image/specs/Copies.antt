-- Fuzzy copies: the pages of a space, each read at a place of its own, and the memory that a copy and the log from its first place on restore.
use Rattle.std.specs.Prelude.{◌≡◌, ℕ, ◌+◌, ◌-◌, ◌<◌, ◌≤◌, List, [], length, take, drop, get_or, slice_index}
use Rattle.ib_map.specs.Writes.{page_at, index_at}
use Rattle.ib_logrec.specs.declared.entry.Entry.{Entry}
use Rattle.ib_logrec.specs.Log.{after, memory_after}
use Rattle.ib_walk.specs.Words.{image_of}
use Rattle.ib_image.specs.declared.copy.CopiedPage.{CopiedPage}

-- what contracts see of a copy: its pages, and how many words of the log stand before the place of page 0
pub record CopyState : Type 0 where
  pub pages : List CopiedPage
  pub tail_word : ℕ

-- the page of this number, as a copy has it
abbrev pub page_in : List CopiedPage → ℕ → CopiedPage
page_in copy page = get_or copy page (record { image = []; place = 0 })

-- the place of page 0
abbrev pub first_place : List CopiedPage → ℕ
first_place copy = (page_in copy 0).place

-- a page was read at its place of the log
pub record IsCopiedPage (opening : ℕ → ℕ) (log : List Entry) (page : ℕ) (c : CopiedPage) : Type 0 where
  pub within : c.place ≤ length log
  pub image : c.image ≡ image_of (memory_after opening (take c.place log)) page

-- a copy of so many pages of a log: each was read at its place, and places never fall from page 0 up
pub record IsCopy (opening : ℕ → ℕ) (pages : ℕ) (log : List Entry) (copy : List CopiedPage) : Type 0 where
  pub size : length copy ≡ pages
  pub copied : (page : ℕ) → page < pages → IsCopiedPage opening log page (page_in copy page)
  pub rises : (page : ℕ) → page + 1 < pages → (page_in copy page).place ≤ (page_in copy (page + 1)).place

-- its tail: the entries from the place of page 0 on
abbrev pub tail_of : List CopiedPage → List Entry → List Entry
tail_of copy log = drop (first_place copy) log

-- the memory that a copy and a tail restore: the page's image, with what the tail's entries from the page's place on write there, in order
abbrev pub restored : List CopiedPage → List Entry → ℕ → ℕ
restored copy tail place =
    let c = page_in copy (page_at place) in
    after (drop (c.place - first_place copy) tail) place (slice_index c.image (index_at place))
