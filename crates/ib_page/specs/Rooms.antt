-- How a work set is kept: slots in the order of their pages, each with the number of the room in which its images stand.
use Rattle.std.specs.Prelude.{◌≡◌, ℕ, ◌+◌, ◌<◌, ◌≤◌, ◌==◌, List, [], ◌∷◌, length, map, count_by, slice_index_or, if◌then◌else◌}
use Rattle.ib_page.specs.Work.{WorkPage}
use Rattle.ib_page.specs.declared.work.TheConstants.{MOST_WORK_PAGES}
use Rattle.ib_page.specs.declared.work.Slot.{Slot}

-- the image in a room
abbrev pub image_in : List (List ℕ) → ℕ → List ℕ
image_in images room = slice_index_or images room []

-- the changed image of a slot: the one that was read, until it is edited
abbrev pub changed_in : List (List ℕ) → List (List ℕ) → Slot → List ℕ
changed_in before changed s = if s.edited then image_in changed s.room else image_in before s.room

-- the page of a slot with its images
abbrev pub work_page_in : List (List ℕ) → List (List ℕ) → Slot → WorkPage
work_page_in before changed s = record { page = s.page; before = image_in before s.room; changed = changed_in before changed s }

-- the pages of all slots
abbrev pub pages_in : List (List ℕ) → List (List ℕ) → List Slot → List WorkPage
pages_in before changed slots = map (work_page_in before changed) slots

-- pages ascend strictly, from `low` on
abbrev pub SlotsAscend : ℕ → List Slot → Type 0
SlotsAscend low [] = Unit {0}
SlotsAscend low (s ∷ ss) = (low ≤ s.page) × SlotsAscend (s.page + 1) ss

-- how often a room is used
abbrev pub times_used : ℕ → List Slot → ℕ
times_used room slots = count_by (λ s. s.room == room) slots

-- how often a room is used or spare
abbrev pub times_kept : ℕ → List Slot → List ℕ → ℕ
times_kept room slots spare = times_used room slots + count_by (λ r. r == room) spare

-- pages ascend, and each of the rooms is that of one page or spare
pub record IsRoomed (slots : List Slot) (before changed : List (List ℕ)) (spare : List ℕ) : Type 0 where
  pub ascends : SlotsAscend 0 slots
  pub once : (room : ℕ) → room < MOST_WORK_PAGES → times_kept room slots spare ≡ 1
  pub no_other : (room : ℕ) → MOST_WORK_PAGES ≤ room → times_kept room slots spare ≡ 0
  pub before_size : length before ≡ MOST_WORK_PAGES
  pub changed_size : length changed ≡ MOST_WORK_PAGES
  pub rooms : length slots + length spare ≡ MOST_WORK_PAGES
