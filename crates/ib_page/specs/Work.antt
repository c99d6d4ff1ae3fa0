-- A work set: the pages of a change in ascending order, each with its image as read and its image as changed.
use Rattle.std.specs.Prelude.{ℕ, ◌+◌, ◌≤◌, nat_lt, ◌==◌, List, [], ◌∷◌, Option, Some, None, length, if◌then◌else◌}
use Rattle.ib_page.specs.declared.work.TheConstants.{MOST_WORK_PAGES}

-- a page with its image as read and its image as changed
pub record WorkPage : Type 0 where
  pub page : ℕ
  pub before : List ℕ
  pub changed : List ℕ

-- pages ascend strictly, from `low` on
abbrev pub PagesAscend : ℕ → List WorkPage → Type 0
PagesAscend low [] = Unit {0}
PagesAscend low (p ∷ ps) = (low ≤ p.page) × PagesAscend (p.page + 1) ps

-- what every work set is: pages in ascending order, no more than there is room for
pub record IsWork (ps : List WorkPage) : Type 0 where
  pub ascends : PagesAscend 0 ps
  pub few : length ps ≤ MOST_WORK_PAGES

-- the changed image of a page, where the page is there
abbrev pub changed_of : ℕ → List WorkPage → Option (List ℕ)
changed_of page [] = None
changed_of page (p ∷ ps) = if p.page == page then Some p.changed else changed_of page ps

-- the image of a page as it was read, where the page is there
abbrev pub before_of : ℕ → List WorkPage → Option (List ℕ)
before_of page [] = None
before_of page (p ∷ ps) = if p.page == page then Some p.before else before_of page ps

-- the pages with one more, which stands behind the lower ones
abbrev pub with_page : WorkPage → List WorkPage → List WorkPage
with_page q [] = q ∷ []
with_page q (p ∷ ps) = if nat_lt p.page q.page then p ∷ with_page q ps else q ∷ p ∷ ps

-- the pages with one more, of which nothing is changed yet
abbrev pub with_read : ℕ → List ℕ → List WorkPage → List WorkPage
with_read page image ps = with_page (record { page = page; before = image; changed = image }) ps

-- the pages without this one
abbrev pub without_page : ℕ → List WorkPage → List WorkPage
without_page page [] = []
without_page page (p ∷ ps) = if p.page == page then ps else p ∷ without_page page ps

-- the pages with another changed image of this one, and nothing else changed
abbrev pub with_changed : ℕ → List ℕ → List WorkPage → List WorkPage
with_changed page image [] = []
with_changed page image (p ∷ ps) = if p.page == page then record p { changed = image } ∷ ps else p ∷ with_changed page image ps
