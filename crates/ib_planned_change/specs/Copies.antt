-- The images of all pages of a space, and work sets with copies of some.
use Rattle.std.specs.Prelude.{◌≡◌, ℕ, ◌+◌, ◌<◌, ◌≤◌, ◌^◌, true, List, [], ◌∷◌, length, slice_set}
use Rattle.std.specs.List.{All}
use Rattle.ib_map.specs.Space.{has_pages}
use Rattle.ib_logrec.specs.declared.entry.Entry.{Entry}
use Rattle.ib_logrec.specs.Log.{memory_after, by_place}
use Rattle.ib_page.specs.Memory.{image_at}
use Rattle.ib_page.specs.Work.{WorkPage}
use Rattle.ib_plans.specs.Agreement.{IsThere}
use Rattle.ib_walk.specs.Words.{image_of}
use Rattle.ib_tree.specs.TreeLog.{opening}
use Rattle.ib_planned_log.specs.Kept.{IsKeptLog}

-- the images are those of so many pages after a log, word for word
abbrev pub AreImagesAfter : ℕ → List Entry → List (List ℕ) → Type 0
AreImagesAfter pages log images = (page : ℕ) → page < pages → image_at images page ≡ image_of (memory_after (by_place opening pages) log) page

-- .. of all pages of a space, after a kept log, which is short enough for clocks to tick
pub record IsBehind (log : List Entry) (images : List (List ℕ)) : Type 0 where
  pub space : has_pages (length images) ≡ true
  pub kept : IsKeptLog (length images) log
  pub few : length log < 2 ^ 32
  pub images_are : AreImagesAfter (length images) log images

-- .. after some kept log
abbrev pub IsBehindSome : List (List ℕ) → Type 0
IsBehindSome images = (log : List Entry) × IsBehind log images

-- a page of a work set is a copy, and not changed yet
pub record IsCopy (images : List (List ℕ)) (w : WorkPage) : Type 0 where
  pub within : w.page < length images
  pub before : image_at images w.page ≡ w.before
  pub same : w.changed ≡ w.before

abbrev pub AreCopies : List (List ℕ) → List WorkPage → Type 0
AreCopies images work = All (IsCopy images) work

-- so many more pages at most were copied, and those that were there are
pub record HasCopied (images : List (List ℕ)) (most : ℕ) (old new : List WorkPage) : Type 0 where
  pub copies : AreCopies images old → AreCopies images new
  pub kept : (page : ℕ) → IsThere old page → IsThere new page
  pub count : length new ≤ length old + most

-- the images with the changed ones of a work set in their places
abbrev pub put_back : List WorkPage → List (List ℕ) → List (List ℕ)
put_back [] images = images
put_back (w ∷ ws) images = put_back ws (slice_set images w.page w.changed)
