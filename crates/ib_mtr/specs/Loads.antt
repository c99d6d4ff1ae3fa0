-- A page that is loaded into the work set of a mini-transaction, and a look at the log's end.
use Rattle.std.specs.Prelude.{◌≡◌, ℕ, ◌<◌, List, length, slice_index}
use Rattle.ib_map.specs.declared.TheConstants.{PAGE_WORDS}
use Rattle.ib_map.specs.Writes.{word_place}
use Rattle.ib_page.specs.Work.{with_read}
use Rattle.ib_layout.specs.Geometry.{Sizes}
use Rattle.ib_logrec.specs.declared.entry.Entry.{Entry}
use Rattle.ib_logrec.specs.Log.{memory_after}
use Rattle.ib_rule.specs.Pass.{PassState, with_view}
use Rattle.ib_rule.specs.Stores.{IsLook}
use Rattle.ib_rule.specs.Views.{reaching}
use Rattle.ib_frames.specs.Reads.{AreRight, with_page_loaded}
use Rattle.ib_mtr.specs.Mtr.{with_work}

-- an image has the words of a page of the memory after these entries
abbrev pub IsPageAfter : (ℕ → ℕ) → List Entry → ℕ → List ℕ → Type 0
IsPageAfter opening log page image = (index : ℕ) → index < PAGE_WORDS → slice_index image index ≡ memory_after opening log (word_place page index)

-- the log's end was looked at, and nothing else is changed: the entries first seen are harmless, and what was loaded is right still
pub record HasLooked (sizes : Sizes) (lawful : List Entry → Type 0) (opening : ℕ → ℕ) (p q : PassState) : Type 0 where
  pub looked : IsLook sizes lawful p.view q.view.memory.seen
  pub right : AreRight opening q.view
  pub pass : q ≡ with_view p (reaching q.view.memory.seen p.view)

-- a page was loaded: it stands in the work set as it is after all entries seen, among them those first seen by the load, which are harmless
pub record HasLoadedPage (sizes : Sizes) (lawful : List Entry → Type 0) (opening : ℕ → ℕ) (page : ℕ) (p q : PassState) : Type 0 where
  pub image : List ℕ
  pub size : length image ≡ PAGE_WORDS
  pub is_page : IsPageAfter opening q.view.memory.seen page image
  pub looked : IsLook sizes lawful p.view q.view.memory.seen
  pub right : AreRight opening q.view
  pub pass : q ≡ with_work (with_read page image p.work) (with_view p (reaching q.view.memory.seen (with_page_loaded page image p.view)))
