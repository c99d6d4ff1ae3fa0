-- The entry by which a session makes a change, and when it may be appended.
use Rattle.std.specs.Prelude.{◌≡◌, ℕ, ◌+◌, ◌<◌, true, List, [], ◌∷◌, ◌++◌, length}
use mathlib.Core.List.{IsPrefix}
use Rattle.ib_map.specs.declared.call.Change.{Change}
use Rattle.ib_map.specs.Writes.{spans_pages, touches}
use Rattle.ib_page.specs.Work.{WorkPage}
use Rattle.ib_page.specs.Writes.{writes_of}
use Rattle.ib_core.specs.declared.phase.Phase.TheVariants.{Free}
use Rattle.ib_core.specs.Sessions.{sx_grants, x_grants}
use Rattle.ib_logrec.specs.declared.entry.Entry.{Entry}
use Rattle.ib_logrec.specs.Words.{words_of_entry}
use Rattle.ib_rule.specs.Views.{is_watched}
use Rattle.ib_rule.specs.Pass.{PassState}

-- the entry of a session's change by this number: the words in which the pages differ from what was read are its writes
abbrev pub entry_by : ℕ → ℕ → Change → List WorkPage → Entry
entry_by session number change pages = record { session = session; number = number; change = change; structural = spans_pages (writes_of pages); writes = writes_of pages }

-- the next entry of the pass's session
abbrev pub entry_for : PassState → Change → List WorkPage → Entry
entry_for p change pages = entry_by p.number (length p.view.memory.own + 1) change pages

-- it may be appended: the session is in the middle of nothing, owns X on the log latch, with a look at the log's end since, and on each page that is written, and where more than one is, SX on the index and not X; and the entry is lawful behind what was seen
pub record MayAppend (lawful : List Entry → Type 0) (p : PassState) (change : Change) (pages : List WorkPage) : Type 0 where
  pub free : p.view.session.phase ≡ Free
  pub log_x : 0 < x_grants 0 p.view.session
  pub watched : is_watched 0 p.view.memory.since ≡ true
  pub pages_x : (page : ℕ) → touches page (writes_of pages) ≡ true → 0 < x_grants (page + 2) p.view.session
  pub index : spans_pages (writes_of pages) ≡ true → (0 < sx_grants 1 p.view.session) × (x_grants 1 p.view.session ≡ 0)
  pub legal : lawful (p.view.memory.seen ++ entry_for p change pages ∷ [])

-- the entry of the change stands at the front of the pass's words, and has so many writes
pub record IsLaidOut (p : PassState) (change : Change) (pages : List WorkPage) (writes : ℕ) : Type 0 where
  pub spelled : IsPrefix (words_of_entry (entry_for p change pages)) p.words
  pub count : writes ≡ length (writes_of pages)
