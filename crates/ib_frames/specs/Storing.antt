-- A pass in the middle of an append.
use Rattle.std.specs.Prelude.{◌≡◌, ℕ, ◌<◌, true, List, get_or}
use Rattle.ib_map.specs.declared.write.Write.{Write}
use Rattle.ib_logrec.specs.declared.entry.Entry.{Entry}
use Rattle.ib_rule.specs.Memory.{has}
use Rattle.ib_rule.specs.Pass.{PassState, with_view}
use Rattle.ib_rule.specs.Stores.{stale, begun, Begins, storing}

-- some words of the entry more are stored, and nothing else changed
pub record HasStored (e : Entry) (start now : PassState) : Type 0 where
  pub same : now ≡ with_view start (storing now.view.memory.loaded now.view.memory.append start.view)
  pub loaded : stale now.view.memory.loaded ≡ stale start.view.memory.loaded
  pub begins : Begins e now.view.memory.append
  pub places : (q : ℕ) → has q (begun e start.view.memory.append).places ≡ true → has q (begun e now.view.memory.append).places ≡ true
  pub words : (j : ℕ) → has j (begun e start.view.memory.append).words ≡ true → has j (begun e now.view.memory.append).words ≡ true

abbrev pub no_write : Write
no_write = record { place = 0; value = 0 }

-- the place of a write, by its number
abbrev pub place_at : List Write → ℕ → ℕ
place_at ws i = (get_or ws i no_write).place

-- the first n writes of the entry are stored in the pages, and its first n words in the log
abbrev pub PagesStored : Entry → ℕ → PassState → Type 0
PagesStored e n now = (k : ℕ) → k < n → has (place_at e.writes k) (begun e now.view.memory.append).places ≡ true

abbrev pub WordsStored : Entry → ℕ → PassState → Type 0
WordsStored e n now = (j : ℕ) → j < n → has j (begun e now.view.memory.append).words ≡ true
