-- Lists of entries: their words, the memory after them, their history and their map.
use Rattle.std.specs.Prelude.{ℕ, List, [], ◌∷◌, length, map}
use Rattle.std.specs.List.{flat_map}
use Rattle.ib_map.specs.declared.call.LoggedChange.{LoggedChange}
use Rattle.ib_map.specs.Pairs.{Pairs}
use Rattle.ib_map.specs.History.{History, map_after}
use Rattle.ib_logrec.specs.declared.entry.Entry.{Entry}
use Rattle.ib_map.specs.Writes.{page_at, index_at, stored}
use Rattle.ib_logrec.specs.Heads.{head_of, logged_head}
use Rattle.ib_logrec.specs.Words.{words_of_entry}

-- the words of the entries, one after another, and how many they are
abbrev pub log_words : List Entry → List ℕ
log_words log = flat_map words_of_entry log

abbrev pub used : List Entry → ℕ
used log = length (log_words log)

-- the word at a place after the entries, where it was `word`
abbrev pub after : List Entry → ℕ → ℕ → ℕ
after [] place word = word
after (e ∷ es) place word = after es place (stored e.writes place word)

-- the memory after the entries
abbrev pub memory_after : (ℕ → ℕ) → List Entry → ℕ → ℕ
memory_after opening log place = after log place (opening place)

-- the opening memory by places, from a law's words by page and index
abbrev pub by_place : (ℕ → ℕ → ℕ → ℕ) → ℕ → ℕ → ℕ
by_place opening pages place = opening pages (page_at place) (index_at place)

-- the change of an entry, as a history has it
abbrev pub logged : Entry → LoggedChange
logged e = logged_head (head_of e)

-- the changes of the entries
abbrev pub history_of : List Entry → History
history_of log = map logged log

-- the map that they all give
abbrev pub map_of : List Entry → Pairs
map_of log = map_after (history_of log) (length log)
