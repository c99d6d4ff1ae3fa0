-- The words that an entry is written as, and the entry that words are read as.
use Rattle.std.specs.Prelude.{ℕ, suc, List, [], ◌∷◌, ◌++◌, drop}
use Rattle.ib_map.specs.declared.write.Write.{Write}
use Rattle.ib_map.specs.Writes.{write_words}
use Rattle.ib_logrec.specs.declared.entry.TheConstants.{HEAD_WORDS}
use Rattle.ib_logrec.specs.declared.entry.Entry.{Entry}
use Rattle.ib_logrec.specs.declared.head.Head.{Head}
use Rattle.ib_logrec.specs.Heads.{head_of, head_words, head_in}

-- the words of the head, and then those of the writes
unfoldable pub words_of_entry : Entry → List ℕ
words_of_entry e = head_words (head_of e) ++ write_words e.writes

-- the first so many writes that the words spell
abbrev pub writes_in : ℕ → List ℕ → List Write
writes_in (suc n) (place ∷ value ∷ words) = record { place = place; value = value } ∷ writes_in n words
writes_in _ _ = []

-- the entry with this head and these writes
abbrev pub entry_with : Head → List Write → Entry
entry_with h writes = record { session = h.session; number = h.number; change = h.change; structural = h.structural; writes = writes }

-- the entry at the front of the words
unfoldable pub entry_in : List ℕ → Entry
entry_in words = entry_with (head_in words) (writes_in (head_in words).writes (drop HEAD_WORDS words))
