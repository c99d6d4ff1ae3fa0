-- Old entries: the words that they are written as, the entry that words are read as, and the history that they make.
use Rattle.std.specs.Prelude.{ℕ, ◌/◌, not, Bool, false, ◌==◌, List, [], ◌∷◌, ◌++◌, length, drop, map}
use Rattle.std.specs.List.{list_any, flat_map}
use Rattle.ib_map.specs.History.{History}
use Rattle.ib_map.specs.Writes.{write_words}
use Rattle.ib_map.specs.declared.call.LoggedChange.{LoggedChange}
use Rattle.ib_map.specs.declared.write.Write.{Write}
use Rattle.ib_logrec.specs.Words.{writes_in}
use Rattle.ib_old_log.specs.declared.TheConstants.{OLD_HEAD_WORDS, OLD_PAGE_WORDS}
use Rattle.ib_old_log.specs.declared.change.OldChange.{OldChange}
use Rattle.ib_old_log.specs.declared.head.OldHead.{OldHead}
use Rattle.ib_old_log.specs.OldHeads.{old_head_words, old_head_in, brought_head}

-- an entry of version 1. The places of its writes count the words of pages of version 1
pub record OldEntry : Type 0 where
  pub session : ℕ
  pub number : ℕ
  pub change : OldChange
  pub structural : Bool
  pub writes : List Write

-- what an entry says before its writes
abbrev pub old_head_of : OldEntry → OldHead
old_head_of e = record { session = e.session; number = e.number; change = e.change; structural = e.structural; writes = length e.writes }

-- the words of the head, and then those of the writes
unfoldable pub old_words : OldEntry → List ℕ
old_words e = old_head_words (old_head_of e) ++ write_words e.writes

-- the entry with this head and these writes
abbrev pub old_entry_with : OldHead → List Write → OldEntry
old_entry_with h writes = record { session = h.session; number = h.number; change = h.change; structural = h.structural; writes = writes }

-- the entry at the front of the words
unfoldable pub old_entry_in : List ℕ → OldEntry
old_entry_in words = old_entry_with (old_head_in words) (writes_in (old_head_in words).writes (drop OLD_HEAD_WORDS words))

-- the words of the entries, one after another, and how many they are
abbrev pub old_log_words : List OldEntry → List ℕ
old_log_words olds = flat_map old_words olds

abbrev pub old_used : List OldEntry → ℕ
old_used olds = length (old_log_words olds)

-- the change of an entry as a history has it, with its key brought over
abbrev pub brought : OldEntry → LoggedChange
brought e = brought_head (old_head_of e)

-- the changes of the entries, with their keys brought over
abbrev pub brought_history : List OldEntry → History
brought_history olds = map brought olds

-- the page on which a place of version 1 lies
abbrev pub old_page_at : ℕ → ℕ
old_page_at place = place / OLD_PAGE_WORDS

-- whether the writes lie on more than one page
abbrev pub spans_old_pages : List Write → Bool
spans_old_pages [] = false
spans_old_pages (w ∷ ws) = list_any (λ v. not (old_page_at v.place == old_page_at w.place)) ws
