-- Which old entries have words, and what is wrong with words that are no old entry's.
use Rattle.std.specs.Prelude.{◌≡◌, ℕ, ◌+◌, ◌*◌, ◌-◌, ◌^◌, ◌<◌, ◌≤◌, ◌==◌, ◌&&◌, ◌||◌, Bool, not, List, [], ◌∷◌, ◌++◌, length, drop, nat_lt, nat_le, Option, None}
use Rattle.std.specs.List.{AllByRecursion}
use Rattle.std.proofs.Math.Bool.{beq}
use Rattle.ib_map.specs.Writes.{PlacesRise}
use Rattle.ib_map.specs.declared.write.Write.{Write}
use Rattle.ib_logrec.specs.declared.entry.TheConstants.{MOST_SESSIONS}
use Rattle.ib_logrec.specs.declared.fault.LogFault.{LogFault}
use Rattle.ib_logrec.specs.declared.fault.LogFault.TheVariants.{Short, BadHead, BadWrite, Outside}
use Rattle.ib_logrec.specs.Grammar.{unless, ◌or◌, is_flags, is_counted}
use Rattle.ib_logrec.specs.Heads.{session_in, flags_in, count_in, is_delete, is_structural, first_at, number_at}
use Rattle.ib_logrec.specs.Words.{writes_in}
use Rattle.ib_old_log.specs.declared.TheConstants.{OLD_HEAD_WORDS, OLD_PAGE_WORDS, MOST_OLD_WRITES}
use Rattle.ib_old_log.specs.declared.head.OldHead.{OldHead}
use Rattle.ib_old_log.specs.OldHeads.{old_value_word}
use Rattle.ib_old_log.specs.OldEntries.{OldEntry, old_head_of, old_words, spans_old_pages}

-- an old entry is in the grammar of so many pages
pub record IsInOldGrammar (pages : ℕ) (e : OldEntry) : Type 0 where
  pub session : 1 ≤ e.session
  pub most_session : e.session ≤ MOST_SESSIONS
  pub number : 1 ≤ e.number
  pub most_number : e.number < 2 ^ 32
  pub writes : 1 ≤ length e.writes
  pub most_writes : length e.writes ≤ MOST_OLD_WRITES
  pub places : PlacesRise 0 e.writes (pages * OLD_PAGE_WORDS)
  pub structural : e.structural ≡ spans_old_pages e.writes

-- each of them is
abbrev pub AreInOldGrammar : ℕ → List OldEntry → Type 0
AreInOldGrammar pages olds = AllByRecursion (IsInOldGrammar pages) olds

-- an old entry in the grammar stands at this place of the words, and ends before `next`
pub record OldStandsAt (pages place next : ℕ) (words : List ℕ) (e : OldEntry) : Type 0 where
  pub grammar : IsInOldGrammar pages e
  pub spelled : drop place words ≡ old_words e ++ drop next words
  pub ends : next ≡ place + length (old_words e)
  pub within : next ≤ length words

-- .. of which this is the head
pub record OldHeadStandsAt (pages place next : ℕ) (words : List ℕ) (h : OldHead) : Type 0 where
  pub entry : OldEntry
  pub stands : OldStandsAt pages place next words entry
  pub head : h ≡ old_head_of entry

-- a first word: a session, flags, and how many writes
abbrev pub is_old_first : ℕ → Bool
is_old_first first = is_counted (session_in first) MOST_SESSIONS && is_flags (flags_in first) && is_counted (count_in first) MOST_OLD_WRITES

-- each place in order: on a page, and not below `low`, which is one above the place before
abbrev pub old_place_fault : ℕ → ℕ → ℕ → List Write → Option LogFault
old_place_fault pages entry low [] = None
old_place_fault pages entry low (w ∷ ws) =
    unless (nat_lt w.place (pages * OLD_PAGE_WORDS)) (Outside entry w.place)
    or unless (nat_le low w.place) (BadWrite entry w.place)
    or old_place_fault pages entry (w.place + 1) ws

-- the first fault of the words of a head that begins at a place, and that so many words stand behind it as its writes have
unfoldable pub old_head_fault : ℕ → List ℕ → Option LogFault
old_head_fault place words =
    unless (nat_le OLD_HEAD_WORDS (length words)) (Short place)
    or unless (is_old_first (first_at words)) (BadHead place (first_at words))
    or unless (is_counted (number_at words) (2 ^ 32 - 1)) (BadHead place (number_at words))
    or unless (not (is_delete (first_at words)) || (old_value_word words == 0)) (BadHead place (old_value_word words))
    or unless (nat_le (2 * count_in (first_at words)) (length (drop OLD_HEAD_WORDS words))) (Short place)

-- the first fault of the words behind a head: of the places, and then whether they lie on more than one page as the head says
abbrev pub old_writes_fault : ℕ → ℕ → ℕ → List Write → Option LogFault
old_writes_fault pages place first writes =
    old_place_fault pages place 0 writes or unless (beq (is_structural first) (spans_old_pages writes)) (BadHead place first)

-- the first fault of the words of an old entry that begins at a place
unfoldable pub old_fault_at : ℕ → ℕ → List ℕ → Option LogFault
old_fault_at pages place words =
    old_head_fault place words or old_writes_fault pages place (first_at words) (writes_in (count_in (first_at words)) (drop OLD_HEAD_WORDS words))
