-- Which entries have words, and what is wrong with words that are no entry's.
use Rattle.std.specs.Prelude.{◌≡◌, ℕ, ◌+◌, ◌*◌, ◌-◌, ◌^◌, ◌<◌, ◌≤◌, ◌==◌, ◌&&◌, ◌||◌, Bool, not, List, [], ◌∷◌, ◌++◌, length, drop, slice_index, nat_lt, nat_le, Option, Some, None, if◌then◌else◌}
use Rattle.std.proofs.Math.Bool.{beq}
use Rattle.ib_map.specs.declared.TheConstants.{PAGE_WORDS}
use Rattle.ib_map.specs.declared.write.Write.{Write}
use Rattle.ib_map.specs.Writes.{spans_pages, PlacesRise}
use Rattle.ib_logrec.specs.declared.entry.TheConstants.{HEAD_WORDS, MOST_WRITES, MOST_SESSIONS}
use Rattle.ib_logrec.specs.declared.entry.Entry.{Entry}
use Rattle.ib_logrec.specs.declared.first_word.TheConstants.{INSERT, DELETE, STRUCTURAL_INSERT, STRUCTURAL_DELETE}
use Rattle.ib_logrec.specs.declared.head.Head.{Head}
use Rattle.ib_logrec.specs.declared.fault.LogFault.{LogFault}
use Rattle.ib_logrec.specs.declared.fault.LogFault.TheVariants.{Short, BadHead, BadWrite, Outside, OutOfMemory}
use Rattle.ib_logrec.specs.KeyWords.{spells_key}
use Rattle.ib_logrec.specs.Heads.{head_of, session_in, flags_in, count_in, is_delete, is_structural, first_at, number_at, key_part, value_word}
use Rattle.ib_logrec.specs.Words.{words_of_entry, writes_in}

-- an entry is in the grammar of so many pages
pub record IsInGrammar (pages : ℕ) (e : Entry) : Type 0 where
  pub session : 1 ≤ e.session
  pub most_session : e.session ≤ MOST_SESSIONS
  pub number : 1 ≤ e.number
  pub most_number : e.number < 2 ^ 32
  pub writes : 1 ≤ length e.writes
  pub most_writes : length e.writes ≤ MOST_WRITES
  pub places : PlacesRise 0 e.writes (pages * PAGE_WORDS)
  pub structural : e.structural ≡ spans_pages e.writes

-- an entry in the grammar stands at this place of a log's words, and ends before `next`
pub record StandsAt (pages place next : ℕ) (words : List ℕ) (e : Entry) : Type 0 where
  pub grammar : IsInGrammar pages e
  pub spelled : drop place words ≡ words_of_entry e ++ drop next words
  pub ends : next ≡ place + length (words_of_entry e)
  pub within : next ≤ length words

-- .. of which this is the head
pub record HeadStandsAt (pages place next : ℕ) (words : List ℕ) (h : Head) : Type 0 where
  pub entry : Entry
  pub stands : StandsAt pages place next words entry
  pub head : h ≡ head_of entry

-- the fault, unless the test holds
abbrev pub unless : Bool → LogFault → Option LogFault
unless test fault = if test then None else Some fault

-- the first of two faults
infixr 4 ◌or◌
abbrev pub ◌or◌ : Option LogFault → Option LogFault → Option LogFault
(Some fault) or next = Some fault
None or next = next

-- the flags of a change
abbrev pub is_flags : ℕ → Bool
is_flags flags = (flags == INSERT) || (flags == DELETE) || (flags == STRUCTURAL_INSERT) || (flags == STRUCTURAL_DELETE)

-- a number from 1 on
abbrev pub is_counted : ℕ → ℕ → Bool
is_counted n most = nat_le 1 n && nat_le n most

-- a first word: a session, flags, and how many writes
abbrev pub is_first : ℕ → Bool
is_first first = is_counted (session_in first) MOST_SESSIONS && is_flags (flags_in first) && is_counted (count_in first) MOST_WRITES

-- each place in order: on a page, and not below `low`, which is one above the place before
abbrev pub place_fault : ℕ → ℕ → ℕ → List Write → Option LogFault
place_fault pages entry low [] = None
place_fault pages entry low (w ∷ ws) =
    unless (nat_lt w.place (pages * PAGE_WORDS)) (Outside entry w.place)
    or unless (nat_le low w.place) (BadWrite entry w.place)
    or place_fault pages entry (w.place + 1) ws

-- the words begin with those of a head
unfoldable pub spells_head : List ℕ → Bool
spells_head words =
    is_first (first_at words) && is_counted (number_at words) (2 ^ 32 - 1) && spells_key (key_part words) && (not (is_delete (first_at words)) || (value_word words == 0))

-- the first fault of the words of a head that begins at a place, and that so many words stand behind it as its writes have
unfoldable pub head_fault : ℕ → List ℕ → Option LogFault
head_fault place words =
    unless (nat_le HEAD_WORDS (length words)) (Short place)
    or unless (is_first (first_at words)) (BadHead place (first_at words))
    or unless (is_counted (number_at words) (2 ^ 32 - 1)) (BadHead place (number_at words))
    or unless (spells_key (key_part words)) (BadHead place (slice_index words (HEAD_WORDS - 2)))
    or unless (not (is_delete (first_at words)) || (value_word words == 0)) (BadHead place (value_word words))
    or unless (nat_le (2 * count_in (first_at words)) (length (drop HEAD_WORDS words))) (Short place)

-- the first fault of the words behind a head: of the places, and then whether they lie on more than one page as the head says
abbrev pub writes_fault : ℕ → ℕ → ℕ → List Write → Option LogFault
writes_fault pages place first writes =
    place_fault pages place 0 writes or unless (beq (is_structural first) (spans_pages writes)) (BadHead place first)

-- the first fault of the words of an entry that begins at a place
unfoldable pub fault_at : ℕ → ℕ → List ℕ → Option LogFault
fault_at pages place words =
    head_fault place words or writes_fault pages place (first_at words) (writes_in (count_in (first_at words)) (drop HEAD_WORDS words))

-- a fault is the one that was found, or want of memory
abbrev pub IsFault : Option LogFault → LogFault → Type 0
IsFault found OutOfMemory = Unit {0}
IsFault found fault = found ≡ Some fault
