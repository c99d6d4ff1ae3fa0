-- Heads of entries: the words that they are written as, and the head that words are read as.
use Rattle.std.specs.Prelude.{ℕ, ◌+◌, ◌-◌, ◌*◌, ◌/◌, ◌%◌, ◌^◌, ◌==◌, ◌||◌, Bool, List, [], ◌∷◌, ◌++◌, length, drop, slice_index, if◌then◌else◌}
use Rattle.ib_map.specs.Map.{key_of}
use Rattle.ib_map.specs.declared.call.Change.{Change}
use Rattle.ib_map.specs.declared.call.Change.TheVariants.{Insert, Delete}
use Rattle.ib_map.specs.declared.call.LoggedChange.{LoggedChange}
use Rattle.ib_logrec.specs.declared.entry.TheConstants.{HEAD_WORDS}
use Rattle.ib_logrec.specs.declared.entry.Entry.{Entry}
use Rattle.ib_logrec.specs.declared.first_word.TheConstants.{INSERT, DELETE, STRUCTURAL_INSERT, STRUCTURAL_DELETE}
use Rattle.ib_logrec.specs.declared.head.Head.{Head}
use Rattle.ib_logrec.specs.KeyWords.{key_words, key_in}

-- what an entry says before its writes: all but them, and how many they are
abbrev pub head_of : Entry → Head
head_of e = record { session = e.session; number = e.number; change = e.change; structural = e.structural; writes = length e.writes }

-- the change of a head, as a history has it
abbrev pub logged_head : Head → LoggedChange
logged_head h = record { session = h.session; number = h.number; change = h.change }

-- the flags that tell a change, and whether it is structural
abbrev pub flags_of : Change → Bool → ℕ
flags_of (Insert key value) structural = if structural then STRUCTURAL_INSERT else INSERT
flags_of (Delete key) structural = if structural then STRUCTURAL_DELETE else DELETE

-- the value of an insert, 0 for a delete
abbrev pub value_of : Change → ℕ
value_of (Insert key value) = value
value_of (Delete key) = 0

abbrev pub first_word : Head → ℕ
first_word h = h.session * 2 ^ 32 + flags_of h.change h.structural * 2 ^ 16 + h.writes

-- the words of a head: the first one, the number, the key and the value
unfoldable pub head_words : Head → List ℕ
head_words h = first_word h ∷ h.number ∷ (key_words (key_of h.change) ++ value_of h.change ∷ [])

-- what an entry's first word says
abbrev pub session_in : ℕ → ℕ
session_in first = first / 2 ^ 32

abbrev pub flags_in : ℕ → ℕ
flags_in first = first / 2 ^ 16 % 2 ^ 16

abbrev pub count_in : ℕ → ℕ
count_in first = first % 2 ^ 16

abbrev pub is_delete : ℕ → Bool
is_delete first = (flags_in first == DELETE) || (flags_in first == STRUCTURAL_DELETE)

abbrev pub is_structural : ℕ → Bool
is_structural first = (flags_in first == STRUCTURAL_INSERT) || (flags_in first == STRUCTURAL_DELETE)

-- the parts of a head by their places among its words
abbrev pub first_at : List ℕ → ℕ
first_at words = slice_index words 0

abbrev pub number_at : List ℕ → ℕ
number_at words = slice_index words 1

abbrev pub key_part : List ℕ → List ℕ
key_part words = drop 2 words

abbrev pub value_word : List ℕ → ℕ
value_word words = slice_index words (HEAD_WORDS - 1)

-- the change that a head tells
abbrev pub change_in : List ℕ → Change
change_in words = if is_delete (first_at words) then Delete (key_in (key_part words)) else Insert (key_in (key_part words)) (value_word words)

-- the head at the front of the words
unfoldable pub head_in : List ℕ → Head
head_in words = record {
  session = session_in (first_at words);
  number = number_at words;
  change = change_in words;
  structural = is_structural (first_at words);
  writes = count_in (first_at words);
}
