-- Heads of old entries, whose keys are numbers: their words, and what they say with the key brought over.
use Rattle.std.specs.Prelude.{ℕ, ◌+◌, ◌*◌, ◌^◌, List, [], ◌∷◌, slice_index, if◌then◌else◌}
use Rattle.std.specs.Int.{w64, to_be_bytes}
use Rattle.ib_map.specs.KeyBytes.{key_of_bytes}
use Rattle.ib_map.specs.Keys.{MapKey}
use Rattle.ib_map.specs.declared.call.Change.{Change}
use Rattle.ib_map.specs.declared.call.Change.TheVariants.{Insert, Delete}
use Rattle.ib_map.specs.declared.call.LoggedChange.{LoggedChange}
use Rattle.ib_logrec.specs.Heads.{flags_of, session_in, count_in, is_delete, is_structural, first_at, number_at}
use Rattle.ib_old_log.specs.declared.change.OldChange.{OldChange}
use Rattle.ib_old_log.specs.declared.change.OldChange.TheVariants.{Insert as OldInsert, Delete as OldDelete}
use Rattle.ib_old_log.specs.declared.head.OldHead.{OldHead}

-- the key of the eight bytes of a number, from the highest down
abbrev pub key_of_number : ℕ → MapKey
key_of_number n = key_of_bytes (to_be_bytes w64 n)

-- a change with its key brought over
abbrev pub brought_change : OldChange → Change
brought_change (OldInsert key value) = Insert (key_of_number key) value
brought_change (OldDelete key) = Delete (key_of_number key)

-- .. as a history has it
abbrev pub brought_head : OldHead → LoggedChange
brought_head h = record { session = h.session; number = h.number; change = brought_change h.change }

abbrev pub old_key : OldChange → ℕ
old_key (OldInsert key value) = key
old_key (OldDelete key) = key

-- the value of an insert, 0 for a delete
abbrev pub old_value : OldChange → ℕ
old_value (OldInsert key value) = value
old_value (OldDelete key) = 0

abbrev pub old_first_word : OldHead → ℕ
old_first_word h = h.session * 2 ^ 32 + flags_of (brought_change h.change) h.structural * 2 ^ 16 + h.writes

-- the words of a head: the first one, the number, the key and the value
abbrev pub old_head_words : OldHead → List ℕ
old_head_words h = old_first_word h ∷ h.number ∷ old_key h.change ∷ old_value h.change ∷ []

-- the key and the value at their places among the words of a head
abbrev pub old_key_word : List ℕ → ℕ
old_key_word words = slice_index words 2

abbrev pub old_value_word : List ℕ → ℕ
old_value_word words = slice_index words 3

-- the change that a head tells
abbrev pub old_change_in : List ℕ → OldChange
old_change_in words = if is_delete (first_at words) then OldDelete (old_key_word words) else OldInsert (old_key_word words) (old_value_word words)

-- the head at the front of the words
unfoldable pub old_head_in : List ℕ → OldHead
old_head_in words = record {
  session = session_in (first_at words);
  number = number_at words;
  change = old_change_in words;
  structural = is_structural (first_at words);
  writes = count_in (first_at words);
}
