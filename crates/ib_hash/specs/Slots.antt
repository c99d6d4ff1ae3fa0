-- The slot of a key.
use Rattle.std.specs.Prelude.{ℕ, ◌+◌, ◌*◌, ◌%◌}
use Rattle.ib_map.specs.Keys.{MapKey}
use Rattle.ib_hash.specs.declared.slots.TheConstants.{SLOTS}

-- by the two words of the key, of which the second weighs 31
abbrev pub slot_for : MapKey → ℕ
slot_for key = (key.first % SLOTS + 31 * (key.second % SLOTS)) % SLOTS
