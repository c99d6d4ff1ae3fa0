-- Scripts that are generated: what each session asks for is a function of three numbers.
use Rattle.std.specs.Prelude.{◌≡◌, ℕ, ◌+◌, ◌-◌, ◌*◌, ◌/◌, ◌%◌, ◌<◌, [], Some, length, nat_le, nat_lt, ◌==◌, slice_get, slice_index_or, if◌then◌else◌}
use Rattle.std.specs.Int.{w64, to_be_bytes}
use Rattle.ib_map.specs.KeyBytes.{key_of_bytes}
use Rattle.ib_map.specs.Keys.{MapKey}
use Rattle.ib_map.specs.declared.call.Call.{Call}
use Rattle.ib_map.specs.declared.call.Call.TheVariants.{Insert, Delete, Get}
use Rattle.ib_script.specs.Script.{ScriptValue, largest}
use Rattle.ib_script.specs.declared.load.Load.{Load}

-- how many commands a session has, counted from 1: the same for all, and the first sessions have one more until all are given out
abbrev pub share_of : Load → ℕ → ℕ
share_of load session = load.commands / load.sessions + (if nat_le session (load.commands % load.sessions) then 1 else 0)

-- the number of a session's command, counted from 0: no two are alike
abbrev pub number_of : Load → ℕ → ℕ → ℕ
number_of load session at = (at * 40503 + load.seed) % 65536 * 64 + (session - 1)

-- its key: the 8 bytes of that number, from the highest down
unfoldable pub key_of : Load → ℕ → ℕ → MapKey
key_of load session at = key_of_bytes (to_be_bytes w64 (number_of load session at))

-- three keys of four are taken out again, and the fourth is looked up
abbrev pub call_back : ℕ → MapKey → Call
call_back at key = if at % 4 == 3 then Get key else Delete key

-- a session's command: the first half put keys in, and the second half comes back to them in the same order. Where the share is odd, the last call comes to a key that was not put in
abbrev pub call_at : Load → ℕ → ℕ → Call
call_at load session at =
    let half = share_of load session / 2 in
    if nat_lt at half then Insert (key_of load session at) at else call_back (at - half) (key_of load session (at - half))

-- each session has its commands, on the largest space
pub record IsGenerated (load : Load) (script : ScriptValue) : Type 0 where
  pub sizes : script.sizes ≡ largest
  pub sessions : length script.commands ≡ load.sessions
  pub shares : (n : ℕ) → n < load.sessions → length (slice_index_or script.commands n []) ≡ share_of load (n + 1)
  pub calls : (n at : ℕ) → n < load.sessions → at < share_of load (n + 1) → slice_get (slice_index_or script.commands n []) at ≡ Some (call_at load (n + 1) at)
