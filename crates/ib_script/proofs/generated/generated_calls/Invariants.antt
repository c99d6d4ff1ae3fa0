-- The commands so far are the session's first ones.
use Rattle.std.proofs.Common.{◌≡◌, ◌<◌, ℕ, length}
use Rattle.std.specs.Prelude.{true, Some, slice_get}
use Rattle.ib_script.specs.Generated.{call_at, share_of}
use Rattle.ib_script.specs.Loads.{is_load}
use Rattle.ib_script.proofs.generated.generated_calls.Given as goal

abbrev pub invariant-loop-at : goal.invariant-loop-at
invariant-loop-at l = record {
  load : is_load l.load.commands l.load.seed l.load.sessions ≡ true;
  count : length l.calls.items ≡ l.at;
  all : l.at-end ≡ share_of l.load l.session;
  calls : (at : ℕ) → at < l.at → slice_get l.calls.items at ≡ Some (call_at l.load l.session at);
}
