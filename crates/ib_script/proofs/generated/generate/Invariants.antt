-- The sessions so far have their commands, and few in all.
use Rattle.std.proofs.Common.{◌≡◌, ◌<◌, ◌≤◌, ◌+◌, ◌*◌, ◌/◌, ℕ, [], length}
use Rattle.std.specs.Prelude.{true, Some, slice_get, slice_index_or, sum_by}
use Rattle.ib_script.specs.Generated.{call_at, share_of}
use Rattle.ib_script.specs.Lists.{lists_of}
use Rattle.ib_script.specs.Loads.{is_load}
use Rattle.ib_script.specs.Script.{scan_count}
use Rattle.ib_script.proofs.generated.generate.Given as goal

abbrev pub invariant-loop-before : goal.invariant-loop-before
invariant-loop-before l = record {
  load : is_load l.load.commands l.load.seed l.load.sessions ≡ true;
  count : length l.sessions.items ≡ l.before;
  all : l.before-end ≡ l.load.sessions;
  shares : (n : ℕ) → n < l.before → length (slice_index_or (lists_of l.sessions.items) n []) ≡ share_of l.load (n + 1);
  calls : (n at : ℕ) → n < l.before → at < share_of l.load (n + 1) → slice_get (slice_index_or (lists_of l.sessions.items) n []) at ≡ Some (call_at l.load (n + 1) at);
  few : sum_by length (lists_of l.sessions.items) ≤ l.before * (l.load.commands / l.load.sessions + 1);
  scans : sum_by scan_count (lists_of l.sessions.items) ≡ 0;
}
