-- X is held on each page so far that is changed.
use Rattle.std.proofs.Common.{◌≡◌, ◌+◌, ◌<◌, ℕ, true}
use Rattle.ib_core.specs.Sessions.{x_grants}
use Rattle.ib_mtr.proofs.Asking.{is_written, number_at}
use Rattle.ib_mtr.proofs.readers.owns_changed.Given as goal

abbrev pub invariant-loop-place : goal.invariant-loop-place
invariant-loop-place l = (k : ℕ) → k < l.place → is_written l.work k ≡ true → 0 < x_grants (number_at l.work k + 2) l.pass.view.session
