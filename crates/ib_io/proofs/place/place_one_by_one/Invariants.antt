use Rattle.std.proofs.Common.{◌≡◌, ◌+◌, drop}
use Rattle.ib_io.proofs.Places.{before}
use Rattle.ib_io.proofs.place.place_one_by_one.Given as goal

abbrev pub invariant-loop-place : goal.invariant-loop-place
invariant-loop-place l = before l.byte l.text ≡ l.place + before l.byte (drop l.place l.text)
