-- A scan that was not begun keeps nothing.
use Rattle.std.proofs.Common.{ap}
use Rattle.ib_scan.specs.declared.stored.Stored.{Stored}
use Rattle.ib_index_tests.proofs.stored.begin.Goals as goal

pub returns : goal.returns
returns c =
    let none = ap (λ (s : Stored). s.position) c.new.ensures in
    record { unfinished = ap (λ (s : Stored). s.finished) c.new.ensures; keeps = λ at is. absurd cc }
