use Rattle.std.proofs.Common.{◌≡◌, take}
use Rattle.std.specs.Prelude.{sum_by}
use Rattle.ib_tool.proofs.CountLaws.{among}
use Rattle.ib_tool.proofs.counting.count_of.Given as goal

abbrev pub invariant-loop-out : goal.invariant-loop-out
invariant-loop-out l = l.count ≡ sum_by (λ out. among l.kind out.records) (take l.out-index l.sessions)
