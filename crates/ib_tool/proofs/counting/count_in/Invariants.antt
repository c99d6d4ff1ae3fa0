use Rattle.std.proofs.Common.{◌≡◌, take}
use Rattle.ib_tool.proofs.CountLaws.{among}
use Rattle.ib_tool.proofs.counting.count_in.Given as goal

abbrev pub invariant-loop-record : goal.invariant-loop-record
invariant-loop-record l = l.count ≡ among l.kind (take l.record-index l.records)
