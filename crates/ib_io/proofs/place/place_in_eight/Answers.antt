use Rattle.std.proofs.Common.{arith}
use Rattle.ib_io.proofs.Places.{lowest-mark, no-mark}
use Rattle.ib_io.proofs.place.place_in_eight.Goals as goal

pub returns-then-marks-eq0 : goal.returns-then-marks-eq0
returns-then-marks-eq0 c = no-mark 8 c.args.byte c.args.text.now c.requires (omega arith) c.if-marks-eq0.true

pub returns : goal.returns
returns c = lowest-mark 8 c.args.byte c.args.text.now c.requires (omega arith) c.if-marks-eq0.false
