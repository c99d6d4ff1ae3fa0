use Rattle.std.proofs.Common.{arith}
use Rattle.ib_io.proofs.Places.{part-has, part-lacks}
use Rattle.ib_io.proofs.place.place_of.Goals as goal

pub returns-in-Some : goal.returns-in-Some
returns-in-Some c = part-has c.args.byte c.loop-at.at c.args.text.now c.loop-at.invariant.within c.loop-at.invariant.passed 16 c.in-Some.place c.loop-at-test.true c.in-Some.ensures

pub loop-at-preserved : goal.loop-at-preserved
loop-at-preserved c = record {
  within = omega (arith, c.loop-at-test.true, c.loop-at.invariant.within);
  passed = part-lacks c.args.byte c.loop-at.at c.args.text.now c.loop-at.invariant.within c.loop-at.invariant.passed 16 c.loop-at-test.true c.in_default.ensures;
}
