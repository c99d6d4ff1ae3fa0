-- SX and X together.
use Rattle.std.proofs.Common.{arith}
use Rattle.ib_latch.proofs.Claims.{claims_are}
use Rattle.ib_latch.proofs.tries.claim_on.Goals as goal

pub returns-then-counts-gt0 : goal.returns-then-counts-gt0
returns-then-counts-gt0 c = let s = claims_are c.args.latch.0 c.args.pass.now.view.session in omega arith

pub returns-then-counts-gt0-2 : goal.returns-then-counts-gt0-2
returns-then-counts-gt0-2 c = let s = claims_are c.args.latch.0 c.args.pass.now.view.session in omega arith

pub returns-else-counts-gt0-2 : goal.returns-else-counts-gt0-2
returns-else-counts-gt0-2 c = let s = claims_are c.args.latch.0 c.args.pass.now.view.session in omega arith
