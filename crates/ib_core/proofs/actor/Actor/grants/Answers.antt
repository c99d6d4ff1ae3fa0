-- The counts of one holding add up.
use Rattle.std.proofs.Common.{arith}
use Rattle.ib_core.specs.Actor.{session_of}
use Rattle.ib_core.proofs.OnLatch.{counted}
use Rattle.ib_core.proofs.actor.Actor.grants.Goals as goal

pub returns : goal.returns
returns c =
    let k = counted c.args.latch.0 (session_of c.args.self.now) c.requires in
    let s = rw c.as_slice.ensures.value at c.grants_on.ensures.s in
    let sx = rw c.as_slice.ensures.value at c.grants_on.ensures.sx in
    let x = rw c.as_slice.ensures.value at c.grants_on.ensures.x in
    record { s = s; sx = sx; x = x; claims = omega arith; all = omega arith }
