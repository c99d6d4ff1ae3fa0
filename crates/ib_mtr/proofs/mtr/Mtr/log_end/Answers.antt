-- After the look it is a mini-transaction.
use Rattle.std.proofs.Common.{refl}
use Rattle.ib_mtr.proofs.Looking.{looked_mtr}
use Rattle.ib_mtr.proofs.mtr.Mtr.log_end.Goals as goal

pub returns-clause-still : goal.returns-clause-still
returns-clause-still g c =
    let mtr = looked_mtr c.args.self.now.latches.now c.args.self.now.pass.now c.log_end.new.pass c.log_end.new.pass.view.memory.seen c.requires.mtr c.log_end.ensures.view in
    record { mtr = mtr; latches = refl; pass = refl }
