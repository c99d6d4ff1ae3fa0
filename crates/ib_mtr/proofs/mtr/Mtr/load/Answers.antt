-- With the page it is a mini-transaction.
use Rattle.std.proofs.Common.{rules, refl}
use Rattle.ib_mtr.proofs.Looking.{loaded_mtr}
use Rattle.ib_mtr.proofs.mtr.Mtr.load.Goals as goal

pub returns-clause-still : goal.returns-clause-still
returns-clause-still g c =
    let mtr = loaded_mtr c.args.self.now.latches.now c.args.self.now.pass.now c.resume_work.new.self c.read_page.new.pass.view.memory.seen c.args.page c.read_page.new.out c.requires.mtr c.requires.held
    (search rules) in
    record { mtr = mtr; latches = refl; pass = refl }
