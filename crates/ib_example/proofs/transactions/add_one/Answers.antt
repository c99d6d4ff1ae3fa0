-- With another changed image it is a mini-transaction.
use Rattle.std.proofs.Common.{refl}
use Rattle.ib_mtr.proofs.Looking.{edited_mtr}
use Rattle.ib_example.proofs.transactions.add_one.Goals as goal

pub returns : goal.returns
returns c = record {
  still = record {
    mtr = edited_mtr c.args.mtr.now.latches.now c.args.mtr.now.pass.now 5 c.set_word.new.self c.requires.mtr;
    latches = refl;
    pass = refl;
  };
}
