-- After the load it is a mini-transaction.
use Rattle.std.proofs.Common.{refl}
use Rattle.ib_map.specs.Writes.{word_place}
use Rattle.ib_mtr.proofs.Looking.{worded_mtr}
use Rattle.ib_mtr.proofs.mtr.Mtr.word_at.Goals as goal

pub returns-clause-still : goal.returns-clause-still
returns-clause-still g c =
    let mtr = worded_mtr c.args.self.now.latches.now c.args.self.now.pass.now c.load_page_word_at.new.pass (word_place c.args.page c.args.index) c.load_page_word_at.result c.requires.mtr c.load_page_word_at.ensures.view in
    record { mtr = mtr; latches = refl; pass = refl }
