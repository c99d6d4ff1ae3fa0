-- With another changed image it is a mini-transaction.
use Rattle.std.proofs.Common.{List, refl, subst, sym}
use Rattle.ib_page.specs.Work.{WorkPage, with_changed}
use Rattle.ib_mtr.specs.Mtr.{IsMtr, with_work}
use Rattle.ib_mtr.proofs.Looking.{edited_mtr}
use Rattle.ib_mtr_tests.proofs.asked.set_read.Goals as goal

pub returns : goal.returns
returns g c =
    let space = c.args.mtr.now.latches.now in let p = c.args.mtr.now.pass.now in
    let mtr = subst (λ (ws : List WorkPage). IsMtr space (with_work (with_changed c.args.page c.set_word.new.self ws) p)) (sym c.work.ensures.work)
    (edited_mtr space p c.args.page c.set_word.new.self c.requires.mtr) in
    record { still = record { mtr = mtr; latches = refl; pass = refl } }
