-- The scratch stays in the pass.
use Rattle.ib_image.proofs.CopyingLaws.{rests-again}
use Rattle.ib_image.proofs.copying.copy_all.Goals as goal

pub returns-clause-rest : goal.returns-clause-rest
returns-clause-rest g c =
    let copied = c.copy_pages-out-inside.ensures.copied in
    rests-again c.args.latches.now c.args.pass.now c.copy_pages-out-inside.new.pass c.copy_pages-out-inside.ensures.own copied.idle copied.pass
