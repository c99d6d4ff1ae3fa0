-- A try, and the look after one in vain.
use Rattle.std.proofs.Common.{ap, subst, sym}
use Rattle.ib_layout.specs.Geometry.{Sizes}
use Rattle.ib_rule.specs.Pass.{PassState}
use Rattle.ib_cursor.specs.Refusals.{IsVainTry}
use Rattle.ib_cursor.specs.Shapes.{HasLookedOn}
use Rattle.ib_cursor.proofs.RefusalLaws.{few_won, vain_by_try}
use Rattle.ib_cursor.proofs.try_latch.try_take.Goals as goal

pub returns-in-Ok-clause-few : goal.returns-in-Ok-clause-few
returns-in-Ok-clause-few g c = few_won c.args.mode c.args.latch.0 c.args.level c.args.mtr.now.pass.now c.try_once.new.mtr.pass.now c.in-Ok.ensures.tried c.in-Ok.ensures.taken.taken.grants

pub returns-in-Err-clause-vain : goal.returns-in-Err-clause-vain
returns-in-Err-clause-vain g c =
    let sizes : Sizes = c.args.mtr.now.latches.now.sizes in
    let p : PassState = c.args.mtr.now.pass.now in let q : PassState = c.try_once.new.mtr.pass.now in let r : PassState = c.look.new.mtr.pass.now in
    let l = c.look.ensures in let t = c.in-Err.ensures in
    let on = subst (λ (s : Sizes). HasLookedOn s (g.L.Law.lawful s.pages) q r) (ap (λ m. m.now.sizes) c.try_once.ensures.still.latches) l.looked_on in
    subst (λ f. IsVainTry sizes (g.L.Law.lawful sizes.pages) c.args.mode c.args.latch.0 f p r) (sym c.of.ensures)
    (vain_by_try sizes (g.L.Law.lawful sizes.pages) c.args.mode c.args.latch c.args.level c.in-Err.fault p q r c.requires.may.may.none t.not_granted t.unchanged t.tried on l.memo l.session l.grants l.work l.looks)
