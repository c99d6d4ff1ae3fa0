use Rattle.std.proofs.Common.{◌∙◌, subst, arith, []}
use Rattle.std.proofs.lemmas.List.{get_or_default}
use Rattle.std.specs.Prelude.{◌↔◌, ◌≡◌, true, List, ℕ}
use Rattle.ib_page.specs.Image.{IsFormed}
use Rattle.ib_validate.proofs.FormMarks.{set-right}
use Rattle.ib_validate.proofs.forms.test_all.Goals as goal

pub loop-page-preserved : goal.loop-page-preserved
loop-page-preserved c page lt =
    let more = c.loop-page-test.true in
    let kept = c.loop-page.auto.forms in
    let size = c.requires.size in
    let image = c.index-images-page.is ∙ get_or_default c.args.images.now c.loop-page.page c.index-images-page.result [] more in
    set-right c.args.images.now c.loop-page.forms c.loop-page.page page c.is_formed.result (omega arith)
    (subst (λ (ws : List ℕ). (c.is_formed.result ≡ true) ↔ IsFormed ws) image c.is_formed.ensures)
    (λ ne. c.loop-page.invariant page (omega (arith, ne)))

pub returns : goal.returns
returns c = record {
  size = let kept = c.loop-page.auto.forms in let size = c.requires.size in omega arith;
  few = c.requires.few;
  right = λ page lt. c.loop-page.invariant page (let done = c.loop-page-test.false in omega arith);
}
