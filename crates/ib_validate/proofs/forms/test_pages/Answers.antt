use Rattle.std.proofs.Common.{◌∙◌, sym, subst, arith, get_or, []}
use Rattle.std.proofs.lemmas.List.{get_or_default}
use Rattle.std.specs.Prelude.{◌↔◌, ◌≡◌, true, List, ℕ}
use Rattle.ib_page.specs.Image.{IsFormed}
use Rattle.ib_validate.proofs.CopyLaws.{All-next, All-end}
use Rattle.ib_validate.proofs.FormMarks.{set-right}
use Rattle.ib_validate.proofs.forms.test_pages.Goals as goal

pub loop-page-preserved : goal.loop-page-preserved
loop-page-preserved c page within rest =
    let at = get_or c.args.pages.now c.loop-page.page-index 0 in
    let lt = c.requires.in_range c.loop-page.page-index 0 c.loop-page-test.true in
    let kept = c.loop-page.auto.forms in
    let size = c.requires.size in
    let image = c.index-images-page.is ∙ get_or_default c.args.images.now at c.index-images-page.result [] lt in
    set-right c.args.images.now c.loop-page.forms at page c.is_formed.result (omega arith)
    (subst (λ (ws : List ℕ). (c.is_formed.result ≡ true) ↔ IsFormed ws) image c.is_formed.ensures)
    (λ ne. c.loop-page.invariant page within (All-next c.args.pages.now c.loop-page.page-index page c.loop-page-test.true (λ e. ne (sym e)) rest))

pub returns : goal.returns
returns c = record {
  size = let kept = c.loop-page.auto.forms in let size = c.requires.size in omega arith;
  few = c.requires.few;
  right = λ page within. c.loop-page.invariant page within (All-end c.args.pages.now c.loop-page.page-index page c.loop-page-test.false);
}
