use Rattle.std.proofs.Common.{sym, subst, arith, get_or, false}
use Rattle.std.specs.Prelude.{◌↔◌, ◌≡◌, true, Bool}
use Rattle.ib_page.specs.Image.{IsFormed}
use Rattle.ib_page.specs.Memory.{image_at}
use Rattle.ib_validate.proofs.CopyLaws.{All-next, All-end}
use Rattle.ib_validate.proofs.FormMarks.{set-right}
use Rattle.ib_validate.proofs.PositionLaws.{marks_of-at}
use Rattle.ib_validate.proofs.forms.copy_forms.Goals as goal

pub loop-page-preserved : goal.loop-page-preserved
loop-page-preserved c page within rest =
    let at = get_or c.args.pages.now c.loop-page.page-index 0 in
    let lt = c.requires.in_range c.loop-page.page-index 0 c.loop-page-test.true in
    let kept = c.loop-page.auto.to in
    let size = c.requires.size in
    let from = c.requires.from.size in
    let mark = marks_of-at c.args.from.now at false (omega arith) in
    set-right c.args.images.now c.loop-page.to at page (get_or c.args.from.now at false) (omega arith)
    (subst (λ (m : Bool). (m ≡ true) ↔ IsFormed (image_at c.args.images.now at)) mark (c.requires.from.right at lt))
    (λ ne. c.loop-page.invariant page within (All-next c.args.pages.now c.loop-page.page-index page c.loop-page-test.true (λ e. ne (sym e)) rest))

pub returns : goal.returns
returns c = record {
  size = let kept = c.loop-page.auto.to in let size = c.requires.size in omega arith;
  few = c.requires.from.few;
  right = λ page within. c.loop-page.invariant page within (All-end c.args.pages.now c.loop-page.page-index page c.loop-page-test.false);
}
