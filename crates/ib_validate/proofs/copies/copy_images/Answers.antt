use Rattle.std.proofs.Common.{◌∙◌, sym, ap, arith, get_or, set, get_or-set_same, get_or-set_other, [], inl, inr}
use Rattle.std.proofs.lemmas.Bool.{cases_eq}
use Rattle.std.proofs.lemmas.List.{get_or_default}
use Rattle.ib_page.specs.Memory.{image_at}
use Rattle.ib_validate.proofs.CopyLaws.{same-list, All-next, All-end}
use Rattle.ib_validate.proofs.copies.copy_images.Goals as goal

pub loop-page-preserved : goal.loop-page-preserved
loop-page-preserved c page rest =
    let at = get_or c.args.pages.now c.loop-page.page-index 0 in
    let lt = c.requires.in_range c.loop-page.page-index 0 c.loop-page-test.true in
    elim (cases_eq page at) [
      | inl e ↦ ap (image_at (set c.loop-page.to at c.index-from-page.result)) e
          ∙ (get_or-set_same c.loop-page.to at c.index-from-page.result [] (let size = c.loop-page.auto.to in let long = c.requires.size in omega arith)
          ∙ (c.index-from-page.is ∙ (get_or_default c.args.from.now at c.index-from-page.result [] lt ∙ ap (image_at c.args.from.now) (sym e))))
      | inr ne ↦ get_or-set_other c.loop-page.to at page c.index-from-page.result [] ne ∙ c.loop-page.invariant page (All-next c.args.pages.now c.loop-page.page-index page c.loop-page-test.true (λ e. ne (sym e)) rest)
    ]

pub returns : goal.returns
returns c = same-list [] c.loop-page.to c.args.from.now (c.loop-page.auto.to ∙ c.requires.size)
    (λ p lt. c.loop-page.invariant p (All-end c.args.pages.now c.loop-page.page-index p c.loop-page-test.false))
