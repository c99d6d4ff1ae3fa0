use Rattle.std.proofs.Common.{◌∙◌, sym, ap, arith, get_or, set, false, inl, inr}
use Rattle.std.proofs.lemmas.Bool.{cases_eq}
use Rattle.ib_validate.specs.Positions.{marks_of}
use Rattle.ib_validate.proofs.PositionLaws.{marks_of-set_same, marks_of-set_other}
use Rattle.ib_validate.proofs.CopyLaws.{All-next}
use Rattle.ib_validate.proofs.marks.clear_marks.Goals as goal

pub loop-page-preserved : goal.loop-page-preserved
loop-page-preserved c page rest =
    let at = get_or c.args.pages.now c.loop-page.page-index 0 in
    elim (cases_eq page at) [
      | inl e ↦ ap (marks_of (set c.loop-page.written at false)) e
          ∙ marks_of-set_same c.loop-page.written at false (let lt = c.requires.in_range c.loop-page.page-index 0 c.loop-page-test.true in let size = c.loop-page.auto.written in omega arith)
      | inr ne ↦ marks_of-set_other c.loop-page.written at false page ne ∙ c.loop-page.invariant page (All-next c.args.pages.now c.loop-page.page-index page c.loop-page-test.true (λ e. ne (sym e)) rest)
    ]
