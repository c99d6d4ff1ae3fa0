use Rattle.std.proofs.Common.{◌∙◌, sym, ap, arith, get_or, set, inl, inr}
use Rattle.std.proofs.lemmas.Bool.{cases_eq}
use Rattle.ib_validate.specs.Positions.{position_if, positions_of}
use Rattle.ib_validate.proofs.PositionLaws.{positions-same, positions_of-at, positions_of-set_same, positions_of-set_other}
use Rattle.ib_validate.proofs.CopyLaws.{All-next, All-end}
use Rattle.ib_validate.proofs.copies.copy_positions.Goals as goal

pub loop-page-preserved : goal.loop-page-preserved
loop-page-preserved c page rest =
    let at = get_or c.args.pages.now c.loop-page.page-index 0 in
    let new = c.index-from-page.result in
    let lt = c.requires.in_range c.loop-page.page-index 0 c.loop-page-test.true in
    elim (cases_eq page at) [
      | inl e ↦ ap (positions_of (set c.loop-page.to at new)) e
          ∙ (positions_of-set_same c.loop-page.to at new (let size = c.loop-page.auto.to in let long = c.requires.size in omega arith)
          ∙ (ap position_if c.index-from-page.is ∙ (sym (positions_of-at c.args.from.now at new lt) ∙ ap (positions_of c.args.from.now) (sym e))))
      | inr ne ↦ positions_of-set_other c.loop-page.to at new page (let size = c.loop-page.auto.to in let long = c.requires.size in omega arith) ne
          ∙ c.loop-page.invariant page (All-next c.args.pages.now c.loop-page.page-index page c.loop-page-test.true (λ e. ne (sym e)) rest)
    ]

pub returns : goal.returns
returns c = positions-same (positions_of c.loop-page.to) (positions_of c.args.from.now)
    (λ p. c.loop-page.invariant p (All-end c.args.pages.now c.loop-page.page-index p c.loop-page-test.false))
