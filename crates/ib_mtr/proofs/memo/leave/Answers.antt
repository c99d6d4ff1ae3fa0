-- No page leaves an empty work set.
use Rattle.std.proofs.Common.{◌≡◌, List, [], refl, ap, sym, ◌∙◌, subst}
use Rattle.ib_page.specs.Work.{WorkPage}
use Rattle.ib_mtr.specs.Mtr.{pages_left, with_work}
use Rattle.ib_mtr.proofs.memo.leave.Goals as goal

pub returns-then-is_empty : goal.returns-then-is_empty
returns-then-is_empty c =
    let p = c.args.pass.now in
    let none : p.work ≡ [] = sym c.work.ensures ∙ c.is_empty.ensures.none.0 c.if-is_empty.true in
    let all : p.work ≡ pages_left c.args.latch.0 p.view.session p.work = subst (λ (ws : List WorkPage). ws ≡ pages_left c.args.latch.0 p.view.session ws) (sym none) refl in
    ap (λ (pages : List WorkPage). with_work pages p) all
