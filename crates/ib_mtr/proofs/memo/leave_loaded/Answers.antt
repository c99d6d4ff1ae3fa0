-- The page leaves where nothing is held on its latch.
use Rattle.std.proofs.Common.{◌≡◌, ◌-◌, List, not, ap, sym, ◌∙◌, arith}
use Rattle.std.specs.Prelude.{is_some, ◌==◌}
use Rattle.std.specs.List.{filter}
use Rattle.ib_page.specs.Work.{WorkPage}
use Rattle.ib_mtr.specs.Mtr.{pages_left, with_work}
use Rattle.ib_mtr.proofs.Held.{nothing_held, some_held}
use Rattle.ib_mtr.proofs.Pages.{left_held, left_low, left_out}
use Rattle.ib_mtr.proofs.memo.leave_loaded.Goals as goal
use Rattle.ib_mtr.proofs.memo.leave_loaded.Goals.{else-latch-ge2-via-then-latch-ge2+else-is_none, else-latch-ge2-via-else-latch-ge2}

pub returns-then-is_none : goal.returns-then-is_none
returns-then-is_none c =
    let none = nothing_held c.args.latch.0 c.args.pass.now.view.session c.requires.session (sym (ap is_some c.mode_held.ensures) ∙ (c.is_none.ensures ∙ ap not c.if-is_none.true)) in
    ap (λ (pages : List WorkPage). with_work pages c.args.pass.now)
    (c.take_out.ensures ∙ (ap (filter (λ w. not (w.page == c.args.latch.0 - 2))) c.work_mut.ensures.work ∙ left_out c.args.latch.0 (c.args.latch.0 - 2) c.args.pass.now.view.session c.args.pass.now.work none (omega arith)))

pub returns-else-latch-ge2 : goal.returns-else-latch-ge2
returns-else-latch-ge2 c =
    let l = c.args.latch.0 in let p = c.args.pass.now in
    let all : p.work ≡ pages_left l p.view.session p.work = elim c.else-latch-ge2.branch [
      | else-latch-ge2-via-then-latch-ge2+else-is_none w ↦ sym (left_held l p.view.session p.work (some_held l p.view.session c.requires.session (sym (ap is_some w.mode_held.ensures) ∙ (w.is_none.ensures ∙ ap not w.if-is_none.false))))
      | else-latch-ge2-via-else-latch-ge2 w ↦ sym (left_low l p.view.session p.work (omega arith))
    ] in ap (λ (pages : List WorkPage). with_work pages p) all
