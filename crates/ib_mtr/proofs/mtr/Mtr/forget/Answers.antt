-- The pages that are left are held.
use Rattle.std.proofs.Common.{◌<◌, ◌+◌, ◌∙◌, not, ap, sym, subst, refl}
use Rattle.std.specs.Prelude.{◌==◌}
use Rattle.std.specs.List.{All}
use Rattle.std.proofs.lemmas.List.Elements.{All-filter}
use Rattle.ib_core.specs.Sessions.{holdings}
use Rattle.ib_page.specs.Work.{IsWork, without_page}
use Rattle.ib_frames.specs.Reads.{IsLoadedImage}
use Rattle.ib_mtr.proofs.Keeping.{with_pages}
use Rattle.ib_mtr.proofs.Pages.{without_by_filter}
use Rattle.ib_mtr.proofs.mtr.Mtr.forget.Goals as goal

pub returns-clause-still : goal.returns-clause-still
returns-clause-still g c =
    let p = c.args.self.now.pass.now in let work = subst IsWork c.work_mut.ensures.work c.remove.ensures.work in
    let left = c.remove.ensures.removed ∙ (ap (without_page c.args.page) c.work_mut.ensures.work ∙ without_by_filter 0 c.args.page p.work work.ascends) in
    let mtr = with_pages c.args.self.now.latches.now p c.remove.new.self c.requires.mtr
    (subst (All (λ w. 0 < holdings (w.page + 2) p.view.session)) (sym left) (All-filter (λ w. not (w.page == c.args.page)) (λ w. 0 < holdings (w.page + 2) p.view.session) p.work c.requires.mtr.held))
    (subst (All (λ w. IsLoadedImage p.view.memory.loaded w.page w.before)) (sym left) (All-filter (λ w. not (w.page == c.args.page)) (λ w. IsLoadedImage p.view.memory.loaded w.page w.before) p.work c.requires.mtr.read)) in
    record { mtr = mtr; latches = refl; pass = refl }
