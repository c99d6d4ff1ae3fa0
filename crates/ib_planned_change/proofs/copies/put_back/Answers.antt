-- One more of the pages was put back.
use Rattle.std.proofs.Common.{◌≡◌, ◌+◌, ◌∷◌, ◌++◌, [], ◌∙◌, length, take, sym, ap, subst}
use Rattle.std.specs.Prelude.{slice_set}
use Rattle.std.specs.List.{All}
use Rattle.ib_map.specs.declared.TheConstants.{PAGE_WORDS}
use Rattle.ib_page.specs.Work.{WorkPage}
use Rattle.ib_planned_change.specs.Copies.{put_back}
use Rattle.ib_planned_change.proofs.PutBackLaws.{put_back-push, take-page, all-push}
use Rattle.ib_planned_change.proofs.copies.put_back.Goals as goal

pub loop-place-preserved : goal.loop-place-preserved
loop-place-preserved c =
    let w : WorkPage = record { page = c.page_at-page.result.page; before = c.page_at-page.result.before.now; changed = c.page_at-page.result.changed.now } in
    let more : take (c.loop-place.place + 1) c.args.work.now ≡ take c.loop-place.place c.args.work.now ++ w ∷ [] = take-page c.args.work.now c.loop-place.place w c.page_at-page.ensures.page in
    record {
      put = ap (λ images. slice_set images w.page w.changed) c.loop-place.invariant.put ∙ (sym (put_back-push (take c.loop-place.place c.args.work.now) w c.args.images.now) ∙ ap (λ ws. put_back ws c.args.images.now) (sym more));
      whole = subst (All (λ v. length v.changed ≡ PAGE_WORDS)) (sym more) (all-push (λ v. length v.changed ≡ PAGE_WORDS) (take c.loop-place.place c.args.work.now) w c.loop-place.invariant.whole c.word-first.ensures.size);
    }
