-- The page without the record, be it there or not.
use Rattle.std.proofs.Common.{◌∙◌}
use Rattle.ib_page.specs.Image.{IsTreePage}
use Rattle.ib_page.specs.Work.{changed_of, with_changed}
use Rattle.ib_plans.specs.Moves.{Takes}
use Rattle.ib_plans.proofs.EditLaws.{changed_of-same, IsSome-and, there-is}
use Rattle.ib_plans.proofs.MoveLaws.{moved-some}
use Rattle.ib_merge.proofs.ImageLaws.{removed-is, removed-heap, state-removed, ticked-formed}
use Rattle.ib_merge.proofs.edits.take_record.Goals as goal

pub returns-clause-set : goal.returns-clause-set
returns-clause-set c =
    let tree = there-is (changed_of c.args.page c.args.work.now) c.edit-image.result.now c.edit-image.ensures.image c.requires.tree in
    record {
      image = c.touch.new.self;
      work = λ i. with_changed c.args.page c.touch.new.self c.args.work.now;
      formed = ticked-formed c.remove.new.self c.touch.new.self c.remove.ensures.tree (cc);
      state = state-removed c.args.key c.edit-image.result.now c.remove.new.self c.touch.new.self (changed_of c.args.page c.args.work.now) tree c.edit-image.ensures.image
          (removed-is c.remove.result c.args.key c.edit-image.result.now c.remove.new.self tree c.remove.ensures.removed c.remove.ensures.missing c.remove.ensures.only_missing c.remove.ensures.unchanged) (cc);
    }

pub returns-clause-taken : goal.returns-clause-taken
returns-clause-taken c =
    moved-some (Takes c.args.key) (changed_of c.args.page c.args.work.now) _ c.edit-image.result.now c.touch.new.self c.edit-image.ensures.image
    (changed_of-same c.args.page c.touch.new.self c.args.work.now (IsSome-and IsTreePage (changed_of c.args.page c.args.work.now) c.requires.tree))
    (c.touch.ensures.heap ∙ removed-heap c.remove.result c.args.key c.edit-image.result.now c.remove.new.self c.remove.ensures.value c.remove.ensures.heap c.remove.ensures.missing c.remove.ensures.only_missing c.remove.ensures.unchanged)
