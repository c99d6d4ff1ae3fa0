-- The page that goes is there still when it is freed.
use Rattle.std.proofs.Common.{rules, sym, subst}
use Rattle.std.specs.Prelude.{IsSome}
use Rattle.ib_page.specs.Work.{changed_of, with_changed}
use Rattle.ib_plans.proofs.EditLaws.{changed_of-other, changed_of-same, IsSome-and}
use Rattle.ib_plans.proofs.MoveLaws.{filled-now}
use Rattle.ib_merge.proofs.edits.join_pages.Goals as goal

pub edit-requires-2 : goal.edit-requires-2
edit-requires-2 c = subst IsSome (sym (changed_of-other c.args.left c.args.gone _ c.args.work.now c.requires.apart)) (IsSome-and _ _ c.requires.gone_tree)

pub returns : goal.returns
returns c = record {
  one = with_changed c.args.left c.join_images.new.left c.args.work.now;
  left_is = search rules;
  gone_is = search rules;
  filled = filled-now (changed_of c.args.left c.args.work.now) _ c.join_images.new.left _ (changed_of-same c.args.left c.join_images.new.left c.args.work.now (IsSome-and _ _ c.requires.tree)) c.join_images.ensures.heap;
}
