-- The pages that are set one after another are all there.
use Rattle.std.proofs.Common.{rules, ◌∙◌, ◌+◌, ◌-◌, sym, subst}
use Rattle.std.specs.Prelude.{IsSome}
use Rattle.ib_heap.specs.declared.TheConstants.{MOST_RECORDS}
use Rattle.ib_page.specs.Work.{with_changed}
use Rattle.ib_plans.specs.declared.TheConstants.{LEFT_RECORDS}
use Rattle.ib_plans.proofs.EditLaws.{changed_of-other, IsSome-and}
use Rattle.ib_split.proofs.RaiseEdits.{raised-moved}
use Rattle.ib_split.proofs.edits.raise.Goals as goal

pub edit-requires-2 : goal.edit-requires-2
edit-requires-2 c = subst IsSome (sym (changed_of-other c.args.root c.args.left _ c.args.work.now c.requires.apart_left)) (IsSome-and _ _ c.requires.left_free)

pub edit-requires-3 : goal.edit-requires-3
edit-requires-3 c =
    subst IsSome (sym (changed_of-other c.args.left c.args.right _ _ c.requires.apart ∙ changed_of-other c.args.root c.args.right _ c.args.work.now c.requires.apart_right)) (IsSome-and _ _ c.requires.right_free)

pub returns : goal.returns
returns c = record {
  one = with_changed c.args.root c.raise_images.new.root c.args.work.now;
  two = with_changed c.args.left c.raise_images.new.low (with_changed c.args.root c.raise_images.new.root c.args.work.now);
  at_root = search rules;
  at_left = search rules;
  at_right = search rules;
  moved = raised-moved c.args.root c.args.left c.args.right c.args.work.now c.raise_images.new.root c.raise_images.new.low c.raise_images.new.high 2 LEFT_RECORDS (MOST_RECORDS + 1 - LEFT_RECORDS)
      c.requires.apart_left c.requires.apart_right c.requires.apart (IsSome-and _ _ c.requires.tree) (IsSome-and _ _ c.requires.left_free) (IsSome-and _ _ c.requires.right_free)
      c.raise_images.ensures.root_heap c.raise_images.ensures.low_heap c.raise_images.ensures.high_heap;
}
