-- The leaf behind a page is as it was when it is linked back.
use Rattle.std.proofs.Common.{◌∙◌, sym, subst, ap}
use Rattle.std.specs.Prelude.{IsSome}
use Rattle.ib_page.specs.Page.{page_in}
use Rattle.ib_page.specs.Image.{IsFormed}
use Rattle.ib_page.specs.Work.{changed_of}
use Rattle.ib_plans.proofs.EditLaws.{changed_of-other, IsSome-and, clock-there, next-there}
use Rattle.ib_split.proofs.SplitEdits.{neighbour-tree, neighbour-level, neighbour-clock, split-alone, split-beside}
use Rattle.ib_split.proofs.edits.split.Goals as goal

pub edit-requires-2 : goal.edit-requires-2
edit-requires-2 c = subst IsSome (sym (changed_of-other c.args.page c.args.fresh _ c.args.work.now c.requires.apart)) (IsSome-and _ _ c.requires.free)

pub link_back-requires-clause-tree : goal.link_back-requires-clause-tree
link_back-requires-clause-tree c =
    neighbour-tree c.args.page c.args.fresh c.args.work.now c.split_images-first.new.left c.split_images-first.new.right c.next-next.result
    (c.next-next.ensures ∙ next-there c.image_of-2.result.now (changed_of c.args.page c.args.work.now) c.image_of-2.ensures) c.if-next-ne0.true c.requires.next

pub link_back-requires-clause-leaf : goal.link_back-requires-clause-leaf
link_back-requires-clause-leaf c =
    neighbour-level c.args.page c.args.fresh c.args.work.now c.split_images-first.new.left c.split_images-first.new.right c.next-next.result
    (c.next-next.ensures ∙ next-there c.image_of-2.result.now (changed_of c.args.page c.args.work.now) c.image_of-2.ensures) c.if-next-ne0.true c.requires.next

pub link_back-requires-clause-clock : goal.link_back-requires-clause-clock
link_back-requires-clause-clock c =
    neighbour-clock c.args.page c.args.fresh c.args.work.now c.split_images-first.new.left c.split_images-first.new.right c.next-next.result
    (c.next-next.ensures ∙ next-there c.image_of-2.result.now (changed_of c.args.page c.args.work.now) c.image_of-2.ensures) c.if-next-ne0.true c.requires.next

pub returns-then-next-ne0 : goal.returns-then-next-ne0
returns-then-next-ne0 c =
    split-beside c.args.page c.args.fresh c.args.key c.args.value c.args.work.now c.edit.result.now c.empty-right.result c.split_images-first.new.left c.split_images-first.new.right c.split_images-first.result c.requires.apart
    c.edit.ensures.image (ap (λ v. (page_in v).clock) c.empty-right.ensures.page ∙ (c.clock-clock.ensures ∙ clock-there c.image_of.result.now (changed_of c.args.fresh c.args.work.now) c.image_of.ensures))
    c.split_images-first.ensures.left c.split_images-first.ensures.tree c.split_images-first.ensures.right c.split_images-first.ensures.right_tree c.split_images-first.ensures.key
    c.split_images-first.ensures.left_heap c.split_images-first.ensures.right_heap (IsSome-and IsFormed _ c.requires.free)
    c.link_back.new.work c.next-next.result
    (c.next-next.ensures ∙ next-there c.image_of-2.result.now (changed_of c.args.page c.args.work.now) c.image_of-2.ensures) c.if-next-ne0.true c.requires.next c.link_back.ensures.set c.link_back.ensures.stays

pub returns-else-next-ne0 : goal.returns-else-next-ne0
returns-else-next-ne0 c =
    split-alone c.args.page c.args.fresh c.args.key c.args.value c.args.work.now c.edit.result.now c.empty-right.result c.split_images-first.new.left c.split_images-first.new.right c.split_images-first.result c.requires.apart
    c.edit.ensures.image (ap (λ v. (page_in v).clock) c.empty-right.ensures.page ∙ (c.clock-clock.ensures ∙ clock-there c.image_of.result.now (changed_of c.args.fresh c.args.work.now) c.image_of.ensures))
    c.split_images-first.ensures.left c.split_images-first.ensures.tree c.split_images-first.ensures.right c.split_images-first.ensures.right_tree c.split_images-first.ensures.key
    c.split_images-first.ensures.left_heap c.split_images-first.ensures.right_heap (IsSome-and IsFormed _ c.requires.free)
    (sym (c.next-next.ensures ∙ next-there c.image_of-2.result.now (changed_of c.args.page c.args.work.now) c.image_of-2.ensures) ∙ c.if-next-ne0.false)
