-- Each page of a merge is as it was when it is set.
use Rattle.std.proofs.Common.{◌∙◌, ◌<◌, ◌^◌, sym, subst}
use Rattle.ib_page.specs.Image.{IsFormed}
use Rattle.ib_page.specs.Work.{changed_of, with_changed}
use Rattle.ib_plans.specs.Moves.{Stays}
use Rattle.ib_plans.proofs.EditLaws.{changed_of-same, IsSome-and}
use Rattle.ib_plans.proofs.MoveLaws.{moved-some}
use Rattle.ib_plans.proofs.EditLaws.{next-there, clock-there}
use Rattle.ib_merge.proofs.ImageLaws.{formed-is, touched-sets}
use Rattle.ib_merge.proofs.MergeEdits.{parent-tree, parent-clock, next-tree, next-level, next-clock, beside-formed, beside-clock, merged-is}
use Rattle.ib_merge.proofs.edits.merge.Goals as goal

pub take_record-requires-clause-tree : goal.take_record-requires-clause-tree
take_record-requires-clause-tree c = parent-tree c.args.parent c.args.merger.left c.args.merger.gone c.args.merger.beside c.args.work.now c.join_pages.new.work c.requires c.join_pages.ensures

pub take_record-requires-clause-clock : goal.take_record-requires-clause-clock
take_record-requires-clause-clock c = parent-clock c.args.parent c.args.merger.left c.args.merger.gone c.args.merger.beside c.args.work.now c.join_pages.new.work c.requires c.join_pages.ensures

pub link_behind-requires-clause-tree : goal.link_behind-requires-clause-tree
link_behind-requires-clause-tree c =
    next-tree c.args.parent c.args.merger.left c.args.merger.gone c.args.merger.beside c.args.work.now c.join_pages.new.work c.requires c.join_pages.ensures c.take_record.new.work c.take_record.ensures.set
    c.next-next.result (c.next-next.ensures ∙ next-there c.image_of.result.now _ c.image_of.ensures)

pub link_behind-requires-clause-leaf : goal.link_behind-requires-clause-leaf
link_behind-requires-clause-leaf c =
    next-level c.args.parent c.args.merger.left c.args.merger.gone c.args.merger.beside c.args.work.now c.join_pages.new.work c.requires c.join_pages.ensures c.take_record.new.work c.take_record.ensures.set
    c.next-next.result (c.next-next.ensures ∙ next-there c.image_of.result.now _ c.image_of.ensures)

pub link_behind-requires-clause-clock : goal.link_behind-requires-clause-clock
link_behind-requires-clause-clock c =
    next-clock c.args.parent c.args.merger.left c.args.merger.gone c.args.merger.beside c.args.work.now c.join_pages.new.work c.requires c.join_pages.ensures c.take_record.new.work c.take_record.ensures.set
    c.next-next.result (c.next-next.ensures ∙ next-there c.image_of.result.now _ c.image_of.ensures)

pub edit-requires : goal.edit-requires
edit-requires c =
    IsSome-and IsFormed _ (beside-formed c.args.parent c.args.merger.left c.args.merger.gone c.args.merger.beside c.args.work.now c.join_pages.new.work c.requires c.join_pages.ensures c.take_record.new.work c.take_record.ensures.set
    c.next-next.result (c.next-next.ensures ∙ next-there c.image_of.result.now _ c.image_of.ensures) c.link_behind.new.work c.link_behind.ensures.alone c.link_behind.ensures.linked)

pub touch-requires-clause-formed : goal.touch-requires-clause-formed
touch-requires-clause-formed c =
    formed-is _ c.edit.result.now c.edit.ensures.image (beside-formed c.args.parent c.args.merger.left c.args.merger.gone c.args.merger.beside c.args.work.now c.join_pages.new.work c.requires c.join_pages.ensures c.take_record.new.work c.take_record.ensures.set
    c.next-next.result (c.next-next.ensures ∙ next-there c.image_of.result.now _ c.image_of.ensures) c.link_behind.new.work c.link_behind.ensures.alone c.link_behind.ensures.linked)

pub touch-requires-clause-room : goal.touch-requires-clause-room
touch-requires-clause-room c =
    subst (λ k. k < 2 ^ 63) (sym (clock-there c.edit.result.now _ c.edit.ensures.image)) (beside-clock c.args.parent c.args.merger.left c.args.merger.gone c.args.merger.beside c.args.work.now c.join_pages.new.work c.requires c.join_pages.ensures c.take_record.new.work c.take_record.ensures.set
    c.next-next.result (c.next-next.ensures ∙ next-there c.image_of.result.now _ c.image_of.ensures) c.link_behind.new.work c.link_behind.ensures.alone c.link_behind.ensures.linked)

pub returns : goal.returns
returns c =
    let formed = beside-formed c.args.parent c.args.merger.left c.args.merger.gone c.args.merger.beside c.args.work.now c.join_pages.new.work c.requires c.join_pages.ensures c.take_record.new.work c.take_record.ensures.set
    c.next-next.result (c.next-next.ensures ∙ next-there c.image_of.result.now _ c.image_of.ensures) c.link_behind.new.work c.link_behind.ensures.alone c.link_behind.ensures.linked in
    merged-is c.args.parent c.args.merger.left c.args.merger.gone c.args.merger.beside c.args.work.now c.join_pages.new.work c.requires c.join_pages.ensures c.take_record.new.work c.take_record.ensures.set
    c.next-next.result (c.next-next.ensures ∙ next-there c.image_of.result.now _ c.image_of.ensures) c.link_behind.new.work c.link_behind.ensures.alone c.link_behind.ensures.linked
    (with_changed c.args.merger.beside c.touch.new.self c.link_behind.new.work)
    (touched-sets c.args.merger.beside c.link_behind.new.work c.edit.result.now c.touch.new.self c.edit.ensures.image (formed-is _ c.edit.result.now c.edit.ensures.image formed) c.touch.ensures.page)
    c.take_record.ensures.taken c.link_behind.ensures.stays
    (moved-some Stays (changed_of c.args.merger.beside c.link_behind.new.work) _ c.edit.result.now c.touch.new.self c.edit.ensures.image
    (changed_of-same c.args.merger.beside c.touch.new.self c.link_behind.new.work (IsSome-and IsFormed _ formed)) c.touch.ensures.heap)
