-- All that the delete reads and writes was copied, and it is planned.
use Rattle.std.proofs.Common.{◌-◌, ◌≤◌, subst, arith, length}
use Rattle.ib_plans.specs.Agreement.{IsThere, last_of}
use Rattle.ib_planned_change.specs.Changes.{most_changed}
use Rattle.ib_planned_change.proofs.ChooseLaws.{done}
use Rattle.ib_planned_change.proofs.DescentLaws.{path-low, way-ends, way-length}
use Rattle.ib_planned_change.proofs.ShrinkLaws.{can-delete, delete-done, delete-present}
use Rattle.ib_planned_change.proofs.delete.delete_in_tree.Goals as goal

pub plan_delete-requires : goal.plan_delete-requires
plan_delete-requires c =
    let s = c.requires.some in
    can-delete s.0 c.args.images.now s.1 c.args.key c.args.path.now (c.requires.path s.0 s.1) c.copy_siblings.new.work c.copy_siblings.ensures.copies c.copy_siblings.ensures.path
    (c.copy_siblings.ensures.beside s.0 s.1) (c.copy_siblings.ensures.behind s.0 s.1) c.copy_siblings.ensures.space

pub returns : goal.returns
returns c = λ log b.
    let way = c.requires.path log b in
    let l = way-length log c.args.images.now b c.args.key c.args.path.now way in
    let low = path-low log c.args.images.now b c.args.key in
    let leaf : IsThere c.copy_siblings.new.work (last_of c.args.path.now) =
    subst (IsThere c.copy_siblings.new.work) (way-ends log c.args.images.now b c.args.key c.args.path.now way) (c.copy_siblings.ensures.path (length c.args.path.now - 1) 0 (omega arith)) in
    let present = delete-present log c.args.images.now b c.args.key c.args.path.now way c.copy_siblings.new.work c.copy_siblings.ensures.copies c.copy_siblings.ensures.path
    (c.copy_siblings.ensures.beside log b) (c.copy_siblings.ensures.behind log b) c.copy_siblings.ensures.space leaf (c.requires.there log b) in
    let planned = done c.plan_delete.result _ _ c.plan_delete.ensures.missing present c.plan_delete.ensures.planned in
    let few : length c.copy_siblings.new.work ≤ most_changed = (let n = c.copy_siblings.ensures.count in omega arith) in
    delete-done log c.args.images.now b c.args.key c.args.path.now way c.copy_siblings.new.work c.copy_siblings.ensures.copies c.copy_siblings.ensures.path
    (c.copy_siblings.ensures.beside log b) (c.copy_siblings.ensures.behind log b) c.copy_siblings.ensures.space leaf
    c.plan_delete.new.work (c.requires.there log b) planned c.plan_delete.ensures.reads c.len.ensures.work few
