-- A record that is there names a page, which is tried.
use Rattle.std.proofs.Common.{◌≡◌, true, subst, sym, ap}
use Rattle.ib_map.specs.Space.{has_pages}
use Rattle.ib_layout.specs.Geometry.{Sizes}
use Rattle.ib_logrec.specs.Log.{by_place}
use Rattle.ib_cursor.proofs.ChildLaws.{child_can, child_none, child_taken}
use Rattle.ib_cursor.proofs.PageLaws.{few, has_told}
use Rattle.ib_cursor.specs.Refusals.{IsRefusedBehind}
use Rattle.ib_cursor.specs.Siblings.{child_if}
use Rattle.ib_cursor.proofs.RefusalLaws.{few_none}
use Rattle.ib_cursor.proofs.nowait_siblings.try_take_child.Goals as goal

pub overflow_cast-page : goal.overflow_cast-page
overflow_cast-page g c =
    let sizes : Sizes = c.args.mtr.now.latches.now.sizes in
    let has : has_pages sizes.pages ≡ true = has_told c.geometry.ensures c.pages.ensures.pages c.pages.ensures.in_range in
    let r = c.requires.ready in
    record { fits = few sizes.pages c.in-Some.page has (child_can sizes (g.L.Law.lawful sizes.pages) (by_place g.L.Law.opening sizes.pages) c.args.child c.in-Some.field-0-0 c.in-Some.page c.args.mtr.now.pass.now c.in-Some.is r.0 r.1 r.2).1 }

pub try_take_page-requires-clause-page : goal.try_take_page-requires-clause-page
try_take_page-requires-clause-page g c =
    let sizes : Sizes = c.args.mtr.now.latches.now.sizes in
    let r = c.requires.ready in
    (child_can sizes (g.L.Law.lawful sizes.pages) (by_place g.L.Law.opening sizes.pages) c.args.child c.in-Some.field-0-0 c.in-Some.page c.args.mtr.now.pass.now c.in-Some.is r.0 r.1 r.2).1

pub try_take_page-requires-clause-holds : goal.try_take_page-requires-clause-holds
try_take_page-requires-clause-holds g c =
    let sizes : Sizes = c.args.mtr.now.latches.now.sizes in
    let r = c.requires.ready in
    (r.0, (child_can sizes (g.L.Law.lawful sizes.pages) (by_place g.L.Law.opening sizes.pages) c.args.child c.in-Some.field-0-0 c.in-Some.page c.args.mtr.now.pass.now c.in-Some.is r.0 r.1 r.2).0)

pub returns-in-Ok-clause-taken : goal.returns-in-Ok-clause-taken
returns-in-Ok-clause-taken g c = λ held more will.
    let sizes : Sizes = c.args.mtr.now.latches.now.sizes in
    let can = (child_can sizes (g.L.Law.lawful sizes.pages) (by_place g.L.Law.opening sizes.pages) c.args.child c.in-Some.field-0-0 c.in-Some.page c.args.mtr.now.pass.now c.in-Some.is held more will).0 in
    child_taken sizes (g.L.Law.lawful sizes.pages) (by_place g.L.Law.opening sizes.pages) c.args.child c.in-Some.field-0-0 c.in-Some.page c.args.mtr.now.pass.now c.try_take_page.new.mtr.pass.now c.in-Some.is held (c.in-Ok.ensures.taken held can)

pub returns-in-None-clause-taken : goal.returns-in-None-clause-taken
returns-in-None-clause-taken g c = λ held more will.
    let sizes : Sizes = c.args.mtr.now.latches.now.sizes in
    child_none sizes (g.L.Law.lawful sizes.pages) (by_place g.L.Law.opening sizes.pages) c.args.child c.args.mtr.now.pass.now (λ r e. let n = c.in-None.is in cc) held more will

pub returns-in-None-clause-few : goal.returns-in-None-clause-few
returns-in-None-clause-few g c = few_none c.args.mtr.now.pass.now

pub returns-in-Err-clause-refused : goal.returns-in-Err-clause-refused
returns-in-Err-clause-refused g c = λ held more will.
    let sizes : Sizes = c.args.mtr.now.latches.now.sizes in
    let can = (child_can sizes (g.L.Law.lawful sizes.pages) (by_place g.L.Law.opening sizes.pages) c.args.child c.in-Some.field-0-0 c.in-Some.page c.args.mtr.now.pass.now c.in-Some.is held more will).0 in
    subst (λ ps. IsRefusedBehind sizes (g.L.Law.lawful sizes.pages) (by_place g.L.Law.opening sizes.pages) held ps c.in-Err.fault c.args.mtr.now.pass.now c.try_take_page.new.mtr.pass.now) (sym (ap child_if c.in-Some.is)) (c.in-Err.ensures.refused held can)
