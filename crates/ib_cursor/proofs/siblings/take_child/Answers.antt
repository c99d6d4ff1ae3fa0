-- A record that is there names a page, which is taken.
use Rattle.std.proofs.Common.{◌≡◌, true}
use Rattle.ib_map.specs.Space.{has_pages}
use Rattle.ib_layout.specs.Geometry.{Sizes}
use Rattle.ib_logrec.specs.Log.{by_place}
use Rattle.ib_cursor.proofs.ChildLaws.{child_can, child_none, child_taken}
use Rattle.ib_cursor.proofs.PageLaws.{few, has_told}
use Rattle.ib_cursor.proofs.siblings.take_child.Goals as goal

pub overflow_cast-page : goal.overflow_cast-page
overflow_cast-page g c =
    let sizes : Sizes = c.args.mtr.now.latches.now.sizes in
    let has : has_pages sizes.pages ≡ true = has_told c.geometry.ensures c.pages.ensures.pages c.pages.ensures.in_range in
    let r = c.requires.ready in
    record { fits = few sizes.pages c.in-Some.page has (child_can sizes (g.L.Law.lawful sizes.pages) (by_place g.L.Law.opening sizes.pages) c.args.child c.in-Some.field-0-0 c.in-Some.page c.args.mtr.now.pass.now c.in-Some.is r.0 r.1 r.2).1 }

pub take_page-requires-clause-page : goal.take_page-requires-clause-page
take_page-requires-clause-page g c =
    let sizes : Sizes = c.args.mtr.now.latches.now.sizes in
    let r = c.requires.ready in
    (child_can sizes (g.L.Law.lawful sizes.pages) (by_place g.L.Law.opening sizes.pages) c.args.child c.in-Some.field-0-0 c.in-Some.page c.args.mtr.now.pass.now c.in-Some.is r.0 r.1 r.2).1

pub take_page-requires-clause-holds : goal.take_page-requires-clause-holds
take_page-requires-clause-holds g c =
    let sizes : Sizes = c.args.mtr.now.latches.now.sizes in
    let r = c.requires.ready in
    (r.0, (child_can sizes (g.L.Law.lawful sizes.pages) (by_place g.L.Law.opening sizes.pages) c.args.child c.in-Some.field-0-0 c.in-Some.page c.args.mtr.now.pass.now c.in-Some.is r.0 r.1 r.2).0)

pub returns-in-Some-clause-taken : goal.returns-in-Some-clause-taken
returns-in-Some-clause-taken g c = λ held more will.
    let sizes : Sizes = c.args.mtr.now.latches.now.sizes in
    let can = (child_can sizes (g.L.Law.lawful sizes.pages) (by_place g.L.Law.opening sizes.pages) c.args.child c.in-Some.field-0-0 c.in-Some.page c.args.mtr.now.pass.now c.in-Some.is held more will).0 in
    child_taken sizes (g.L.Law.lawful sizes.pages) (by_place g.L.Law.opening sizes.pages) c.args.child c.in-Some.field-0-0 c.in-Some.page c.args.mtr.now.pass.now c.take_page.new.mtr.pass.now c.in-Some.is held (c.take_page.ensures.taken held can)

pub returns-in_default-clause-taken : goal.returns-in_default-clause-taken
returns-in_default-clause-taken g c = λ held more will.
    let sizes : Sizes = c.args.mtr.now.latches.now.sizes in
    child_none sizes (g.L.Law.lawful sizes.pages) (by_place g.L.Law.opening sizes.pages) c.args.child c.args.mtr.now.pass.now c.in_default.not-Some held more will
