-- A link that names none is nothing to be taken, and else its page is.
use Rattle.std.proofs.Common.{◌++◌, sym, subst}
use Rattle.ib_layout.specs.Geometry.{Sizes}
use Rattle.ib_logrec.specs.Log.{by_place}
use Rattle.ib_cursor.specs.Takings.{WillTake, HasTakenMore}
use Rattle.ib_cursor.proofs.TakeLaws.{beside_none, beside_one, more_none, more_one, can_first}
use Rattle.ib_cursor.specs.Refusals.{IsRefusedBehind}
use Rattle.ib_cursor.proofs.RefusalLaws.{few_none}
use Rattle.ib_cursor.proofs.nowait_claim.try_take_beside.Goals as goal

pub returns-then-page-eq0-clause-taken : goal.returns-then-page-eq0-clause-taken
returns-then-page-eq0-clause-taken g c = λ held more w.
    let sizes : Sizes = c.args.mtr.now.latches.now.sizes in
    let e = beside_none c.args.page c.if-page-eq0.true in
    subst (λ ps. HasTakenMore sizes (g.L.Law.lawful sizes.pages) (by_place g.L.Law.opening sizes.pages) held ps c.args.mtr.now.pass.now c.args.mtr.now.pass.now) (sym e)
    (more_none sizes (g.L.Law.lawful sizes.pages) (by_place g.L.Law.opening sizes.pages) held c.args.mtr.now.pass.now w.holds)

pub try_take_page-requires-clause-page : goal.try_take_page-requires-clause-page
try_take_page-requires-clause-page g c =
    let sizes : Sizes = c.args.mtr.now.latches.now.sizes in
    let r = c.requires.ready in
    (can_first sizes (g.L.Law.lawful sizes.pages) (by_place g.L.Law.opening sizes.pages) r.0 c.args.page r.1 c.args.mtr.now.pass.now
    (subst (λ ps. WillTake sizes (g.L.Law.lawful sizes.pages) (by_place g.L.Law.opening sizes.pages) r.0 (ps ++ r.1) c.args.mtr.now.pass.now) (beside_one c.args.page c.if-page-eq0.false) r.2)).1

pub try_take_page-requires-clause-holds : goal.try_take_page-requires-clause-holds
try_take_page-requires-clause-holds g c =
    let sizes : Sizes = c.args.mtr.now.latches.now.sizes in
    let r = c.requires.ready in (
      r.0,
      (can_first sizes (g.L.Law.lawful sizes.pages) (by_place g.L.Law.opening sizes.pages) r.0 c.args.page r.1 c.args.mtr.now.pass.now
          (subst (λ ps. WillTake sizes (g.L.Law.lawful sizes.pages) (by_place g.L.Law.opening sizes.pages) r.0 (ps ++ r.1) c.args.mtr.now.pass.now) (beside_one c.args.page c.if-page-eq0.false) r.2)).0,
    )

pub returns-in-Ok-clause-taken : goal.returns-in-Ok-clause-taken
returns-in-Ok-clause-taken g c = λ held more w.
    let sizes : Sizes = c.args.mtr.now.latches.now.sizes in
    let e = beside_one c.args.page c.if-page-eq0.false in
    let can = can_first sizes (g.L.Law.lawful sizes.pages) (by_place g.L.Law.opening sizes.pages) held c.args.page more c.args.mtr.now.pass.now
    (subst (λ ps. WillTake sizes (g.L.Law.lawful sizes.pages) (by_place g.L.Law.opening sizes.pages) held (ps ++ more) c.args.mtr.now.pass.now) e w) in
    subst (λ ps. HasTakenMore sizes (g.L.Law.lawful sizes.pages) (by_place g.L.Law.opening sizes.pages) held ps c.args.mtr.now.pass.now c.try_take_page.new.mtr.pass.now) (sym e)
    (more_one sizes (g.L.Law.lawful sizes.pages) (by_place g.L.Law.opening sizes.pages) held c.args.page c.args.mtr.now.pass.now c.try_take_page.new.mtr.pass.now (c.in-Ok.ensures.taken held can.0))

pub returns-then-page-eq0-clause-few : goal.returns-then-page-eq0-clause-few
returns-then-page-eq0-clause-few g c = few_none c.args.mtr.now.pass.now

pub returns-in-Err-clause-refused : goal.returns-in-Err-clause-refused
returns-in-Err-clause-refused g c = λ held more w.
    let sizes : Sizes = c.args.mtr.now.latches.now.sizes in
    let e = beside_one c.args.page c.if-page-eq0.false in
    let can = can_first sizes (g.L.Law.lawful sizes.pages) (by_place g.L.Law.opening sizes.pages) held c.args.page more c.args.mtr.now.pass.now
    (subst (λ ps. WillTake sizes (g.L.Law.lawful sizes.pages) (by_place g.L.Law.opening sizes.pages) held (ps ++ more) c.args.mtr.now.pass.now) e w) in
    subst (λ ps. IsRefusedBehind sizes (g.L.Law.lawful sizes.pages) (by_place g.L.Law.opening sizes.pages) held ps c.in-Err.fault c.args.mtr.now.pass.now c.try_take_page.new.mtr.pass.now) (sym e) (c.in-Err.ensures.refused held can.0)
