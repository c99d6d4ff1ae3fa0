-- The leaf behind a page is the one that its link names.
use Rattle.std.proofs.Common.{◌++◌, List, ℕ, sym, subst}
use Rattle.ib_layout.specs.Geometry.{Sizes}
use Rattle.ib_logrec.specs.Log.{by_place}
use Rattle.ib_rule.specs.Pass.{PassState}
use Rattle.ib_cursor.specs.Claims.{beside}
use Rattle.ib_cursor.specs.Takings.{MayTakeFirst, TakesFirst, WillTake}
use Rattle.ib_cursor.specs.Refusals.{IsRefusedBehind}
use Rattle.ib_cursor.proofs.nowait_siblings.try_take_behind.Goals as goal

pub try_take_beside-requires-clause-ready : goal.try_take_beside-requires-clause-ready
try_take_beside-requires-clause-ready g c =
    let sizes : Sizes = c.args.mtr.now.latches.now.sizes in let p : PassState = c.args.mtr.now.pass.now in
    let loaded = c.requires.loaded in
    subst (λ (n : ℕ). MayTakeFirst sizes (g.L.Law.lawful sizes.pages) (by_place g.L.Law.opening sizes.pages) (beside n) p) (sym (c.right_of-behind.ensures loaded.0 loaded.1)) (c.requires.ready loaded.0 loaded.1)

pub returns-in-Ok-clause-taken : goal.returns-in-Ok-clause-taken
returns-in-Ok-clause-taken g c = λ image there.
    let sizes : Sizes = c.args.mtr.now.latches.now.sizes in let p : PassState = c.args.mtr.now.pass.now in let q : PassState = c.try_take_beside.new.mtr.pass.now in
    subst (λ (n : ℕ). TakesFirst sizes (g.L.Law.lawful sizes.pages) (by_place g.L.Law.opening sizes.pages) (beside n) p q) (c.right_of-behind.ensures image there) c.in-Ok.ensures.taken

pub returns-in-Err-clause-refused : goal.returns-in-Err-clause-refused
returns-in-Err-clause-refused g c = λ image there held more will.
    let sizes : Sizes = c.args.mtr.now.latches.now.sizes in let p : PassState = c.args.mtr.now.pass.now in let q : PassState = c.try_take_beside.new.mtr.pass.now in
    let refused = subst (λ (n : ℕ). (held more : List ℕ) → WillTake sizes (g.L.Law.lawful sizes.pages) (by_place g.L.Law.opening sizes.pages) held (beside n ++ more) p → IsRefusedBehind sizes (g.L.Law.lawful sizes.pages) (by_place g.L.Law.opening sizes.pages) held (beside n) c.in-Err.fault p q)
    (c.right_of-behind.ensures image there) c.in-Err.ensures.refused in
    refused held more will
