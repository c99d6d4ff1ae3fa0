-- The leaf behind a page is the one that its link names.
use Rattle.std.proofs.Common.{ℕ, sym, subst}
use Rattle.ib_layout.specs.Geometry.{Sizes}
use Rattle.ib_logrec.specs.Log.{by_place}
use Rattle.ib_rule.specs.Pass.{PassState}
use Rattle.ib_cursor.specs.Claims.{beside}
use Rattle.ib_cursor.specs.Takings.{MayTakeFirst, TakesFirst}
use Rattle.ib_cursor.proofs.siblings.take_behind.Goals as goal

pub take_beside-requires-clause-ready : goal.take_beside-requires-clause-ready
take_beside-requires-clause-ready g c =
    let sizes : Sizes = c.args.mtr.now.latches.now.sizes in let p : PassState = c.args.mtr.now.pass.now in
    let loaded = c.requires.loaded in
    subst (λ (n : ℕ). MayTakeFirst sizes (g.L.Law.lawful sizes.pages) (by_place g.L.Law.opening sizes.pages) (beside n) p) (sym (c.right_of-behind.ensures loaded.0 loaded.1)) (c.requires.ready loaded.0 loaded.1)

pub returns-clause-taken : goal.returns-clause-taken
returns-clause-taken g c = λ image there.
    let sizes : Sizes = c.args.mtr.now.latches.now.sizes in let p : PassState = c.args.mtr.now.pass.now in let q : PassState = c.take_beside.new.mtr.pass.now in
    subst (λ (n : ℕ). TakesFirst sizes (g.L.Law.lawful sizes.pages) (by_place g.L.Law.opening sizes.pages) (beside n) p q) (c.right_of-behind.ensures image there) c.take_beside.ensures.taken
