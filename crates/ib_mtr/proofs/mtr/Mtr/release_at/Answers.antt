-- The grant at the place is given back, forgotten, and its page leaves.
use Rattle.std.proofs.Common.{◌≡◌, ◌<◌, ℕ, List, Option, ap, ◌∙◌, subst, sym, length, get_or, Some, slice_get, refl}
use Rattle.std.specs.Prelude.{IfSome, IsSomeAnd}
use Rattle.std.proofs.lemmas.Option.{slice_get-get_or}
use Rattle.ib_levels.specs.declared.latch.Latch.{Latch}
use Rattle.ib_levels.specs.declared.level.Mode.{Mode}
use Rattle.ib_rule.specs.Pass.{raising_as}
use Rattle.ib_mtr.specs.Mtr.{IsUnchangedOn, released_at}
use Rattle.ib_mtr.proofs.Grants.{grant_held}
use Rattle.ib_mtr.proofs.Keeping.{released_is, released_mtr, unchanged_then}
use Rattle.ib_mtr.proofs.mtr.Mtr.release_at.Goals as goal

-- an element of a list that another one is
at_place : {A : Type 0} (xs ys : List A) (i : ℕ) (d : A) → xs ≡ ys → i < length ys → slice_get ys i ≡ Some (get_or xs i d)
at_place xs ys i d is within = slice_get-get_or ys i d within ∙ ap (λ (zs : List _). Some (get_or zs i d)) (sym is)

pub unlock-requires-clause-holds : goal.unlock-requires-clause-holds
unlock-requires-clause-holds g c =
    let p = c.args.self.now.pass.now in
    grant_held p.memo p.view.session c.args.at _ c.requires.mtr.exact (at_place c.memo.result.now p.memo c.args.at _ c.memo.ensures c.requires.at)

pub leave-requires-clause-unchanged : goal.leave-requires-clause-unchanged
leave-requires-clause-unchanged g c =
    let p = c.args.self.now.pass.now in let there = at_place c.memo.result.now p.memo c.args.at _ c.memo.ensures c.requires.at in
    unchanged_then p c.unlock.new.pass c.forget_at.new.self c.args.at _ c.unlock.ensures c.forget_at.ensures.fewer
    (subst (λ (o : Option (Latch × Mode)). IfSome o (λ g. IsUnchangedOn g.0.0 p.work)) there c.requires.unchanged)

pub returns-clause-still : goal.returns-clause-still
returns-clause-still g c =
    let p = c.args.self.now.pass.now in let there = at_place c.memo.result.now p.memo c.args.at _ c.memo.ensures c.requires.at in
    let mtr = released_mtr p c.unlock.new.pass c.forget_at.new.self c.leave.new.pass c.args.at _ c.unlock.ensures c.forget_at.ensures.fewer c.leave.ensures
    c.args.self.now.latches.now c.requires.mtr there c.forget_at.ensures.session in
    record { mtr = mtr; latches = refl; pass = refl }

pub returns-clause-released : goal.returns-clause-released
returns-clause-released g c =
    let p = c.args.self.now.pass.now in let there = at_place c.memo.result.now p.memo c.args.at _ c.memo.ensures c.requires.at in
    subst (λ (o : Option (Latch × Mode)). IsSomeAnd o (λ g. c.leave.new.pass ≡ raising_as c.leave.new.pass (released_at c.args.at g p))) (sym there)
    (released_is p c.unlock.new.pass c.forget_at.new.self c.leave.new.pass c.args.at _ c.unlock.ensures c.forget_at.ensures.fewer c.leave.ensures)
