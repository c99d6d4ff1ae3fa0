use Rattle.std.proofs.Common.{ℕ, ◌<◌, refl, subst}
use Rattle.std.specs.Prelude.{Ok, Err}
use Rattle.ib_c.specs.Unlocks.{IsRefusedRelease}
use Rattle.ib_c.proofs.unlocks.unlock_s.Goals as goal

pub returns-in-Err-clause-released : goal.returns-in-Err-clause-released
returns-in-Err-clause-released c =
    let why = subst (λ (n : ℕ). IsRefusedRelease n c.args.latch c.args.table.now c.args.pass.now c.in-Err.status) c.counts-count.ensures.s c.in-Err.ensures.refused in
    (Err c.in-Err.status, c.told_raise.ensures, (why, refl))

pub returns-in-Ok-clause-released : goal.returns-in-Ok-clause-released
returns-in-Ok-clause-released c =
    let some = subst (λ (n : ℕ). 0 < n) c.counts-count.ensures.s c.in-Ok.ensures.ok.2 in
    (Ok c.give_s.result, c.told_raise-in-Ok.ensures, (c.in-Ok.ensures.ok.0, c.in-Ok.ensures.ok.1, some, c.give_s.ensures.released, c.give_s.ensures.raised, c.give_s.ensures.told))
