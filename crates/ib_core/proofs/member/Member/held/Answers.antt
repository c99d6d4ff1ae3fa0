use Rattle.std.proofs.Common.{ℕ, ◌≤◌, List, length, ap, subst, sym, arith}
use Rattle.ib_levels.specs.declared.holding.Holding.{Holding}
use Rattle.ib_core.specs.Sessions.{holdings}
use Rattle.ib_core.specs.Member.{SessionAmong}
use Rattle.ib_core.proofs.RoomLemmas.{few_held}
use Rattle.ib_core.proofs.member.Member.held.Goals as goal

pub returns-clause-few : goal.returns-clause-few
returns-clause-few c = λ single.
    let n = few_held c.self.inside.latches c.self.inside.actor.held.items (subst (λ (m : SessionAmong). (l : ℕ) → holdings l m.session ≤ 1) (sym c.self.view_is) single) c.self.invariant.within in
    let size = ap (λ (held : List Holding). length held) c.as_slice.ensures.value in omega arith
