-- A session that holds nothing watches no latch.
use Rattle.std.proofs.Common.{◌≡◌, [], subst}
use Rattle.ib_core.specs.Sessions.{idle}
use Rattle.ib_rule.specs.Pass.{PassState}
use Rattle.ib_rule.proofs.Watching.{none_watched}
use Rattle.ib_rule.proofs.pass.Pass.is_idle.Goals as goal

pub returns-in-Free-clause-unwatched : goal.returns-in-Free-clause-unwatched
returns-in-Free-clause-unwatched c =
    subst (λ (p : PassState). p.view.session ≡ idle → p.view.memory.since ≡ []) c.self.view_is (none_watched c.self.inside.seat.me.0 c.self.invariant.known)

pub returns-in_default-clause-unwatched : goal.returns-in_default-clause-unwatched
returns-in_default-clause-unwatched c =
    subst (λ (p : PassState). p.view.session ≡ idle → p.view.memory.since ≡ []) c.self.view_is (none_watched c.self.inside.seat.me.0 c.self.invariant.known)
