-- The load is allowed by the rule.
use Rattle.std.proofs.Common.{ℕ, ◌<◌, sym, subst}
use Rattle.ib_hash.proofs.Rules.{looks}
use Rattle.ib_hash.proofs.steps.load.Goals as goal

pub load-requires : goal.load-requires
load-requires g c = (
  c.requires.own,
  subst (λ (n : ℕ). c.args.slot < n) (sym c.requires.words) c.requires.slot,
  looks _ _ _ _ _ _ c.requires.pages,
)
