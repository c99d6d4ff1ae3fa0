-- A first S that was won is owned.
use Rattle.std.proofs.Common.{subst}
use Rattle.ib_levels.specs.declared.level.Mode.TheVariants.{S}
use Rattle.ib_latch.specs.declared.tries.Reserve.{Reserve}
use Rattle.ib_latch.specs.Waits.{IsWon}
use Rattle.ib_latch.proofs.locks.Latches+L+Parkers.lock_s.Goals as goal

pub returns-clause-won : goal.returns-clause-won
returns-clause-won g c =
    subst (λ (r : Reserve). IsWon S c.args.latch.0 c.args.level r c.args.pass.now c.lock_first.new.pass) (c.lock_first.ensures.won.owned (λ e. absurd (cc))) c.lock_first.ensures.won
