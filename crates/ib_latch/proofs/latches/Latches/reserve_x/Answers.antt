-- A reservation beside one's own X.
use Rattle.std.proofs.Common.{arith, subst, sym, List}
use Rattle.ib_levels.specs.declared.holding.Holding.{Holding}
use Rattle.ib_levels.specs.declared.level.Mode.TheVariants.{X}
use Rattle.ib_core.specs.declared.phase.Phase.TheVariants.{Free}
use Rattle.ib_latch.specs.Tries.{HasTakenGrant}
use Rattle.ib_latch.proofs.Claims.{claims_are, held_more}
use Rattle.ib_latch.proofs.latches.Latches.reserve_x.Goals as goal

pub returns-then-counts-gt0-clause-first : goal.returns-then-counts-gt0-clause-first
returns-then-counts-gt0-clause-first g c = λ none.
    let s = claims_are c.args.latch.0 c.args.pass.now.view.session in absurd (omega arith)

pub returns-then-counts-gt0-clause-taken : goal.returns-then-counts-gt0-clause-taken
returns-then-counts-gt0-clause-taken g c =
    let s = claims_are c.args.latch.0 c.args.pass.now.view.session in
    subst (λ (held : List Holding). HasTakenGrant X held Free c.args.pass.now.view c.x_more.new.pass.view) (sym (held_more X c.args.latch.0 c.args.level c.args.pass.now.view.session (omega arith))) c.x_more.ensures.taken
