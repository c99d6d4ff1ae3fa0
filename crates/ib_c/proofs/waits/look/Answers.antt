use Rattle.std.proofs.Common.{ℕ}
use Rattle.std.specs.Prelude.{Ok}
use Rattle.ib_core.specs.declared.phase.Phase.{Phase}
use Rattle.ib_core.specs.declared.phase.Phase.TheVariants.{Checked, Asleep, NextChecked, NextAsleep}
use Rattle.ib_c.specs.declared.waits.Sleeper.{Sleeper}
use Rattle.ib_c.specs.declared.waits.Sleeper.TheVariants.{First, Next}
use Rattle.ib_c.specs.Waits.{IsSleeperAs, IsSleeperOn}
use Rattle.ib_c.proofs.waits.look.Goals as goal

sleeper_on : (s : Sleeper) (l : ℕ) (f : Phase) → IsSleeperAs s l f → IsSleeperOn l f
sleeper_on First l (Checked k m v g) e = e
sleeper_on First l (Asleep k m v g) e = e
sleeper_on Next l (NextChecked k v g) e = e
sleeper_on Next l (NextAsleep k v g) e = e
sleeper_on s l f e = absurd e

pub returns-in-Ok-First-clause-looked : goal.returns-in-Ok-First-clause-looked
returns-in-Ok-First-clause-looked c =
    let on = sleeper_on c.in-Ok-First.field-0 c.args.latch c.args.pass.now.view.session.phase c.in-Ok-First.ensures.ok.1 in
    (Ok (c.sleep_status.result, c.look_first-generation.result), c.told_generation-in-Ok-First.ensures, (c.in-Ok-First.ensures.ok.0, on, (c.sleep_status.ensures, c.look_first-generation.ensures.slept)))

pub returns-in-Ok-Next-clause-looked : goal.returns-in-Ok-Next-clause-looked
returns-in-Ok-Next-clause-looked c =
    let on = sleeper_on c.in-Ok-Next.field-0 c.args.latch c.args.pass.now.view.session.phase c.in-Ok-Next.ensures.ok.1 in
    (Ok (c.sleep_status-in-Ok-Next.result, c.look_next-generation.result), c.told_generation-in-Ok-Next.ensures, (c.in-Ok-Next.ensures.ok.0, on, (c.sleep_status-in-Ok-Next.ensures, c.look_next-generation.ensures.slept)))
