-- All members are idle, all words free and all marks fresh.
use Rattle.std.proofs.Common.{ap, ◌∙◌, arith}
use Rattle.ib_core.specs.Member.{sessions_of}
use Rattle.ib_core.proofs.Opened.{opened, sessions_idle}
use Rattle.ib_core.proofs.machine.Core.new.Goals as goal

pub invariant_of-result : goal.invariant_of-result
invariant_of-result c =
    opened c.args.sessions c.args.latches c.in_ok-idle_members.field-0.items c.in_ok-vec.field-0.items c.in_ok-vec-2.field-0.items c.in_ok-idle_members.ensures
    (c.in_ok-vec.ensures.items_if_clones_equal (λ y h. h)) (c.in_ok-vec-2.ensures.items_if_clones_equal (λ y h. h)) (omega arith)

pub returns-clause-good : goal.returns-clause-good
returns-clause-good c = (invariant_of-result c).good

pub returns-clause-opens : goal.returns-clause-opens
returns-clause-opens c =
    let sessions = ap sessions_of c.in_ok-idle_members.ensures ∙ sessions_idle c.args.sessions c.args.latches in
    let marks = c.in_ok-vec-2.ensures.items_if_clones_equal (λ y h. h) in
    λ j. record { state = record { sessions = sessions j; marks = marks j }; steps = 0 }
