-- One idle member more.
use Rattle.std.proofs.Common.{◌∷◌, ◌++◌, [], ◌∙◌}
use Rattle.ib_core.specs.Member.{idle_among}
use Rattle.ib_core.proofs.Opened.{replicate_more}
use Rattle.ib_core.proofs.machine.idle_members.Goals as goal

pub loop-preserved : goal.loop-preserved
loop-preserved c =
    c.in_ok-push.ensures.items
    ∙ ((λ j. c.loop.invariant j ++ c.in_ok-idle.ensures j ∷ []) ∙ replicate_more c.loop.counter (idle_among c.args.latches))
