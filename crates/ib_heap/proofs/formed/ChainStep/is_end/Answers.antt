-- The end of a chain.
use Rattle.std.proofs.Common.{◌∙◌}
use Rattle.ib_heap.proofs.FormedSteps.{end-holds}
use Rattle.ib_heap.proofs.formed.ChainStep.is_end.Goals as goal

pub returns : goal.returns
returns c =
    let last = c.is_last_slot.ensures.0 c.if-not-is_last_slot.false in
    c.no_more.ensures ∙ end-holds c.args.words.now c.args.self c.if-self-ne-SUPREMUM.false last.0 last.1 (c.has_owner.ensures.0 c.if-not-has_owner.false) c.requires.last
