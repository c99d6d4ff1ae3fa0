-- The pair is taken out, and nothing else moves.
use Rattle.std.proofs.Common.{◌∙◌}
use Rattle.ib_merge.proofs.ImageLaws.{removed-heap}
use Rattle.ib_planned_change.proofs.leaf.take_pair.Goals as goal

pub returns-clause-heap : goal.returns-clause-heap
returns-clause-heap c =
    c.touch.ensures.heap ∙ removed-heap c.remove.result c.args.key c.args.image.now c.remove.new.self
    c.remove.ensures.value c.remove.ensures.heap c.remove.ensures.missing c.remove.ensures.only_missing c.remove.ensures.unchanged
