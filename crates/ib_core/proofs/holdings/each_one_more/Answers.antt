-- One holding more is changed.
use Rattle.std.proofs.Common.{◌==◌, ◌<◌, cond, length, arith}
use Rattle.std.proofs.lemmas.List.{get_or_default}
use Rattle.std.proofs.lemmas.List.Edits.{map_over_more}
use Rattle.ib_levels.specs.declared.holding.Holding.{Holding}
use Rattle.ib_core.specs.Takings.{one_more}
use Rattle.ib_core.proofs.holdings.each_one_more.Goals as goal

pub loop-h-preserved : goal.loop-h-preserved
loop-h-preserved c =
    let within : c.loop-h.h-index < length c.loop-h.held = omega arith in
    rw c.with_one_more.ensures
    (map_over_more (λ (h : Holding). cond (h.latch.0 == c.args.latch.0) (one_more c.args.mode h) h) c.args.held.now c.loop-h.held c.loop-h.h-index _ (omega arith) c.loop-h.invariant
    (get_or_default c.loop-h.held c.loop-h.h-index _ _ within))
