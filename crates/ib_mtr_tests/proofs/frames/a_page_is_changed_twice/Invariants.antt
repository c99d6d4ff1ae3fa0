-- The pass is the space's, with its scratch.
use Rattle.std.proofs.Common.{◌≡◌, true}
use Rattle.ib_rule.specs.Pass.{IsOf}
use Rattle.ib_mtr_tests.proofs.frames.a_page_is_changed_twice.Given as goal

abbrev pub invariant-loop-round : goal.invariant-loop-round
invariant-loop-round g l = IsOf l.space l.pass × (l.pass.has_scratch ≡ true)

abbrev pub invariant-loop-number : goal.invariant-loop-number
invariant-loop-number g l = IsOf l.space l.pass × (l.pass.has_scratch ≡ true)
