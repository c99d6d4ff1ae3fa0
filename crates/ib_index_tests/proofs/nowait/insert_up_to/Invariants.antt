-- The session holds nothing, and its scratch is free.
use Rattle.std.proofs.Common.{◌≡◌, true}
use Rattle.ib_core.specs.Sessions.{idle}
use Rattle.ib_rule.specs.Pass.{IsOf}
use Rattle.ib_index_tests.proofs.nowait.insert_up_to.Given as goal

abbrev pub invariant-loop-place : goal.invariant-loop-place
invariant-loop-place g l = record { own : IsOf l.index l.pass; idle : l.pass.view.session ≡ idle; scratch : l.pass.has_scratch ≡ true }
