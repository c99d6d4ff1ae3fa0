-- The session holds nothing, and its scratch is free.
use Rattle.std.proofs.Common.{◌≡◌, true}
use Rattle.ib_core.specs.Sessions.{idle}
use Rattle.ib_rule.specs.Pass.{IsOf}
use Rattle.ib_second_tests.proofs.rows.take_out.Given as goal

abbrev pub invariant-loop-number : goal.invariant-loop-number
invariant-loop-number g l = record { own : IsOf l.pair l.pass; idle : l.pass.view.session ≡ idle; scratch : l.pass.has_scratch ≡ true }
