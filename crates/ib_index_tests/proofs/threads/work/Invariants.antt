-- The session holds nothing, and its scratch is free.
use Rattle.std.proofs.Common.{◌≡◌, true}
use Rattle.ib_core.specs.Sessions.{idle}
use Rattle.ib_rule.specs.Pass.{IsOf}
use Rattle.ib_index_tests.proofs.threads.work.Given as goal

abbrev pub invariant-loop-pair : goal.invariant-loop-pair
invariant-loop-pair g l = record { own : IsOf l.index l.pass; idle : l.pass.view.session ≡ idle; scratch : l.pass.has_scratch ≡ true }

abbrev pub invariant-loop-round : goal.invariant-loop-round
invariant-loop-round g l = record { own : IsOf l.index l.pass; idle : l.pass.view.session ≡ idle; scratch : l.pass.has_scratch ≡ true }
