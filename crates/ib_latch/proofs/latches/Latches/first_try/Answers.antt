-- What a first try that was won took.
use Rattle.ib_latch.specs.Tries.{first_session}
use Rattle.ib_latch.proofs.Takes.{won_taken}
use Rattle.ib_latch.proofs.latches.Latches.first_try.Goals as goal
use Rattle.std.proofs.Common.{rules}

pub returns-in-Ok-clause-taken : goal.returns-in-Ok-clause-taken
returns-in-Ok-clause-taken g c = won_taken c.args.mode c.args.latch.0 c.word_of-word.result (first_session c.args.mode c.args.latch.0 c.args.level c.args.pass.now.view.session.held c.word_of-word.result) c.args.pass.now c.exchange.new.pass (search rules)
