-- The last grant of the session goes, and with it all that it takes off the word.
use Rattle.std.proofs.Common.{arith, rules}
use Rattle.std.proofs.lemmas.Int.{ints}
use Rattle.ib_levels.proofs.Counts.{on-without}
use Rattle.ib_core.specs.Actor.{session_of}
use Rattle.ib_core.proofs.Weighs.{read_weighs}
use Rattle.ib_core.proofs.OnLatch.{weighs}
use Rattle.ib_core.proofs.actor.Actor.give_s.Goals as goal

pub returns-then-is_drained : goal.returns-then-is_drained
returns-then-is_drained c = record {
  responds = search rules;
  moves = record {
    weighs =
        let all = read_weighs c.args.latch.0 (session_of c.args.self.now) c.requires.can.proper (omega arith) in
        let gone = on-without c.args.latch.0 weighs c.args.self.now.held.items in
        rw c.give_up.ensures.items (omega (arith, ints));
    capacity = omega arith;
  };
}

pub returns-else-is_drained : goal.returns-else-is_drained
returns-else-is_drained c = record {
  responds = search rules;
  moves = record {
    weighs =
        let all = read_weighs c.args.latch.0 (session_of c.args.self.now) c.requires.can.proper (omega arith) in
        let gone = on-without c.args.latch.0 weighs c.args.self.now.held.items in
        rw c.give_up.ensures.items (omega (arith, ints));
    capacity = omega arith;
  };
}
