-- What the last SX takes with it, and an earlier one.
use Rattle.std.proofs.Common.{ap, arith, rules}
use Rattle.std.proofs.lemmas.Int.{ints}
use Rattle.ib_word.specs.declared.word.LockWord.{LockWord}
use Rattle.ib_levels.specs.declared.level.Mode.TheVariants.{Sx}
use Rattle.ib_core.specs.Actor.{session_of}
use Rattle.ib_core.specs.Takings.{given_back}
use Rattle.ib_core.proofs.Weighs.{back_last_sx_taken, back_more_sx_taken, sum_moves}
use Rattle.ib_core.proofs.actor.Actor.give_sx.Goals as goal
use Rattle.ib_core.proofs.actor.Actor.give_sx.Goals.{then-mine-eq1, else-mine-eq1}

pub returns-then-mine-eq1-2 : goal.returns-then-mine-eq1-2
returns-then-mine-eq1-2 c = record {
  responds = search rules;
  moves = record {
    weighs =
        let proper = c.requires.can.proper in
        elim c.if-mine-eq1.branch [
          | then-mine-eq1 w ↦ let at = ap (λ (k : LockWord). k.0) w.word-is in let t = back_last_sx_taken c.args.latch.0 (session_of c.args.self.now) proper (omega arith) in sum_moves c.args.latch.0 c.args.word.now.0 (session_of c.args.self.now) _ _ (given_back Sx c.args.latch.0 (session_of c.args.self.now)) c.give_back.ensures.held (omega (arith, ints))
          | else-mine-eq1 w ↦ let at = ap (λ (k : LockWord). k.0) w.word-is in let t = back_more_sx_taken c.args.latch.0 (session_of c.args.self.now) proper (omega arith) in sum_moves c.args.latch.0 c.args.word.now.0 (session_of c.args.self.now) _ _ (given_back Sx c.args.latch.0 (session_of c.args.self.now)) c.give_back.ensures.held (omega (arith, ints))
        ];
    capacity = c.give_back.ensures.capacity;
  };
}

pub returns-else-mine-eq1-2 : goal.returns-else-mine-eq1-2
returns-else-mine-eq1-2 c = record {
  responds = search rules;
  moves = record {
    weighs =
        let proper = c.requires.can.proper in
        elim c.if-mine-eq1.branch [
          | then-mine-eq1 w ↦ let at = ap (λ (k : LockWord). k.0) w.word-is in let t = back_last_sx_taken c.args.latch.0 (session_of c.args.self.now) proper (omega arith) in sum_moves c.args.latch.0 c.args.word.now.0 (session_of c.args.self.now) _ _ (given_back Sx c.args.latch.0 (session_of c.args.self.now)) c.give_back.ensures.held (omega (arith, ints))
          | else-mine-eq1 w ↦ let at = ap (λ (k : LockWord). k.0) w.word-is in let t = back_more_sx_taken c.args.latch.0 (session_of c.args.self.now) proper (omega arith) in sum_moves c.args.latch.0 c.args.word.now.0 (session_of c.args.self.now) _ _ (given_back Sx c.args.latch.0 (session_of c.args.self.now)) c.give_back.ensures.held (omega (arith, ints))
        ];
    capacity = c.give_back.ensures.capacity;
  };
}
