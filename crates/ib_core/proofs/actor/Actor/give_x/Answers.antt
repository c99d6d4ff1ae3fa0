-- What an X that is given back takes with it.
use Rattle.std.proofs.Common.{ℕ, ◌-◌, ap, arith, rules}
use Rattle.std.proofs.lemmas.Int.{ints}
use Rattle.ib_word.specs.Weight.{x_weight}
use Rattle.ib_levels.specs.declared.level.Mode.TheVariants.{X}
use Rattle.ib_core.specs.Actor.{session_of}
use Rattle.ib_core.specs.Takings.{given_back}
use Rattle.ib_core.proofs.Weighs.{back_x_taken, sum_moves}
use Rattle.ib_core.proofs.actor.Actor.give_x.Goals as goal

pub returns-then-mine-eq1 : goal.returns-then-mine-eq1
returns-then-mine-eq1 c = record {
  responds = search rules;
  moves = record {
    weighs =
        let t = back_x_taken c.args.latch.0 (session_of c.args.self.now) c.requires.can.proper (omega arith) in
        let g = c.give_x.ensures.weighs in
        let x = ap x_weight c.found-mine.ensures.counts.x in let rest = ap (λ (n : ℕ). x_weight (n - 1)) c.found-mine.ensures.counts.x in sum_moves c.args.latch.0 c.args.word.now.0 (session_of c.args.self.now) _ _ (given_back X c.args.latch.0 (session_of c.args.self.now)) c.give_back.ensures.held (omega (arith, ints));
    capacity = c.give_back.ensures.capacity;
  };
}

pub returns-else-mine-eq1 : goal.returns-else-mine-eq1
returns-else-mine-eq1 c = record {
  responds = search rules;
  moves = record {
    weighs =
        let t = back_x_taken c.args.latch.0 (session_of c.args.self.now) c.requires.can.proper (omega arith) in
        let g = c.give_x.ensures.weighs in
        let x = ap x_weight c.found-mine.ensures.counts.x in let rest = ap (λ (n : ℕ). x_weight (n - 1)) c.found-mine.ensures.counts.x in sum_moves c.args.latch.0 c.args.word.now.0 (session_of c.args.self.now) _ _ (given_back X c.args.latch.0 (session_of c.args.self.now)) c.give_back.ensures.held (omega (arith, ints));
    capacity = c.give_back.ensures.capacity;
  };
}
