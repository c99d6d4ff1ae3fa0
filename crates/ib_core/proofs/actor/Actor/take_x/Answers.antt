-- What a further X takes off.
use Rattle.std.proofs.Common.{ℕ, ◌+◌, ap, arith, rules}
use Rattle.std.proofs.lemmas.Int.{ints}
use Rattle.ib_word.specs.Weight.{x_weight}
use Rattle.ib_levels.specs.declared.level.Mode.TheVariants.{X}
use Rattle.ib_levels.specs.Holding.{changed_on}
use Rattle.ib_core.specs.Actor.{session_of}
use Rattle.ib_core.specs.Takings.{one_more}
use Rattle.ib_core.proofs.OnLatch.{counted, more_x_taken}
use Rattle.ib_core.proofs.Weighs.{sum_moves, again_x_small}
use Rattle.ib_core.proofs.actor.Actor.take_x.Goals as goal

pub returns-then-mine-gt0-2 : goal.returns-then-mine-gt0-2
returns-then-mine-gt0-2 c = record {
  responds = search rules;
  moves = record {
    weighs =
        let single = c.requires.can.proper.single c.args.latch.0 in
        let k = counted c.args.latch.0 (session_of c.args.self.now) single in
        let t = more_x_taken c.args.latch.0 (session_of c.args.self.now) single (omega arith) in
        let g = c.again_x.ensures.weighs in let small = again_x_small c.grants-mine.result.x c.again_x.result c.again_x.ensures.table in
        let x = ap x_weight c.grants-mine.ensures.x in let next = ap (λ (n : ℕ). x_weight (n + 1)) c.grants-mine.ensures.x in sum_moves c.args.latch.0 c.args.word.now.0 (session_of c.args.self.now) _ _ (changed_on c.args.latch.0 (one_more X) c.args.self.now.held.items) c.add_one.ensures.items (omega (arith, ints));
    capacity = omega arith;
  };
}
