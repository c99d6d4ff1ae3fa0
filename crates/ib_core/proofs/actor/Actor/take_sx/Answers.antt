-- What a further SX takes off.
use Rattle.std.proofs.Common.{ap, arith, rules}
use Rattle.std.proofs.lemmas.Int.{ints}
use Rattle.ib_word.specs.declared.word.LockWord.{LockWord}
use Rattle.ib_levels.specs.declared.level.Mode.TheVariants.{Sx}
use Rattle.ib_levels.specs.Holding.{changed_on}
use Rattle.ib_core.specs.Actor.{session_of}
use Rattle.ib_core.specs.Takings.{one_more}
use Rattle.ib_core.proofs.Weighs.{first_sx_taken, further_sx_taken, sum_moves}
use Rattle.ib_core.proofs.actor.Actor.take_sx.Goals as goal
use Rattle.ib_core.proofs.actor.Actor.take_sx.Goals.{then-mine-eq0-3, else-mine-eq0-3}

pub returns : goal.returns
returns c = record {
  responds = search rules;
  moves = record {
    weighs =
        let single = c.requires.can.proper.single c.args.latch.0 in
        elim c.if-mine-eq0-3.branch [
          | then-mine-eq0-3 w ↦ let at = ap (λ (k : LockWord). k.0) w.word-is in let t = first_sx_taken c.args.latch.0 (session_of c.args.self.now) single (omega (arith, c.else-mine-eq0.either)) (omega arith) in sum_moves c.args.latch.0 c.args.word.now.0 (session_of c.args.self.now) _ _ (changed_on c.args.latch.0 (one_more Sx) c.args.self.now.held.items) c.add_one.ensures.items (omega (arith, ints))
          | else-mine-eq0-3 w ↦ let at = ap (λ (k : LockWord). k.0) w.word-is in let t = further_sx_taken c.args.latch.0 (session_of c.args.self.now) single (omega (arith, c.else-mine-eq0.either)) (omega arith) in sum_moves c.args.latch.0 c.args.word.now.0 (session_of c.args.self.now) _ _ (changed_on c.args.latch.0 (one_more Sx) c.args.self.now.held.items) c.add_one.ensures.items (omega (arith, ints))
        ];
    capacity = omega arith;
  };
}
