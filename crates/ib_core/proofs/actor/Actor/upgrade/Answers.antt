-- What X beside SX takes off.
use Rattle.std.proofs.Common.{◌∙◌, ap, arith, rules}
use Rattle.std.proofs.lemmas.Int.{ints}
use Rattle.ib_word.specs.declared.word.LockWord.{LockWord}
use Rattle.ib_levels.specs.declared.level.Mode.TheVariants.{X}
use Rattle.ib_levels.specs.Holding.{changed_on}
use Rattle.ib_core.specs.Actor.{session_of}
use Rattle.ib_core.specs.Takings.{one_more}
use Rattle.ib_core.proofs.Weighs.{upgrade_taken, sum_moves}
use Rattle.ib_core.proofs.actor.Actor.upgrade.Goals as goal

pub returns : goal.returns
returns c = record {
  responds = search rules;
  moves = record {
    weighs =
        let t = upgrade_taken c.args.latch.0 (session_of c.args.self.now) (c.requires.can.proper.single c.args.latch.0) c.requires.owner c.requires.first in
        let after = ap (λ (k : LockWord). k.0) c.in-Some.ensures.word.1 in
        sum_moves c.args.latch.0 c.args.word.now.0 (session_of c.args.self.now) _ _ (changed_on c.args.latch.0 (one_more X) (session_of c.args.self.now).held) (c.reserve.ensures.held ∙ c.add_one.ensures.items) (omega (arith, ints));
    capacity = omega arith;
  };
}
