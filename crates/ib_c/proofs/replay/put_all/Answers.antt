use Rattle.ib_c.proofs.WordLaws.{more_pairs}
use Rattle.ib_c.proofs.replay.put_all.Goals as goal

pub loop-k-preserved : goal.loop-k-preserved
loop-k-preserved c = more_pairs c.args.pairs.now c.args.out.now c.loop-k.out c.put_pair.new.out c.loop-k.k c.index-pairs-k.result c.loop-k-test.true c.index-pairs-k.is c.loop-k.invariant c.put_pair.ensures
