use Rattle.ib_c.proofs.WordLaws.{more_chunks}
use Rattle.ib_c.proofs.scan_words.put_chunks.Goals as goal

pub loop-k-preserved : goal.loop-k-preserved
loop-k-preserved c = more_chunks c.args.list.now c.args.out.now c.loop-k.out c.put_chunk.new.out c.loop-k.k c.index-list-k.result c.loop-k-test.true c.index-list-k.is c.loop-k.invariant c.put_chunk.ensures
