use Rattle.std.proofs.Common.{arith, length-set}
use Rattle.ib_validate.proofs.StoreLaws.{stored-more, image_at-more}
use Rattle.ib_validate.proofs.stores.store_words.Goals as goal

pub loop-write-preserved : goal.loop-write-preserved
loop-write-preserved c = record {
  words = λ place lt.
      let within = rw length-set at lt in
      stored-more c.loop-write.images c.args.writes.now c.loop-write.write-index (record { place = 0; value = 0 }) c.page.result c.index.result c.index-images-page.result c.set_word.new.self place _
      (omega arith) c.page.ensures c.index.ensures.index (omega arith) (omega arith) c.set_word.ensures.word (c.loop-write.invariant.words place within);
  others = λ page off.
      image_at-more c.loop-write.images c.args.images.now c.args.writes.now c.loop-write.write-index (record { place = 0; value = 0 }) page c.page.result c.set_word.new.self c.loop-write-test.true c.page.ensures
      c.loop-write.invariant.others off;
}
