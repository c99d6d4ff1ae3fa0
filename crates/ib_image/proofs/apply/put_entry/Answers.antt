-- One write more is stored.
use Rattle.std.proofs.Common.{◌∙◌, ◌*◌, ◌<◌, [], ◌∷◌, length, get_or, ap, arith}
use Rattle.ib_map.specs.declared.TheConstants.{PAGE_WORDS}
use Rattle.ib_map.specs.declared.write.Write.{Write}
use Rattle.ib_page.specs.Memory.{word_at}
use Rattle.ib_image.specs.Applied.{start_of, stored_from}
use Rattle.ib_image.proofs.ApplyLaws.{entry_more}
use Rattle.ib_image.proofs.apply.put_entry.Goals as goal

pub loop-write-preserved : goal.loop-write-preserved
loop-write-preserved c =
    let size = c.loop-write.invariant.size in
    let none : Write = record { place = 0; value = 0 } in
    record {
      size = c.put_word.ensures.size ∙ size;
      words = λ place lt.
          let within : place < length c.loop-write.images * PAGE_WORDS = omega arith in
          c.put_word.ensures.words place within
          ∙ (ap (stored_from (start_of c.args.starts.now place) c.args.count (get_or c.args.writes.now c.loop-write.write-index none ∷ []) place) (c.loop-write.invariant.words place lt)
          ∙ entry_more (start_of c.args.starts.now place) c.args.count c.args.writes.now c.loop-write.write-index none place (word_at c.args.images.now place) c.loop-write-test.true);
    }
