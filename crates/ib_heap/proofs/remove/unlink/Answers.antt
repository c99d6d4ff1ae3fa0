-- Each word is written once.
use Rattle.std.proofs.Common.{arith, ◌∙◌}
use Rattle.ib_heap.proofs.remove.unlink.Goals as goal

pub returns : goal.returns
returns c =
    let r = c.requires in let reaches = r.reaches in let word = r.owner_word in
    record {
      link = let here = c.write-2.ensures.other _ r.apart ∙ c.write.ensures.here in omega arith;
      lowered = let here = c.write-2.ensures.here in omega arith;
      other = λ i before owner. c.write-2.ensures.other i owner ∙ c.write.ensures.other i before;
      size = c.write-2.ensures.size ∙ c.write.ensures.size;
    }
