-- Each word is written once.
use Rattle.std.proofs.Common.{arith, ◌∙◌}
use Rattle.ib_heap.proofs.remove.hand_over.Goals as goal

pub returns : goal.returns
returns c =
    let r = c.requires in let low = r.before_header.low in let few = r.slot_few in let word = r.at_word in
    record {
      link = let here = c.write-2.ensures.other c.args.before (λ z. absurd (omega arith)) ∙ c.write.ensures.here in omega arith;
      here = c.write-2.ensures.here;
      other = λ i before slot. c.write-2.ensures.other i slot ∙ c.write.ensures.other i before;
      size = c.write-2.ensures.size ∙ c.write.ensures.size;
    }
