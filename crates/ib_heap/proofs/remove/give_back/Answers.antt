-- Each word is written once.
use Rattle.std.proofs.Common.{arith, ◌∙◌}
use Rattle.ib_heap.proofs.remove.give_back.Goals as goal

pub returns : goal.returns
returns c =
    let r = c.requires in let low = r.low in let some = r.some in
    record {
      freed = c.write-3.ensures.other _ (λ z. absurd (omega arith)) ∙ (c.write-2.ensures.other _ (λ z. absurd (omega arith)) ∙ c.write.ensures.here);
      front = c.write-3.ensures.other _ (λ z. absurd (omega arith)) ∙ c.write-2.ensures.here;
      count = let here = c.write-3.ensures.here in omega arith;
      other = λ i two six at. c.write-3.ensures.other i two ∙ (c.write-2.ensures.other i six ∙ c.write.ensures.other i at);
      size = c.write-3.ensures.size ∙ (c.write-2.ensures.size ∙ c.write.ensures.size);
    }
