-- Each word is written once.
use Rattle.std.proofs.Common.{arith, ◌∙◌}
use Rattle.ib_heap.proofs.remove.lend.Goals as goal

pub returns : goal.returns
returns c =
    let r = c.requires in let few = r.slot_few in
    let a = r.short_header.low in let b = r.first_header.low in let d = r.after_header.low in let short_word = r.short_word in let after_word = r.after_word in
    record {
      fewer = let here = c.write-4.ensures.other c.args.short (λ z. absurd (omega arith)) ∙ (c.write-3.ensures.other _ r.apart.1.0 ∙ (c.write-2.ensures.other _ r.apart.0 ∙ c.write.ensures.here)) in omega arith;
      marked = c.write-4.ensures.other _ (λ z. absurd (omega arith)) ∙ (c.write-3.ensures.other _ r.apart.1.1 ∙ c.write-2.ensures.here);
      lowered = let here = c.write-4.ensures.other c.args.after (λ z. absurd (omega arith)) ∙ c.write-3.ensures.here in omega arith;
      here = c.write-4.ensures.here;
      other = λ i short first after slot. c.write-4.ensures.other i slot ∙ (c.write-3.ensures.other i after ∙ (c.write-2.ensures.other i first ∙ c.write.ensures.other i short));
      size = c.write-4.ensures.size ∙ (c.write-3.ensures.size ∙ (c.write-2.ensures.size ∙ c.write.ensures.size));
    }
