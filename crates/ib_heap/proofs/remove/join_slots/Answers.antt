-- Each word is written once, behind the closed slot.
use Rattle.std.proofs.Common.{arith, ◌≡◌, ◌∙◌, ◌+◌, ◌-◌, ◌/◌, get_or, ap, inl, inr}
use Rattle.ib_heap.proofs.remove.join_slots.Goals as goal

pub returns : goal.returns
returns c =
    let r = c.requires in let some = r.some in let last = r.last in let few = r.few in
    let a = r.short_header.low in let b = r.after_header.low in let short_word = r.short_word in
    record {
      fewer = let here = c.write-4.ensures.other c.args.short (λ z. absurd (omega arith)) ∙ (c.write-3.ensures.other _ r.apart ∙ c.write-2.ensures.here) in omega arith;
      raised = c.write-4.ensures.other _ (λ z. absurd (omega arith)) ∙ c.write-3.ensures.here;
      top = let here = c.write-4.ensures.here in omega arith;
      before = λ m lt. c.write-4.ensures.other _ (λ z. absurd (omega arith)) ∙ (c.write-3.ensures.other _ (λ z. absurd (omega arith)) ∙ (c.write-2.ensures.other _ (λ z. absurd (omega arith))
          ∙ (c.write.ensures.other _ (λ z. absurd (omega arith)) ∙ c.close_slot.ensures.before m lt)));
      behind = λ m le lt. c.write-4.ensures.other _ (λ z. absurd (omega arith)) ∙ (c.write-3.ensures.other _ (λ z. absurd (omega arith)) ∙ (c.write-2.ensures.other _ (λ z. absurd (omega arith))
          ∙ (c.write.ensures.other _ (λ z. absurd (omega arith)) ∙ c.close_slot.ensures.behind m le (omega arith))));
      end = c.write-4.ensures.other _ (λ z. absurd (omega arith)) ∙ (c.write-3.ensures.other _ (λ z. absurd (omega arith)) ∙ (c.write-2.ensures.other _ (λ z. absurd (omega arith))
          ∙ (ap (λ i. get_or c.write.new.words i 0) (let e : 7 + get_or c.args.words.now 7 0 / 256 ≡ 8 + (get_or c.args.words.now 7 0 / 256 - 1) = omega arith in e) ∙ c.write.ensures.here)));
      other = λ i far short after. c.write-4.ensures.other i (λ z. elim far [ inl g ↦ absurd (omega arith) | inr g ↦ absurd (omega arith) ]) ∙ (c.write-3.ensures.other i after ∙ (c.write-2.ensures.other i short
          ∙ (c.write.ensures.other i (λ z. elim far [ inl g ↦ absurd (omega arith) | inr g ↦ absurd (omega arith) ]) ∙ c.close_slot.ensures.other i (elim far [ inl g ↦ inl (omega arith) | inr g ↦ inr (omega arith) ]))));
      size = c.write-4.ensures.size ∙ (c.write-3.ensures.size ∙ (c.write-2.ensures.size ∙ (c.write.ensures.size ∙ c.close_slot.ensures.size)));
    }
