-- One more word is moved.
use Rattle.std.proofs.Common.{arith, ◌≡◌, ◌∙◌, ◌+◌, ap, get_or, inl, inr}
use Rattle.std.proofs.lemmas.Bool.{cases_eq}
use Rattle.ib_heap.proofs.remove.close_slot.Goals as goal

pub loop-m-preserved : goal.loop-m-preserved
loop-m-preserved c =
    let i = c.loop-m.invariant in
    let low = i.low in
    record {
      low = omega arith;
      before = λ j lt. c.write.ensures.other (8 + j) (λ z. absurd (omega arith)) ∙ i.before j lt;
      behind = λ j le lt. elim (cases_eq j c.loop-m.m) [
        | inl e ↦ ap (λ n. get_or c.write.new.words n 0) (let f : 8 + j ≡ 8 + c.loop-m.m = omega arith in f) ∙ (c.write.ensures.here ∙ (ap (λ n. get_or c.loop-m.words n 0) (let f : 9 + c.loop-m.m ≡ 8 + (j + 1) = omega arith in f) ∙ i.other (8 + (j + 1)) (inr (omega arith))))
        | inr ne ↦ c.write.ensures.other (8 + j) (λ z. absurd (ne (omega arith))) ∙ i.behind j le (omega (arith, ne))
      ];
      other = λ j far. c.write.ensures.other j (λ z. elim far [ inl f ↦ absurd (omega arith) | inr f ↦ absurd (omega arith) ]) ∙ i.other j (elim far [ inl f ↦ inl f | inr f ↦ inr (omega arith) ]);
      size = c.write.ensures.size ∙ i.size;
    }
