-- One more word is moved.
use Rattle.std.proofs.Common.{arith, ◌≡◌, ◌∙◌, ◌+◌, ◌-◌, ap, get_or, inl, inr}
use Rattle.std.proofs.lemmas.Bool.{cases_eq}
use Rattle.ib_heap.proofs.insert.open_slot.Goals as goal

pub loop-step-preserved : goal.loop-step-preserved
loop-step-preserved c =
    let i = c.loop-step.invariant in
    let t = c.loop-step-test.true in
    let slot = c.requires.slot in
    record {
      before = λ m le. c.write.ensures.other (8 + m) (λ z. absurd (omega arith)) ∙ i.before m (omega arith);
      behind = λ m lt le. elim (cases_eq (m + c.loop-step.step) c.args.last) [
        | inl e ↦ ap (λ k. get_or c.write.new.words k 0) (let f : 8 + (m + 1) ≡ 8 + c.args.last - c.loop-step.step + 1 = omega arith in f) ∙ (c.write.ensures.here ∙ (ap (λ k. get_or c.loop-step.words k 0) (let f : 8 + c.args.last - c.loop-step.step ≡ 8 + m = omega arith in f) ∙ i.before m (omega arith)))
        | inr ne ↦ c.write.ensures.other (8 + (m + 1)) (λ z. absurd (ne (omega arith))) ∙ i.behind m (omega (arith, ne)) le
      ];
      other = λ j far. c.write.ensures.other j (λ z. elim far [ inl f ↦ absurd (omega arith) | inr f ↦ absurd (omega arith) ]) ∙ i.other j far;
      at_slot = λ m le. c.write.ensures.other (8 + m) (λ z. absurd (omega arith)) ∙ i.at_slot m le;
      size = c.write.ensures.size ∙ i.size;
    }
