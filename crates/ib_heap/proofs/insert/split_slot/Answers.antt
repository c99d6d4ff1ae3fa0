-- Each word is written once, behind the slots that moved.
use Rattle.std.proofs.Common.{arith, ◌∙◌, inl, inr}
use Rattle.ib_heap.proofs.insert.split_slot.Goals as goal

pub returns : goal.returns
returns c =
    let r = c.requires in
    let a = r.some in let b = r.last in let f = r.few in let ml = r.middle_header.low in let ol = r.owner_header.low in let word = r.owner_word in
    record {
      marked = c.write-4.ensures.other _ (λ z. absurd (omega arith)) ∙ (c.write-3.ensures.other _ r.apart ∙ c.write-2.ensures.here);
      lowered = let e = c.write-4.ensures.other c.args.owner (λ z. absurd (omega arith)) in let h = c.write-3.ensures.here in omega arith;
      top = c.write-4.ensures.here;
      before = λ m lt. c.write-4.ensures.other _ (λ z. absurd (omega arith)) ∙ (c.write-3.ensures.other _ (λ z. absurd (omega arith)) ∙ (c.write-2.ensures.other _ (λ z. absurd (omega arith))
          ∙ (c.write.ensures.other _ (λ z. absurd (omega arith)) ∙ c.open_slot.ensures.before m (omega arith))));
      here = c.write-4.ensures.other _ (λ z. absurd (omega arith)) ∙ (c.write-3.ensures.other _ (λ z. absurd (omega arith)) ∙ (c.write-2.ensures.other _ (λ z. absurd (omega arith)) ∙ c.write.ensures.here));
      behind = λ m lt le. c.write-4.ensures.other _ (λ z. absurd (omega arith)) ∙ (c.write-3.ensures.other _ (λ z. absurd (omega arith)) ∙ (c.write-2.ensures.other _ (λ z. absurd (omega arith))
          ∙ (c.write.ensures.other _ (λ z. absurd (omega arith)) ∙ c.open_slot.ensures.behind m (omega arith) (omega arith))));
      other = λ i far nm no. c.write-4.ensures.other i (λ z. elim far [ inl g ↦ absurd (omega arith) | inr g ↦ absurd (omega arith) ]) ∙ (c.write-3.ensures.other i no ∙ (c.write-2.ensures.other i nm
          ∙ (c.write.ensures.other i (λ z. elim far [ inl g ↦ absurd (omega arith) | inr g ↦ absurd (omega arith) ]) ∙ c.open_slot.ensures.other i (elim far [ inl g ↦ inl (omega arith) | inr g ↦ inr (omega arith) ]))));
      size = c.write-4.ensures.size ∙ (c.write-3.ensures.size ∙ (c.write-2.ensures.size ∙ (c.write.ensures.size ∙ c.open_slot.ensures.size)));
    }
