-- The first word tells.
use Rattle.std.proofs.Common.{arith, inl, inr, subst, eq-eqb, eqb-true}
use Rattle.ib_heap.specs.Page.{HoldsTree}
use Rattle.ib_heap.proofs.FormLaws.{header_read, kind_read}
use Rattle.ib_heap.proofs.form.is_tree.Goals as goal

pub bounds-words-0 : goal.bounds-words-0
bounds-words-0 c = let h = header_read c.args.words.now c.requires in omega arith

pub returns : goal.returns
returns c = elim (kind_read c.args.words.now c.requires) [
  | inl h ↦ (λ yes. h.0, λ holds. eq-eqb _ _ h.1)
  | inr h ↦ (λ is. absurd (let one = eqb-true _ _ is in omega (arith, one, h.1)), λ holds. absurd (subst HoldsTree h.0.holds holds))
]
