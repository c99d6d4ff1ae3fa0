-- The first word tells.
use Rattle.std.proofs.Common.{◌∙◌, arith, inl, inr, subst, eq-eqb, eqb-true}
use Rattle.ib_heap.specs.Page.{HoldsTree}
use Rattle.ib_heap.proofs.FormLaws.{kind_read}
use Rattle.ib_heap.proofs.form.is_tree_in.Goals as goal

pub returns-clause-tree : goal.returns-clause-tree
returns-clause-tree g c =
    let ws = g.W.PageWords.words c.args.page.now in let word = c.word.ensures.word in
    elim (kind_read ws c.requires.formed) [
      | inl h ↦ (λ tells. h.0, λ holds. eq-eqb _ _ (word ∙ h.1))
      | inr h ↦ (λ is. absurd (let one = eqb-true _ _ is in let zero = h.1 in omega (arith, one, zero, word)), λ holds. absurd (subst HoldsTree h.0.holds holds))
    ]
