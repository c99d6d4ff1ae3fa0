use Rattle.std.proofs.Common.{◌∙◌, sym}
use Rattle.ib_validate.proofs.patch.passes_at_all.Goals as goal
use Rattle.ib_validate.proofs.patch.passes_at_all.Goals.{then-keeps_space, else-keeps_space}

pub returns-then-all_pass-clause-passes : goal.returns-then-all_pass-clause-passes
returns-then-all_pass-clause-passes c = elim c.if-keeps_space.branch [
  | then-keeps_space w ↦ (
    λ t. record { each = w.all_pass.ensures.0 (sym w.value-is ∙ c.if-all_pass.true); space = c.keeps_space.ensures.space.0 w.if-keeps_space.true; sliced = c.are_sliced.ensures.0 t },
    λ h. c.are_sliced.ensures.1 h.sliced,
  )
  | else-keeps_space w ↦ absurd (let a = c.if-all_pass.true in let b = w.value-is in let d = w.if-keeps_space.false in cc)
]
