use Rattle.std.proofs.Common.{◌∙◌, ap, sym, arith}
use Rattle.ib_validate.specs.PatchTest.{same_position}
use Rattle.ib_validate.specs.Positions.{position_in}
use Rattle.ib_validate.proofs.PositionLaws.{same_position-within}
use Rattle.ib_validate.proofs.attach.may_attach.Goals as goal

pub returns-else-is_marked-clause-in_range : goal.returns-else-is_marked-clause-in_range
returns-else-is_marked-clause-in_range c t =
    let within = same_position-within c.args.old.now c.args.page (position_in c.args.position) (sym (ap (λ o. same_position o (position_in c.args.position)) c.position_at.ensures) ∙ sym c.was_at.ensures ∙ t) in
    let size = c.requires.size in omega arith
