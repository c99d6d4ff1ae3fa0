-- Pages 0 and 1 have their bits, and no other page.
use Rattle.std.proofs.Common.{◌∙◌, ℕ, List, ap, sym, subst, arith}
use Rattle.ib_page.specs.Space.{is_taken, space_clock_of, IsSpacePage}
use Rattle.ib_page.proofs.SpaceLaws.{space_taken, space_formed, space_word}
use Rattle.ib_page.proofs.space.SpaceImage.opening.Goals as goal

pub returns-clause-taken : goal.returns-clause-taken
returns-clause-taken c page lt = ap (λ ws. is_taken ws page) c.opening_page.ensures ∙ space_taken 1 page (omega arith) (omega arith) lt

pub returns-clause-clock : goal.returns-clause-clock
returns-clause-clock c = ap (λ ws. space_clock_of ws) c.opening_page.ensures ∙ space_word 1 64

pub returns-clause-formed : goal.returns-clause-formed
returns-clause-formed c = subst (λ (ws : List ℕ). IsSpacePage c.args.pages ws) (sym c.opening_page.ensures) (space_formed 1 c.args.pages (omega arith) (omega arith) c.requires)
