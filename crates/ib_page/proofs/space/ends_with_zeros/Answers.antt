-- The words behind the clock, by index.
use Rattle.std.proofs.lemmas.List.{take_rest}
use Rattle.ib_page.proofs.SpaceLaws.{behind_from, behind_to}
use Rattle.ib_page.proofs.space.ends_with_zeros.Goals as goal

pub returns-clause-zeros : goal.returns-clause-zeros
returns-clause-zeros c = (
  λ yes. behind_from c.args.words.now (rw take_rest at (c.are_zeros.ensures.0 yes)),
  λ none. c.are_zeros.ensures.1 (rw take_rest (behind_to c.args.words.now none)),
)
