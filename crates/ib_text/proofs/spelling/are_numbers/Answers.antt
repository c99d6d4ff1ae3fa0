use Rattle.std.proofs.Common.{true≢false, ◌∙◌, sym}
use Rattle.std.proofs.lemmas.Bool.{eq-eqb, eqb-true}
use Rattle.ib_text.proofs.HexLanes.{all-small, one-large}
use Rattle.ib_text.proofs.spelling.are_numbers.Goals as goal

pub returns-clause-yes : goal.returns-clause-yes
returns-clause-yes c is = all-small c.args.numbers c.fits-numbers.0 (eqb-true _ 0 is)

pub returns-clause-no : goal.returns-clause-no
returns-clause-no c is = one-large c.args.numbers c.fits-numbers.0 (λ none. true≢false (sym (eq-eqb _ 0 none) ∙ is))
