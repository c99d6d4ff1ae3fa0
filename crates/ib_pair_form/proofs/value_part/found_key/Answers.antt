use Rattle.std.proofs.Common.{◌∙◌, sym, arith}
use Rattle.ib_pair_form.proofs.ValueText.{short-primary}
use Rattle.ib_pair_form.proofs.value_part.found_key.Goals as goal

pub returns-then-len-lt8 : goal.returns-then-len-lt8
returns-then-len-lt8 c = c.least.ensures ∙ sym (short-primary c.args.second (omega (arith, c.len.ensures.count, c.if-len-lt8.true)))
