-- How many of the lowest bytes of a word are 0.
use Rattle.std.proofs.Common.{ap, sym, ◌∙◌}
use Rattle.ib_map.proofs.ZeroBytes.{zero_bytes-zero}
use Rattle.ib_map.specs.KeyWords.{zero_bytes}
use Rattle.ib_map.proofs.key.order.+zero_bytes.Goals as goal

pub returns-then-word-eq0-clause-zeros : goal.returns-then-word-eq0-clause-zeros
returns-then-word-eq0-clause-zeros t c = sym (ap (λ n. zero_bytes c.args.most n) c.if-word-eq0.true ∙ zero_bytes-zero c.args.most)
