-- Words that are no key's.
use Rattle.std.proofs.Common.{◌∙◌, sym}
use Rattle.ib_map.proofs.KeyLaws.{key_in-none}
use Rattle.ib_map.proofs.key.Key.in_words.Goals as goal

pub returns-in-None : goal.returns-in-None
returns-in-None c = c.least.ensures ∙ sym (key_in-none c.args.first c.args.second c.in-None.ensures)
