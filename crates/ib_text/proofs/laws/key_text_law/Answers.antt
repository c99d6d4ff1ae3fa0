-- Of each key there is one text.
use Rattle.ib_text.proofs.KeyRead.{key-alone, key-before}
use Rattle.ib_text.proofs.SpellingLaws.{key-read, read-key}
use Rattle.ib_text.proofs.laws.key_text_law.Goals as goal

pub returns : goal.returns
returns c = record { read = key-read; one = read-key; alone = key-alone; before = key-before }
