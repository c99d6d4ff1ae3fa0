use Rattle.ib_rule.specs.Stores.{no_entry}
use Rattle.ib_rule.proofs.space.Space.load_page_word_at.Given as goal

abbrev pub ghosts-act : goal.ghosts-act
ghosts-act g a = record { kind = a.kind; op = a.op; key = a.shared.now.key; entry = no_entry }
