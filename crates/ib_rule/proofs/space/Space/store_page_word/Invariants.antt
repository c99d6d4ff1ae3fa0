use Rattle.ib_rule.specs.declared.kind.WordOp.TheVariants.{Swap}
use Rattle.ib_logrec.specs.Words.{entry_in}
use Rattle.ib_rule.proofs.space.Space.store_page_word.Given as goal

abbrev pub ghosts-store : goal.ghosts-store
ghosts-store g a = record { kind = a.kind; op = Swap a.value; key = a.shared.now.key; entry = entry_in a.words.now }
