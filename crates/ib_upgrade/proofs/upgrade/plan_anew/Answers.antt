use Rattle.ib_upgrade.proofs.OneOldFault.{only-fault, only-upgraded}
use Rattle.ib_upgrade.proofs.upgrade.plan_anew.Goals as goal

pub returns-clause-only : goal.returns-clause-only
returns-clause-only c new up = only-upgraded c.args.pages c.requires.pages c.args.words.now new c.planned_words.result c.planned_words.ensures.fault up

pub returns-clause-refused : goal.returns-clause-refused
returns-clause-refused c = only-fault c.args.pages c.requires.pages (λ new. new.items) c.args.words.now c.planned_words.result c.planned_words.ensures.upgraded c.planned_words.ensures.fault
