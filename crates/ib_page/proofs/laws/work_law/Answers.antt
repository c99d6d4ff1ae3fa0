-- The law of a work set, clause by clause.
use Rattle.ib_page.proofs.StoreLaws.{changed_stands, changed_there, before_stands, before_there, writes_rise, leads_to, written_exactly, untouched, word_written, word_there}
use Rattle.ib_page.proofs.laws.work_law.Goals as goal

pub returns-clause-changed : goal.returns-clause-changed
returns-clause-changed c pages page image h = (λ at. changed_stands pages page image at, λ any. changed_there pages page image h any)

pub returns-clause-before : goal.returns-clause-before
returns-clause-before c pages page image h = (λ at. before_stands pages page image at, λ any. before_there pages page image h any)

pub returns-clause-rise : goal.returns-clause-rise
returns-clause-rise c pages end h within = writes_rise 0 end pages h within

pub returns-clause-leads : goal.returns-clause-leads
returns-clause-leads c pages p index h among lt = leads_to pages p index h among lt

pub returns-clause-written : goal.returns-clause-written
returns-clause-written c pages p h among = written_exactly pages p h among

pub returns-clause-absent : goal.returns-clause-absent
returns-clause-absent c pages page absent = untouched pages page absent

pub returns-clause-word : goal.returns-clause-word
returns-clause-word c pages page index word h lt = (λ among. word_written pages page index word h lt among, λ is. word_there pages page index word h lt is.0 is.1)
