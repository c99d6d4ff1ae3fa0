-- The words of an entry's head are read as that head.
use Rattle.std.proofs.Common.{Some, ap, ◌∙◌}
use Rattle.ib_logrec.specs.declared.head.Head.{Head}
use Rattle.ib_logrec.specs.Heads.{head_in, head_of}
use Rattle.ib_logrec.specs.Grammar.{spells_head}
use Rattle.ib_logrec.proofs.EntryLaws.{HasHead-entry}
use Rattle.ib_logrec.proofs.HeadLaws.{head-spelled, head_in-words}
use Rattle.ib_logrec.proofs.head.Head.read.Goals as goal

pub returns-in-Ok-clause-only : goal.returns-in-Ok-clause-only
returns-in-Ok-clause-only c pages e rest is spelled = ap (λ (h : Head). Some h) (c.in-Ok.ensures.head ∙ ap head_in spelled ∙ head_in-words (head_of e) rest is.most_writes)

pub returns-in-Err-clause-only : goal.returns-in-Err-clause-only
returns-in-Err-clause-only c pages e rest is spelled =
    let yes = ap spells_head spelled ∙ head-spelled (head_of e) rest (HasHead-entry pages e is) in
    let no = c.in-Err.ensures.none in absurd (cc)
