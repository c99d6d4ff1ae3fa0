-- The one page is as it was read.
use Rattle.std.proofs.Common.{List, sym, ap, subst}
use Rattle.ib_page.specs.Work.{WorkPage, with_read}
use Rattle.ib_rule.specs.Pass.{PassState}
use Rattle.ib_mtr.specs.Mtr.{IsUnchangedOn}
use Rattle.ib_mtr.proofs.Trying.{read_unchanged}
use Rattle.ib_mtr_tests.proofs.memos.load.Goals as goal

pub load-requires-clause-absent : goal.load-requires-clause-absent
load-requires-clause-absent c = ap (Rattle.ib_page.specs.Work.changed_of c.args.page) c.requires.none

pub returns-clause-unchanged : goal.returns-clause-unchanged
returns-clause-unchanged c l =
    let h = c.load.ensures.loaded in
    subst (IsUnchangedOn l) (sym (ap (λ (p : PassState). p.work) h.pass)) (subst (λ (ws : List WorkPage). IsUnchangedOn l (with_read c.args.page h.image ws)) (sym c.requires.none) (read_unchanged l c.args.page h.image))
