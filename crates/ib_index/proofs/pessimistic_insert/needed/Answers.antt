-- The pages of the path are those of the work set.
use Rattle.std.proofs.Common.{List, sym, subst}
use Rattle.ib_page.specs.Work.{WorkPage}
use Rattle.ib_plans.specs.Agreement.{Agrees}
use Rattle.ib_index.proofs.pessimistic_insert.needed.Goals as goal

pub returns-clause-needed : goal.returns-clause-needed
returns-clause-needed g c = λ pages root key memory bits agrees.
    c.pages_needed.ensures.needed pages root key memory bits (subst (λ (ws : List WorkPage). Agrees pages 1 root key c.args.path.now ws memory bits) (sym c.work.ensures.work) agrees)
