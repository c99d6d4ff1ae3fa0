-- What a mini-transaction ends as when it lends its pages.
use Rattle.std.specs.Prelude.{ℕ, List, []}
use Rattle.std.specs.Borrow.{Lends, MutBor, Fml}
use mir.Syntax.{named}
use denote.RattleType.{RattleType}
use Rattle.ib_logrec.specs.declared.law.Law.{Ghosts}
use Rattle.ib_latch.specs.declared.sleep.Sleep.{Ghosts as SleepGhosts}
use Rattle.ib_page.specs.Work.{WorkPage, with_changed}
use Rattle.ib_page.specs.contracts.image.Image.{the_row as image_row}
use Rattle.ib_page.specs.contracts.work.WorkSet.{the_row as work_row}
use Rattle.ib_mtr.specs.declared.mtr.Mtr.{Mtr}
use Rattle.ib_mtr.specs.contracts.mtr.Mtr.{the_row}
use Rattle.ib_mtr.specs.Mtr.{with_work}

-- what is left behind the reference are the pages of the pass, and nothing else changes
abbrev pub LendsPages : (l s : RattleType) → Ghosts l.Denot → SleepGhosts s.Denot → MutBor (Mtr l.Denot s.Denot) → MutBor (List WorkPage) → Fml
LendsPages l s law sleep m r = Lends (the_row (record { mir = named 1; lft = [] }) l s law sleep) work_row m r (λ pages. record m.now { pass = record m.now.pass { now = with_work pages m.now.pass.now } })

-- what is left behind the reference is the changed image of this page, and nothing else changes
abbrev pub LendsImage : (l s : RattleType) → Ghosts l.Denot → SleepGhosts s.Denot → MutBor (Mtr l.Denot s.Denot) → ℕ → MutBor (List ℕ) → Fml
LendsImage l s law sleep m page r = Lends (the_row (record { mir = named 1; lft = [] }) l s law sleep) image_row m r (λ image. record m.now { pass = record m.now.pass { now = with_work (with_changed page image m.now.pass.now.work) m.now.pass.now } })
