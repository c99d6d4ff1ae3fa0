-- What a pass ends as when it lends its words for an entry, or the pages of its work.
use Rattle.std.specs.Prelude.{ℕ, Option, Some, None, List, ◌++◌, take, drop, length}
use Rattle.std.specs.Borrow.{Lends, MutBor, Fml, Array, u64}
use Rattle.ib_page.specs.Work.{WorkPage}
use Rattle.ib_page.specs.contracts.work.WorkSet.{the_row as work_row}
use Rattle.ib_rule.specs.declared.scratch_holder.ScratchHolder.{ScratchHolder}
use Rattle.ib_rule.specs.declared.scratch.Scratch.{Scratch}
use Rattle.ib_rule.specs.declared.pass.TheConstants.{ENTRY_WORDS}
use Rattle.ib_rule.specs.Pass.{PassState}
use Rattle.ib_rule.specs.contracts.scratch_holder.ScratchHolder.{the_row as holder_row}
use Rattle.ib_rule.specs.contracts.pass.Pass.{the_row}

-- the pass with other words for an entry, as many as there were
abbrev pub with_words : PassState → List ℕ → PassState
with_words p words = record p { words = take ENTRY_WORDS (words ++ drop (length words) p.words) }

-- what is left behind the reference are its words, and nothing else changes
abbrev pub LendsWords : MutBor PassState → MutBor (List ℕ) → Fml
LendsWords p r = Lends the_row (Array u64 0) p r (with_words p.now)

-- the holder with other pages of the mini-transaction that works there
abbrev pub scratch_with_pages : Option Scratch → List WorkPage → Option Scratch
scratch_with_pages None pages = None
scratch_with_pages (Some s) pages = Some (record s { work = pages })

abbrev pub with_pages : ScratchHolder → List WorkPage → ScratchHolder
with_pages d pages = record d { scratch = scratch_with_pages d.scratch pages }

abbrev pub LendsHolder : MutBor ScratchHolder → MutBor (List WorkPage) → Fml
LendsHolder d r = Lends holder_row work_row d r (with_pages d.now)

-- what is left behind the reference are the pages of its work, and nothing else changes
abbrev pub LendsWork : MutBor PassState → MutBor (List WorkPage) → Fml
LendsWork p r = Lends the_row work_row p r (λ pages. record p.now { work = pages })
