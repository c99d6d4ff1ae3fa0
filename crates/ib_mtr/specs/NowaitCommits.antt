-- The end of a mini-transaction whose commit does not wait for the log latch.
use Rattle.std.specs.Prelude.{◌≡◌, ◌+◌, List, length}
use Rattle.ib_levels.specs.declared.level.Mode.TheVariants.{X}
use Rattle.ib_layout.specs.Geometry.{Sizes}
use Rattle.ib_logrec.specs.declared.entry.Entry.{Entry}
use Rattle.ib_rule.specs.Pass.{PassState}
use Rattle.ib_rule.specs.Stores.{IsLook}
use Rattle.ib_latch.specs.declared.tries.TryFault.{TryFault}
use Rattle.ib_latch.specs.Refusals.{WasRefusedFor}
use Rattle.ib_latch.specs.Tries.{looks_of}
use Rattle.ib_mtr.specs.Commits.{HasEnded, IsFull, one_end_more}
use Rattle.ib_mtr.specs.declared.commit_nowait.CommitFault.{CommitFault}
use Rattle.ib_mtr.specs.declared.commit_nowait.CommitFault.TheVariants.{Full, LogRefused}

-- X on the log latch was refused, and the mini-transaction ended as one that only read: nothing is written, no grant was taken, and the log's end was looked at once more. The looks at lock words are those of the refused try, and no step was made as one that waits
pub record IsRefusedByLog (sizes : Sizes) (lawful : List Entry → Type 0) (p : PassState) (fault : TryFault) (q : PassState) : Type 0 where
  pub log : List Entry
  pub looked : IsLook sizes lawful p.view log
  pub ended : HasEnded p p.view.grants log p.view.memory.own (one_end_more p (length log)) q
  pub refused : WasRefusedFor X 0 fault p.view.looks q.view.looks
  pub looks : q.view.looks.count ≡ p.view.looks.count + looks_of fault
  pub waits : q.view.looks.waits ≡ p.view.looks.waits

-- why it did not commit, and what that left
abbrev pub HasNotCommitted : Sizes → (List Entry → Type 0) → PassState → CommitFault → PassState → Type 0
HasNotCommitted sizes lawful p (Full full) q = IsFull sizes lawful p full q
HasNotCommitted sizes lawful p (LogRefused fault) q = IsRefusedByLog sizes lawful p fault q
