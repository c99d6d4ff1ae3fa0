-- The words of a tail, and their first fault. Whether the entries are lawful is no matter here: what stands before them is not known.
use Rattle.std.specs.Prelude.{◌≡◌, ℕ, ◌<◌, List, ◌++◌, length, Some}
use Rattle.ib_logrec.specs.declared.entry.Entry.{Entry}
use Rattle.ib_logrec.specs.declared.fault.LogFault.{LogFault}
use Rattle.ib_logrec.specs.declared.fault.LogFault.TheVariants.{OutOfMemory}
use Rattle.ib_logrec.specs.Grammar.{fault_at}
use Rattle.ib_logrec.specs.Law.{AreInGrammar}
use Rattle.ib_logrec.specs.Log.{log_words, used}

-- the first fault of the words of a tail: that of those behind a front of entries in the grammar. Places are counted from the tail's first word
pub record IsTailFault (pages : ℕ) (words : List ℕ) (fault : LogFault) : Type 0 where
  pub front : List Entry
  pub rest : List ℕ
  pub grammar : AreInGrammar pages front
  pub parts : words ≡ log_words front ++ rest
  pub more : 0 < length rest
  pub found : fault_at pages (used front) rest ≡ Some fault

-- or want of memory
abbrev pub IsTailRefused : ℕ → List ℕ → LogFault → Type 0
IsTailRefused pages words OutOfMemory = Unit {0}
IsTailRefused pages words fault = IsTailFault pages words fault
