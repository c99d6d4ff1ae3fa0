-- What is owed, and what was written at a status.
use Rattle.std.specs.Prelude.{◌≡◌, ◌≢◌, ◌⊎◌, ℕ, List, [], Some, None}
use Rattle.std.specs.declared.option.Option.{Option}
use Rattle.std.specs.Io.KnownBytes.{Appends}
use Rattle.ib_io.specs.BadLines.{fault_text}
use Rattle.ib_io.specs.Faults.{AppendsFront, Rose}
use Rattle.ib_io.specs.declared.bad_line.ScriptFault.{ScriptFault}
use Rattle.ib_io.specs.declared.bad_line.ScriptFault.TheVariants.{BadLine, OutOfMemory as NoMemory}
use Rattle.ib_io.specs.declared.line_kind.LineKind.{LineKind}
use Rattle.ib_io.specs.declared.status.Status.{Status}
use Rattle.ib_io.specs.declared.status.Status.TheVariants.{Done, Script, WriteFault, Memory}

-- an ending that writes: its status, and all that it writes
pub record Ending : Type 0 where
  pub status : Status
  pub text : List ℕ

abbrev pub ends : Status → List ℕ → Ending
ends status text = record { status = status; text = text }

-- all of an ending was written, or the sink failed behind a front of it
abbrev pub IsWritten : Ending → Option (List ℕ) → Option (List ℕ) → Status → Type 0
IsWritten ending written now status =
    ((status ≡ ending.status) × Appends written now ending.text) ⊎ ((status ≡ WriteFault) × AppendsFront written now ending.text)

-- `owes` says which endings are owed, and `silent` which statuses that write nothing may come.
abbrev pub Told : (Ending → Type 0) → (Status → Type 0) → Option (List ℕ) → Option (List ℕ) → Status → Type 0
Told owes silent written now status =
    ((ending : Ending) × owes ending × IsWritten ending written now status) ⊎ (silent status × Appends written now [])

-- all was done and a text that is owed was written, or memory ran out with nothing written
abbrev pub IsComplete : (Ending → Type 0) → Option (List ℕ) → Option (List ℕ) → Status → Type 0
IsComplete owes written now status =
    ((status ≡ Done) × ((text : List ℕ) × owes (ends Done text) × Appends written now text)) ⊎ ((status ≡ Memory) × Appends written now [])

-- where only want of memory may come with nothing written
abbrev pub IsOutOfMemory : Status → Type 0
IsOutOfMemory status = status ≡ Memory

-- where it may come on a condition alone
abbrev pub IsOutOfMemoryWhere : Type 0 → Status → Type 0
IsOutOfMemoryWhere may status = (status ≡ Memory) × may

-- what is owed for an input that is not read: its bad line is told, and want of memory is no ending that writes
abbrev pub OwesFault : ScriptFault → Ending → Type 0
OwesFault (BadLine line kind) e = e ≡ ends Script (fault_text line kind)
OwesFault NoMemory e = ⊥

-- what is owed for lines: their first bad one is told, or else they give an output
abbrev pub OwesLines : Option (ℕ × LineKind) → (List ℕ → Type 0) → Ending → Type 0
OwesLines (Some bad) output e = e ≡ ends Script (fault_text bad.0 bad.1)
OwesLines None output e = (e.status ≡ Done) × output e.text

-- a status tells a fault of a side only where its count of faults rose, and where it tells none the count stands
pub record TellsFault (fault status : Status) (before now : ℕ) : Type 0 where
  pub calm : status ≢ fault → now ≡ before
  pub rose : status ≡ fault → Rose before now

-- a status tells what was written to this sink, as it is said, and whether the sink failed
pub record HasTold {K : Type 0} (written : K → Option (List ℕ)) (faults : K → ℕ) (says : Option (List ℕ) → Option (List ℕ) → Status → Type 0) (old now : K) (status : Status) : Type 0 where
  pub told : says (written old) (written now) status
  pub write : TellsFault WriteFault status (faults old) (faults now)
