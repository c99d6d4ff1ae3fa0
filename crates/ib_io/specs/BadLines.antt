-- Bad lines, and how one is told.
use Rattle.std.specs.Prelude.{◌≡◌, ℕ, List, ◌++◌, Bool, true, Option, Some, None, codes, decimal}
use Rattle.ib_io.specs.declared.bad_line.LineFault.{LineFault}
use Rattle.ib_io.specs.declared.bad_line.LineFault.TheVariants.{Bad, OutOfMemory}
use Rattle.ib_io.specs.declared.line_kind.LineKind.{LineKind}
use Rattle.ib_io.specs.declared.line_kind.LineKind.TheVariants.{Word, Fields, Number, Key, Long, Session, Space, Many, Latch, Level}

abbrev pub kind_text : LineKind → List ℕ
kind_text Word = codes "word"
kind_text Fields = codes "fields"
kind_text Number = codes "number"
kind_text Key = codes "key"
kind_text Long = codes "long"
kind_text Session = codes "session"
kind_text Space = codes "space"
kind_text Many = codes "many"
kind_text Latch = codes "latch"
kind_text Level = codes "level"

-- the line's number and what is wrong with it
abbrev pub fault_text : ℕ → LineKind → List ℕ
fault_text line kind = codes "script: line " ++ decimal line ++ codes ": " ++ kind_text kind ++ codes "\n"

-- a fault is what is wrong with the line, or want of memory where nothing is wrong with it and it asks for some
abbrev pub IsLineFault : Option LineKind → Bool → LineFault → Type 0
IsLineFault found asks (Bad kind) = found ≡ Some kind
IsLineFault found asks OutOfMemory = (found ≡ None) × (asks ≡ true)
