-- How much of a source was read.
use Rattle.std.specs.Prelude.{◌<◌, ◌≤◌, ℕ, List, length, Result, Ok, Err, Vec}
use Rattle.std.specs.declared.option.Option.{Option}
use Rattle.std.specs.Io.KnownBytes.{Consumes, IsAtEnd}
use Rattle.ib_io.specs.declared.read.ReadError.{ReadError}
use Rattle.ib_io.specs.declared.read.ReadError.TheVariants.{Memory, Fault, TooLarge}

-- the input was read to its end, and is no longer than the limit
abbrev pub ReadsAll : Option (List ℕ) → Option (List ℕ) → ℕ → List ℕ → Type 0
ReadsAll old new limit input = Consumes old new input × IsAtEnd new × (length input ≤ limit)

-- more than the limit was taken from the known bytes
abbrev pub ConsumesMore : Option (List ℕ) → Option (List ℕ) → ℕ → Type 0
ConsumesMore old new limit = (bs : List ℕ) × Consumes old new bs × (limit < length bs)

-- no more than the limit was taken from the known bytes
abbrev pub ConsumesAtMost : Option (List ℕ) → Option (List ℕ) → ℕ → Type 0
ConsumesAtMost old new limit = (bs : List ℕ) × Consumes old new bs × (length bs ≤ limit)

-- Reading ends with all of an input within the limit, with more than the limit, or earlier by a fault or for want of memory.
abbrev pub ReadsWhole : {A : Type 0} → Option (List ℕ) → Option (List ℕ) → ℕ → Result (Vec ℕ A) ReadError → Type 0
ReadsWhole old new limit (Ok input) = ReadsAll old new limit input.items
ReadsWhole old new limit (Err TooLarge) = ConsumesMore old new limit
ReadsWhole old new limit (Err Fault) = ConsumesAtMost old new limit
ReadsWhole old new limit (Err Memory) = Unit {0}
