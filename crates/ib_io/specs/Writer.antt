-- What a buffered writer has done between two moments.
use Rattle.std.specs.Prelude.{◌≡◌, ℕ, ◌≤◌, ◌⊎◌, List, [], ◌++◌, Bool, true, false, Result, OnOk, OnErr}
use Rattle.std.specs.declared.option.Option.{Option}
use Rattle.std.specs.Io.KnownBytes.{Appends}
use Rattle.ib_io.specs.Faults.{Rose}
use Rattle.ib_io.specs.declared.writer.Writer.{Writer}

-- the sink of a writer, as it stands now
abbrev pub sink_of : {K : Type 0} → Writer K → K
sink_of writer = writer.sink.now

-- what a writer has taken and not yet handed to its sink
abbrev pub pending_of : {K : Type 0} → Writer K → List ℕ
pending_of writer = writer.buffer

-- the name of the reference to the sink, by which a caller knows its sink again
abbrev pub sink_name : {K : Type 0} → Writer K → ℕ
sink_name writer = writer.sink.ghost_name

-- how far a writer is: what its sink holds and how often that failed, whether the writer has failed, what waits
pub record Point : Type 0 where
  pub written : Option (List ℕ)
  pub faults : ℕ
  pub failed : Bool
  pub pending : List ℕ

-- Bytes were put from old to new: what waited and they are what the sink took and a rest, which waits unless the writer has failed.
-- Where it has not failed, its sink has not.
pub record Grows (old new : Point) (bytes : List ℕ) : Type 0 where
  pub later : old.faults ≤ new.faults
  pub sent : List ℕ
  pub rest : List ℕ
  pub taken : Appends old.written new.written sent
  pub whole : old.pending ++ bytes ≡ sent ++ rest
  pub good : new.failed ≡ false → (old.failed ≡ false) × (new.pending ≡ rest)
  pub calm : new.failed ≡ false → new.faults ≡ old.faults
  pub cause : new.failed ≡ true → (old.failed ≡ true) ⊎ Rose old.faults new.faults
  pub stays : old.failed ≡ true → (new.failed ≡ true) × (sent ≡ [])

-- where a writer stands
abbrev pub point_of : {K : Type 0} → (K → Option (List ℕ)) → (K → ℕ) → Writer K → Point
point_of written faults writer = record { written = written (sink_of writer); faults = faults (sink_of writer); failed = writer.failed; pending = pending_of writer }

-- The writer kept its sink, and these bytes were put through it.
pub record Puts {K : Type 0} (written : K → Option (List ℕ)) (faults : K → ℕ) (old new : Writer K) (bytes : List ℕ) : Type 0 where
  pub same_reference : sink_name new ≡ sink_name old
  pub grows : Grows (point_of written faults old) (point_of written faults new) bytes

-- a writer over this sink that has printed nothing
pub record IsFresh {K : Type 0} (target : K) (writer : Writer K) : Type 0 where
  pub sink : sink_of writer ≡ target
  pub empty : pending_of writer ≡ []
  pub good : writer.failed ≡ false

-- nothing waits, and the result says whether the writer has failed
pub record IsFinished {K T E : Type 0} (writer : Writer K) (result : Result T E) : Type 0 where
  pub empty : pending_of writer ≡ []
  pub ok : OnOk result (writer.failed ≡ false)
  pub err : OnErr result (writer.failed ≡ true)
