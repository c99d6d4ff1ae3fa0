-- Faults of reading and writing, and what stands after one.
use Rattle.std.specs.Prelude.{◌≡◌, ◌+◌, ◌-◌, ◌^◌, ◌≤◌, ℕ, List, ◌++◌, min, OnErr, OnOk, Result, MatchResult}
use Rattle.std.specs.declared.option.Option.{Option}
use Rattle.std.specs.Io.KnownBytes.{Appends}

-- a count of faults rose by at least one, or stands at its last value
abbrev pub Rose : ℕ → ℕ → Type 0
Rose before now = min (before + 1) (2 ^ 64 - 1) ≤ now

-- the count never falls, a call that succeeded has left it, and a failed one has raised it
pub record HasCause {T E : Type 0} (before now : ℕ) (result : Result T E) : Type 0 where
  pub later : before ≤ now
  pub calm : OnOk result (now ≡ before)
  pub failed : OnErr result (Rose before now)

-- known bytes grow by a front of bs
abbrev pub AppendsFront : Option (List ℕ) → Option (List ℕ) → List ℕ → Type 0
AppendsFront old new bs = (sent : List ℕ) × (rest : List ℕ) × Appends old new sent × (bs ≡ sent ++ rest)

-- at `Ok` known bytes grow by all of bs, and at `Err` by a front of them
abbrev pub AppendsAll : {T E : Type 0} → Option (List ℕ) → Option (List ℕ) → Result T E → List ℕ → Type 0
AppendsAll old new result bs = MatchResult result (λ _. Appends old new bs) (λ _. AppendsFront old new bs)
