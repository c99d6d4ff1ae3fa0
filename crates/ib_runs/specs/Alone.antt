-- Scripts of one session alone, and runs in which no log gets full.
use Rattle.std.specs.Prelude.{◌≡◌, ◌≢◌, ℕ, Bool, true, false, List, [], slice_index_or}
use Rattle.std.specs.List.{AllByRecursion}
use Rattle.ib_map.specs.Runs.{Runs}
use Rattle.ib_map.specs.declared.call.Call.{Call}
use Rattle.ib_map.specs.declared.call.Reply.{Reply}
use Rattle.ib_map.specs.declared.call.Reply.TheVariants.{LogFull}

-- no session has a command but the one at this place
abbrev pub IsAlone : ℕ → List (List Call) → Type 0
IsAlone place commands = (other : ℕ) → other ≢ place → slice_index_or commands other [] ≡ []

-- whether the reply tells of a full log
abbrev pub tells_full : Reply → Bool
tells_full (LogFull words cap) = true
tells_full _ = false

-- the reply tells of no full log
abbrev pub IsNotFull : Reply → Type 0
IsNotFull (LogFull words cap) = ⊥
IsNotFull _ = Unit {0}

-- no reply tells of a full log
abbrev pub AreNeverFull : Runs → Type 0
AreNeverFull runs = AllByRecursion (AllByRecursion (λ r. IsNotFull r.reply)) runs
