-- A log that is refused is told by its first fault, and want of memory writes nothing.
use Rattle.std.proofs.Common.{◌≡◌, ◌⊎◌, ℕ, List, Option, inl, inr, sym, subst}
use Rattle.ib_io.proofs.Telling.{told_as}
use Rattle.ib_io.specs.Told.{Ending, IsOutOfMemoryWhere, Told, ends}
use Rattle.ib_io.specs.declared.status.Status.{Status}
use Rattle.ib_io.specs.declared.status.Status.TheVariants.{BadLog}
use Rattle.ib_logrec.specs.declared.fault.LogFault.{LogFault}
use Rattle.ib_logrec.specs.declared.fault.LogFault.TheVariants.{OutOfMemory}
use Rattle.ib_replay_form.specs.Answers.{OwesLogFault}
use Rattle.ib_replay_form.specs.Replaying.{bad_log_line}

-- where an answer tells each fault of some kind, and memory may be wanting on a condition alone
module _ (IsFound : LogFault → Type 0) (answers : Ending → Type 0) (may : Type 0) (owed : (found : LogFault) → IsFound found → answers (ends BadLog (bad_log_line found))) where
  answered : (fault : LogFault) → (fault ≡ OutOfMemory) ⊎ IsFound fault → (e : Ending) → OwesLogFault fault e → answers e
  answered OutOfMemory found e is = absurd is
  answered fault (inl none) e is = absurd (cc)
  answered fault (inr found) e is = subst answers (sym is) (owed fault found)

  pub told_refused : (fault : LogFault) (written now : Option (List ℕ)) (status : Status) → (fault ≡ OutOfMemory) ⊎ IsFound fault → (fault ≡ OutOfMemory → may)
      → Told (OwesLogFault fault) (IsOutOfMemoryWhere (fault ≡ OutOfMemory)) written now status → Told answers (IsOutOfMemoryWhere may) written now status
  told_refused fault written now status found none told =
      told_as (OwesLogFault fault) answers (IsOutOfMemoryWhere (fault ≡ OutOfMemory)) (IsOutOfMemoryWhere may) (answered fault found) (λ s calm. (calm.0, none calm.1)) written now status told
