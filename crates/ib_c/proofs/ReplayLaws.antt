-- What is told of a log or of a fault.
use Rattle.std.proofs.Common.{◌≡◌, ◌⊎◌, ◌∙◌, ℕ, List, length, None, refl, ap, subst, inl, inr}
use Rattle.ib_map.specs.Pairs.{Pairs}
use Rattle.ib_logrec.specs.declared.entry.Entry.{Entry}
use Rattle.ib_logrec.specs.declared.fault.LogFault.{LogFault}
use Rattle.ib_logrec.specs.declared.fault.LogFault.TheVariants.{OutOfMemory as NoMemory}
use Rattle.ib_logrec.specs.Log.{map_of}
use Rattle.ib_replay.specs.Files.{file_fault}
use Rattle.ib_replay.specs.RawLogs.{IsRawFault, IsRawLog, IsReplayed}
use Rattle.ib_replay.proofs.OneFault.{raw_log-one}
use Rattle.ib_c.specs.declared.replay.Replayed.{Replayed}
use Rattle.ib_c.specs.declared.status.Status.{Status}
use Rattle.ib_c.specs.declared.status.Status.TheVariants.{OutOfMemory}
use Rattle.ib_c.specs.Replays.{HasPutPairs, HasReplayed, IsToldFault, IsToldLog, IsToldNothing, told_counts, told_fault, told_refusal}

-- the log that was replayed is the one that the bytes are the file of
pub told_log-is : (bytes out into : List ℕ) (pages : ℕ) (log entries : List Entry) (memory : List (List ℕ)) (map : Pairs) (s : Status) (r : Replayed) → IsReplayed bytes entries memory
    → map ≡ map_of entries → HasPutPairs map out s into → r ≡ told_counts s (length memory) (length entries) (length map) → IsRawLog bytes pages log → IsToldLog pages log out r into
told_log-is bytes out into pages log entries memory map s r replayed map-is put told is =
    let same = raw_log-one bytes replayed.0 pages entries log replayed.1 is in
    let size : length memory ≡ pages = replayed.2.size ∙ same.0 in
    let of_log : map ≡ map_of log = map-is ∙ ap map_of same.1 in
    (s, told ∙ (λ i. told_counts s (size i) (length (same.1 i)) (length (of_log i))), subst (λ (ps : Pairs). HasPutPairs ps out s into) of_log put)

-- a fault is told as one, but for want of memory
refusal-is : (fault : LogFault) → (fault ≡ NoMemory) ⊎ (told_refusal fault ≡ told_fault fault)
refusal-is NoMemory = inl refl
refusal-is fault = inr refl

module _ (bytes out : List ℕ) (fault : LogFault) (r : Replayed) (told : r ≡ told_refusal fault) where
  nothing : fault ≡ NoMemory → IsToldNothing OutOfMemory out r out
  nothing none = (told ∙ ap told_refusal none, refl)

  pub refusal-answer : (fault ≡ NoMemory) ⊎ IsRawFault bytes fault → (fault ≡ NoMemory → file_fault bytes ≡ None) → HasReplayed bytes out r out
  refusal-answer why memory =
      elim (refusal-is fault) [
        | inl none ↦ inr (inr (memory none, nothing none))
        | inr same ↦ elim why [ inl none ↦ inr (inr (memory none, nothing none)) | inr is ↦ inr (inl (fault, is, (told ∙ same, refl))) ]
      ]

  pub refusal-refused : (other : LogFault) → (fault ≡ NoMemory) ⊎ (fault ≡ other) → IsToldFault other out r out ⊎ IsToldNothing OutOfMemory out r out
  refusal-refused other why =
      elim (refusal-is fault) [
        | inl none ↦ inr (nothing none)
        | inr same ↦ elim why [ inl none ↦ inr (nothing none) | inr is ↦ inl (told ∙ (same ∙ ap told_fault is), refl) ]
      ]
