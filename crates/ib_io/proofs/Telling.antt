-- What is told of a part is told of the whole.
use Rattle.std.proofs.Common.{◌≡◌, ◌⊎◌, ◌∙◌, ℕ, List, inl, inr, refl, subst, sym, Some, None, Option}
use Rattle.ib_io.specs.BadLines.{fault_text}
use Rattle.ib_io.specs.Told.{Ending, ends, IsComplete, IsOutOfMemoryWhere, OwesFault, OwesLines, Told}
use Rattle.ib_io.specs.declared.bad_line.ScriptFault.{ScriptFault}
use Rattle.ib_io.specs.declared.bad_line.ScriptFault.TheVariants.{BadLine, OutOfMemory as NoMemory}
use Rattle.ib_io.specs.declared.line_kind.LineKind.{LineKind}
use Rattle.ib_io.specs.declared.status.Status.{Status}
use Rattle.ib_io.specs.declared.status.Status.TheVariants.{Done, Script, ReadFault, WriteFault, Memory}

-- where each ending that is owed is owed by the whole, and silence may come there too
pub told_as : (owes whole : Ending → Type 0) (silent still : Status → Type 0) → ((e : Ending) → owes e → whole e) → ((s : Status) → silent s → still s)
    → (written now : Option (List ℕ)) (status : Status) → Told owes silent written now status → Told whole still written now status
told_as owes whole silent still more calm written now status (inl told) = inl (told.0, more told.0 told.1, told.2)
told_as owes whole silent still more calm written now status (inr told) = inr (calm status told.0, told.1)

-- what lines owe, where one is bad and where none is
pub owed_bad : (found : Option (ℕ × LineKind)) (output : List ℕ → Type 0) (line : ℕ) (kind : LineKind) → found ≡ Some (line, kind)
    → OwesLines found output (ends Script (fault_text line kind))
owed_bad (Some bad) output line kind is = let same : bad ≡ (line, kind) = cc in rw same refl
owed_bad None output line kind is = absurd (cc)

pub owed_good : (found : Option (ℕ × LineKind)) (output : List ℕ → Type 0) (e : Ending) → found ≡ None → (e.status ≡ Done) × output e.text → OwesLines found output e
owed_good None output e is owed = owed
owed_good (Some bad) output e is owed = absurd (cc)

-- what is told of a fault is told of its lines, where it is the first bad one, or memory may be wanting
pub told_fault : (found : Option (ℕ × LineKind)) (output : List ℕ → Type 0) (may : Type 0) (fault : ScriptFault)
    → ((line : ℕ) (kind : LineKind) → fault ≡ BadLine line kind → found ≡ Some (line, kind)) → (fault ≡ NoMemory → may)
    → (written now : Option (List ℕ)) (status : Status) → Told (OwesFault fault) (IsOutOfMemoryWhere (fault ≡ NoMemory)) written now status → Told (OwesLines found output) (IsOutOfMemoryWhere may) written now status
told_fault found output may fault bad memory written now status told =
    told_as (OwesFault fault) (OwesLines found output) (IsOutOfMemoryWhere (fault ≡ NoMemory)) (IsOutOfMemoryWhere may) (owed_fault fault bad) (λ s calm. (calm.0, memory calm.1)) written now status told
  where
    owed_fault : (fault : ScriptFault) → ((line : ℕ) (kind : LineKind) → fault ≡ BadLine line kind → found ≡ Some (line, kind)) → (e : Ending) → OwesFault fault e → OwesLines found output e
    owed_fault (BadLine line kind) is e owed = subst (OwesLines found output) (sym owed) (owed_bad found output line kind (is line kind refl))
    owed_fault NoMemory is e owed = absurd owed

-- where no line is bad nothing but an output is owed
pub done_lines : (found : Option (ℕ × LineKind)) (output : List ℕ → Type 0) (e : Ending) → found ≡ None → OwesLines found output e → e.status ≡ Done
done_lines None output e good owed = owed.0
done_lines (Some bad) output e good owed = absurd (cc)

-- where Done alone is owed and neither side failed, all was written, or memory ran out
pub complete : (owes : Ending → Type 0) (silent : Status → Type 0) (written now : Option (List ℕ)) (status : Status) → Told owes silent written now status
    → ((e : Ending) → owes e → e.status ≡ Done) → ((s : Status) → silent s → (s ≡ ReadFault) ⊎ (s ≡ Memory)) → (status ≡ ReadFault → ⊥) → (status ≡ WriteFault → ⊥) → IsComplete owes written now status
complete owes silent written now status (inr told) done calm read write = elim (calm status told.0) [ inl e ↦ absurd (read e) | inr e ↦ inr (e, told.1) ]
complete owes silent written now status (inl told) done calm read write = elim told.2 [
  | inr failed ↦ absurd (write failed.0)
  | inl all ↦
      let is : told.0.status ≡ Done = done told.0 told.1 in
      inl (all.0 ∙ is, (told.0.text, subst (λ (s : Status). owes (ends s told.0.text)) is told.1, all.1))
]
