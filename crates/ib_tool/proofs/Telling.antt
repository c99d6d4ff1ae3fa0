-- What is told of a part is told of the whole.
use Rattle.std.proofs.Common.{◌≡◌, ◌⊎◌, ◌∙◌, ℕ, List, [], inl, inr, sym, ap, subst, arith, true, false, Some, None, Option}
use Rattle.std.specs.Io.KnownBytes.{Keeps}
use Rattle.ib_io.proofs.Reading.{ReadsAll-known, ConsumesMore-known}
use Rattle.ib_io.proofs.Telling.{complete, done_lines, told_as}
use Rattle.ib_io.specs.Input.{ReadsAll}
use Rattle.ib_io.specs.Told.{Ending, IsComplete, IsOutOfMemory, IsOutOfMemoryWhere, OwesLines, Told}
use Rattle.ib_io.specs.declared.line_kind.LineKind.{LineKind}
use Rattle.ib_io.specs.declared.read.TheConstants.{INPUT_BYTES}
use Rattle.ib_io.specs.declared.status.Status.{Status}
use Rattle.ib_io.specs.declared.status.Status.TheVariants.{Done, ReadFault, WriteFault, Memory}
use Rattle.ib_replay_form.specs.Answers.{AnswersLog, AnswersUpgrade}
use Rattle.ib_replay.proofs.OldLogLaws.{brought-no_fault}
use Rattle.ib_replay.proofs.OneFault.{raw_log-no_fault}
use Rattle.ib_image_form.proofs.RestoredLaws.{owed-one}
use Rattle.ib_tool.specs.Answers.{AnswersInput, HasGood, IsCutOff, IsGoodInput, IsOwedAt, IsServed, IsSilent, IsSilentAt, MayLackInput, Owes, OwesInput}
use Rattle.ib_tool.specs.Words.{form_of, reads}
use Rattle.ib_tool.specs.declared.form.Form.{Form}
use Rattle.ib_tool.specs.declared.form.Form.TheVariants.{Run, Fast, Pair, Raw, Image, Latch, Replay, Upgrade, Restore, Gen}

-- where want of memory may come anywhere
pub told_anywhere : (owes : Ending → Type 0) (written now : Option (List ℕ)) (status : Status) → Told owes IsOutOfMemory written now status → Told owes (IsOutOfMemoryWhere (Unit {0})) written now status
told_anywhere owes written now status told = told_as owes owes IsOutOfMemory (IsOutOfMemoryWhere (Unit {0})) (λ e owed. owed) (λ s calm. (calm, tt)) written now status told

-- what is told of an input that was read
pub told_input : (form : Form) (old new : Option (List ℕ)) (input : List ℕ) → ReadsAll old new INPUT_BYTES input → (written now : Option (List ℕ)) (status : Status)
    → Told (AnswersInput form input) (IsOutOfMemoryWhere (MayLackInput form input)) written now status → Told (OwesInput form old new) (IsCutOff old new) written now status
told_input form old new input reads written now status told =
    told_as (AnswersInput form input) (OwesInput form old new) (IsOutOfMemoryWhere (MayLackInput form input)) (IsCutOff old new) (λ e owed. inr (input, reads, owed))
    (λ s calm. let few = reads.2 in inr (calm.0, (input, reads.0, omega arith))) written now status told

-- .. and of a form that reads
pub told_reading : (form : Form) (old new : Option (List ℕ)) → reads form ≡ true → (written now : Option (List ℕ)) (status : Status)
    → Told (OwesInput form old new) (IsCutOff old new) written now status → Told (IsOwedAt form old new) (IsSilentAt form old new) written now status
told_reading Run old new is written now status told = told
told_reading Fast old new is written now status told = told
told_reading Pair old new is written now status told = told
told_reading Raw old new is written now status told = told
told_reading Image old new is written now status told = told
told_reading Latch old new is written now status told = told
told_reading Replay old new is written now status told = told
told_reading Upgrade old new is written now status told = told
told_reading Restore old new is written now status told = told
told_reading (Gen load) old new is written now status told = absurd (cc)

-- .. and of one that reads nothing
pub told_alone : (form : Form) (old new : Option (List ℕ)) → reads form ≡ false → Keeps old new → (written now : Option (List ℕ)) (status : Status)
    → Told (AnswersInput form []) (IsOutOfMemoryWhere (MayLackInput form [])) written now status → Told (IsOwedAt form old new) (IsSilentAt form old new) written now status
told_alone (Gen load) old new is keeps written now status told =
    told_as (AnswersInput (Gen load) []) (IsOwedAt (Gen load) old new) (IsOutOfMemoryWhere (MayLackInput (Gen load) [])) (IsSilentAt (Gen load) old new) (λ e owed. (keeps, owed)) (λ s calm. (calm.0, keeps)) written now status told
told_alone Run old new is keeps written now status told = absurd (cc)
told_alone Fast old new is keeps written now status told = absurd (cc)
told_alone Pair old new is keeps written now status told = absurd (cc)
told_alone Raw old new is keeps written now status told = absurd (cc)
told_alone Image old new is keeps written now status told = absurd (cc)
told_alone Latch old new is keeps written now status told = absurd (cc)
told_alone Replay old new is keeps written now status told = absurd (cc)
told_alone Upgrade old new is keeps written now status told = absurd (cc)
told_alone Restore old new is keeps written now status told = absurd (cc)

-- what is told where the words are a form
pub told_form : (words : List (List ℕ)) (form : Form) (old new : Option (List ℕ)) → form_of words ≡ Some form → (written now : Option (List ℕ)) (status : Status)
    → Told (IsOwedAt form old new) (IsSilentAt form old new) written now status → Told (Owes words old new) (IsSilent words old new) written now status
told_form words form old new is written now status told =
    told_as (IsOwedAt form old new) (Owes words old new) (IsSilentAt form old new) (IsSilent words old new) (λ e owed. inr (form, is, owed)) (λ s calm. (form, is, calm)) written now status told

-- for a good input nothing but Done is owed
done_log : (input : List ℕ) (e : Ending) → IsGoodInput Replay input → AnswersLog input e → e.status ≡ Done
done_log input e good (inl owed) = ap (λ x. x.status) owed.3
done_log input e good (inr owed) = absurd (raw_log-no_fault input good.0 good.1 owed.0 good.2 owed.1)

done_upgrade : (input : List ℕ) (e : Ending) → IsGoodInput Upgrade input → AnswersUpgrade input e → e.status ≡ Done
done_upgrade input e good (inl owed) = ap (λ x. x.status) owed.3
done_upgrade input e good (inr owed) = absurd (brought-no_fault input good.0 good.1 owed.0 good.2 owed.1)

done_input : (form : Form) (input : List ℕ) (e : Ending) → IsGoodInput form input → AnswersInput form input e → e.status ≡ Done
done_input Run input e good owed = done_lines _ _ e good owed
done_input Fast input e good owed = done_lines _ _ e good owed
done_input Pair input e good owed = done_lines _ _ e good owed
done_input Raw input e good owed = done_lines _ _ e good owed
done_input Image input e good owed = done_lines _ _ e good owed
done_input Latch input e good owed = done_lines _ _ e good owed
done_input Replay input e good owed = done_log input e good owed
done_input Upgrade input e good owed = done_upgrade input e good owed
done_input Restore input e good owed = ap (λ x. x.status) (owed-one input good.0 good.1 e good.2 good.3 owed)
done_input (Gen load) input e good owed = owed.0

done_read : (form : Form) (left new : Option (List ℕ)) (e : Ending) → HasGood form left → OwesInput form left new e → e.status ≡ Done
done_read form None new e good owed = absurd good
done_read form (Some input) new e good (inl owed) = let more = ConsumesMore-known input new INPUT_BYTES owed.0 in let less = good.0 in absurd (omega arith)
done_read form (Some input) new e good (inr owed) =
    let same = ReadsAll-known input new INPUT_BYTES owed.0 owed.1 in
    done_input form input e good.1 (subst (λ (bytes : List ℕ). AnswersInput form bytes e) same owed.2)

done_at : (form : Form) (left new : Option (List ℕ)) (e : Ending) → IsServed form left → IsOwedAt form left new e → e.status ≡ Done
done_at Run left new e served owed = done_read Run left new e served owed
done_at Fast left new e served owed = done_read Fast left new e served owed
done_at Pair left new e served owed = done_read Pair left new e served owed
done_at Raw left new e served owed = done_read Raw left new e served owed
done_at Image left new e served owed = done_read Image left new e served owed
done_at Latch left new e served owed = done_read Latch left new e served owed
done_at Replay left new e served owed = done_read Replay left new e served owed
done_at Upgrade left new e served owed = done_read Upgrade left new e served owed
done_at Restore left new e served owed = done_read Restore left new e served owed
done_at (Gen load) left new e served owed = owed.1.0

done_words : (words : List (List ℕ)) (left new : Option (List ℕ)) (form : Form) (e : Ending) → form_of words ≡ Some form → IsServed form left → Owes words left new e → e.status ≡ Done
done_words words left new form e is served (inl owed) = let bad = sym is ∙ owed.0 in absurd (cc)
done_words words left new form e is served (inr owed) =
    let same-form : owed.0 ≡ form = let both = sym owed.1 ∙ is in cc in
    done_at form left new e served (subst (λ (f : Form). IsOwedAt f left new e) same-form owed.2)

cut-off : (old new : Option (List ℕ)) (s : Status) → IsCutOff old new s → (s ≡ ReadFault) ⊎ (s ≡ Memory)
cut-off old new s calm = elim calm [ inl fault ↦ inl fault.0 | inr memory ↦ inr memory.0 ]

silences-at : (form : Form) (old new : Option (List ℕ)) (s : Status) → IsSilentAt form old new s → (s ≡ ReadFault) ⊎ (s ≡ Memory)
silences-at Run old new s calm = cut-off old new s calm
silences-at Fast old new s calm = cut-off old new s calm
silences-at Pair old new s calm = cut-off old new s calm
silences-at Raw old new s calm = cut-off old new s calm
silences-at Image old new s calm = cut-off old new s calm
silences-at Latch old new s calm = cut-off old new s calm
silences-at Replay old new s calm = cut-off old new s calm
silences-at Upgrade old new s calm = cut-off old new s calm
silences-at Restore old new s calm = cut-off old new s calm
silences-at (Gen load) old new s calm = inr calm.0

-- a form that gets what it needs is answered
pub completes : (words : List (List ℕ)) (left new written now : Option (List ℕ)) (status : Status) (R W : Type 0) → Told (Owes words left new) (IsSilent words left new) written now status
    → (status ≡ ReadFault → R) → (status ≡ WriteFault → W)
    → (form : Form) → form_of words ≡ Some form → IsServed form left → (R → ⊥) → (W → ⊥) → IsComplete (Owes words left new) written now status
completes words left new written now status R W told read write form is served no_read no_write =
    complete (Owes words left new) (IsSilent words left new) written now status told (λ e owed. done_words words left new form e is served owed)
    (λ s calm. silences-at calm.0 left new s calm.2) (λ e. no_read (read e)) (λ e. no_write (write e))

-- an input that was read owes no fault of reading
no_fault-lines : (found : Option (ℕ × LineKind)) (output : List ℕ → Type 0) (e : Ending) → OwesLines found output e → e.status ≡ ReadFault → ⊥
no_fault-lines None output e owed is = absurd (cc)
no_fault-lines (Some bad) output e owed is = let told = ap (λ x. x.status) owed in absurd (cc)

no_fault : (form : Form) (input : List ℕ) (e : Ending) → AnswersInput form input e → e.status ≡ ReadFault → ⊥
no_fault Run input e owed is = no_fault-lines _ _ e owed is
no_fault Fast input e owed is = no_fault-lines _ _ e owed is
no_fault Pair input e owed is = no_fault-lines _ _ e owed is
no_fault Raw input e owed is = no_fault-lines _ _ e owed is
no_fault Image input e owed is = no_fault-lines _ _ e owed is
no_fault Latch input e owed is = no_fault-lines _ _ e owed is
no_fault Replay input e (inl owed) is = let told = ap (λ x. x.status) owed.3 in absurd (cc)
no_fault Replay input e (inr owed) is = let told = ap (λ x. x.status) owed.2 in absurd (cc)
no_fault Upgrade input e (inl owed) is = let told = ap (λ x. x.status) owed.3 in absurd (cc)
no_fault Upgrade input e (inr owed) is = let told = ap (λ x. x.status) owed.2 in absurd (cc)
no_fault Restore input e (inl owed) is = let told = ap (λ x. x.status) owed.4 in absurd (cc)
no_fault Restore input e (inr owed) is = let told = ap (λ x. x.status) owed.2 in absurd (cc)
no_fault (Gen load) input e owed is = let told = owed.0 in absurd (cc)

pub told-no_fault : (form : Form) (input : List ℕ) (written now : Option (List ℕ)) (status : Status) → Told (AnswersInput form input) (IsOutOfMemoryWhere (MayLackInput form input)) written now status → status ≡ ReadFault → ⊥
told-no_fault form input written now status (inl told) is = elim told.2 [
  | inl all ↦ no_fault form input told.0 told.1 (sym all.0 ∙ is)
  | inr cut ↦ let failed = cut.0 in absurd (cc)
]
told-no_fault form input written now status (inr calm) is = let memory = calm.0.0 in absurd (cc)
