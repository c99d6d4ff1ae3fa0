-- Bytes have one first fault as an old log, and those that are brought over have none.
use Rattle.std.specs.Prelude.{Result, Ok, Err, IfOk, IfErr, MatchResult}
use Rattle.std.proofs.Common.{◌≡◌, ◌⊎◌, ◌^◌, ◌<◌, ℕ, List, Some, inl, inr, sym, ap, subst, ◌∙◌, arith}
use Rattle.ib_logrec.specs.declared.fault.LogFault.{LogFault}
use Rattle.ib_logrec.specs.declared.fault.LogFault.TheVariants.{OutOfMemory}
use Rattle.ib_upgrade.specs.Upgrades.{IsFirstOldFault}
use Rattle.ib_upgrade.proofs.OneOldFault.{first-fault-one, not-first-fault}
use Rattle.ib_replay.specs.declared.file.TheConstants.{OLD_FILE_FORM}
use Rattle.ib_replay.specs.Files.{LogFile, AreWords}
use Rattle.ib_replay.specs.OldLogs.{IsBroughtOver, IsOldFault, old_file_fault, old_file_of}
use Rattle.ib_replay.proofs.FileLaws.{file_fault_with-none, file_with-one, has_pages-fits}

fits : OLD_FILE_FORM < 2 ^ 64
fits = omega arith

-- the file of an old log is no other's, and has no fault
old_file-one : (p q : ℕ) (xs ys : List ℕ) → p < 2 ^ 64 → q < 2 ^ 64 → AreWords xs → AreWords ys → old_file_of p xs ≡ old_file_of q ys → (p ≡ q) × (xs ≡ ys)
old_file-one p q xs ys p_fits q_fits xs_fit ys_fit same = file_with-one OLD_FILE_FORM p q xs ys fits p_fits q_fits xs_fit ys_fit same

-- bytes that are brought over have no fault
pub brought-no_fault : (bytes : List ℕ) (pages : ℕ) (new : List ℕ) (fault : LogFault) → IsBroughtOver bytes pages new → IsOldFault bytes fault → ⊥
brought-no_fault bytes pages new fault is (inl found) = let none = ap old_file_fault is.file ∙ file_fault_with-none OLD_FILE_FORM fits pages is.words is.space in cc
brought-no_fault bytes pages new fault is (inr other) =
    let same = old_file-one other.pages pages other.words is.words (has_pages-fits other.pages other.space) (has_pages-fits pages is.space) other.fits is.fits (sym other.file ∙ is.file) in
    not-first-fault pages is.space is.words new fault is.upgraded
    (subst (λ (p : ℕ). IsFirstOldFault p is.words fault) same.0 (subst (λ (ws : List ℕ). IsFirstOldFault other.pages ws fault) same.1 other.first))

old_fault-one : (bytes : List ℕ) (a b : LogFault) → IsOldFault bytes a → IsOldFault bytes b → a ≡ b
old_fault-one bytes a b (inl found_a) (inl found_b) = let same : Some a ≡ Some b = sym found_a ∙ found_b in cc
old_fault-one bytes a b (inl found) (inr is) = let none = ap old_file_fault is.file ∙ file_fault_with-none OLD_FILE_FORM fits is.pages is.words is.space in absurd (cc)
old_fault-one bytes a b (inr is) (inl found) = let none = ap old_file_fault is.file ∙ file_fault_with-none OLD_FILE_FORM fits is.pages is.words is.space in absurd (cc)
old_fault-one bytes a b (inr is_a) (inr is_b) =
    let same = old_file-one is_a.pages is_b.pages is_a.words is_b.words (has_pages-fits is_a.pages is_a.space) (has_pages-fits is_b.pages is_b.space) is_a.fits is_b.fits (sym is_a.file ∙ is_b.file) in
    let first = subst (λ (p : ℕ). IsFirstOldFault p is_b.words a) same.0 (subst (λ (ws : List ℕ). IsFirstOldFault is_a.pages ws a) same.1 is_a.first) in
    first-fault-one is_b.pages is_b.space is_b.words a b first is_b.first

-- an old log that can be brought over is, in as many pages
pub only_brought : (bytes : List ℕ) (r : Result LogFile LogFault) → IfOk r (λ brought. IsBroughtOver bytes brought.pages brought.words) → IfErr r (λ fault. (fault ≡ OutOfMemory) ⊎ IsOldFault bytes fault)
    → (pages : ℕ) (words : List ℕ) → IsBroughtOver bytes pages words → MatchResult r (λ brought. brought.pages ≡ pages) (λ fault. fault ≡ OutOfMemory)
only_brought bytes (Ok brought) found fault pages words is =
    (old_file-one brought.pages pages found.words is.words (has_pages-fits brought.pages found.space) (has_pages-fits pages is.space) found.fits is.fits (sym found.file ∙ is.file)).0
only_brought bytes (Err e) found (inl memory) pages words is = memory
only_brought bytes (Err e) found (inr fault) pages words is = absurd (brought-no_fault bytes pages words e is fault)

-- bytes with a fault are refused, and for no other fault
pub only_old_fault : (bytes : List ℕ) (r : Result LogFile LogFault) → IfOk r (λ brought. IsBroughtOver bytes brought.pages brought.words) → IfErr r (λ fault. (fault ≡ OutOfMemory) ⊎ IsOldFault bytes fault)
    → (other : LogFault) → IsOldFault bytes other → MatchResult r (λ brought. ⊥) (λ fault. (fault ≡ OutOfMemory) ⊎ (fault ≡ other))
only_old_fault bytes (Ok brought) found fault other is = brought-no_fault bytes brought.pages brought.words other found is
only_old_fault bytes (Err e) found (inl memory) other is = inl memory
only_old_fault bytes (Err e) found (inr fault) other is = inr (old_fault-one bytes e other fault is)
