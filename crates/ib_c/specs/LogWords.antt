-- What a copy of a closed space's log comes to, and how C is told.
use Rattle.std.specs.Prelude.{◌≡◌, ℕ, ◌+◌, ◌<◌, ◌≤◌, List, length, slice_index, Option, Some, None}
use Rattle.ib_rule.specs.Closed.{log_in}
use Rattle.ib_c.specs.declared.log_words.Copied.{Copied}
use Rattle.ib_c.specs.declared.space.Space.{Space}
use Rattle.ib_c.specs.declared.space.Space.TheVariants.{Open, Closed, Gone}
use Rattle.ib_c.specs.declared.status.Status.{Status}
use Rattle.ib_c.specs.declared.status.Status.TheVariants.{Done, BadRange, NoHandle, WrongState}
use Rattle.ib_c.specs.Statuses.{status_number}

-- a status, and how many words the log or a page has, which is 0 where that is not known
abbrev pub told_copy : Status → ℕ → Copied
told_copy s n = record { status = status_number s; used = n }

-- words from there on were copied, or fewer words are there, and nothing was copied
abbrev pub IsCopied : List ℕ → ℕ → List ℕ → Status → List ℕ → Type 0
IsCopied log first out Done into = (first + length out ≤ length log) × (length into ≡ length out) × ((k : ℕ) → k < length out → slice_index into k ≡ slice_index log (first + k))
IsCopied log first out BadRange into = (length log < first + length out) × (into ≡ out)
IsCopied log first out other into = ⊥

-- .. of the log of a space, which is closed
abbrev pub HasCopied : ℕ → List ℕ → Space → Copied → List ℕ → Type 0
HasCopied first out (Closed c) r into = (s : Status) × (r ≡ told_copy s (length (log_in c.sizes c.words))) × IsCopied (log_in c.sizes c.words) first out s into
HasCopied first out (Open s) r into = (r ≡ told_copy WrongState 0) × (into ≡ out)
HasCopied first out Gone r into = (r ≡ told_copy WrongState 0) × (into ≡ out)

abbrev pub HasCopiedHandle : ℕ → List ℕ → Option Space → Copied → Option Space → List ℕ → Type 0
HasCopiedHandle first out None r q into = (r ≡ told_copy NoHandle 0) × (q ≡ None) × (into ≡ out)
HasCopiedHandle first out (Some s) r q into = (q ≡ Some s) × HasCopied first out s r into
