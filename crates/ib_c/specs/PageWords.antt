-- What a copy of a page of a closed space comes to.
use Rattle.std.specs.Prelude.{◌≡◌, ◌≢◌, ◌⊎◌, ℕ, ◌<◌, ◌≤◌, List, length, slice_index, Option, Some, None}
use Rattle.ib_map.specs.declared.TheConstants.{PAGE_WORDS}
use Rattle.ib_layout.specs.Places.{page_place}
use Rattle.ib_rule.specs.Closed.{ClosedState}
use Rattle.ib_c.specs.declared.log_words.Copied.{Copied}
use Rattle.ib_c.specs.declared.space.Space.{Space}
use Rattle.ib_c.specs.declared.space.Space.TheVariants.{Open, Closed, Gone}
use Rattle.ib_c.specs.declared.status.Status.{Status}
use Rattle.ib_c.specs.declared.status.Status.TheVariants.{Done, BadRange, NoHandle, WrongState}
use Rattle.ib_c.specs.LogWords.{told_copy}

-- the words of a page of a closed space were copied, or it has no such page, or there is not the room of a page, and nothing was copied
abbrev pub IsCopiedPage : ClosedState → ℕ → List ℕ → Status → List ℕ → Type 0
IsCopiedPage c page out Done into =
    (page < c.sizes.pages) × (length out ≡ PAGE_WORDS) × (length into ≡ PAGE_WORDS) × ((i : ℕ) → i < PAGE_WORDS → slice_index into i ≡ slice_index c.words (page_place c.sizes page i))
IsCopiedPage c page out BadRange into = ((c.sizes.pages ≤ page) ⊎ (length out ≢ PAGE_WORDS)) × (into ≡ out)
IsCopiedPage c page out other into = ⊥

-- .. of a space, which is closed; how many words a page has is told
abbrev pub HasCopiedPage : ℕ → List ℕ → Space → Copied → List ℕ → Type 0
HasCopiedPage page out (Closed c) r into = (s : Status) × (r ≡ told_copy s PAGE_WORDS) × IsCopiedPage c page out s into
HasCopiedPage page out (Open s) r into = (r ≡ told_copy WrongState 0) × (into ≡ out)
HasCopiedPage page out Gone r into = (r ≡ told_copy WrongState 0) × (into ≡ out)

abbrev pub HasCopiedPageHandle : ℕ → List ℕ → Option Space → Copied → Option Space → List ℕ → Type 0
HasCopiedPageHandle page out None r q into = (r ≡ told_copy NoHandle 0) × (q ≡ None) × (into ≡ out)
HasCopiedPageHandle page out (Some s) r q into = (q ≡ Some s) × HasCopiedPage page out s r into
