-- What a session has on a latch, and who holds a latch, read off the list of all sessions.
use Rattle.std.specs.Prelude.{◌≡◌, ℕ, ◌+◌, ◌≤◌, Bool, false, cond, nat_lt, List, [], ◌==◌, ℤ, sum_by, Option, position}
use mathlib.Core.Option.{some}
use lib.ListN.{get_elem?}
use Rattle.ib_word.specs.declared.word.TheConstants.{MOST_READERS}
use Rattle.ib_word.specs.Weight.{weight}
use Rattle.ib_word.specs.Word.{word_less}
use Rattle.ib_levels.specs.Holding.{on}
use Rattle.ib_core.specs.declared.phase.Phase.{Phase}
use Rattle.ib_core.specs.declared.phase.Phase.TheVariants.{Free, Next, NextArmed, NextChecked, NextAsleep}
use Rattle.ib_core.specs.declared.session.Session.{Session}

-- the session at a place of the list is this one
abbrev pub Stands : List Session → ℕ → Session → Type 0
Stands sessions i a = get_elem? sessions i ≡ some a

-- the session that holds nothing
abbrev pub idle : Session
idle = record { held = []; phase = Free }

-- how many holdings a session has on a latch
abbrev pub holdings : ℕ → Session → ℕ
holdings l a = on l (λ h. 1) a.held

-- its grants of S there, of SX, of X (a next writer's one among them), of SX and X, and of all
abbrev pub reads : ℕ → Session → ℕ
reads l a = on l (λ h. h.s) a.held

abbrev pub sx_grants : ℕ → Session → ℕ
sx_grants l a = on l (λ h. h.sx) a.held

abbrev pub x_grants : ℕ → Session → ℕ
x_grants l a = on l (λ h. h.x) a.held

abbrev pub claims : ℕ → Session → ℕ
claims l a = on l (λ h. h.sx + h.x) a.held

abbrev pub grants : ℕ → Session → ℕ
grants l a = on l (λ h. h.s + h.sx + h.x) a.held

-- what it takes off the lock word
abbrev pub taken : ℕ → Session → ℕ
taken l a = on l (λ h. weight h.s h.sx h.x) a.held

-- a session in this phase is the next writer of the latch
abbrev pub is_next : ℕ → Phase → Bool
is_next l (Next k v) = k == l
is_next l (NextArmed k v g) = k == l
is_next l (NextChecked k v g) = k == l
is_next l (NextAsleep k v g) = k == l
is_next l _ = false

-- the grants of X that are owned: the next writer's is not, yet
abbrev pub owned : ℕ → Session → ℕ
owned l a = cond (is_next l a.phase) 0 (x_grants l a)

-- what all sessions take off the lock word, and the word
abbrev pub all_taken : ℕ → List Session → ℕ
all_taken l sessions = sum_by (taken l) sessions

abbrev pub word_on : ℕ → List Session → ℤ
word_on l sessions = word_less (all_taken l sessions)

-- the number of readers of a latch
abbrev pub readers_of : ℕ → List Session → ℕ
readers_of l sessions = sum_by (reads l) sessions

-- no latch has more readers than its word can count
abbrev pub HasFewReaders : List Session → Type 0
HasFewReaders sessions = (l : ℕ) → readers_of l sessions ≤ MOST_READERS

-- the places of the owner of SX, of the owner of X, and of the next writer
abbrev pub sx_owner_of : ℕ → List Session → Option ℕ
sx_owner_of l sessions = position (λ a. nat_lt 0 (sx_grants l a)) sessions

abbrev pub x_owner_of : ℕ → List Session → Option ℕ
x_owner_of l sessions = position (λ a. nat_lt 0 (owned l a)) sessions

abbrev pub next_writer_of : ℕ → List Session → Option ℕ
next_writer_of l sessions = position (λ a. is_next l a.phase) sessions
