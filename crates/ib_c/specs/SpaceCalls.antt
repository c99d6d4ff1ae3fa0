-- What the calls on a space's handle come to, as C is told of them.
use Rattle.std.specs.Prelude.{◌≡◌, ℕ, Option, Some, None, Ok, Err}
use Rattle.ib_c.specs.declared.status.Status.{Status}
use Rattle.ib_c.specs.declared.status.Status.TheVariants.{Done, InUse, NoHandle, WrongState}
use Rattle.ib_c.specs.declared.space.Space.{Space}
use Rattle.ib_c.specs.declared.space.Space.TheVariants.{Open, Closed, Gone}
use Rattle.ib_c.specs.SessionState.{SessionState}
use Rattle.ib_c.specs.Spaces.{HasClosedSpace, HasConnectedTo, HasDisconnectedFrom, HasOpened, IsFromSpace, IsNotConnected, IsNotDisconnected}
use Rattle.ib_c.specs.Statuses.{status_number}

-- an empty handle was given a new space, or why not
abbrev pub HasOpenedHandle : ℕ → ℕ → ℕ → Option Space → ℕ → Option Space → Type 0
HasOpenedHandle pages log_words sessions (Some s) r q = (r ≡ status_number InUse) × (q ≡ Some s)
HasOpenedHandle pages log_words sessions None r None = (e : Status) × (r ≡ status_number e) × HasOpened pages log_words sessions (Err e)
HasOpenedHandle pages log_words sessions None r (Some (Open s)) = (r ≡ status_number Done) × HasOpened pages log_words sessions (Ok s)
HasOpenedHandle pages log_words sessions None r (Some t) = ⊥

-- an empty handle was given a session of the space, or why not
abbrev pub HasConnectedHandle : Option Space → Option SessionState → ℕ → Option Space → Option SessionState → Type 0
HasConnectedHandle s (Some x) r q y = (r ≡ status_number InUse) × (q ≡ s) × (y ≡ Some x)
HasConnectedHandle None None r q y = (r ≡ status_number NoHandle) × (q ≡ None) × (y ≡ None)
HasConnectedHandle (Some s) None r q None = (e : Status) × (r ≡ status_number e) × (q ≡ Some s) × IsNotConnected s e
HasConnectedHandle (Some s) None r q (Some y) = (t : Space) × (r ≡ status_number Done) × (q ≡ Some t) × HasConnectedTo s y t

-- where both handles have one, the session is one of this space
abbrev pub IsGenuine : Option Space → Option SessionState → Type 0
IsGenuine (Some s) (Some x) = IsFromSpace s x
IsGenuine s x = Unit {0}

-- the session of a handle ended, which is empty then, or why not
abbrev pub HasDisconnectedHandle : Option Space → Option SessionState → ℕ → Option Space → Option SessionState → Type 0
HasDisconnectedHandle None x r q y = (r ≡ status_number NoHandle) × (q ≡ None) × (y ≡ x)
HasDisconnectedHandle (Some s) None r q y = (r ≡ status_number NoHandle) × (q ≡ Some s) × (y ≡ None)
HasDisconnectedHandle (Some s) (Some x) r q None = (t : Space) × (r ≡ status_number Done) × (q ≡ Some t) × HasDisconnectedFrom s x t
HasDisconnectedHandle (Some s) (Some x) r q (Some y) = (e : Status) × (r ≡ status_number e) × (q ≡ Some s) × (y ≡ x) × IsNotDisconnected s x e

-- the space of a handle was closed, or why not
abbrev pub HasClosedHandle : Option Space → ℕ → Option Space → Type 0
HasClosedHandle None r q = (r ≡ status_number NoHandle) × (q ≡ None)
HasClosedHandle (Some s) r q = (e : Status) × (t : Space) × (r ≡ status_number e) × (q ≡ Some t) × HasClosedSpace s e t

-- a handle was emptied whose space is not open
abbrev pub HasFreedHandle : Option Space → ℕ → Option Space → Type 0
HasFreedHandle None r q = (r ≡ status_number NoHandle) × (q ≡ None)
HasFreedHandle (Some (Open s)) r q = (r ≡ status_number WrongState) × (q ≡ Some (Open s))
HasFreedHandle (Some (Closed c)) r q = (r ≡ status_number Done) × (q ≡ None)
HasFreedHandle (Some Gone) r q = (r ≡ status_number Done) × (q ≡ None)
