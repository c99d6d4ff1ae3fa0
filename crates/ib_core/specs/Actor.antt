-- The session that an actor is, and the room in its list.
use Rattle.std.specs.Prelude.{◌≡◌, ℕ, ◌<◌, ◌≤◌, vec_len, vec_capacity}
use Rattle.ib_core.specs.declared.actor.Actor.{Actor}
use Rattle.ib_core.specs.declared.session.Session.{Session}
use Rattle.ib_core.specs.Sessions.{holdings}

-- the session that an actor is
abbrev pub session_of : Actor → Session
session_of a = record { held = a.held.items; phase = a.phase }

-- there is room for a first holding on the latch
pub record HasRoom (l : ℕ) (a : Actor) : Type 0 where
  pub room : holdings l (session_of a) ≡ 0 → vec_len a.held < vec_capacity a.held

-- there is room for as many holdings as there are latches, and none is of another latch
pub record HasRoomFor (latches : ℕ) (a : Actor) : Type 0 where
  pub room : latches ≤ vec_capacity a.held
  pub within : (l : ℕ) → latches ≤ l → holdings l (session_of a) ≡ 0
