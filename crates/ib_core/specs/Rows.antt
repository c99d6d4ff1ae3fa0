-- What a row of the table asks of an actor and of its latch's words, and what it leaves of them.
use Rattle.std.specs.Prelude.{◌≡◌, ℕ, ◌+◌, ◌^◌, ◌<◌, ◌≤◌, ℤ, vec_capacity}
use Rattle.ib_core.specs.declared.actor.Actor.{Actor}
use Rattle.ib_core.specs.declared.event.Answer.{Answer}
use Rattle.ib_core.specs.declared.event.Event.{Event}
use Rattle.ib_core.specs.declared.holdings.Counts.{Counts}
use Rattle.ib_core.specs.declared.phase.Phase.TheVariants.{Free}
use Rattle.ib_core.specs.declared.session.Marks.{Marks}
use Rattle.ib_core.specs.declared.session.Session.{Session}
use Rattle.ib_core.specs.Actor.{HasRoom, session_of}
use Rattle.ib_core.specs.Member.{CanStep, SameSum}
use Rattle.ib_core.specs.Responses.{Response, answered, latch_of}
use Rattle.ib_core.specs.Sessions.{claims, grants, reads, sx_grants, x_grants}
use Rattle.ib_core.specs.Table.{marks_after, response_of}

-- these are the session's grants on the latch, by mode, and their sums
pub record AreGrants (l : ℕ) (session : Session) (counts : Counts) : Type 0 where
  pub s : counts.s ≡ reads l session
  pub sx : counts.sx ≡ sx_grants l session
  pub x : counts.x ≡ x_grants l session
  pub claims : counts.sx + counts.x ≡ claims l session
  pub all : counts.s + (counts.sx + counts.x) ≡ grants l session

-- a session in the middle of nothing may take the latch: no step leaves the numbers of 32 bits, and
-- there is room for a first holding
pub record MayBegin (l : ℕ) (w : ℤ) (a : Actor) : Type 0 where
  pub can : CanStep l w (session_of a)
  pub free : a.phase ≡ Free
  pub room : HasRoom l a

-- the word moves by what the session takes off it, and the session's list has as much room
pub record HasMoved (l : ℕ) (w : ℤ) (a : Actor) (w' : ℤ) (a' : Actor) : Type 0 where
  pub weighs : SameSum l w (session_of a) w' (session_of a')
  pub capacity : vec_capacity a.held ≤ vec_capacity a'.held

-- a session in the middle of nothing may give a grant of the latch back
pub record MayGive (l : ℕ) (w : ℤ) (a : Actor) : Type 0 where
  pub can : CanStep l w (session_of a)
  pub free : a.phase ≡ Free

-- an event may come, in any phase: besides, no generation leaves the numbers of 64 bits
pub record MayTurn (event : Event) (w : ℤ) (m : Marks) (a : Actor) : Type 0 where
  pub can : CanStep (latch_of event) w (session_of a)
  pub room : HasRoom (latch_of event) a
  pub generation : m.generation + 1 < 2 ^ 64
  pub ex_generation : m.ex_generation + 1 < 2 ^ 64

-- the event is answered, and leaves session, marks and word, as its row of the table says
pub record HasTurned (event : Event) (w : ℤ) (m : Marks) (a : Actor) (answer : Answer) (w' : ℤ) (m' : Marks) (a' : Actor) : Type 0 where
  pub responds : answered answer (session_of a') ≡ response_of w m event (session_of a)
  pub marks : m' ≡ marks_after a.phase event m
  pub moves : HasMoved (latch_of event) w a w' a'

-- the answer, and the session after it, are this response, and the word moves with what the session takes off it
pub record HasStepped (l : ℕ) (w : ℤ) (a : Actor) (answer : Answer) (w' : ℤ) (a' : Actor) (response : Response) : Type 0 where
  pub responds : answered answer (session_of a') ≡ response
  pub moves : HasMoved l w a w' a'

-- the answer, and the session after it, are this response, and what the session holds is not touched
pub record HasResponded (a : Actor) (answer : Answer) (a' : Actor) (response : Response) : Type 0 where
  pub responds : answered answer (session_of a') ≡ response
  pub held : a'.held ≡ a.held
