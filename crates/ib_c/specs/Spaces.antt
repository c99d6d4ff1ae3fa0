-- What the calls on a space's handle come to.
use Rattle.std.specs.Prelude.{Bool, ◌≡◌, ◌⊎◌, ℕ, ◌+◌, ◌<◌, ◌++◌, true, false, [], ◌∷◌, length, Result, Ok, Err}
use Rattle.ib_map.specs.Space.{has_pages}
use Rattle.ib_layout.specs.Geometry.{Sizes, has_log}
use Rattle.ib_logrec.specs.declared.entry.TheConstants.{MOST_SESSIONS}
use Rattle.ib_rule.specs.Pass.{IsAtRest, IsFrom}
use Rattle.ib_c.specs.declared.status.Status.{Status}
use Rattle.ib_c.specs.declared.status.Status.TheVariants.{Done, BadLog, BadPages, BadSessions, Connected, InCall, NoSessionLeft, NotAllowed, NotConnected, OutOfMemory, WrongState}
use Rattle.ib_c.specs.declared.space.Space.{Space}
use Rattle.ib_c.specs.declared.space.Space.TheVariants.{Open, Closed, Gone}
use Rattle.ib_tree.specs.TreeLog.{opening}
use Rattle.ib_planned_log.specs.Kept.{IsKeptLog}
use Rattle.ib_rule.specs.Closed.{HasClosed}
use Rattle.ib_rule.specs.Connects.{IsDeserted}
use Rattle.ib_rule.specs.Space.{SpaceState}
use Rattle.ib_c.specs.SessionState.{SessionState}
use Rattle.ib_c.specs.SpaceStates.{AreAtRest, AreUnused, IsWhole, OpenState, ended_with}

-- a space was opened, with these sizes: so many passes were drawn, numbered from 1 on, nobody has used one, and no session has ended
pub record IsOpened (sizes : Sizes) (sessions : ℕ) (s : OpenState) : Type 0 where
  pub sizes_are : s.space.sizes ≡ sizes
  pub drawn : s.space.drawn ≡ sessions
  pub ended : s.space.ended ≡ []
  pub pool : length s.pool ≡ sessions
  pub rest : AreAtRest s.space s.pool
  pub unused : AreUnused 1 s.pool

-- .. or the first of its sizes that is wrong is told, or memory lacks
abbrev pub HasOpened : ℕ → ℕ → ℕ → Result OpenState Status → Type 0
HasOpened pages log_words sessions (Ok s) = IsOpened (record { pages = pages; log_words = log_words }) sessions s
HasOpened pages log_words sessions (Err BadSessions) = (sessions ≡ 0) ⊎ (MOST_SESSIONS < sessions)
HasOpened pages log_words sessions (Err BadPages) = has_pages pages ≡ false
HasOpened pages log_words sessions (Err BadLog) = (has_pages pages ≡ true) × (has_log log_words ≡ false)
HasOpened pages log_words sessions (Err OutOfMemory) = Unit {0}
HasOpened pages log_words sessions (Err other) = ⊥

-- the last pass of the pool was given to a session
pub record HasConnected (s : OpenState) (session : SessionState) (t : OpenState) : Type 0 where
  pub shared : session.space ≡ s.space
  pub space : t.space ≡ s.space
  pub pool : s.pool ≡ t.pool ++ session.pass ∷ []

-- .. or why not: there is none, or there is one and memory lacks
abbrev pub IsRefusedStart : OpenState → Status → Type 0
IsRefusedStart s NoSessionLeft = s.pool ≡ []
IsRefusedStart s OutOfMemory = 0 < length s.pool
IsRefusedStart s other = ⊥

-- a session does not end: it is not at rest, or all passes that were drawn and have not ended are in the pool already
abbrev pub IsRefusedEnd : OpenState → SessionState → Status → Type 0
IsRefusedEnd s session NotAllowed = ¬ IsAtRest session.space session.pass
IsRefusedEnd s session NotConnected = IsAtRest session.space session.pass × IsWhole s.space s.pool
IsRefusedEnd s session other = ⊥

-- .. or is at rest, and its pass went into the pool, which had fewer
pub record HasDisconnected (s : OpenState) (session : SessionState) (t : OpenState) : Type 0 where
  pub rest : IsAtRest session.space session.pass
  pub fewer : length s.space.ended + length s.pool < s.space.drawn
  pub space : t.space ≡ s.space
  pub pool : t.pool ≡ s.pool ++ session.pass ∷ []

-- an open space, whose pool was whole, has become the space that sessions shared, in which nobody is connected any more: the sessions of the pool have ended, as they were
pub record HasEnded (s : OpenState) (space : SpaceState) : Type 0 where
  pub whole : IsWhole s.space s.pool
  pub same : space ≡ ended_with s.pool s.space
  pub none : IsDeserted space

-- .. or it does not end: the pool has fewer passes than were drawn and have not ended; or it is whole, and a call on a session has not ended
abbrev pub IsNotEnded : OpenState → Status → Type 0
IsNotEnded s Connected = length s.space.ended + length s.pool < s.space.drawn
IsNotEnded s InCall = IsWhole s.space s.pool
IsNotEnded s other = ⊥

-- a space is open
abbrev pub is_open : Space → Bool
is_open (Open s) = true
is_open (Closed c) = false
is_open Gone = false

-- an open space was closed, with the words of a lawful log, or it is as it was, with why
abbrev pub HasClosedOpen : OpenState → Status → Space → Type 0
HasClosedOpen s status (Closed c) = (status ≡ Done) × (space : SpaceState) × HasEnded s space × HasClosed IsKeptLog opening space c
HasClosedOpen s status (Open t) = (t ≡ s) × IsNotEnded s status
HasClosedOpen s status Gone = ⊥

abbrev pub HasClosedSpace : Space → Status → Space → Type 0
HasClosedSpace (Open s) status t = HasClosedOpen s status t
HasClosedSpace (Closed c) status t = (status ≡ WrongState) × (t ≡ Closed c)
HasClosedSpace Gone status t = (status ≡ WrongState) × (t ≡ Gone)

-- a session came to an open space, or why not
abbrev pub HasConnectedTo : Space → SessionState → Space → Type 0
HasConnectedTo (Open s) session (Open t) = HasConnected s session t
HasConnectedTo s session t = ⊥

abbrev pub IsNotConnected : Space → Status → Type 0
IsNotConnected (Open s) status = IsRefusedStart s status
IsNotConnected s status = status ≡ WrongState

-- the session is one of this space
abbrev pub IsFromSpace : Space → SessionState → Type 0
IsFromSpace (Open s) session = IsFrom s.space session.pass
IsFromSpace s session = Unit {0}

-- .. and went, or why not
abbrev pub HasDisconnectedFrom : Space → SessionState → Space → Type 0
HasDisconnectedFrom (Open s) session (Open t) = HasDisconnected s session t
HasDisconnectedFrom s session t = ⊥

abbrev pub IsNotDisconnected : Space → SessionState → Status → Type 0
IsNotDisconnected (Open s) session status = IsRefusedEnd s session status
IsNotDisconnected s session status = status ≡ WrongState
