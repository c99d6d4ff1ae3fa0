-- What a session owes: each raise of a generation, made or to come, is paid by a grant.
use Rattle.std.specs.Prelude.{◌≢◌, ℕ, ◌+◌, ◌≤◌, cond, ◌==◌, Option, Some, None}
use Rattle.ib_levels.specs.declared.level.Mode.{Mode}
use Rattle.ib_levels.specs.declared.level.Mode.TheVariants.{S as ModeS, Sx as ModeSx, X as ModeX}
use Rattle.ib_core.specs.declared.phase.Phase.{Phase}
use Rattle.ib_core.specs.declared.phase.Phase.TheVariants.{Free, Flagged, OwesLook, OwesClear, OwesRaise, OwesRaiseEx}
use Rattle.ib_core.specs.declared.event.Event.{Event}
use Rattle.ib_core.specs.declared.event.Event.TheVariants.{S, Sx, X, Again}
use Rattle.ib_core.specs.declared.event.Answer.{Answer}
use Rattle.ib_core.specs.declared.event.Answer.TheVariants.{Granted, Reserved}
use Rattle.ib_core.specs.declared.session.Session.{Session}
use Rattle.ib_core.specs.declared.session.Marks.{Marks}
use Rattle.ib_core.specs.Sessions.{grants}
use Rattle.ib_core.specs.Responses.{Turn, latch_of}

-- a raise that the session owes on the latch, or may come to owe
abbrev pub owing : ℕ → Phase → ℕ
owing l (OwesLook k) = cond (k == l) 1 0
owing l (OwesClear k) = cond (k == l) 1 0
owing l (OwesRaise k) = cond (k == l) 1 0
owing l (OwesRaiseEx k) = cond (k == l) 1 0
owing l _ = 0

-- what a session owes on a latch: a raise for each grant held, and those owed
abbrev pub debt : ℕ → Session → ℕ
debt l a = grants l a + owing l a.phase

-- the raises made on a latch, of both generations
abbrev pub raises : Marks → ℕ
raises m = m.generation + m.ex_generation

-- the mode for which an event is a wish, in this phase
abbrev pub wish_of : Phase → Event → Option Mode
wish_of (Flagged l mode v g) (Again k) = Some mode
wish_of Free (S l v) = Some ModeS
wish_of Free (Sx l v) = Some ModeSx
wish_of Free (X l v) = Some ModeX
wish_of _ _ = None

-- the wish that came true, where the answer says so, and how many grants that is
abbrev pub won : Answer → Option Mode → Option Mode
won Granted wish = wish
won Reserved wish = wish
won _ wish = None

abbrev pub grants_won : Option Mode → ℕ
grants_won None = 0
grants_won (Some mode) = 1

-- a turn pays its raises: on its own latch they and the debt after it are no more than the debt
-- before it and the grant it took, and on each other latch the session owes no more than before
pub record PaysFor (e : Event) (a : Session) (m : Marks) (turn : Turn) : Type 0 where
  pub here : debt (latch_of e) turn.session + raises turn.marks
      ≤ debt (latch_of e) a + raises m + grants_won (won turn.answer (wish_of a.phase e))
  pub grants : grants (latch_of e) turn.session
      ≤ grants (latch_of e) a + grants_won (won turn.answer (wish_of a.phase e))
  pub away : (l : ℕ) → latch_of e ≢ l → debt l turn.session ≤ debt l a
