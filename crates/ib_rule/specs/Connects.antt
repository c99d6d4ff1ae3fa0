-- A space that was opened, a session that connects, or is refused, one that goes, and two that meet.
use Rattle.std.specs.Prelude.{◌≡◌, ◌↔◌, ℕ, ◌+◌, ◌≤◌, true, List, [], ◌∷◌, length, Result, Err, IfOk, IfErr}
use mathlib.Core.List.{IsPrefix}
use Rattle.ib_layout.specs.Geometry.{Sizes}
use Rattle.ib_logrec.specs.declared.entry.Entry.{Entry}
use Rattle.ib_rule.specs.declared.space.ConnectFault.{ConnectFault}
use Rattle.ib_rule.specs.declared.space.ConnectFault.TheVariants.{TooManySessions}
use Rattle.ib_rule.specs.declared.view.Role.TheVariants.{Session}
use Rattle.ib_rule.specs.Pass.{PassState, IsOf, with_view}
use Rattle.ib_rule.specs.Space.{SpaceState}
use Rattle.ib_rule.specs.Stores.{IsLook}
use Rattle.ib_rule.specs.Views.{ended_as, longer, seated, seeing}

-- a new space of these sizes: nobody has come to it yet
abbrev pub IsNew : Sizes → SpaceState → Type 0
IsNew sizes s = s ≡ record { table = s.table; sizes = sizes; drawn = 0; ended = [] }

-- nobody is connected: each session that was drawn has ended
abbrev pub IsDeserted : SpaceState → Type 0
IsDeserted s = length s.ended ≡ s.drawn

-- the next number was drawn, and its pass has seen, holds and was granted nothing; or the call was refused, which changes nothing: as too many sessions, exactly where 1,024 were drawn
pub record HasConnected (old new : SpaceState) (result : Result PassState ConnectFault) : Type 0 where
  pub pass : IfOk result (λ p. IsOf old p × (p.number ≡ old.drawn + 1) × (p.view ≡ seated (Session (old.drawn + 1))) × (p.has_scratch ≡ true))
  pub drawn : IfOk result (λ p. new ≡ record old { drawn = old.drawn + 1 })
  pub err : IfErr result (λ e. new ≡ old)
  pub full : (result ≡ Err (TooManySessions 1024)) ↔ (old.drawn ≡ 1024)
  pub told : (n : ℕ) → result ≡ Err (TooManySessions n) → n ≡ 1024
  pub few : old.drawn ≤ 1024

-- the session of this pass has ended, and what it has seen and made is kept
abbrev pub HasDisconnected : SpaceState → PassState → SpaceState → Type 0
HasDisconnected old pass new = new ≡ record old { ended = ended_as pass.view ∷ old.ended }

-- one session met another: it has seen the longer of two lists of which both are fronts, and of what it had not seen it is told what a look at the log's end tells. Nothing is changed of the other
pub record HasMet (sizes : Sizes) (lawful : List Entry → Type 0) (to from after from_after : PassState) : Type 0 where
  pub other : from_after ≡ from
  pub same : after ≡ with_view to (seeing (longer to.view.memory.seen from.view.memory.seen) to.view)
  pub looked : IsLook sizes lawful to.view after.view.memory.seen
  pub theirs : IsPrefix from.view.memory.seen after.view.memory.seen
