-- What a release leaves.
use Rattle.std.specs.Prelude.{◌≡◌, ◌⊎◌, ℕ, ◌+◌, nat_lt, if◌then◌else◌, List, ◌∷◌}
use Rattle.ib_levels.specs.declared.holding.Holding.{Holding}
use Rattle.ib_core.specs.declared.latch_word.LatchWord.{LatchWord}
use Rattle.ib_core.specs.declared.phase.Phase.TheVariants.{Free}
use Rattle.ib_core.specs.declared.session.Session.{Session}
use Rattle.ib_core.specs.Sessions.{sx_grants}
use Rattle.ib_rule.specs.declared.looks.Raise.{Raise}
use Rattle.ib_rule.specs.Afterwards.{phased}
use Rattle.ib_rule.specs.Pass.{PassState, raising_as, with_view}
use Rattle.ib_rule.specs.Views.{left_as, with_looks}

-- of these raises at most one is new, and it is of the latch
abbrev pub RaisesOnce : ℕ → List Raise → List Raise → Type 0
RaisesOnce l old new = (new ≡ old) ⊎ ((word : LatchWord) × (now : ℕ) × (new ≡ record { latch = l; word = word; now = now } ∷ old))

-- what a release on the latch owes was paid: nothing else is changed
pub record IsPaidOff (l : ℕ) (p q : PassState) : Type 0 where
  pub rest : q ≡ raising_as q (with_view p (phased Free p.view))
  pub raises : RaisesOnce l p.view.looks.raises q.view.looks.raises

-- a grant on the latch was given back: this is held, nothing is owed, and so many steps more were made on lock words, none of them a look, and none as one that waits. Those that a release owes on the flag and a generation are as many as the words that it finds ask for, and the raise among them, if there was one, is told
pub record IsReleased (steps l : ℕ) (held : List Holding) (p q : PassState) : Type 0 where
  pub rest : q ≡ raising_as q (with_view p (with_looks (record p.view.looks { steps = p.view.looks.steps + steps }) (left_as l (record { held = held; phase = Free }) p.view)))
  pub raises : RaisesOnce l p.view.looks.raises q.view.looks.raises

-- the steps on the lock word that giving SX back takes: none where more of it is left, since the writer is looked at then
abbrev pub sx_steps : ℕ → Session → ℕ
sx_steps l a = if nat_lt 1 (sx_grants l a) then 0 else 1
