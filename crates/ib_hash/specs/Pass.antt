-- What contracts see of a pass on guesses, and how its fields stand for that.
use Rattle.std.specs.Prelude.{◌≡◌, ℕ, []}
use Rattle.atomic_table.specs.Seated.{TableId}
use Rattle.ib_hash.specs.declared.pass.GuessPass.TheInside.{Inside}
use Rattle.ib_hash.specs.declared.view.GuessSteps.{GuessSteps}
use Rattle.ib_hash.specs.Rule.{looking, storing}

-- a pass: the table from which it was drawn, and its steps
pub record GuessPassState : Type 0 where
  pub table : TableId
  pub steps : GuessSteps

abbrev pub guess_pass_state : Inside → GuessPassState
guess_pass_state p = record { table = p.seat.table_id; steps = p.seat.me.0 }

-- the fields mirror the view of the seat
pub record IsGuessPass (p : Inside) : Type 0 where
  pub plain : p.seat.me.1 ≡ []
  pub looked : p.looked ≡ p.seat.me.0.looked
  pub stored : p.stored ≡ p.seat.me.0.stored

-- the pass after a load, and after a store
abbrev pub looked_at : ℕ → ℕ → GuessPassState → GuessPassState
looked_at slot word p = record p { steps = looking slot word p.steps }

abbrev pub stored_at : ℕ → ℕ → GuessPassState → GuessPassState
stored_at slot word p = record p { steps = storing slot word p.steps }
