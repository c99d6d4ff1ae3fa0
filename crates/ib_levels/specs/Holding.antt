-- Holdings: what a session has on each of its latches, in order of taking.
use Rattle.std.specs.Prelude.{ℕ, zero, suc, Bool, not, cond, List, map, filter, ◌==◌, sum_by}
use Rattle.ib_levels.specs.declared.level.Level.{Level}
use Rattle.ib_levels.specs.declared.level.Mode.{Mode}
use Rattle.ib_levels.specs.declared.level.Mode.TheVariants.{S, Sx, X}
use Rattle.ib_levels.specs.declared.held.Held.{Held}
use Rattle.ib_levels.specs.declared.holding.Holding.{Holding}
use Rattle.ib_levels.specs.Listed.{is_among, levels_along}

-- a holding by its latch's number, its level and its counts
abbrev pub hold : ℕ → Level → ℕ → ℕ → ℕ → Holding
hold latch level s sx x =
    record { latch = record { 0 = latch }; level = level; s = s; sx = sx; x = x }

-- the strongest mode of some grants of SX and X, S where there are none
abbrev pub strongest : ℕ → ℕ → Mode
strongest zero zero = S
strongest (suc sx) zero = Sx
strongest sx (suc x) = X

-- a holding as one element of a list of `Held`: its strongest mode, at its level
abbrev pub held_of : Holding → Held
held_of h = record { latch = h.latch; mode = strongest h.sx h.x; level = h.level }

-- the levels along a list, in order of taking
abbrev pub levels_of : List Holding → List Level
levels_of held = levels_along (λ h. h.level) held

-- whether the list has a holding on the latch with this number
abbrev pub is_held : ℕ → List Holding → Bool
is_held latch held = is_among (λ h. h.latch.0) latch held

-- f of what is held on the latch, 0 where nothing is
abbrev pub on : ℕ → (Holding → ℕ) → List Holding → ℕ
on latch f held = sum_by (λ h. cond (h.latch.0 == latch) (f h) 0) held

-- the list with nothing on the latch
abbrev pub without_latch : ℕ → List Holding → List Holding
without_latch latch held = filter (λ h. not (h.latch.0 == latch)) held

-- the list in which f changed what is held on the latch
abbrev pub changed_on : ℕ → (Holding → Holding) → List Holding → List Holding
changed_on latch f held = map (λ h. cond (h.latch.0 == latch) (f h) h) held
