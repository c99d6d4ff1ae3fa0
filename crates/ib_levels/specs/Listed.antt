-- Lists of what a session holds, of things on a latch at a level, and the answer to a request
-- beside them.
use Rattle.std.specs.Prelude.{◌≡◌, ◌↔◌, ◌⊎◌, ◌++◌, ◌∷◌, [], ℕ, Bool, true, false, IsTrue, List, map, ◌==◌, Option, Some, None, Result, Ok, Err, IsOk}
use Rattle.std.specs.List.{list_any}
use Rattle.ib_levels.specs.declared.level.Level.{Level}
use Rattle.ib_levels.specs.declared.listed.Against.{Against}
use Rattle.ib_levels.specs.Level.{IsOrderly, MayFollowAll, first_against}

-- the levels along a list, in order of taking
abbrev pub levels_along : {A : Type 0} → (A → Level) → List A → List Level
levels_along level_of held = map level_of held

-- whether the latch with this number is among those of a list
abbrev pub is_among : {A : Type 0} → (A → ℕ) → ℕ → List A → Bool
is_among latch_of latch held = list_any (λ h. latch_of h == latch) held

-- the answer where this is the first level that forbids the request
abbrev pub refused_by : Level → Option Level → Result (Unit {0}) Against
refused_by wanted None = Ok tt
refused_by wanted (Some held) = Err (record { held = held; wanted = wanted })

-- the answer to a request at the level wanted: a latch that is held already is exempt
abbrev pub answer_to : Bool → Level → List Level → Result (Unit {0}) Against
answer_to true wanted levels = Ok tt
answer_to false wanted levels = refused_by wanted (first_against wanted levels)

-- what a request at this level is answered beside these levels, where the latch is held already or
-- not. Of an orderly list: it is allowed where the latch is held, or the list stays orderly with it.
pub record Allows (is_held : Bool) (wanted : Level) (levels : List Level) (result : Result (Unit {0}) Against) : Type 0 where
  pub answer : result ≡ answer_to is_held wanted levels
  pub ok : IsOk result ↔ (IsTrue is_held ⊎ MayFollowAll wanted levels)
  pub orderly : IsOrderly levels → (IsOk result ↔ (IsTrue is_held ⊎ IsOrderly (levels ++ wanted ∷ [])))
