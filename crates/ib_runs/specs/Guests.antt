-- Sessions beside those of a script, which change nothing.
use Rattle.std.specs.Prelude.{◌≡◌, ℕ, ◌+◌, ⊤, List, [], ◌∷◌, length, map}
use Rattle.std.specs.List.{AllByRecursion}
use Rattle.ib_rule.specs.declared.view.Role.TheVariants.{Session}
use Rattle.ib_logrec.specs.declared.entry.Entry.{Entry}
use Rattle.ib_rule.specs.Memory.{EndedFact}
use Rattle.ib_rule.specs.Pass.{PassState, IsAtRest}
use Rattle.ib_rule.specs.Space.{SpaceState}
use Rattle.ib_rule.specs.Views.{ended_as, seated}

-- the session of this number, which has done nothing yet
pub record IsNewGuest (n : ℕ) (p : PassState) : Type 0 where
  pub number : p.number ≡ n
  pub view : p.view ≡ seated (Session n)

-- the session of this number, which has changed nothing
pub record IsGuest (n : ℕ) (p : PassState) : Type 0 where
  pub number : p.number ≡ n
  pub role : p.view.role ≡ Session n
  pub unchanged : p.view.memory.own ≡ []

-- the numbers go up from n
abbrev pub AreNewGuests : ℕ → List PassState → Type 0
AreNewGuests n [] = ⊤
AreNewGuests n (p ∷ ps) = IsNewGuest n p × AreNewGuests (n + 1) ps

abbrev pub AreGuests : ℕ → List PassState → Type 0
AreGuests n [] = ⊤
AreGuests n (p ∷ ps) = IsGuest n p × AreGuests (n + 1) ps

-- they may work on a space, which is one that they serve
pub record MayWork (serves : Type 0) (space : SpaceState) (ps : List PassState) : Type 0 where
  pub served : serves
  pub rest : AllByRecursion (IsAtRest space) ps
  pub new : (n : ℕ) × AreNewGuests n ps

-- .. and have worked: they are as many, hold nothing, and have changed nothing; and what they brought holds of each log of which what they saw is a front
pub record HaveWorked (served serves : ℕ → Type 0) (holds : List Entry → Type 0) (space : SpaceState) (ps qs : List PassState) : Type 0 where
  pub still : (pages : ℕ) → served pages → serves pages
  pub count : length qs ≡ length ps
  pub rest : AllByRecursion (IsAtRest space) qs
  pub guests : (n : ℕ) → AreNewGuests n ps → AreGuests n qs
  pub brought : (log : List Entry) → AllByRecursion (EndedFact log) (map (λ p. ended_as p.view) qs) → holds log
