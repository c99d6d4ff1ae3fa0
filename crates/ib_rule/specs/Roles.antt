-- Who a seat is, and what the sessions drawn are by the roles of all seats.
use Rattle.std.specs.Prelude.{◌≡◌, ℕ, ◌+◌, ◌≤◌, ◌==◌, cond, nat_lt, List, [], ◌∷◌, length, sum_by}
use Rattle.ib_rule.specs.declared.view.Ended.{Ended}
use Rattle.ib_rule.specs.declared.view.Role.{Role}
use Rattle.ib_rule.specs.declared.view.Role.TheVariants.{Space, Fresh, Session}

-- 1 for a session, and 1 for the space's own seat
abbrev pub live : Role → ℕ
live (Session n) = 1
live _ = 0

abbrev pub is_space : Role → ℕ
is_space (Space drawn ended) = 1
is_space _ = 0

-- the number of a session
abbrev pub session_number_of : Role → ℕ
session_number_of (Fresh n) = n
session_number_of (Session n) = n
session_number_of _ = 0

-- how many sessions the space's seat drew, and those that have ended
abbrev pub drawn_in : Role → ℕ
drawn_in (Space drawn ended) = drawn
drawn_in _ = 0

abbrev pub ended_in : Role → List Ended
ended_in (Space drawn ended) = ended
ended_in _ = []

-- how many sessions stand in a role, ended ones among them
abbrev pub sessions_in : Role → ℕ
sessions_in (Space drawn ended) = length ended
sessions_in (Fresh n) = 1
sessions_in (Session n) = 1
sessions_in _ = 0

-- 1 for a session that is not counted yet
abbrev pub uncounted : Role → ℕ
uncounted (Fresh n) = 1
uncounted _ = 0

-- how often a role bears a number
abbrev pub bears : ℕ → Role → ℕ
bears n (Space drawn ended) = sum_by (λ e. cond (e.number == n) 1 0) ended
bears n (Fresh m) = cond (m == n) 1 0
bears n (Session m) = cond (m == n) 1 0
bears n _ = 0

-- 1 for a number that was drawn: from 1 on, up to how many were
abbrev pub is_drawn : ℕ → ℕ → ℕ
is_drawn n drawn = cond (nat_lt 0 n) (cond (nat_lt drawn n) 0 1) 0

-- the sessions part of the rule: the word counts the sessions drawn, of which there are at most
-- 1,024, there is one space, and each number drawn is borne once, by a session or an ended one
pub record SessionsPart (word : ℕ) (roles : List Role) : Type 0 where
  pub one_space : sum_by is_space roles ≡ 1
  pub counted : word + sum_by uncounted roles ≡ sum_by drawn_in roles
  pub all_stand : sum_by sessions_in roles ≡ sum_by drawn_in roles
  pub few : sum_by drawn_in roles ≤ 1024
  pub numbered : (n : ℕ) → sum_by (bears n) roles ≡ is_drawn n (sum_by drawn_in roles)

-- a number drawn, a session counted, and one that ends
abbrev pub drawn_more : Role → Role
drawn_more (Space drawn ended) = Space (drawn + 1) ended
drawn_more r = r

abbrev pub entered : Role → Role
entered (Fresh n) = Session n
entered r = r

abbrev pub ended_more : Ended → Role → Role
ended_more e (Space drawn ended) = Space drawn (e ∷ ended)
ended_more e r = r
