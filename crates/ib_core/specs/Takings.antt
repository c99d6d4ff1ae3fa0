-- The events that take and give back grants, of a session in the middle of nothing.
use Rattle.std.specs.Prelude.{ℕ, ◌+◌, ◌-◌, Bool, if◌then◌else◌, nat_lt, ◌==◌, List, [], ◌∷◌, ◌++◌, ℤ, pos, ◌+ℤ◌, ◌-ℤ◌, Result, Ok, Err, find}
use Rattle.std.specs.Option.{option_map_or}
use Rattle.ib_word.specs.declared.word.TheConstants.{X_LOCK_DECR, X_LOCK_HALF_DECR}
use Rattle.ib_levels.specs.declared.level.Level.{Level}
use Rattle.ib_levels.specs.declared.level.Mode.{Mode}
use Rattle.ib_levels.specs.declared.level.Mode.TheVariants.{S as ModeS, Sx as ModeSx, X as ModeX}
use Rattle.ib_levels.specs.declared.listed.Against.{Against as LevelsAgainst}
use Rattle.ib_levels.specs.declared.holding.Holding.{Holding}
use Rattle.ib_levels.specs.Listed.{answer_to}
use Rattle.ib_levels.specs.Holding.{hold, is_held, levels_of, without_latch, changed_on}
use Rattle.ib_core.specs.declared.phase.Phase.{Phase}
use Rattle.ib_core.specs.declared.phase.Phase.TheVariants.{Free, Next, OwesLook, OwesRaiseEx}
use Rattle.ib_core.specs.declared.event.Event.{Event}
use Rattle.ib_core.specs.declared.event.Event.TheVariants.{S, Sx, X}
use Rattle.ib_core.specs.declared.event.Answer.TheVariants.{Granted, Reserved, Busy, Released}
use Rattle.ib_core.specs.declared.event.Refusal.TheVariants.{HeldAlready, NotHeld, Against}
use Rattle.ib_core.specs.declared.session.Session.{Session}
use Rattle.ib_core.specs.Sessions.{reads, sx_grants, x_grants, claims}
use Rattle.ib_word.specs.Word.{is_drained}
use Rattle.ib_core.specs.Responses.{Response, response, refused, is_above_0, is_above_half}

-- the response where the order of levels allows it
abbrev pub if_allowed : Result (Unit {0}) LevelsAgainst → Session → Response → Response
if_allowed (Ok allowed) a r = r
if_allowed (Err against) a r = refused (Against against.held against.wanted) a

-- .. where it allows the session the latch at the level
abbrev pub where_allowed : ℕ → Level → Session → Response → Response
where_allowed l v a r = if_allowed (answer_to (is_held l a.held) v (levels_of a.held)) a r

-- the grants of the mode that a holding has, one more of them, and one fewer
abbrev pub count_of : Mode → Holding → ℕ
count_of ModeS h = h.s
count_of ModeSx h = h.sx
count_of ModeX h = h.x

abbrev pub one_more : Mode → Holding → Holding
one_more ModeS h = record h { s = h.s + 1 }
one_more ModeSx h = record h { sx = h.sx + 1 }
one_more ModeX h = record h { x = h.x + 1 }

abbrev pub one_fewer : Mode → Holding → Holding
one_fewer ModeS h = record h { s = h.s - 1 }
one_fewer ModeSx h = record h { sx = h.sx - 1 }
one_fewer ModeX h = record h { x = h.x - 1 }

-- a first grant on the latch, and what is held with it
abbrev pub first_holding : Mode → ℕ → Level → Holding
first_holding mode l v = one_more mode (hold l v 0 0 0)

abbrev pub holding_too : Mode → ℕ → Level → List Holding → List Holding
holding_too mode l v held = held ++ first_holding mode l v ∷ []

-- what is held after a grant of SX or X went: nothing on the latch, where it was the last one
abbrev pub given_back : Mode → ℕ → Session → List Holding
given_back mode l a =
    if claims l a == 1 then without_latch l a.held
    else changed_on l (one_fewer mode) a.held

-- the level at which the latch was taken first, and the level given where it is not held
abbrev pub level_on : ℕ → Level → List Holding → Level
level_on l v held = option_map_or (λ h. h.level) (find (λ h. h.latch.0 == l) held) v

-- the word refuses the wish
abbrev pub busy : ℤ → List Holding → Phase → Response
busy w held phase = response (Busy (record { 0 = w })) held phase

-- X is owned at once where this is the word after it, and else the session is the next writer
abbrev pub reserving : ℕ → Level → ℤ → List Holding → Response
reserving l v w held =
    if is_drained w then response Granted held Free
    else response Reserved held (Next l v)

-- a first grant of the mode is given at this word, and takes this much off it
abbrev pub is_given_at : Mode → ℤ → Bool
is_given_at ModeS w = is_above_0 w
is_given_at ModeSx w = is_above_half w
is_given_at ModeX w = is_above_half w

abbrev pub first_weight : Mode → ℕ
first_weight ModeS = 1
first_weight ModeSx = X_LOCK_HALF_DECR
first_weight ModeX = X_LOCK_DECR

-- the response to a first grant of the mode that left this word
abbrev pub first_response : Mode → ℕ → Level → ℤ → List Holding → Response
first_response ModeS l v w held = response Granted held Free
first_response ModeSx l v w held = response Granted held Free
first_response ModeX l v w held = reserving l v w held

-- a wish of a session with nothing on the latch. Where the word refuses it, the phase is as given
abbrev pub first : Mode → ℕ → Level → Phase → ℤ → List Holding → Response
first mode l v waiting w held =
    if is_given_at mode w then
    first_response mode l v (w -ℤ pos (first_weight mode)) (holding_too mode l v held)
    else busy w held waiting

-- the owner of SX wishes for X
abbrev pub upgrade : ℕ → Level → ℤ → List Holding → Response
upgrade l v w held =
    if is_above_0 w then
    reserving l (level_on l v held) (w -ℤ pos X_LOCK_DECR) (changed_on l (one_more ModeX) held)
    else busy w held Free

-- the takings: of S where nothing is held on the latch, of SX and X where S is not
abbrev pub taking_s : ℕ → Level → ℤ → Session → Response
taking_s l v w a =
    if is_held l a.held then refused HeldAlready a
    else where_allowed l v a (first ModeS l v Free w a.held)

abbrev pub taking_sx : ℕ → Level → ℤ → Session → Response
taking_sx l v w a =
    if nat_lt 0 (reads l a) then refused HeldAlready a
    else where_allowed l v a (
    if nat_lt 0 (claims l a) then response Granted (changed_on l (one_more ModeSx) a.held) Free
    else first ModeSx l v Free w a.held)

abbrev pub taking_x : ℕ → Level → ℤ → Session → Response
taking_x l v w a =
    if nat_lt 0 (reads l a) then refused HeldAlready a
    else where_allowed l v a (
    if nat_lt 0 (x_grants l a) then response Granted (changed_on l (one_more ModeX) a.held) Free
    else if nat_lt 0 (sx_grants l a) then upgrade l v w a.held
    else first ModeX l v Free w a.held)

-- the event of a first wish for a grant of the mode
abbrev pub wish : Mode → ℕ → Level → Event
wish ModeS l v = S l v
wish ModeSx l v = Sx l v
wish ModeX l v = X l v

-- what is owed by a release of S that left this word, and by one of SX or X
abbrev pub owed_by_s : ℕ → ℤ → Phase
owed_by_s l w = if is_drained w then OwesRaiseEx l else Free

abbrev pub owed_where : Bool → ℕ → Phase
owed_where last l = if last then OwesLook l else Free

-- the releases: of S, of SX, whose last owes a look where no X is left, and of X, whose last does
abbrev pub giving_s : ℕ → ℤ → Session → Response
giving_s l w a =
    if nat_lt 0 (reads l a) then response Released (without_latch l a.held) (owed_by_s l (w +ℤ pos 1))
    else refused NotHeld a

abbrev pub giving_sx : ℕ → Session → Response
giving_sx l a =
    if nat_lt 0 (sx_grants l a) then
    response Released (given_back ModeSx l a) (owed_where (claims l a == 1) l)
    else refused NotHeld a

abbrev pub giving_x : ℕ → Session → Response
giving_x l a =
    if nat_lt 0 (x_grants l a) then
    response Released (given_back ModeX l a) (owed_where (x_grants l a == 1) l)
    else refused NotHeld a
