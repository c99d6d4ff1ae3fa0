-- What the calls come to that only ask, and how C is told.
use Rattle.std.specs.Prelude.{◌≡◌, ◌≢◌, ℕ, ◌<◌, ◌≤◌, Result, Ok, Err, pos}
use Rattle.ib_word.specs.declared.word.LockWord.{LockWord}
use Rattle.ib_levels.specs.declared.level.Level.{Level}
use Rattle.ib_levels.specs.declared.level.Mode.{Mode}
use Rattle.ib_levels.specs.declared.level.Mode.TheVariants.{S, Sx, X}
use Rattle.ib_layout.specs.Places.{latches_of}
use Rattle.ib_core.specs.declared.phase.Phase.{Phase}
use Rattle.ib_core.specs.declared.phase.Phase.TheVariants.{Free, Armed, Flagged, Checked, Asleep, Next, NextArmed, NextChecked, NextAsleep, OwesLook, OwesClear, OwesRaise, OwesRaiseEx}
use Rattle.ib_core.specs.Holders.{CanWish}
use Rattle.ib_core.specs.Sessions.{reads, sx_grants, x_grants}
use Rattle.ib_latch.specs.Tries.{looked_at}
use Rattle.ib_rule.specs.declared.looks.Grants.{Grants}
use Rattle.ib_rule.specs.Conditions.{held_now}
use Rattle.ib_rule.specs.Pass.{PassState}
use Rattle.ib_rule.specs.Space.{SpaceState}
use Rattle.ib_c.specs.declared.status.Status.{Status}
use Rattle.ib_c.specs.declared.status.Status.TheVariants.{Done, BadLatch, BadMode, WrongPhase}
use Rattle.ib_c.specs.declared.readers.Counted.{Counted}
use Rattle.ib_c.specs.declared.readers.Held.{Held}
use Rattle.ib_c.specs.declared.readers.InPhase.{InPhase}
use Rattle.ib_c.specs.declared.readers.Looked.{Looked}
use Rattle.ib_c.specs.Statuses.{status_number}
use Rattle.ib_c.specs.Sessions.{Does}
use Rattle.ib_c.specs.Wishes.{Allowance, IsGrantedAt, IsRefusedFor, MayClaimNow, mode_number}

-- a lock word in C's words
abbrev pub told_word : Result LockWord Status → Looked
told_word (Err s) = record { status = status_number s; word = pos 0 }
told_word (Ok w) = record { status = status_number Done; word = w.0 }

-- a look at a lock word is refused: the space has no such latch, or the session is in the middle of something
abbrev pub IsRefusedLook : ℕ → SpaceState → PassState → Status → Type 0
IsRefusedLook l space p BadLatch = latches_of space.sizes ≤ l
IsRefusedLook l space p WrongPhase = p.view.session.phase ≢ Free
IsRefusedLook l space p other = ⊥

-- .. and changes nothing then, and else but the looks
abbrev pub IsLookAt : ℕ → SpaceState → PassState → Result LockWord Status → PassState → Type 0
IsLookAt l space p (Err s) q = IsRefusedLook l space p s × (q ≡ p)
IsLookAt l space p (Ok w) q = (l < latches_of space.sizes) × (p.view.session.phase ≡ Free) × (q ≡ looked_at l w p)

abbrev pub HasLookedAt : ℕ → Does Looked
HasLookedAt l space p r q = (answer : Result LockWord Status) × (r ≡ told_word answer) × IsLookAt l space p answer q

-- how many grants the session holds now, on all latches
abbrev pub told_held : Status → ℕ → Held
told_held s n = record { status = status_number s; grants = n }

abbrev pub HasToldHeld : Does Held
HasToldHeld space p r q = (r ≡ told_held Done (held_now p.view.session)) × (q ≡ p)

-- how many it holds of each mode on a latch
abbrev pub told_counts : Result Grants Status → Counted
told_counts (Err s) = record { status = status_number s; s = 0; sx = 0; x = 0 }
told_counts (Ok g) = record { status = status_number Done; s = g.s; sx = g.sx; x = g.x }

abbrev pub IsCount : ℕ → SpaceState → PassState → Result Grants Status → Type 0
IsCount l space p (Err BadLatch) = latches_of space.sizes ≤ l
IsCount l space p (Err other) = ⊥
IsCount l space p (Ok g) = (l < latches_of space.sizes) × (g.s ≡ reads l p.view.session) × (g.sx ≡ sx_grants l p.view.session) × (g.x ≡ x_grants l p.view.session)

abbrev pub HasCounted : ℕ → Does Counted
HasCounted l space p r q = (answer : Result Grants Status) × (r ≡ told_counts answer) × IsCount l space p answer × (q ≡ p)

-- the numbers of phases in C, and the latch that a phase is about, which is 0 for none
abbrev pub phase_number : Phase → ℕ
phase_number Free = 0
phase_number (Armed l m v g) = 1
phase_number (Flagged l m v g) = 2
phase_number (Checked l m v g) = 3
phase_number (Asleep l m v g) = 4
phase_number (Next l v) = 5
phase_number (NextArmed l v g) = 6
phase_number (NextChecked l v g) = 7
phase_number (NextAsleep l v g) = 8
phase_number (OwesLook l) = 9
phase_number (OwesClear l) = 10
phase_number (OwesRaise l) = 11
phase_number (OwesRaiseEx l) = 12

abbrev pub phase_latch : Phase → ℕ
phase_latch Free = 0
phase_latch (Armed l m v g) = l
phase_latch (Flagged l m v g) = l
phase_latch (Checked l m v g) = l
phase_latch (Asleep l m v g) = l
phase_latch (Next l v) = l
phase_latch (NextArmed l v g) = l
phase_latch (NextChecked l v g) = l
phase_latch (NextAsleep l v g) = l
phase_latch (OwesLook l) = l
phase_latch (OwesClear l) = l
phase_latch (OwesRaise l) = l
phase_latch (OwesRaiseEx l) = l

abbrev pub told_phase : Status → Phase → InPhase
told_phase s f = record { status = status_number s; phase = phase_number f; latch = phase_latch f }

abbrev pub HasToldPhase : Does InPhase
HasToldPhase space p r q = (r ≡ told_phase Done p.view.session.phase) × (q ≡ p)

-- what a wish for the mode asks of a session: for X what a reservation asks
abbrev pub allowance_of : Mode → Allowance
allowance_of S = CanWish
allowance_of Sx = MayClaimNow
allowance_of X = MayClaimNow

-- a grant of the mode may be wished for, or why not
abbrev pub IsWishAnswer : ℕ → ℕ → ℕ → SpaceState → PassState → Result Mode Status → Type 0
IsWishAnswer l m v space p (Err BadMode) = 2 < m
IsWishAnswer l m v space p (Err s) = (mode : Mode) × (mode_number mode ≡ m) × IsRefusedFor (allowance_of mode) l v space p s
IsWishAnswer l m v space p (Ok mode) = (mode_number mode ≡ m) × (u : Level) × IsGrantedAt (allowance_of mode) l v space p u

abbrev pub wish_status : Result Mode Status → ℕ
wish_status (Ok mode) = status_number Done
wish_status (Err s) = status_number s

abbrev pub HasAskedTake : ℕ → ℕ → ℕ → Does ℕ
HasAskedTake l m v space p r q = (answer : Result Mode Status) × (r ≡ wish_status answer) × IsWishAnswer l m v space p answer × (q ≡ p)
