-- A mini-transaction, and what each of its calls leaves.
use Rattle.std.specs.Prelude.{◌≡◌, ℕ, ◌+◌, ◌<◌, ◌≤◌, ◌==◌, ◌||◌, not, nat_lt, true, false, List, [], ◌∷◌, ◌++◌, filter, remove, take, drop, slice_get, IfSome, IsSomeAnd, IsTrue}
use Rattle.std.specs.List.{All}
use Rattle.ib_levels.specs.declared.latch.Latch.{Latch}
use Rattle.ib_levels.specs.declared.level.Mode.{Mode}
use Rattle.ib_levels.specs.declared.level.Mode.TheVariants.{S, Sx, X}
use Rattle.ib_levels.specs.declared.holding.Holding.{Holding}
use Rattle.ib_levels.specs.Holding.{without_latch}
use Rattle.ib_layout.specs.Places.{latches_of}
use Rattle.ib_core.specs.declared.phase.Phase.TheVariants.{Free}
use Rattle.ib_core.specs.declared.session.Session.{Session}
use Rattle.ib_core.specs.Good.{IsProper}
use Rattle.ib_core.specs.Sessions.{holdings}
use Rattle.ib_core.specs.Takings.{given_back}
use Rattle.ib_page.specs.Work.{WorkPage, before_of, changed_of}
use Rattle.ib_rule.specs.declared.view.View.{View}
use Rattle.ib_rule.specs.Pass.{PassState, IsOf, raising_as}
use Rattle.ib_rule.specs.Space.{SpaceState}
use Rattle.ib_rule.specs.Views.{left_as, with_looks}
use Rattle.ib_latch.specs.Tries.{HasTakenGrant}
use Rattle.ib_latch.specs.Unlocks.{sx_steps}
use Rattle.ib_frames.specs.Reads.{IsLoadedImage}
use Rattle.ib_mtr.specs.declared.mtr.Mtr.{Mtr}
use Rattle.ib_mtr.specs.Memo.{HasExactly}

-- a mini-transaction works in the pass, which is one of the space: the session is in the middle of nothing, has exactly the grants of the memo, and holds the latch of each page of the work set, whose image as read is what was loaded under the grant that is held now
pub record IsMtr (space : SpaceState) (p : PassState) : Type 0 where
  pub own : IsOf space p
  pub works : IsTrue p.is_working
  pub free : p.view.session.phase ≡ Free
  pub proper : IsProper p.view.session
  pub exact : HasExactly p.memo p.view.session
  pub known : All (λ g. g.0.0 < latches_of space.sizes) p.memo
  pub held : All (λ w. 0 < holdings (w.page + 2) p.view.session) p.work
  pub read : All (λ w. IsLoadedImage p.view.memory.loaded w.page w.before) p.work

-- it is a mini-transaction still, of the same pass on the same latches
pub record IsStillMtr {L S : Type 0} (old new : Mtr L S) : Type 0 where
  pub mtr : IsMtr new.latches.now new.pass.now
  pub latches : new.latches ≡ old.latches
  pub pass : new.pass.ghost_name ≡ old.pass.ghost_name

-- the pass with other pages, or with another memo
abbrev pub with_work : List WorkPage → PassState → PassState
with_work pages p = record p { work = pages }

abbrev pub with_memo : List (Latch × Mode) → PassState → PassState
with_memo memo p = record p { memo = memo }

-- the pass with this view, and the grant of the mode on the latch on top of its memo
abbrev pub with_granted : Latch → Mode → View → PassState → PassState
with_granted latch mode v p = with_memo (p.memo ++ (latch, mode) ∷ []) (record p { view = v })

-- the grant of the mode on the latch is on top of the memo, these are its holdings then, and nothing else is changed but looks
pub record IsGranted (latch : Latch) (mode : Mode) (held : List Holding) (p q : PassState) : Type 0 where
  pub pass : q ≡ with_granted latch mode q.view p
  pub taken : HasTakenGrant mode held Free p.view q.view
  pub looks : p.view.looks.count ≤ q.view.looks.count

-- the pass in which a mini-transaction starts, and the one in which it has ended
abbrev pub started : PassState → PassState
started p = record p { has_scratch = false; is_working = true; work = []; memo = [] }

abbrev pub finished : PassState → PassState
finished p = record p { has_scratch = true; is_working = false; work = [] }

-- the pages where the session, which has this left, gave up a grant on the latch: the latch's page is gone if nothing is held there any more
abbrev pub pages_left : ℕ → Session → List WorkPage → List WorkPage
pages_left l a pages = filter (λ w. not (w.page + 2 == l) || nat_lt 0 (holdings l a)) pages

-- what is held after a grant of the mode on the latch was given back
abbrev pub held_after : Mode → ℕ → Session → List Holding
held_after S l a = without_latch l a.held
held_after Sx l a = given_back Sx l a
held_after X l a = given_back X l a

-- how many steps on the lock word that took
abbrev pub steps_of : Mode → ℕ → Session → ℕ
steps_of S l a = 1
steps_of Sx l a = sx_steps l a
steps_of X l a = 1

-- the view after a grant of the mode on the latch was given back, with all that is owed then
abbrev pub released : Mode → ℕ → View → View
released mode l v = with_looks (record v.looks { steps = v.looks.steps + steps_of mode l v.session }) (left_as l (record { held = held_after mode l v.session; phase = Free }) v)

-- .. as it was by the grant of a memo
abbrev pub without_grant : Latch × Mode → View → View
without_grant g v = released g.1 g.0.0 v

-- the pass after the grant at a place of the memo was given back
abbrev pub released_at : ℕ → Latch × Mode → PassState → PassState
released_at at g p = let v = without_grant g p.view in record p { view = v; memo = remove p.memo at; work = pages_left g.0.0 v.session p.work }

-- the page of the latch is not changed
abbrev pub IsUnchangedOn : ℕ → List WorkPage → Type 0
IsUnchangedOn l pages = (page : ℕ) → l ≡ page + 2 → changed_of page pages ≡ before_of page pages

-- the grant at a place of the memo may be given back: its page, if it is one's, is not changed
abbrev pub MayRelease : ℕ → PassState → Type 0
MayRelease at p = IfSome (slice_get p.memo at) (λ g. IsUnchangedOn g.0.0 p.work)

-- .. and it was, with a raise where one was owed
abbrev pub IsReleasedAt : ℕ → PassState → PassState → Type 0
IsReleasedAt at p q = IsSomeAnd (slice_get p.memo at) (λ g. q ≡ raising_as q (released_at at g p))

-- the view after all grants of a memo were given back, from the newest to the oldest
abbrev pub without_all : List (Latch × Mode) → View → View
without_all [] v = v
without_all (g ∷ gs) v = without_grant g (without_all gs v)

-- the pass after the newest grants of the memo were given back, down to this size of it
abbrev pub released_to : ℕ → PassState → PassState
released_to size p = record p { view = without_all (drop size p.memo) p.view; memo = take size p.memo }

-- .. which they were, with the raises that were owed
abbrev pub IsReleasedTo : ℕ → PassState → PassState → Type 0
IsReleasedTo size p q = q ≡ raising_as q (released_to size p)
