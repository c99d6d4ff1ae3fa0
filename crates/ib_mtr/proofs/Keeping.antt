-- What each call leaves is a mini-transaction again.
use Rattle.std.proofs.Common.{◌≡◌, ℕ, ◌+◌, ◌<◌, List, [], ◌∷◌, ◌++◌, Some, None, length, slice_get, refl, sym, ap, ◌∙◌, subst, arith}
use Rattle.std.specs.List.{All, remove}
use Rattle.std.proofs.lemmas.List.Elements.{All-push, All-weaker}
use Rattle.ib_levels.specs.declared.latch.Latch.{Latch}
use Rattle.ib_levels.specs.declared.level.Level.{Level}
use Rattle.ib_levels.specs.declared.level.Mode.{Mode}
use Rattle.ib_levels.specs.Holding.{on}
use Rattle.ib_levels.proofs.Counts.{on-none}
use Rattle.ib_layout.specs.Places.{latches_of}
use Rattle.ib_core.specs.declared.phase.Phase.TheVariants.{Free}
use Rattle.ib_core.specs.declared.session.Session.{Session}
use Rattle.ib_core.specs.Good.{IsProper}
use Rattle.ib_core.specs.Sessions.{holdings}
use Rattle.ib_page.specs.Work.{WorkPage}
use Rattle.ib_rule.specs.declared.looks.Raise.{Raise}
use Rattle.ib_rule.specs.declared.memory.Knowledge.{Knowledge}
use Rattle.ib_rule.specs.declared.view.View.{View}
use Rattle.ib_rule.specs.declared.pass.TheConstants.{MOST_HELD}
use Rattle.ib_rule.specs.Conditions.{MayGrow}
use Rattle.ib_rule.specs.Pass.{PassState, IsOf, raising_as, with_view}
use Rattle.ib_rule.specs.Space.{SpaceState}
use Rattle.ib_rule.specs.Takes.{MayTake, MayTakeMore}
use Rattle.ib_rule.specs.Views.{with_raises}
use Rattle.ib_latch.specs.Tries.{HasTakenGrant, IsUnchanged, held_with}
use Rattle.ib_frames.specs.Reads.{IsLoadedImage}
use Rattle.ib_mtr.specs.declared.mtr.Mtr.{Mtr}
use Rattle.ib_mtr.specs.Memo.{HasExactly}
use Rattle.ib_mtr.specs.Mtr.{IsMtr, IsStillMtr, IsUnchangedOn, pages_left, released, released_at, with_memo, with_work, without_grant}
use Rattle.ib_mtr.proofs.Grants.{exact_fewer, exact_more, still_held}
use Rattle.ib_mtr.proofs.Held.{length_held}
use Rattle.ib_mtr.proofs.Images.{pages_read}
use Rattle.ib_mtr.proofs.Lists.{All-remove}
use Rattle.ib_mtr.proofs.Pages.{pages_held}

-- the pass is one of the space with other pages and another memo too, and with another view that has no open append
own_with : (space : SpaceState) (p : PassState) (v : View) (pages : List WorkPage) (memo : List (Latch × Mode)) → IsOf space p → v.memory.append ≡ None → IsOf space (record p { view = v; work = pages; memo = memo })
own_with space p v pages memo own closed = record { table = own.table; sizes = own.sizes; closed = closed }

-- other pages whose latches are held, as they were loaded
pub with_pages : (space : SpaceState) (p : PassState) (pages : List WorkPage) → IsMtr space p → All (λ w. 0 < holdings (w.page + 2) p.view.session) pages
    → All (λ w. IsLoadedImage p.view.memory.loaded w.page w.before) pages → IsMtr space (with_work pages p)
with_pages space p pages mtr held read = record {
  own = own_with space p p.view pages p.memo mtr.own mtr.own.closed;
  works = mtr.works;
  free = mtr.free;
  proper = mtr.proper;
  exact = mtr.exact;
  known = mtr.known;
  held = held;
  read = read;
}

-- a try that took nothing
pub refused : (space : SpaceState) (p q : PassState) (more : ℕ) → IsMtr space p → q ≡ with_view p q.view → IsUnchanged more p.view q.view → IsMtr space q
refused space p q more mtr same unchanged = subst (IsMtr space) (sym same) (record {
  own = own_with space p q.view p.work p.memo mtr.own (ap (λ (m : Knowledge). m.append) unchanged.memory ∙ mtr.own.closed);
  works = mtr.works;
  free = ap (λ (a : Session). a.phase) unchanged.session ∙ mtr.free;
  proper = subst IsProper (sym unchanged.session) mtr.proper;
  exact = subst (HasExactly p.memo) (sym unchanged.session) mtr.exact;
  known = mtr.known;
  held = subst (λ (a : Session). All (λ w. 0 < holdings (w.page + 2) a) p.work) (sym unchanged.session) mtr.held;
  read = subst (λ (m : Knowledge). All (λ w. IsLoadedImage m.loaded w.page w.before) p.work) (sym unchanged.memory) mtr.read;
})

-- the memo has room for one grant more, where the session may take one
pub memo_room : (space : SpaceState) (p q : PassState) → IsMtr space p → MayGrow p.view → q ≡ with_view p q.view → length q.memo < MOST_HELD
memo_room space p q mtr grows same =
    let few = length_held p.memo p.view.session mtr.exact mtr.proper in
    let memo = ap (λ (q : PassState). length q.memo) same in let more = grows.1 in omega arith

-- one change after another
pub still_then : {L S : Type 0} {a b c : Mtr L S} → IsStillMtr a b → IsStillMtr b c → IsStillMtr a c
still_then one two = record { mtr = two.mtr; latches = two.latches ∙ one.latches; pass = two.pass ∙ one.pass }

-- where a first grant may be taken, so may one in SX or X
pub may_take_more : (space : SpaceState) (l : ℕ) (v : Level) (p : PassState) → MayTake space l v p → MayTakeMore space l v p
may_take_more space l v p may = record {
  own = may.own;
  latch = may.latch;
  free = may.may.free;
  grows = may.grows;
  may = record { unread = on-none l (λ h. h.s) p.view.session.held may.may.none; new = λ _. may.may };
}

-- a grant, on top of the memo
pub granted : (space : SpaceState) (p q r : PassState) (mode : Mode) (latch : Latch) (v : Level) → IsMtr space p → latch.0 < latches_of space.sizes
    → q ≡ with_view p q.view → HasTakenGrant mode (held_with mode latch.0 v p.view.session) Free p.view q.view → IsProper q.view.session
    → r ≡ with_memo (q.memo ++ (latch, mode) ∷ []) q → IsMtr space r
granted space p q r mode latch v mtr low same taken proper more =
    let now : q.view.session.held ≡ held_with mode latch.0 v p.view.session = ap (λ (a : Session). a.held) taken.session in
    let after : IsMtr space (with_memo (p.memo ++ (latch, mode) ∷ []) (with_view p q.view)) = record {
      own = own_with space p q.view p.work (p.memo ++ (latch, mode) ∷ []) mtr.own (ap (λ (m : Knowledge). m.append) taken.memory ∙ mtr.own.closed);
      works = mtr.works;
      free = ap (λ (a : Session). a.phase) taken.session;
      proper = proper;
      exact = exact_more p.memo p.view.session q.view.session latch mode v mtr.exact mtr.proper now;
      known = All-push (λ g. g.0.0 < latches_of space.sizes) p.memo (latch, mode) mtr.known low;
      held = All-weaker (λ w. 0 < holdings (w.page + 2) p.view.session) (λ w. 0 < holdings (w.page + 2) q.view.session)
          (λ w has. let same = ap (on (w.page + 2) (λ h. 1)) now in let s = still_held mode latch.0 (w.page + 2) v p.view.session has in omega arith) p.work mtr.held;
      read = subst (λ (m : Knowledge). All (λ w. IsLoadedImage m.loaded w.page w.before) p.work) (sym taken.memory) mtr.read;
    } in subst (IsMtr space) (sym (more ∙ ap (λ (q : PassState). with_memo (q.memo ++ (latch, mode) ∷ []) q) same)) after

-- the pages of a latch that was given back are as they were
pub unchanged_then : (p q r : PassState) (at : ℕ) (g : Latch × Mode) → q ≡ raising_as q (with_view p (released g.1 g.0.0 p.view)) → r ≡ with_memo (remove q.memo at) q → IsUnchangedOn g.0.0 p.work → IsUnchangedOn g.0.0 r.work
unchanged_then p q r at g unlocked forgotten unchanged =
    subst (IsUnchangedOn g.0.0) (sym (ap (λ (r : PassState). r.work) forgotten ∙ ap (λ (q : PassState). q.work) unlocked)) unchanged

-- a pass that is another one but for raises is so by its own raises
by_its_own : (q r p : PassState) → r ≡ raising_as q p → r ≡ raising_as r p
by_its_own q r p is = is ∙ ap (λ (raises : List Raise). with_view p (with_raises raises p.view)) (sym (ap (λ (s : PassState). s.view.looks.raises) is))

-- the grant at a place of the memo was given back, in three steps
module _ (p q r s : PassState) (at : ℕ) (g : Latch × Mode) (unlocked : q ≡ raising_as q (with_view p (released g.1 g.0.0 p.view))) (forgotten : r ≡ with_memo (remove q.memo at) q)
    (left : s ≡ with_work (pages_left g.0.0 r.view.session r.work) r) where
  pub released_is : s ≡ raising_as s (released_at at g p)
  released_is =
      let third : r ≡ with_memo (remove p.memo at) (raising_as q (with_view p (without_grant g p.view))) = forgotten ∙ ap (λ (q : PassState). with_memo (remove q.memo at) q) unlocked in
      by_its_own q s (released_at at g p) (left ∙ ap (λ (r : PassState). with_work (pages_left g.0.0 r.view.session r.work) r) third)

  pub released_mtr : (space : SpaceState) → IsMtr space p → slice_get p.memo at ≡ Some g → IsProper q.view.session → IsMtr space s
  released_mtr space mtr there proper =
      let after = with_raises s.view.looks.raises (without_grant g p.view) in
      let end : IsMtr space (raising_as s (released_at at g p)) = record {
        own = own_with space p after (pages_left g.0.0 after.session p.work) (remove p.memo at) mtr.own mtr.own.closed;
        works = mtr.works;
        free = refl;
        proper = subst (λ (q : PassState). IsProper q.view.session) unlocked proper;
        exact = exact_fewer p.memo p.view.session after.session at g mtr.exact mtr.proper there refl;
        known = All-remove (λ g. g.0.0 < latches_of space.sizes) p.memo at mtr.known;
        held = pages_held g.1 g.0.0 p.view.session after.session p.work refl mtr.held;
        read = pages_read g.0.0 after.session p.view.memory.loaded p.work mtr.read;
      } in subst (IsMtr space) (sym released_is) end
