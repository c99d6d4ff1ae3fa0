-- How a change on the leaf ended: without a change, by its commit, or with the log full.
use Rattle.std.proofs.Common.{◌≡◌, ℕ, ◌<◌, Bool, true, false, List, [], ◌∷◌, ◌++◌, length, None, Some, take, refl, sym, ap, subst, ◌∙◌, arith}
use Rattle.std.proofs.Math.Seq.{take-length}
use Rattle.std.proofs.lemmas.List.{take_at}
use Rattle.ib_map.specs.Keys.{MapKey}
use Rattle.ib_map.specs.declared.call.Call.{Call}
use Rattle.ib_map.specs.declared.call.Change.{Change}
use Rattle.ib_map.specs.declared.call.Reply.{Reply}
use Rattle.ib_page.specs.Work.{WorkPage}
use Rattle.ib_layout.specs.Geometry.{Sizes}
use Rattle.ib_logrec.specs.declared.entry.Entry.{Entry}
use Rattle.ib_logrec.specs.Log.{by_place}
use Rattle.ib_walk.specs.Pages.{PageState}
use Rattle.ib_tree.specs.TreeLog.{opening}
use Rattle.ib_planned_log.specs.Kept.{IsKeptLog}
use Rattle.ib_planned_log.specs.LeafChange.{kept_pages}
use Rattle.ib_frames.specs.declared.appends.LogFull.{LogFull}
use Rattle.ib_rule.specs.declared.looks.Grants.{Grants}
use Rattle.ib_rule.specs.declared.memory.Knowledge.{Knowledge}
use Rattle.ib_rule.specs.Pass.{PassState, IsAtRest}
use Rattle.ib_rule.specs.Roles.{session_number_of}
use Rattle.ib_rule.specs.Space.{SpaceState}
use Rattle.ib_rule.specs.Stores.{IsLook}
use Rattle.ib_mtr.specs.Commits.{HasCommitted, HasEnded, HasRead, IsFull, commit_entry, commit_grants}
use Rattle.ib_mtr.specs.Mtr.{with_work}
use Rattle.ib_cursor.specs.Going.{WentOn}
use Rattle.ib_cursor.proofs.LatchingLaws.{looked_then, went_both}
use Rattle.ib_leaf.specs.Calls.{HasCalled}
use Rattle.ib_leaf.specs.Ends.{HasKeptLeaf, HasLeftLeaf, HasStopped, IsEnd, full_answer, grants_for, reaches_log}
use Rattle.ib_leaf.specs.Leaf.{WorksOnLeaf, leaf_page}
use Rattle.ib_leaf.proofs.CallLaws.{ended-before, push-end, read-end, read-known}
use Rattle.ib_leaf.proofs.LeafStays.{leaf-stays, page-stays}

module _ (space : SpaceState) (why : ℕ → PageState → Type 0) (key : MapKey) (leaf : ℕ) (q : PassState) (works : WorksOnLeaf space key leaf q) where
  abbrev sizes : Sizes
  sizes = space.sizes

  -- whoever came to the leaf with a look made this call
  abbrev pub IsCall : Call → Reply → ℕ → PassState → Type 0
  IsCall call reply place r = (o : PassState) (came : WentOn o q) → 0 < length came.added
      → HasCalled sizes (IsKeptLog sizes.pages) (by_place opening sizes.pages) call (record { call = call; reply = reply; place = place }) o r

  -- the leaf stays as it is behind what a look found
  stays-behind : (log : List Entry) → IsLook sizes (IsKeptLog sizes.pages) q.view log → HasKeptLeaf sizes key leaf q log
  stays-behind log look =
      let n = session_number_of q.view.role in
      let legal = subst (IsKeptLog sizes.pages) (sym look.longer) look.legal in
      let here = leaf-stays sizes works.seated.fits key leaf q works.at n look.others look.harmless legal in
      let page = page-stays sizes works.seated.fits key leaf q works.at n look.others look.harmless legal in
      subst (HasKeptLeaf sizes key leaf q) look.longer (record {
        legal = legal;
        here = here;
        page = ap (kept_pages sizes.pages (q.view.memory.seen ++ look.others)) here ∙ page;
      })

  -- each end leaves the pass at rest
  rests : (taken : Grants) (seen own : List Entry) (ends : List ℕ) (r : PassState) → HasEnded q taken seen own ends r → IsAtRest space r
  rests taken seen own ends r ended = record {
    own = record {
      table = ap (λ (s : PassState). s.table) ended.pass ∙ works.mtr.own.table;
      sizes = ap (λ (s : PassState). s.sizes) ended.pass ∙ works.mtr.own.sizes;
      closed = ap (λ (m : Knowledge). m.append) ended.memory;
    };
    idle = ended.session;
    scratch = ap (λ (s : PassState). s.has_scratch) ended.pass;
  }

  -- it ended without a change
  module _ (place : ℕ) (r : PassState) (read : HasRead sizes (IsKeptLog sizes.pages) q place r) where
    seen-r : r.view.memory.seen ≡ read.log
    seen-r = ap (λ (m : Knowledge). m.seen) read.ended.memory

    end-r : IsEnd q r place
    end-r = read-end sizes (IsKeptLog sizes.pages) q r read.log place q.view.grants read.looked read.place read.ended

    step-r : WentOn q r
    step-r = record {
      table = end-r.table;
      sizes = end-r.sizes;
      number = end-r.number;
      own = ap (λ (m : Knowledge). m.own) read.ended.memory;
      more = end-r.more;
      seen = end-r.seen;
      added = place ∷ [];
      ends = end-r.ends;
      bounds = ((end-r.low, end-r.high), tt);
    }

    looked-r : 0 < length step-r.added
    unfolding step-r
    looked-r = omega arith

    stopped-r : (o : PassState) → WentOn o q → HasStopped sizes o r
    stopped-r o came = record {
      went = went_both o q r came step-r;
      looked = looked_then o q r came step-r looked-r;
      known = read-known sizes (IsKeptLog sizes.pages) q r read.log place q.view.grants read.looked read.place works.seated.role read.ended;
    }

    -- the change needs more than the leaf
    pub left-none : (call : Call) → why leaf (leaf_page sizes key q) → HasLeftLeaf space why key leaf call None q r
    left-none call needs = record {
      called = λ o came looked. stopped-r o came;
      needs = needs;
      kept = subst (HasKeptLeaf sizes key leaf q) (sym seen-r) (stays-behind read.log read.looked);
      place = place;
      end = end-r;
      grants = read.ended.grants;
      rest = rests q.view.grants read.log q.view.memory.own (q.view.memory.ends ++ place ∷ []) r read.ended;
      forgotten = ap (λ (m : Knowledge). m.since) read.ended.memory;
    }

    -- the call was refused
    pub left-read : (call : Call) (reply : Reply) → reaches_log reply ≡ false → (why leaf (leaf_page sizes key q) → ⊥) → IsCall call reply place r
        → HasLeftLeaf space why key leaf call (Some (record { call = call; reply = reply; place = place })) q r
    left-read call reply short alone called = record {
      called = called;
      needs = alone;
      kept = subst (HasKeptLeaf sizes key leaf q) (sym (ap (take place) seen-r ∙ (ap (λ n. take n read.log) read.place ∙ take-length read.log))) (stays-behind read.log read.looked);
      place = place;
      end = end-r;
      grants = read.ended.grants ∙ ap (λ (b : Bool). grants_for b q.view.grants) (sym short);
      rest = rests q.view.grants read.log q.view.memory.own (q.view.memory.ends ++ place ∷ []) r read.ended;
      forgotten = ap (λ (m : Knowledge). m.since) read.ended.memory;
    }

  -- the change was committed
  pub left-made : (work : List WorkPage) (change : Change) (place : ℕ) (r : PassState) → HasCommitted sizes (IsKeptLog sizes.pages) (by_place opening sizes.pages) change (with_work work q) place r
      → (call : Call) (made : Reply) → reaches_log made ≡ true → (why leaf (leaf_page sizes key q) → ⊥) → IsCall call made place r
      → HasLeftLeaf space why key leaf call (Some (record { call = call; reply = made; place = place })) q r
  left-made work change place r c call made reaches alone called =
      let e : Entry = commit_entry (with_work work q) change in
      let own : List Entry = q.view.memory.own ++ e ∷ [] in
      let ended = ended-before q r work (commit_grants q) (c.log ++ e ∷ []) own (q.view.memory.ends ++ place ∷ []) c.ended in
      let look : IsLook sizes (IsKeptLog sizes.pages) q.view c.log = c.looked in
      let seen : r.view.memory.seen ≡ c.log ++ e ∷ [] = ap (λ (m : Knowledge). m.seen) c.ended.memory in
      record {
        called = called;
        needs = alone;
        kept = subst (HasKeptLeaf sizes key leaf q) (sym (ap (take place) seen ∙ take_at c.log (e ∷ []) place (sym c.place))) (stays-behind c.log look);
        place = place;
        end = push-end sizes (IsKeptLog sizes.pages) q r c.log place (commit_grants q) look c.place e own ended;
        grants = c.ended.grants ∙ ap (λ (b : Bool). grants_for b q.view.grants) (sym reaches);
        rest = rests (commit_grants q) (c.log ++ e ∷ []) own (q.view.memory.ends ++ place ∷ []) r ended;
        forgotten = ap (λ (m : Knowledge). m.since) c.ended.memory;
      }

  -- the log had no room for it
  pub left-full : (work : List WorkPage) (full : LogFull) (r : PassState) → IsFull sizes (IsKeptLog sizes.pages) (with_work work q) full r
      → (call : Call) → (why leaf (leaf_page sizes key q) → ⊥)
      → ((o : PassState) (came : WentOn o q) → 0 < length came.added → HasCalled sizes (IsKeptLog sizes.pages) (by_place opening sizes.pages) call (full_answer call full (length r.view.memory.seen)) o r)
      → HasLeftLeaf space why key leaf call (Some (full_answer call full (length r.view.memory.seen))) q r
  left-full work full r f call alone called =
      let ended = ended-before q r work (commit_grants q) f.log q.view.memory.own (q.view.memory.ends ++ length f.log ∷ []) f.ended in
      let look : IsLook sizes (IsKeptLog sizes.pages) q.view f.log = f.looked in
      let seen : r.view.memory.seen ≡ f.log = ap (λ (m : Knowledge). m.seen) f.ended.memory in
      record {
        called = called;
        needs = alone;
        kept = subst (HasKeptLeaf sizes key leaf q) (sym (take-length r.view.memory.seen ∙ seen)) (stays-behind f.log look);
        place = length f.log;
        end = read-end sizes (IsKeptLog sizes.pages) q r f.log (length f.log) (commit_grants q) look refl ended;
        grants = f.ended.grants;
        rest = rests (commit_grants q) f.log q.view.memory.own (q.view.memory.ends ++ length f.log ∷ []) r ended;
        forgotten = ap (λ (m : Knowledge). m.since) f.ended.memory;
      }
