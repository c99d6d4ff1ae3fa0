-- A latch that was tried in vain in any mode, and a search that gave up.
use Rattle.std.specs.Prelude.{Result, Ok, Err, OnOk, IsOk, IsSomeAnd}
use Rattle.std.proofs.Common.{◌≡◌, ℕ, ◌+◌, ◌≤◌, List, [], Option, Some, None, slice_get, refl, sym, ap, subst, ◌∙◌, arith}
use Rattle.ib_levels.specs.declared.latch.Latch.{Latch}
use Rattle.ib_levels.specs.declared.level.Level.{Level}
use Rattle.ib_levels.specs.declared.level.Mode.{Mode}
use Rattle.ib_levels.specs.declared.level.Mode.TheVariants.{S, Sx, X}
use Rattle.ib_layout.specs.Geometry.{Sizes}
use Rattle.ib_core.specs.declared.phase.Phase.TheVariants.{Free}
use Rattle.ib_core.specs.Holders.{CanWish}
use Rattle.ib_core.specs.Sessions.{holdings, idle}
use Rattle.ib_core.specs.Takings.{holding_too}
use Rattle.ib_logrec.specs.declared.entry.Entry.{Entry}
use Rattle.ib_rule.specs.declared.looks.Grants.{Grants}
use Rattle.ib_rule.specs.declared.looks.Looks.{Looks}
use Rattle.ib_rule.specs.declared.memory.Knowledge.{Knowledge}
use Rattle.ib_rule.specs.declared.memory.Loaded.{Loaded}
use Rattle.ib_rule.specs.declared.view.View.{View}
use Rattle.ib_rule.specs.Pass.{PassState, raising_as, with_view}
use Rattle.ib_rule.specs.Space.{SpaceState}
use Rattle.ib_rule.specs.Views.{total, with_grant, with_raises}
use Rattle.ib_latch.specs.declared.tries.TryFault.{TryFault}
use Rattle.ib_latch.specs.declared.tries.TryFault.TheVariants.{Busy as TryBusy, Raced as TryRaced}
use Rattle.ib_latch.specs.Refusals.{IsOneTry, WasRefusedFor}
use Rattle.ib_latch.specs.Tries.{HasTakenGrant, IsUnchanged, held_with, looks_of}
use Rattle.ib_latch.proofs.RefusalLaws.{refused_later, refused_looks, won_looks, won_waits}
use Rattle.ib_mtr.specs.Mtr.{IsMtr, IsReleasedAt, IsReleasedTo, released_at, with_granted, with_memo, with_work, without_all}
use Rattle.ib_mtr.proofs.Ending.{IsKeptBy, kept_by_releases, kept_raising}
use Rattle.ib_mtr.proofs.Keeping.{with_pages}
use Rattle.ib_mtr.proofs.NowaitCommitting.{all_looks}
use Rattle.ib_cursor.specs.declared.fault.NowaitFault.{NowaitFault}
use Rattle.ib_cursor.specs.declared.fault.NowaitFault.TheVariants.{Busy, Raced}
use Rattle.ib_cursor.specs.Contention.{fault_on, refused_latch}
use Rattle.ib_cursor.specs.Going.{WentOn}
use Rattle.ib_cursor.specs.Grants.{HasTaken}
use Rattle.ib_cursor.specs.Reading.{HasReadWords, with_loads}
use Rattle.ib_cursor.specs.Refusals.{AreFewGrants, AreFewLooks, HasGivenUp, IsRefusal, IsVainTry, WasRefusedIn, looks_of as looks_in, try_of}
use Rattle.ib_cursor.specs.Shapes.{HasLookedOn}
use Rattle.ib_cursor.proofs.ClaimLaws.{keeps_after}
use Rattle.ib_cursor.proofs.ContentionLaws.{latch-of}
use Rattle.ib_cursor.proofs.LatchingLaws.{IsBeside, known_beside, looked_first, looked_then, seen_after, some_end, taken_claim, went_beside, went_both}

-- one try for SX or X that is won is a grant more
pub claim_had : (mode : Mode) (latch : Latch) (v : Level) (r : Result (Unit {0}) TryFault) (p q : PassState) → CanWish latch.0 v p.view.session
    → OnOk r (q ≡ with_granted latch mode q.view p) → (IsOk r → HasTakenGrant mode (held_with mode latch.0 v p.view.session) Free p.view q.view)
    → IsOneTry mode latch.0 v p r (with_memo p.memo q) → OnOk r (HasTaken (record { latch = latch.0; mode = mode; level = v }) p q)
claim_had mode latch v (Ok x) p q may granted taken tried =
    let won = won_looks mode latch.0 v p (with_memo p.memo q) tried in
    taken_claim mode latch v p q may (record { pass = granted; taken = taken refl; looks = omega arith })
claim_had mode latch v (Err fault) p q may granted taken tried = tt

-- .. and one for S
pub read_had : (latch : Latch) (v : Level) (r : Result (Unit {0}) TryFault) (p q : PassState)
    → OnOk r (q ≡ with_granted latch S q.view p) → (IsOk r → HasTakenGrant S (holding_too S latch.0 v p.view.session.held) Free p.view q.view)
    → OnOk r (HasTaken (record { latch = latch.0; mode = S; level = v }) p q)
read_had latch v (Ok x) p q granted taken = record { pass = granted; taken = taken refl }
read_had latch v (Err fault) p q granted taken = tt

-- two looks for a grant
total_more : (mode : Mode) (g : Grants) → total (with_grant (Some mode) g) ≡ total g + 1
total_more S g = omega arith
total_more Sx g = omega arith
total_more X g = omega arith

pub few_won : (mode : Mode) (l : ℕ) (v : Level) (p q : PassState) → IsOneTry mode l v p (Ok tt) (with_memo p.memo q) → q.view.grants ≡ with_grant (Some mode) p.view.grants → AreFewLooks 0 p.view q.view
few_won mode l v p q tried grants =
    let won = won_looks mode l v p (with_memo p.memo q) tried in let more = total_more mode p.view.grants in let is = ap total grants in
    record { least = omega arith; most = omega arith; waits = won_waits mode l v p (with_memo p.memo q) tried }

-- .. and no more where that is all that was had
pub looks_granted : (mode : Mode) (v w : View) → w.grants ≡ with_grant (Some mode) v.grants → AreFewLooks 0 v w → w.looks.count ≤ v.looks.count + 2
looks_granted mode v w grants few = let more = total_more mode v.grants in let is = ap total grants in let most = few.most in omega arith

-- looks of one call after another
pub few_both : (n : ℕ) (u v w : View) → AreFewLooks 0 u v → AreFewLooks n v w → AreFewLooks n u w
few_both n u v w one two =
    let a = one.least in let b = two.least in let c = one.most in let d = two.most in record { least = omega arith; most = omega arith; waits = two.waits ∙ one.waits }

pub few_same : (n : ℕ) (u v w : View) → w.looks ≡ v.looks → w.grants ≡ v.grants → AreFewLooks n u v → AreFewLooks n u w
few_same n u v w looks grants few =
    let l = ap (λ (k : Looks). k.count) looks in let g = ap total grants in let a = few.least in let b = few.most in record { least = omega arith; most = omega arith; waits = ap (λ (k : Looks). k.waits) looks ∙ few.waits }

-- the try of a fault
try_is : (latch : Latch) (fault : TryFault) → try_of (fault_on latch fault) ≡ fault
try_is latch (TryBusy w) = refl
try_is latch (TryRaced w found) = refl

-- its looks, two at most
pub looks-on : (latch : Latch) (fault : TryFault) → looks_in (fault_on latch fault) ≡ looks_of fault
looks-on latch (TryBusy w) = refl
looks-on latch (TryRaced w found) = refl

pub looks_two : (fault : NowaitFault) → looks_in fault ≤ 2
looks_two (Busy latch word) = omega arith
looks_two (Raced latch expected found) = omega arith

-- a try in vain, and a look
pub vain_by_try : (sizes : Sizes) (lawful : List Entry → Type 0) (mode : Mode) (latch : Latch) (v : Level) (fault : TryFault) (p q r : PassState)
    → holdings latch.0 p.view.session ≡ 0 → q ≡ with_view p q.view → IsUnchanged (looks_of fault) p.view q.view → IsOneTry mode latch.0 v p (Err fault) (with_memo p.memo q)
    → HasLookedOn sizes lawful q r → r.memo ≡ q.memo → r.view.session ≡ q.view.session → r.view.grants ≡ q.view.grants → r.work ≡ q.work → r.view.looks ≡ q.view.looks
    → IsVainTry sizes lawful mode latch.0 (fault_on latch fault) p r
vain_by_try sizes lawful mode latch v fault p q r none same un tried on memo session grants work looks =
    let beside : IsBeside p q = record {
      table = ap (λ (s : PassState). s.table) same;
      sizes = ap (λ (s : PassState). s.sizes) same;
      number = ap (λ (s : PassState). s.number) same;
      own = ap (λ (m : Knowledge). m.own) un.memory;
      seen = ap (λ (m : Knowledge). m.seen) un.memory;
      ends = ap (λ (m : Knowledge). m.ends) un.memory;
    } in
    let was = refused_looks mode latch.0 v fault p (with_memo p.memo q) none tried in
    let later : WasRefusedFor mode latch.0 fault p.view.looks r.view.looks = subst (WasRefusedFor mode latch.0 fault p.view.looks) (sym looks) was in
    let named : WasRefusedIn mode (fault_on latch fault) p.view.looks r.view.looks =
    subst (λ (l : ℕ). WasRefusedFor mode l (try_of (fault_on latch fault)) p.view.looks r.view.looks) (sym (latch-of latch fault))
    (subst (λ (f : TryFault). WasRefusedFor mode latch.0 f p.view.looks r.view.looks) (sym (try_is latch fault)) later) in
    let few = looks-on latch fault in let count = ap (λ (k : Looks). k.count) looks in let more = un.looks in let g = ap total (grants ∙ un.grants) in
    record {
      looked_on = record { seen = seen_after sizes lawful p q r beside un.memory on.seen; keeps = keeps_after p q r un.memory on.keeps };
      memo = memo ∙ ap (λ (s : PassState). s.memo) same;
      session = session ∙ un.session;
      grants = grants ∙ un.grants;
      work = work ∙ ap (λ (s : PassState). s.work) same;
      at = latch-of latch fault;
      refused = named;
      few = record { least = omega arith; most = omega arith; waits = ap (λ (k : Looks). k.waits) looks ∙ un.waits };
    }

pub looks_vain : (sizes : Sizes) (lawful : List Entry → Type 0) (mode : Mode) (l : ℕ) (fault : NowaitFault) (p q : PassState) → IsVainTry sizes lawful mode l fault p q → q.view.looks.count ≤ p.view.looks.count + 2
looks_vain sizes lawful mode l fault p q v = let two = looks_two fault in let is = ap total v.grants in let most = v.few.most in omega arith

-- .. after words were loaded
vain-loads : (sizes : Sizes) (lawful : List Entry → Type 0) (mode : Mode) (l : ℕ) (f : NowaitFault) (p q : PassState) (loaded : List Loaded) → IsVainTry sizes lawful mode l f (with_view p (with_loads loaded p.view)) q → IsVainTry sizes lawful mode l f p q
vain-loads sizes lawful mode l f p q loaded v = let seen = v.looked_on.seen in record {
  looked_on = record {
    seen = record {
      went = record { table = seen.went.table; sizes = seen.went.sizes; number = seen.went.number; own = seen.went.own; more = seen.went.more; seen = seen.went.seen; added = seen.went.added; ends = seen.went.ends; bounds = seen.went.bounds };
      one = seen.one;
      known = seen.known;
      steady = seen.steady;
      watched = seen.watched;
    };
    keeps = λ was. let k = v.looked_on.keeps was in record { more = k.more; seen = k.seen; single = k.single; claimed = k.claimed };
  };
  memo = v.memo;
  session = v.session;
  grants = v.grants;
  work = v.work;
  at = v.at;
  refused = v.refused;
  few = record { least = v.few.least; most = v.few.most; waits = v.few.waits };
}

pub vain_read : (sizes : Sizes) (lawful : List Entry → Type 0) (mode : Mode) (l : ℕ) (f : NowaitFault) (p q r : PassState) → HasReadWords p q → IsVainTry sizes lawful mode l f q r → IsVainTry sizes lawful mode l f p r
vain_read sizes lawful mode l f p q r read v = vain-loads sizes lawful mode l f p r q.view.memory.loaded (subst (λ (s : PassState). IsVainTry sizes lawful mode l f s r) read.same v)

pub few_read : (n : ℕ) (p q r : PassState) → HasReadWords q r → AreFewLooks n p.view q.view → AreFewLooks n p.view r.view
few_read n p q r read few = few_same n p.view q.view r.view (ap (λ (s : PassState). s.view.looks) read.same) (ap (λ (s : PassState). s.view.grants) read.same) few

pub few_none : (p : PassState) → AreFewLooks 0 p.view p.view
few_none p = record { least = omega arith; most = omega arith; waits = refl }

pub few_released : (n : ℕ) (at : ℕ) (p q r : PassState) → IsReleasedAt at q r → AreFewLooks n p.view q.view → AreFewLooks n p.view r.view
few_released n at p q r release few = by_place (slice_get q.memo at) release
  where
    by_place : (o : Option (Latch × Mode)) → IsSomeAnd o (λ g. r ≡ raising_as r (released_at at g q)) → AreFewLooks n p.view r.view
    by_place None release = absurd release
    by_place (Some g) is =
        let count = ap (λ (s : PassState). s.view.looks.count) is in let grants = ap (λ (s : PassState). total s.view.grants) is in let a = few.least in let b = few.most in
        record { least = omega arith; most = omega arith; waits = ap (λ (s : PassState). s.view.looks.waits) is ∙ few.waits }

-- a latch that was tried in vain is a refusal
module _ (sizes : Sizes) (lawful : List Entry → Type 0) (takes : List Entry → Mode → ℕ → Type 0) (most : Grants) (f : NowaitFault) where
  pub refusal_by : (mode : Mode) (l : ℕ) (p q : PassState) → IsVainTry sizes lawful mode l f p q → takes q.view.memory.seen mode l → IsRefusal sizes lawful takes most f p q
  refusal_by mode l p q v taken =
      let s = ap (λ (g : Grants). g.s) v.grants in let sx = ap (λ (g : Grants). g.sx) v.grants in let x = ap (λ (g : Grants). g.x) v.grants in
      record {
        went = v.looked_on.seen.went;
        looked = some_end v.looked_on.seen.one;
        known = v.looked_on.seen.known;
        mode = mode;
        taken = subst (takes q.view.memory.seen mode) (sym v.at) taken;
        refused = v.refused;
        few = v.few;
        grants = record { s = omega arith; sx = omega arith; x = omega arith };
      }

  -- one behind what went on before
  pub refusal_after : (least : Grants) (p q r : PassState) → WentOn p q → AreFewLooks 0 p.view q.view → IsRefusal sizes lawful takes least f q r → AreFewGrants most p.view r.view → IsRefusal sizes lawful takes most f p r
  refusal_after least p q r went few v grants = record {
    went = went_both p q r went v.went;
    looked = looked_then p q r went v.went v.looked;
    known = v.known;
    mode = v.mode;
    taken = v.taken;
    refused = refused_later v.mode (refused_latch f) (try_of f) p.view.looks q.view.looks r.view.looks r.view.looks few.least v.refused refl refl;
    few = few_both (looks_in f) p.view q.view r.view few v.few;
    grants = grants;
  }

  -- all was given back
  pub given_up : (p q r : PassState) → IsRefusal sizes lawful takes most f p q → IsReleasedTo 0 (with_work [] q) r → r.view.session ≡ idle → HasGivenUp sizes lawful takes most f p r
  given_up p q r v given rests =
      let view : r.view ≡ with_raises r.view.looks.raises (without_all q.memo q.view) = ap (λ (s : PassState). s.view) given in
      let kept : IsKeptBy q.view r.view = subst (IsKeptBy q.view) (sym view) (kept_raising r.view.looks.raises q.view (without_all q.memo q.view) (kept_by_releases q.memo q.view)) in
      let beside : IsBeside q r = record {
        table = ap (λ (s : PassState). s.table) given;
        sizes = ap (λ (s : PassState). s.sizes) given;
        number = ap (λ (s : PassState). s.number) given;
        own = kept.own;
        seen = kept.seen;
        ends = kept.ends;
      } in
      let went = went_beside q r beside in
      let all : r.view.looks.all ≡ q.view.looks.all = ap (λ (w : View). w.looks.all) view ∙ all_looks q.memo q.view in
      let s = ap (λ (g : Grants). g.s) kept.grants in let sx = ap (λ (g : Grants). g.sx) kept.grants in let x = ap (λ (g : Grants). g.x) kept.grants in
      let total_is = ap total kept.grants in let count = kept.looks in
      record {
        refusal = record {
          went = went_both p q r v.went went;
          looked = looked_first p q r v.went went v.looked;
          known = known_beside sizes lawful q r beside v.known;
          mode = v.mode;
          taken = subst (λ (log : List Entry). takes log v.mode (refused_latch f)) (sym kept.seen) v.taken;
          refused = refused_later v.mode (refused_latch f) (try_of f) p.view.looks p.view.looks q.view.looks r.view.looks (omega arith) v.refused all kept.looks;
          few = (let a = v.few.least in let b = v.few.most in record { least = omega arith; most = omega arith; waits = kept.waits ∙ v.few.waits });
          grants = (let a = v.grants.s in let b = v.grants.sx in let d = v.grants.x in record { s = omega arith; sx = omega arith; x = omega arith });
        };
        grants = record { memo = ap (λ (s : PassState). s.memo) given; session = rests };
        work = ap (λ (s : PassState). s.work) given;
      }

-- a mini-transaction without its pages
pub without_work : (space : SpaceState) (p : PassState) → IsMtr space p → IsMtr space (with_work [] p)
without_work space p mtr = with_pages space p [] mtr (λ k d lt. absurd (omega arith)) (λ k d lt. absurd (omega arith))
