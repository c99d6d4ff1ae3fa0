-- A change that was refused a latch, by its search or by the log, and gave up.
use Rattle.std.proofs.Common.{◌≡◌, inl, inr, ℕ, ◌+◌, ◌≤◌, ◌∙◌, List, [], ◌∷◌, ◌++◌, length, Option, refl, ap, arith}
use Rattle.ib_map.specs.Keys.{MapKey}
use Rattle.ib_map.specs.declared.call.Call.{Call}
use Rattle.ib_map.specs.declared.call.Record.{Record}
use Rattle.ib_levels.specs.declared.level.Mode.{Mode}
use Rattle.ib_levels.specs.declared.level.Mode.TheVariants.{X}
use Rattle.ib_layout.specs.Geometry.{Sizes}
use Rattle.ib_core.specs.Sessions.{idle}
use Rattle.ib_page.specs.Work.{WorkPage}
use Rattle.ib_logrec.specs.declared.entry.Entry.{Entry}
use Rattle.ib_walk.specs.Pages.{PageState}
use Rattle.ib_planned_log.specs.Kept.{IsKeptLog}
use Rattle.ib_rule.specs.declared.looks.Grants.{Grants}
use Rattle.ib_rule.specs.declared.looks.Looks.{Looks}
use Rattle.ib_rule.specs.declared.memory.Knowledge.{Knowledge}
use Rattle.ib_rule.specs.declared.view.Role.TheVariants.{Session}
use Rattle.ib_rule.specs.Pass.{PassState}
use Rattle.ib_rule.specs.Views.{total}
use Rattle.ib_latch.specs.declared.tries.TryFault.{TryFault}
use Rattle.ib_latch.specs.declared.tries.TryFault.TheVariants.{Busy as TryBusy, Raced as TryRaced}
use Rattle.ib_latch.specs.Refusals.{WasRefusedFor}
use Rattle.ib_latch.proofs.RefusalLaws.{refused_later}
use Rattle.ib_mtr.specs.Commits.{HasEnded, HasRead}
use Rattle.ib_mtr.specs.Mtr.{IsReleasedTo, finished, started, with_work}
use Rattle.ib_mtr.specs.NowaitCommits.{IsRefusedByLog}
use Rattle.ib_cursor.specs.declared.fault.NowaitFault.{NowaitFault}
use Rattle.ib_cursor.specs.Contention.{fault_on, refused_latch}
use Rattle.ib_cursor.specs.Going.{WentOn}
use Rattle.ib_cursor.specs.Refusals.{AreFewGrants, AreFewLooks, HasGivenUp, IsRefusal, WasRefusedIn}
use Rattle.ib_cursor.proofs.LatchingLaws.{looked_then, went_both}
use Rattle.ib_cursor.proofs.RefusalLaws.{given_up, looks-on, refusal_after}
use Rattle.ib_cursor.proofs.TakeRefusalLaws.{refusal_wider}
use Rattle.ib_leaf.proofs.CallLaws.{ended-before, read-end, read-known}
use Rattle.ib_index.specs.Changes.{WasLeaf}
use Rattle.ib_index.specs.Leaf.{HasTriedLeaf, NeedsTree, TakesFew}
use Rattle.ib_index.specs.Refusals.{HasTriedLeafAtOnce, IsContended, most_on_leaf}
use Rattle.ib_index.proofs.ChangeLaws.{was-leaf}

-- what a search gave up is one of what the change takes, from where the call began to where it has ended
pub contended-search : (sizes : Sizes) (few more : List Entry → Mode → ℕ → Type 0) (least most : Grants) (f : NowaitFault) (p q : PassState)
    → ((log : List Entry) (mode : Mode) (l : ℕ) → few log mode l → more log mode l) → least.s ≤ most.s → least.sx ≤ most.sx → least.x ≤ most.x
    → HasGivenUp sizes (IsKeptLog sizes.pages) few least f (started p) q → IsContended sizes more most f p (finished q)
contended-search sizes few more least most f p q so less-s less-sx less-x h =
    let v = h.refusal in let w = v.went in
    record {
      refusal = record {
        went = record { table = w.table; sizes = w.sizes; number = w.number; own = w.own; more = w.more; seen = w.seen; added = w.added; ends = w.ends; bounds = w.bounds };
        looked = v.looked;
        known = record { legal = v.known.legal; room = v.known.room; mine = v.known.mine };
        mode = v.mode;
        taken = so q.view.memory.seen v.mode (refused_latch f) v.taken;
        refused = v.refused;
        few = record { least = v.few.least; most = v.few.most; waits = v.few.waits };
        grants = let a = v.grants.s in let b = v.grants.sx in let d = v.grants.x in record { s = omega arith; sx = omega arith; x = omega arith };
      };
      grants = record { memo = h.grants.memo; session = h.grants.session };
      work = refl;
    }

-- the log latch, by its fault
log-refused : (f : TryFault) (a b : Looks) → WasRefusedFor X 0 f a b → WasRefusedIn X (fault_on (record { 0 = 0 }) f) a b
log-refused (TryBusy w) a b refused = refused
log-refused (TryRaced w found) a b refused = refused

log-taken : (P : ℕ → Type 0) (f : TryFault) → P 0 → P (refused_latch (fault_on (record { 0 = 0 }) f))
log-taken P (TryBusy w) is = is
log-taken P (TryRaced w found) is = is

-- the log latch was refused behind what went on before
pub contended-log : (sizes : Sizes) (takes : List Entry → Mode → ℕ → Type 0) (most : Grants) (f : TryFault) (work : List WorkPage) (p q r : PassState)
    → WentOn p q → AreFewLooks 0 p.view q.view → AreFewGrants most p.view q.view → q.view.role ≡ Session q.number
    → IsRefusedByLog sizes (IsKeptLog sizes.pages) (with_work work q) f r → takes r.view.memory.seen X 0 → IsContended sizes takes most (fault_on (record { 0 = 0 }) f) p r
contended-log sizes takes most f work p q r went few grants role h taken =
    let ended : HasEnded q q.view.grants h.log q.view.memory.own (q.view.memory.ends ++ length h.log ∷ []) r = ended-before q r work q.view.grants h.log q.view.memory.own (q.view.memory.ends ++ length h.log ∷ []) h.ended in
    let end = read-end sizes (IsKeptLog sizes.pages) q r h.log (length h.log) q.view.grants h.looked refl ended in
    let on : WentOn q r = record { table = end.table; sizes = end.sizes; number = end.number; own = ap (λ (m : Knowledge). m.own) ended.memory; more = end.more; seen = end.seen; added = length h.log ∷ []; ends = end.ends; bounds = ((end.low, end.high), tt) } in
    let s = ap (λ (g : Grants). g.s) ended.grants in let sx = ap (λ (g : Grants). g.sx) ended.grants in let x = ap (λ (g : Grants). g.x) ended.grants in
    let a = grants.s in let b = grants.sx in let d = grants.x in
    let count = h.looks in let tried = looks-on (record { 0 = 0 }) f in let least = few.least in let most-looks = few.most in
    record {
      refusal = record {
        went = went_both p q r went on;
        looked = looked_then p q r went on (omega arith);
        known = read-known sizes (IsKeptLog sizes.pages) q r h.log (length h.log) q.view.grants h.looked refl role ended;
        mode = X;
        taken = log-taken (takes r.view.memory.seen X) f taken;
        refused = log-refused f p.view.looks r.view.looks (refused_later X 0 f p.view.looks q.view.looks r.view.looks r.view.looks least h.refused refl refl);
        few = record { least = omega arith; most = omega arith; waits = h.waits ∙ few.waits };
        grants = record { s = omega arith; sx = omega arith; x = omega arith };
      };
      grants = record { memo = ap (λ (u : PassState). u.memo) ended.pass; session = ended.session };
      work = ap (λ (u : PassState). u.work) ended.pass;
    }

-- a page was refused behind what a search had claimed, and all was given back
pub contended-behind : (sizes : Sizes) (few more : List Entry → Mode → ℕ → Type 0) (least claimed most : Grants) (f : NowaitFault) (p q t u : PassState)
    → ((log : List Entry) (mode : Mode) (l : ℕ) → few log mode l → more log mode l) → claimed.s + least.s ≤ most.s → claimed.sx + least.sx ≤ most.sx → claimed.x + least.x ≤ most.x
    → WentOn p q → AreFewLooks 0 p.view q.view → AreFewGrants claimed p.view q.view → IsRefusal sizes (IsKeptLog sizes.pages) few least f q t
    → IsReleasedTo 0 (with_work [] t) u → u.view.session ≡ idle → IsContended sizes more most f p (finished u)
contended-behind sizes few more least claimed most f p q t u so fits-s fits-sx fits-x went looks grants v given rests =
    let w = refusal_wider sizes (IsKeptLog sizes.pages) few more least f q t so v in
    let a = grants.s in let b = grants.sx in let d = grants.x in let i = w.grants.s in let j = w.grants.sx in let k = w.grants.x in
    let all = refusal_after sizes (IsKeptLog sizes.pages) more most f least p q t went looks w (record { s = omega arith; sx = omega arith; x = omega arith }) in
    let up = given_up sizes (IsKeptLog sizes.pages) more most f p t u all given rests in let r = up.refusal in
    record {
      refusal = record {
        went = record { table = r.went.table; sizes = r.went.sizes; number = r.went.number; own = r.went.own; more = r.went.more; seen = r.went.seen; added = r.went.added; ends = r.went.ends; bounds = r.went.bounds };
        looked = r.looked;
        known = record { legal = r.known.legal; room = r.known.room; mine = r.known.mine };
        mode = r.mode;
        taken = r.taken;
        refused = r.refused;
        few = record { least = r.few.least; most = r.few.most; waits = r.few.waits };
        grants = record { s = r.grants.s; sx = r.grants.sx; x = r.grants.x };
      };
      grants = record { memo = up.grants.memo; session = up.grants.session };
      work = refl;
    }

-- an end that only reads looks at no lock word
pub few-read : (sizes : Sizes) (place : ℕ) (p q r : PassState) → HasRead sizes (IsKeptLog sizes.pages) q place r → AreFewLooks 0 p.view q.view → AreFewLooks 0 p.view r.view
few-read sizes place p q r read few =
    let g = ap total read.ended.grants in let l = read.looks in let a = few.least in let b = few.most in record { least = omega arith; most = omega arith; waits = read.waits ∙ few.waits }

-- .. so of the leaf alone it was tried at once
pub read-at-once : (sizes : Sizes) (why : ℕ → PageState → Type 0) (key : MapKey) (call : Call) (result : Option Record) (place : ℕ) (p q r : PassState) → AreFewLooks 0 p.view q.view → HasRead sizes (IsKeptLog sizes.pages) q place r
    → HasTriedLeaf sizes why key call result p r → HasTriedLeafAtOnce sizes why key call result p r
read-at-once sizes why key call result place p q r few read h = record { tried = h; few = few-read sizes place p q r read few }

-- the grants of a path to the leaf
pub few-on-leaf : (sizes : Sizes) (p q : PassState) → TakesFew sizes 1 p q → AreFewGrants most_on_leaf p.view q.view
few-on-leaf sizes p q takes =
    let s = takes.s in let sx = takes.sx in
    elim takes.x [
      | inl one ↦ let x : q.view.grants.x ≤ p.view.grants.x + 1 = one in record { s = omega arith; sx = omega arith; x = omega arith }
      | inr two ↦ let x : q.view.grants.x ≤ p.view.grants.x + 1 + 1 = two.0 in record { s = omega arith; sx = omega arith; x = omega arith }
    ]

-- the leaf was found to need more, and the change was refused with the tree
pub contended-again : (sizes : Sizes) (why : ℕ → PageState → Type 0) (key : MapKey) (takes : List Entry → Mode → ℕ → Type 0) (least most : Grants) (f : NowaitFault) (p q r : PassState)
    → 9 + least.s ≤ most.s → least.sx ≤ most.sx → 2 + least.x ≤ most.x
    → NeedsTree sizes why key p q → TakesFew sizes 1 p q → AreFewLooks 0 p.view q.view → IsContended sizes takes least f q r → WasLeaf sizes why key p r × IsContended sizes takes most f p r
contended-again sizes why key takes least most f p q r more-s more-sx more-x needs took few h =
    let v = h.refusal in let g = few-on-leaf sizes p q took in
    let a = g.s in let b = g.sx in let d = g.x in let k = v.grants.s in let l = v.grants.sx in let m = v.grants.x in
    let grants : AreFewGrants most p.view r.view = record { s = omega arith; sx = omega arith; x = omega arith } in
    (was-leaf sizes why key p q r needs v.went.more v.went.seen, record { refusal = refusal_after sizes (IsKeptLog sizes.pages) takes most f least p q r needs.stopped.went few v grants; grants = h.grants; work = h.work })
