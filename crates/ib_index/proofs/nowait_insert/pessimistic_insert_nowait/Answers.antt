-- The call was answered.
use Rattle.std.proofs.Common.{rules, ◌≡◌, ◌∙◌, ◌<◌, ℕ, List, length, ap, sym, subst, arith}
use Rattle.std.specs.Prelude.{◌^◌}
use Rattle.ib_map.specs.Keys.{MapKey}
use Rattle.ib_map.specs.declared.call.Call.{Call}
use Rattle.ib_map.specs.declared.call.Call.TheVariants.{Insert as InsertCall}
use Rattle.ib_map.specs.declared.call.Change.TheVariants.{Insert}
use Rattle.ib_map.specs.declared.call.Reply.TheVariants.{Duplicate, Inserted, SpaceFull, TooHigh}
use Rattle.ib_layout.specs.Geometry.{Sizes}
use Rattle.ib_plans.specs.Agreement.{last_of}
use Rattle.ib_plans.proofs.PathListLaws.{length-path_down}
use Rattle.ib_walk.specs.Trees.{height_of}
use Rattle.ib_planned_log.specs.Kept.{IsKeptLog}
use Rattle.ib_planned_log.specs.LeafChange.{kept_pages}
use Rattle.ib_rule.specs.Pass.{PassState}
use Rattle.ib_rule.specs.Views.{total}
use Rattle.ib_mtr.specs.Commits.{HasRead, MayCommit}
use Rattle.ib_mtr.specs.Mtr.{with_work}
use Rattle.ib_cursor.proofs.LatchingLaws.{looked_first, went_both}
use Rattle.ib_leaf.specs.Calls.{tree_calls}
use Rattle.ib_leaf.specs.Leaf.{IsSeated}
use Rattle.std.proofs.Common.{inl, inr, refl}
use Rattle.ib_logrec.specs.Log.{by_place}
use Rattle.ib_tree.specs.TreeLog.{opening}
use Rattle.ib_mtr.specs.Mtr.{finished}
use Rattle.ib_cursor.specs.declared.fault.NowaitFault.{NowaitFault}
use Rattle.ib_cursor.specs.Contention.{fault_on}
use Rattle.ib_cursor.specs.Refusals.{AreFewGrants, AreFewLooks, IsHeldByInsert, IsRefusal, TakesFor}
use Rattle.ib_cursor.proofs.RefusalLaws.{few_both, without_work}
use Rattle.ib_index.specs.NowaitGrows.{HasNotTakenFresh, TakesFresh}
use Rattle.ib_index.specs.declared.nowait_insert.FreshFault.{FreshFault}
use Rattle.ib_index.specs.declared.nowait_insert.FreshFault.TheVariants.{Refused, Short}
use Rattle.ib_index.specs.Refusals.{IsContended, TakesToInsert, most_to_insert}
use Rattle.ib_index.proofs.ContendedLaws.{contended-behind, contended-log, contended-search, few-read}
use Rattle.ib_index.proofs.LogEndLaws.{log-refusal, told-few, told-full, told-made}
use Rattle.ib_index.specs.Grows.{HasChangedTree, HasClaimedPath, IsShort, NeedsPages, tree_pages}
use Rattle.ib_index.proofs.SpaceTicks.{may-tick}
use Rattle.ib_leaf.proofs.OptionLaws.{no-value, some-value}
use Rattle.ib_leaf.proofs.CommitLaws.{CommitAnswered, commit-answered}
use Rattle.ib_index.proofs.EndLaws.{changed-ended, changed-read}
use Rattle.ib_index.proofs.GrowMay.{may-grow}
use Rattle.ib_index.proofs.GrowCalls.{called-duplicate, called-ended, called-high, called-short}
use Rattle.ib_index.proofs.GrowWhole.{IsReadyToGrow, can-insert, ready-to-grow, value-kept, path-started}
use Rattle.ib_index.proofs.nowait_insert.pessimistic_insert_nowait.Given.{Over}
use Rattle.ib_index.proofs.nowait_insert.pessimistic_insert_nowait.Goals.{After-facts_of_session-2, In-Ok}
use Rattle.ib_index.proofs.nowait_insert.pessimistic_insert_nowait.Goals as goal

-- the mini-transaction has come to the path
came : (g : Over) (c : In-Ok g) → HasClaimedPath c.args.latches.now.sizes c.args.key c.in-Ok.path c.args.pass.now c.try_path.new.mtr.pass.now
came g c =
    let p : PassState = c.args.pass.now in let q : PassState = c.try_path.new.mtr.pass.now in
    let at = c.in-Ok.ensures.reached in path-started c.args.latches.now.sizes c.args.key c.in-Ok.path p q (search (rules, at))

pub returns-then-is_some-clause-changed : goal.returns-then-is_some-clause-changed
returns-then-is_some-clause-changed g c =
    let sizes : Sizes = c.args.latches.now.sizes in let p : PassState = c.args.pass.now in let q : PassState = c.try_path.new.mtr.pass.now in let r : PassState = c.commit_read-place.new.self.1.0 in
    let key = c.args.key in let path : List ℕ = c.in-Ok.path in let call : Call = InsertCall key c.args.value in let place = c.commit_read-place.result in
    let reached = came g (goal.at.returns-then-is_some-clause-changed g c).In-Ok in
    let same : c.try_path.new.mtr.latches.now.sizes ≡ sizes = ap (λ m. m.now.sizes) (c.try_path.ensures.still.latches ∙ c.start-mtr.ensures.latches) in
    let seated : IsSeated sizes q = subst (λ (s : Sizes). IsSeated s q) same c.facts_of_session.ensures in
    let read : HasRead sizes (IsKeptLog sizes.pages) q place r = subst (λ (s : Sizes). HasRead s (IsKeptLog s.pages) q place r) same c.commit_read-place.ensures in
    let some = some-value c.value_in.result (sym c.is_some.ensures ∙ c.if-is_some.true) in
    let called = called-duplicate sizes key path (tree_pages reached.held) p q reached.went reached.looked reached.growing seated c.args.value place r read some.0 (sym c.value_in.ensures ∙ some.1) in
    let changed = changed-read sizes call Duplicate place p q r read (let a = reached.claims in omega arith) (let a = reached.grants in omega arith) called in
    subst (HasChangedTree sizes call (record { call = call; reply = Duplicate; place = place }) p) (search rules) changed

pub needed-requires-clause-some : goal.needed-requires-clause-some
needed-requires-clause-some g c = λ e.
    let on_path = c.in-Ok.ensures.reached.growing.at.on_path in
    let a = ap length (sym on_path ∙ e) in
    let m = kept_pages c.start-mtr.result.latches.now.sizes.pages c.try_path.new.mtr.pass.now.view.memory.seen in
    let b = length-path_down m c.args.key (height_of m 1) 1 in omega arith

pub try_fresh-requires-clause-ready : goal.try_fresh-requires-clause-ready
try_fresh-requires-clause-ready g c =
    let key = c.args.key in let path : List ℕ = c.in-Ok.path in let q : PassState = c.try_path.new.mtr.pass.now in
    let k : Sizes = c.start-mtr.result.latches.now.sizes in
    let size : c.needed.new.mtr.latches.now.sizes ≡ k = ap (λ m. m.now.sizes) (c.needed.ensures.still.latches ∙ c.try_path.ensures.still.latches) in
    let pass : c.needed.new.mtr.pass.now ≡ q = ap (λ m. m.now) c.needed.ensures.pass in (
      key,
      c.start-mtr.result.pass.now,
      subst (λ (s : Sizes). HasClaimedPath s key path c.start-mtr.result.pass.now c.needed.new.mtr.pass.now) (sym size)
          (subst (HasClaimedPath k key path c.start-mtr.result.pass.now) (sym pass) c.in-Ok.ensures.reached),
    )

pub returns-in_default-clause-changed : goal.returns-in_default-clause-changed
returns-in_default-clause-changed g c =
    let sizes : Sizes = c.args.latches.now.sizes in let p : PassState = c.args.pass.now in let q : PassState = c.try_path.new.mtr.pass.now in let r : PassState = c.commit_read-place-in_default.new.self.1.0 in
    let key = c.args.key in let path : List ℕ = c.in-Ok.path in let call : Call = InsertCall key c.args.value in let place = c.commit_read-place-in_default.result in
    let reached = came g (goal.at.returns-in_default-clause-changed g c).In-Ok in
    let same : c.try_path.new.mtr.latches.now.sizes ≡ sizes = ap (λ m. m.now.sizes) (c.try_path.ensures.still.latches ∙ c.start-mtr.ensures.latches) in
    let then : c.needed.new.mtr.latches.now.sizes ≡ sizes = ap (λ m. m.now.sizes) c.needed.ensures.still.latches ∙ same in
    let pass : c.needed.new.mtr.pass.now ≡ q = ap (λ m. m.now) c.needed.ensures.pass in
    let seated : IsSeated sizes q = subst (λ (s : Sizes). IsSeated s q) same c.facts_of_session.ensures in
    let read : HasRead sizes (IsKeptLog sizes.pages) q place r = subst (λ (u : PassState). HasRead sizes (IsKeptLog sizes.pages) u place r) pass
    (subst (λ (s : Sizes). HasRead s (IsKeptLog s.pages) c.needed.new.mtr.pass.now place r) then c.commit_read-place-in_default.ensures) in
    let missing = sym c.value_in.ensures ∙ no-value c.value_in.result (sym c.is_some.ensures ∙ c.if-is_some.false) in
    let called = called-high sizes key path (tree_pages reached.held) p q reached.went reached.looked reached.growing seated c.args.value place r read missing
    (λ memory bits a. (c.in_default.ensures.needed sizes.pages 1 key memory bits a).0) in
    let changed = changed-read sizes call TooHigh place p q r read (let a = reached.claims in omega arith) (let a = reached.grants in omega arith) called in
    subst (HasChangedTree sizes call (record { call = call; reply = TooHigh; place = place }) p) (search rules) changed

pub returns-in-Err-Short-clause-changed : goal.returns-in-Err-Short-clause-changed
returns-in-Err-Short-clause-changed g c =
    let sizes : Sizes = c.args.latches.now.sizes in let p : PassState = c.args.pass.now in let q : PassState = c.try_path.new.mtr.pass.now in let t : PassState = c.try_fresh.new.mtr.pass.now in let r : PassState = c.commit_read-place-in-Err-Short.new.self.1.0 in
    let key = c.args.key in let path : List ℕ = c.in-Ok.path in let call : Call = InsertCall key c.args.value in let place = c.commit_read-place-in-Err-Short.result in let free = c.in-Err-Short.free in let need = c.in-Ok-needed.need in
    let reached = came g (goal.at.returns-in-Err-Short-clause-changed g c).In-Ok in
    let then : c.needed.new.mtr.latches.now.sizes ≡ sizes = ap (λ m. m.now.sizes) (c.needed.ensures.still.latches ∙ (c.try_path.ensures.still.latches ∙ c.start-mtr.ensures.latches)) in
    let taken-by : c.try_fresh.new.mtr.latches.now.sizes ≡ sizes = ap (λ m. m.now.sizes) c.try_fresh.ensures.still.latches ∙ then in
    let pass : c.needed.new.mtr.pass.now ≡ q = ap (λ m. m.now) c.needed.ensures.pass in
    let needs : NeedsPages sizes.pages key path need q.work = λ memory bits a. c.in-Ok-needed.ensures.needed sizes.pages 1 key memory bits a in
    let absent = sym c.value_in.ensures ∙ no-value c.value_in.result (sym c.is_some.ensures ∙ c.if-is_some.false) in
    let old : Sizes = c.needed.new.mtr.latches.now.sizes in let u : PassState = c.needed.new.mtr.pass.now in
    let is : c.in-Err-Short.field-0 ≡ Short c.in-Err-Short.free = search rules in
    let told : (key : MapKey) → (p : PassState) → HasClaimedPath old key path p u → NeedsPages old.pages key path need u.work → HasNotTakenFresh old key path need (Short c.in-Err-Short.free) u t =
    subst (λ (fault : FreshFault). (key : MapKey) → (p : PassState) → HasClaimedPath old key path p u → NeedsPages old.pages key path need u.work → HasNotTakenFresh old key path need fault u t) is c.in-Err-Short.ensures.not_taken in
    let short : IsShort sizes key path free need q t =
    subst (λ (u : PassState). (key : MapKey) → (p : PassState) → HasClaimedPath sizes key path p u → NeedsPages sizes.pages key path need u.work → IsShort sizes key path free need u t) pass
    (subst (λ (s : Sizes). (key : MapKey) → (p : PassState) → HasClaimedPath s key path p c.needed.new.mtr.pass.now → NeedsPages s.pages key path need c.needed.new.mtr.pass.now.work → IsShort s key path free need c.needed.new.mtr.pass.now t) then told)
    key p reached needs in
    let seated : IsSeated sizes t = subst (λ (s : Sizes). IsSeated s t) taken-by c.facts_of_session-in-Err-Short.ensures in
    let missing = value-kept key (last_of path) q.work t.work (short.same (last_of path) reached.growing.leaf) ∙ absent in
    let read : HasRead sizes (IsKeptLog sizes.pages) t place r = subst (λ (s : Sizes). HasRead s (IsKeptLog s.pages) t place r) taken-by c.commit_read-place-in-Err-Short.ensures in
    let called = called-short sizes key path short.held p t (went_both p q t reached.went short.went) (looked_first p q t reached.went short.went reached.looked) short.growing seated c.args.value place r read missing free need short.lacks in
    let changed = changed-read sizes call (SpaceFull free need) place p t r read (let a = short.claims in let b = reached.claims in omega arith) (let a = short.grants in let b = reached.grants in omega arith) called in
    let told-pass : HasChangedTree sizes call (record { call = call; reply = SpaceFull free need; place = place }) p c.pass-in-Err-Short-1.given.0 = subst (HasChangedTree sizes call (record { call = call; reply = SpaceFull free need; place = place }) p) (search rules) changed in
    subst (λ (n : ℕ). HasChangedTree sizes call (record { call = call; reply = SpaceFull n need; place = place }) p c.pass-in-Err-Short-1.given.0) (search rules) told-pass

-- what the insert reads and writes is held
ready : (g : Over) (c : After-facts_of_session-2 g)
    → IsReadyToGrow c.args.latches.now.sizes c.args.key c.in-Ok.path c.in-Ok-try_fresh.fresh c.args.pass.now c.try_path.new.mtr.pass.now c.try_fresh.new.mtr.pass.now
ready g c =
    let sizes : Sizes = c.args.latches.now.sizes in let p : PassState = c.args.pass.now in let q : PassState = c.try_path.new.mtr.pass.now in let t : PassState = c.try_fresh.new.mtr.pass.now in
    let key = c.args.key in let path : List ℕ = c.in-Ok.path in
    let at = c.in-Ok.ensures.reached in
    let then : c.needed.new.mtr.latches.now.sizes ≡ sizes = ap (λ m. m.now.sizes) (c.needed.ensures.still.latches ∙ (c.try_path.ensures.still.latches ∙ c.start-mtr.ensures.latches)) in
    ready-to-grow sizes c.needed.new.mtr.latches.now.sizes c.try_fresh.new.mtr.latches.now.sizes key path c.in-Ok-try_fresh.fresh c.in-Ok-needed.need p q c.needed.new.mtr.pass.now t (path-started sizes key path p q (search (rules, at))) then
    (ap (λ m. m.now.sizes) c.try_fresh.ensures.still.latches ∙ then) (ap (λ m. m.now) c.needed.ensures.pass) c.in-Ok-try_fresh.ensures.taken (λ memory bits a. c.in-Ok-needed.ensures.needed sizes.pages 1 key memory bits a) c.facts_of_session-2.ensures
    (sym c.value_in.ensures ∙ no-value c.value_in.result (sym c.is_some.ensures ∙ c.if-is_some.false))

pub plan_in-requires-clause-missing : goal.plan_in-requires-clause-missing
plan_in-requires-clause-missing g c = (ready g (goal.at.plan_in-requires-clause-missing g c).After-facts_of_session-2).missing

pub plan_in-requires-clause-can : goal.plan_in-requires-clause-can
plan_in-requires-clause-can g c =
    let sizes : Sizes = c.args.latches.now.sizes in let p : PassState = c.args.pass.now in let q : PassState = c.try_path.new.mtr.pass.now in let t : PassState = c.try_fresh.new.mtr.pass.now in
    let key = c.args.key in let path : List ℕ = c.in-Ok.path in let fresh : List ℕ = c.in-Ok-try_fresh.fresh in
    let has = ready g (goal.at.plan_in-requires-clause-can g c).After-facts_of_session-2 in
    can-insert sizes key path fresh p q t has.seated has.reached has.holds (may-tick sizes key path t has.seated has.holds.growing.at)

pub commit_nowait-requires-clause-may : goal.commit_nowait-requires-clause-may
commit_nowait-requires-clause-may g c =
    let sizes : Sizes = c.args.latches.now.sizes in let p : PassState = c.args.pass.now in let q : PassState = c.try_path.new.mtr.pass.now in let t : PassState = c.try_fresh.new.mtr.pass.now in
    let key = c.args.key in let path : List ℕ = c.in-Ok.path in let fresh : List ℕ = c.in-Ok-try_fresh.fresh in
    let has = ready g (goal.at.commit_nowait-requires-clause-may g c).After-facts_of_session-2 in
    let holds = has.holds in
    let planned = c.plan_in.ensures.planned in
    let last : c.plan_in.new.mtr.latches.now.sizes ≡ sizes = ap (λ m. m.now.sizes) (c.plan_in.ensures.still.latches ∙ (c.try_fresh.ensures.still.latches ∙ (c.needed.ensures.still.latches ∙ (c.try_path.ensures.still.latches ∙ c.start-mtr.ensures.latches)))) in
    let few : total t.view.grants < 2 ^ 52 = (let a = holds.grants in let b = has.reached.grants in let room = c.requires.may.room in omega arith) in
    let may = may-grow sizes key path holds.held t holds.growing has.seated few holds.short holds.follow c.args.value fresh holds.fresh_are has.missing planned.0 planned.2 planned.3 planned.4 in
    subst (λ (s : Sizes). MayCommit (IsKeptLog s.pages) c.plan_in.new.mtr.pass.now (Insert key c.args.value)) (sym last)
    (subst (λ (u : PassState). MayCommit (IsKeptLog sizes.pages) u (Insert key c.args.value)) (sym planned.1) may)

pub returns-in-Ok-at_log-clause-changed : goal.returns-in-Ok-at_log-clause-changed
returns-in-Ok-at_log-clause-changed g c =
    let sizes : Sizes = c.args.latches.now.sizes in let p : PassState = c.args.pass.now in let q : PassState = c.try_path.new.mtr.pass.now in let t : PassState = c.try_fresh.new.mtr.pass.now in let r : PassState = c.commit_nowait.new.self.1.0 in
    let key = c.args.key in let path : List ℕ = c.in-Ok.path in let fresh : List ℕ = c.in-Ok-try_fresh.fresh in let call : Call = InsertCall key c.args.value in
    let has = ready g (goal.at.returns-in-Ok-at_log-clause-changed g c).After-facts_of_session-2 in
    let reached = has.reached in let holds = has.holds in
    let planned = c.plan_in.ensures.planned in
    let last : c.plan_in.new.mtr.latches.now.sizes ≡ sizes = ap (λ m. m.now.sizes) (c.plan_in.ensures.still.latches ∙ (c.try_fresh.ensures.still.latches ∙ (c.needed.ensures.still.latches ∙ (c.try_path.ensures.still.latches ∙ c.start-mtr.ensures.latches)))) in
    let ends : CommitAnswered sizes (tree_calls sizes) call (Insert key c.args.value) Inserted c.in-Ok-at_log.committed c.changed.result (with_work planned.0 t) r =
    commit-answered sizes c.plan_in.new.mtr.latches.now.sizes tree_calls call (Insert key c.args.value) Inserted c.in-Ok-at_log.committed c.changed.result c.place.result (with_work planned.0 t) c.plan_in.new.mtr.pass.now r
    last planned.1 (search rules) c.changed.ensures.made c.changed.ensures.full (told-made c.plan_in.new.mtr.latches.now.sizes (Insert key c.args.value) c.commit_nowait.result c.plan_in.new.mtr.pass.now r c.commit_nowait.ensures.committed c.commit_nowait.ensures.not_committed c.in-Ok-at_log.committed c.in-Ok-at_log.ensures.told) (told-full c.plan_in.new.mtr.latches.now.sizes (Insert key c.args.value) c.commit_nowait.result c.plan_in.new.mtr.pass.now r c.commit_nowait.ensures.committed c.commit_nowait.ensures.not_committed c.in-Ok-at_log.committed c.in-Ok-at_log.ensures.told) in
    let called = called-ended sizes key path holds.held p t (went_both p q t reached.went holds.went) (looked_first p q t reached.went holds.went reached.looked) holds.growing has.seated c.in-Ok-at_log.committed planned.0 c.args.value c.changed.result r has.missing
    (λ memory bits a. let f = holds.fresh_are memory bits a in (f.0, f.1.enough)) ends in
    let changed = changed-ended sizes call (Insert key c.args.value) Inserted c.in-Ok-at_log.committed c.changed.result planned.0 p t r ends (let a = holds.claims in let b = reached.claims in omega arith)
    (let a = holds.grants in let b = reached.grants in omega arith) called in
    subst (HasChangedTree sizes call c.changed.result p) (search rules) changed

pub returns-then-is_some-clause-twice : goal.returns-then-is_some-clause-twice
returns-then-is_some-clause-twice g c =
    let sizes : Sizes = c.try_path.new.mtr.latches.now.sizes in let p : PassState = c.args.pass.now in let q : PassState = c.try_path.new.mtr.pass.now in let r : PassState = c.commit_read-place.new.self.1.0 in
    let few = c.in-Ok.ensures.twice in
    let done : AreFewLooks 0 p.view r.view = few-read sizes c.commit_read-place.result p q r c.commit_read-place.ensures (search (rules, few)) in
    search (rules, done)

pub returns-in_default-clause-twice : goal.returns-in_default-clause-twice
returns-in_default-clause-twice g c =
    let sizes : Sizes = c.needed.new.mtr.latches.now.sizes in let p : PassState = c.args.pass.now in let q : PassState = c.try_path.new.mtr.pass.now in let u : PassState = c.needed.new.mtr.pass.now in let r : PassState = c.commit_read-place-in_default.new.self.1.0 in
    let pass : q ≡ u = sym (ap (λ m. m.now) c.needed.ensures.pass) in
    let few = c.in-Ok.ensures.twice in let few-q : AreFewLooks 0 p.view q.view = search (rules, few) in
    let done : AreFewLooks 0 p.view r.view = few-read sizes c.commit_read-place-in_default.result p u r c.commit_read-place-in_default.ensures (subst (λ (s : PassState). AreFewLooks 0 p.view s.view) pass few-q) in
    search (rules, done)

pub returns-in-Err-Short-clause-twice : goal.returns-in-Err-Short-clause-twice
returns-in-Err-Short-clause-twice g c =
    let sizes : Sizes = c.try_fresh.new.mtr.latches.now.sizes in let p : PassState = c.args.pass.now in let q : PassState = c.try_path.new.mtr.pass.now in let t : PassState = c.try_fresh.new.mtr.pass.now in let r : PassState = c.commit_read-place-in-Err-Short.new.self.1.0 in
    let pass : c.needed.new.mtr.pass.now ≡ q = ap (λ m. m.now) c.needed.ensures.pass in
    let few = c.in-Ok.ensures.twice in let few-q : AreFewLooks 0 p.view q.view = search (rules, few) in
    let is : c.in-Err-Short.field-0 ≡ Short c.in-Err-Short.free = search rules in
    let few-t : AreFewLooks 0 q.view t.view = subst (λ (v : PassState). AreFewLooks 0 v.view t.view) pass (c.in-Err-Short.ensures.short c.in-Err-Short.free is) in
    let done : AreFewLooks 0 p.view r.view = few-read sizes c.commit_read-place-in-Err-Short.result p t r c.commit_read-place-in-Err-Short.ensures (few_both 0 p.view q.view t.view few-q few-t) in
    search (rules, done)

pub returns-in-Ok-at_log-clause-twice : goal.returns-in-Ok-at_log-clause-twice
returns-in-Ok-at_log-clause-twice g c =
    let p : PassState = c.args.pass.now in let q : PassState = c.try_path.new.mtr.pass.now in let t : PassState = c.try_fresh.new.mtr.pass.now in let r : PassState = c.commit_nowait.new.self.1.0 in
    let pass : c.needed.new.mtr.pass.now ≡ q = ap (λ m. m.now) c.needed.ensures.pass in
    let planned = c.plan_in.ensures.planned in let few = c.in-Ok.ensures.twice in let few-q : AreFewLooks 0 p.view q.view = search (rules, few) in
    let few-t : AreFewLooks 0 q.view t.view = subst (λ (v : PassState). AreFewLooks 0 v.view t.view) pass c.in-Ok-try_fresh.ensures.twice in
    let done : AreFewLooks 0 p.view r.view = told-few c.plan_in.new.mtr.latches.now.sizes (Insert c.args.key c.args.value) c.commit_nowait.result c.plan_in.new.mtr.pass.now r c.commit_nowait.ensures.committed c.commit_nowait.ensures.not_committed c.in-Ok-at_log.committed c.in-Ok-at_log.ensures.told planned.0 p t planned.1 c.commit_nowait.ensures.most c.commit_nowait.ensures.waits (few_both 0 p.view q.view t.view few-q few-t) in
    search (rules, done)

pub returns-in-Err-clause-contended : goal.returns-in-Err-clause-contended
returns-in-Err-clause-contended g c =
    let sizes : Sizes = c.args.latches.now.sizes in let p : PassState = c.args.pass.now in let q : PassState = c.try_path.new.mtr.pass.now in let f = c.in-Err.fault in let key = c.args.key in
    let refused = c.in-Err.ensures.refused in
    let ended : IsContended sizes (TakesToInsert sizes key) most_to_insert f p (finished q) = contended-search sizes (TakesFor (IsHeldByInsert 1 key) (by_place opening sizes.pages) 1 key) (TakesToInsert sizes key) (record { s = 8; sx = 1; x = 10 }) most_to_insert f p q (λ log mode l t. inl t) (omega arith) (omega arith) (omega arith) (search (rules, refused)) in
    subst (IsContended sizes (TakesToInsert sizes key) most_to_insert f p) (search rules) (subst (IsContended sizes (TakesToInsert sizes key) most_to_insert f p) (sym c.finish.ensures.finished) ended)

pub give_back-requires : goal.give_back-requires
give_back-requires g c = without_work c.try_fresh.new.mtr.latches.now c.try_fresh.new.mtr.pass.now c.try_fresh.ensures.still.mtr

pub returns-in-Err-Refused-clause-contended : goal.returns-in-Err-Refused-clause-contended
returns-in-Err-Refused-clause-contended g c =
    let sizes : Sizes = c.args.latches.now.sizes in let p : PassState = c.args.pass.now in let q : PassState = c.try_path.new.mtr.pass.now in let t : PassState = c.try_fresh.new.mtr.pass.now in let u : PassState = c.give_back.new.self.pass.now in
    let key = c.args.key in let path : List ℕ = c.in-Ok.path in let f = c.in-Err-Refused.fault in let need = c.in-Ok-needed.need in
    let reached = came g (goal.at.returns-in-Err-Refused-clause-contended g c).In-Ok in
    let then : c.needed.new.mtr.latches.now.sizes ≡ sizes = ap (λ m. m.now.sizes) (c.needed.ensures.still.latches ∙ (c.try_path.ensures.still.latches ∙ c.start-mtr.ensures.latches)) in
    let pass : c.needed.new.mtr.pass.now ≡ q = ap (λ m. m.now) c.needed.ensures.pass in
    let needs : NeedsPages sizes.pages key path need q.work = λ memory bits a. c.in-Ok-needed.ensures.needed sizes.pages 1 key memory bits a in
    let old : Sizes = c.needed.new.mtr.latches.now.sizes in let v : PassState = c.needed.new.mtr.pass.now in
    let is : c.in-Err-Refused.field-0 ≡ Refused c.in-Err-Refused.fault = search rules in
    let told : (key : MapKey) → (p : PassState) → HasClaimedPath old key path p v → NeedsPages old.pages key path need v.work → HasNotTakenFresh old key path need (Refused c.in-Err-Refused.fault) v t =
    subst (λ (fault : FreshFault). (key : MapKey) → (p : PassState) → HasClaimedPath old key path p v → NeedsPages old.pages key path need v.work → HasNotTakenFresh old key path need fault v t) is c.in-Err-Refused.ensures.not_taken in
    let refused : IsRefusal sizes (IsKeptLog sizes.pages) (TakesFresh sizes key) (record { s = 0; sx = 0; x = 9 }) f q t =
    subst (λ (v : PassState). (key : MapKey) → (p : PassState) → HasClaimedPath sizes key path p v → NeedsPages sizes.pages key path need v.work → IsRefusal sizes (IsKeptLog sizes.pages) (TakesFresh sizes key) (record { s = 0; sx = 0; x = 9 }) f v t) pass
    (subst (λ (s : Sizes). (key : MapKey) → (p : PassState) → HasClaimedPath s key path p c.needed.new.mtr.pass.now → NeedsPages s.pages key path need c.needed.new.mtr.pass.now.work → IsRefusal s (IsKeptLog s.pages) (TakesFresh s key) (record { s = 0; sx = 0; x = 9 }) f c.needed.new.mtr.pass.now t) then told)
    key p reached needs in
    let few = c.in-Ok.ensures.twice in let took = c.in-Ok.ensures.grants in
    let ended = contended-behind sizes (TakesFresh sizes key) (TakesToInsert sizes key) (record { s = 0; sx = 0; x = 9 }) (record { s = 8; sx = 1; x = 10 }) most_to_insert f p q t u (λ log mode l fresh. inr (fresh.0, inl fresh.1)) (omega arith) (omega arith) (omega arith)
    reached.went (search (rules, few)) (search (rules, took)) refused c.give_back.ensures.given c.give_back.ensures.idle in
    let told-pass : IsContended sizes (TakesToInsert sizes key) most_to_insert f p c.pass-in-Err-Refused-1.given.0 = subst (IsContended sizes (TakesToInsert sizes key) most_to_insert f p) (search rules) (subst (IsContended sizes (TakesToInsert sizes key) most_to_insert f p) (sym c.finish-in-Err-Refused.ensures.finished) ended) in
    subst (λ (fault : NowaitFault). IsContended sizes (TakesToInsert sizes key) most_to_insert fault p c.pass-in-Err-Refused-1.given.0) (search rules) told-pass

pub returns-in-Err-at_log-clause-contended : goal.returns-in-Err-at_log-clause-contended
returns-in-Err-at_log-clause-contended g c =
    let sizes : Sizes = c.args.latches.now.sizes in let p : PassState = c.args.pass.now in let q : PassState = c.try_path.new.mtr.pass.now in let t : PassState = c.try_fresh.new.mtr.pass.now in let r : PassState = c.commit_nowait.new.self.1.0 in
    let key = c.args.key in
    let has = ready g (goal.at.returns-in-Err-at_log-clause-contended g c).After-facts_of_session-2 in
    let planned = c.plan_in.ensures.planned in let refused = c.in-Err-at_log.ensures.refused in
    let last : c.plan_in.new.mtr.latches.now.sizes ≡ sizes = ap (λ m. m.now.sizes) (c.plan_in.ensures.still.latches ∙ (c.try_fresh.ensures.still.latches ∙ (c.needed.ensures.still.latches ∙ (c.try_path.ensures.still.latches ∙ c.start-mtr.ensures.latches)))) in
    let pass : c.needed.new.mtr.pass.now ≡ q = ap (λ m. m.now) c.needed.ensures.pass in
    let log = log-refusal c.plan_in.new.mtr.latches.now.sizes (Insert key c.args.value) c.commit_nowait.result c.plan_in.new.mtr.pass.now r c.commit_nowait.ensures.committed c.commit_nowait.ensures.not_committed sizes (with_work planned.0 t) refused.0 last planned.1 refused.1 in
    let few = c.in-Ok.ensures.twice in let took = c.in-Ok.ensures.grants in
    let few-q : AreFewLooks 0 p.view q.view = search (rules, few) in let took-q : AreFewGrants (record { s = 8; sx = 1; x = 10 }) p.view q.view = search (rules, took) in
    let few-t : AreFewLooks 0 q.view t.view = subst (λ (v : PassState). AreFewLooks 0 v.view t.view) pass c.in-Ok-try_fresh.ensures.twice in
    let took-t : AreFewGrants (record { s = 0; sx = 0; x = 9 }) q.view t.view = subst (λ (v : PassState). AreFewGrants (record { s = 0; sx = 0; x = 9 }) v.view t.view) pass c.in-Ok-try_fresh.ensures.grants in
    let grants : AreFewGrants most_to_insert p.view t.view = (let a = took-q.s in let b = took-q.sx in let d = took-q.x in let i = took-t.s in let j = took-t.sx in let k = took-t.x in record { s = omega arith; sx = omega arith; x = omega arith }) in
    let ended : IsContended sizes (TakesToInsert sizes key) most_to_insert (fault_on (record { 0 = 0 }) refused.0) p r =
    contended-log sizes (TakesToInsert sizes key) most_to_insert refused.0 planned.0 p t r (went_both p q t has.reached.went has.holds.went) (few_both 0 p.view q.view t.view few-q few-t) grants has.seated.role log (inr (refl, inr refl)) in
    subst (IsContended sizes (TakesToInsert sizes key) most_to_insert c.in-Err-at_log.fault p) (search rules) (subst (λ (f : NowaitFault). IsContended sizes (TakesToInsert sizes key) most_to_insert f p r) (sym refused.2) ended)
