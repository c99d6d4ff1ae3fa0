-- The call was answered.
use Rattle.std.proofs.Common.{rules, ◌≡◌, ◌∙◌, ◌<◌, ℕ, List, length, ap, sym, subst, arith}
use Rattle.std.specs.Prelude.{◌^◌}
use Rattle.ib_map.specs.Keys.{MapKey}
use Rattle.ib_map.specs.declared.call.Call.{Call}
use Rattle.ib_map.specs.declared.call.Call.TheVariants.{Insert as InsertCall}
use Rattle.ib_map.specs.declared.call.Change.TheVariants.{Insert}
use Rattle.ib_map.specs.declared.call.Reply.TheVariants.{Duplicate, Inserted, SpaceFull, TooHigh}
use Rattle.ib_layout.specs.Geometry.{Sizes}
use Rattle.ib_plans.specs.Agreement.{last_of}
use Rattle.ib_plans.proofs.PathListLaws.{length-path_down}
use Rattle.ib_walk.specs.Trees.{height_of}
use Rattle.ib_planned_log.specs.Kept.{IsKeptLog}
use Rattle.ib_planned_log.specs.LeafChange.{kept_pages}
use Rattle.ib_rule.specs.Pass.{PassState}
use Rattle.ib_rule.specs.Views.{total}
use Rattle.ib_mtr.specs.Commits.{HasRead, MayCommit}
use Rattle.ib_mtr.specs.Mtr.{with_work}
use Rattle.ib_cursor.proofs.LatchingLaws.{looked_first, went_both}
use Rattle.ib_leaf.specs.Calls.{tree_calls}
use Rattle.ib_leaf.specs.Leaf.{IsSeated}
use Rattle.ib_index.specs.Grows.{HasChangedTree, HasClaimedPath, IsShort, NeedsPages, tree_pages}
use Rattle.ib_index.proofs.SpaceTicks.{may-tick}
use Rattle.ib_leaf.proofs.OptionLaws.{no-value, some-value}
use Rattle.ib_leaf.proofs.CommitLaws.{CommitAnswered, commit-answered}
use Rattle.ib_index.proofs.EndLaws.{changed-ended, changed-read}
use Rattle.ib_index.proofs.GrowMay.{may-grow}
use Rattle.ib_index.proofs.GrowCalls.{called-duplicate, called-ended, called-high, called-short}
use Rattle.ib_index.proofs.GrowWhole.{IsReadyToGrow, can-insert, ready-to-grow, value-kept, path-started}
use Rattle.ib_index.proofs.pessimistic_insert.pessimistic_insert.Given.{Over}
use Rattle.ib_index.proofs.pessimistic_insert.pessimistic_insert.Goals.{After-facts_of_session-2, After-claim_path-path}
use Rattle.ib_index.proofs.pessimistic_insert.pessimistic_insert.Goals as goal

-- the mini-transaction has come to the path
came : (g : Over) (c : After-claim_path-path g) → HasClaimedPath c.args.latches.now.sizes c.args.key c.claim_path-path.result c.args.pass.now c.claim_path-path.new.mtr.pass.now
came g c =
    let p : PassState = c.args.pass.now in let q : PassState = c.claim_path-path.new.mtr.pass.now in
    let at = c.claim_path-path.ensures.reached in path-started c.args.latches.now.sizes c.args.key c.claim_path-path.result p q (search (rules, at))

pub returns-then-is_some-clause-changed : goal.returns-then-is_some-clause-changed
returns-then-is_some-clause-changed g c =
    let sizes : Sizes = c.args.latches.now.sizes in let p : PassState = c.args.pass.now in let q : PassState = c.claim_path-path.new.mtr.pass.now in let r : PassState = c.commit_read-place.new.self.1.0 in
    let key = c.args.key in let path : List ℕ = c.claim_path-path.result in let call : Call = InsertCall key c.args.value in let place = c.commit_read-place.result in
    let reached = came g (goal.at.returns-then-is_some-clause-changed g c).After-claim_path-path in
    let same : c.claim_path-path.new.mtr.latches.now.sizes ≡ sizes = ap (λ m. m.now.sizes) (c.claim_path-path.ensures.still.latches ∙ c.start-mtr.ensures.latches) in
    let seated : IsSeated sizes q = subst (λ (s : Sizes). IsSeated s q) same c.facts_of_session.ensures in
    let read : HasRead sizes (IsKeptLog sizes.pages) q place r = subst (λ (s : Sizes). HasRead s (IsKeptLog s.pages) q place r) same c.commit_read-place.ensures in
    let some = some-value c.value_in.result (sym c.is_some.ensures ∙ c.if-is_some.true) in
    let called = called-duplicate sizes key path (tree_pages reached.held) p q reached.went reached.looked reached.growing seated c.args.value place r read some.0 (sym c.value_in.ensures ∙ some.1) in
    let changed = changed-read sizes call Duplicate place p q r read (let a = reached.claims in omega arith) (let a = reached.grants in omega arith) called in
    subst (HasChangedTree sizes call (record { call = call; reply = Duplicate; place = place }) p) (search rules) changed

pub needed-requires-clause-some : goal.needed-requires-clause-some
needed-requires-clause-some g c = λ e.
    let on_path = c.claim_path-path.ensures.reached.growing.at.on_path in
    let a = ap length (sym on_path ∙ e) in
    let m = kept_pages c.start-mtr.result.latches.now.sizes.pages c.claim_path-path.new.mtr.pass.now.view.memory.seen in
    let b = length-path_down m c.args.key (height_of m 1) 1 in omega arith

pub take_fresh-requires-clause-ready : goal.take_fresh-requires-clause-ready
take_fresh-requires-clause-ready g c =
    let key = c.args.key in let path : List ℕ = c.claim_path-path.result in let q : PassState = c.claim_path-path.new.mtr.pass.now in
    let k : Sizes = c.start-mtr.result.latches.now.sizes in
    let size : c.needed.new.mtr.latches.now.sizes ≡ k = ap (λ m. m.now.sizes) (c.needed.ensures.still.latches ∙ c.claim_path-path.ensures.still.latches) in
    let pass : c.needed.new.mtr.pass.now ≡ q = ap (λ m. m.now) c.needed.ensures.pass in (
      key,
      c.start-mtr.result.pass.now,
      subst (λ (s : Sizes). HasClaimedPath s key path c.start-mtr.result.pass.now c.needed.new.mtr.pass.now) (sym size)
          (subst (HasClaimedPath k key path c.start-mtr.result.pass.now) (sym pass) c.claim_path-path.ensures.reached),
    )

pub returns-in_default-clause-changed : goal.returns-in_default-clause-changed
returns-in_default-clause-changed g c =
    let sizes : Sizes = c.args.latches.now.sizes in let p : PassState = c.args.pass.now in let q : PassState = c.claim_path-path.new.mtr.pass.now in let r : PassState = c.commit_read-place-in_default.new.self.1.0 in
    let key = c.args.key in let path : List ℕ = c.claim_path-path.result in let call : Call = InsertCall key c.args.value in let place = c.commit_read-place-in_default.result in
    let reached = came g (goal.at.returns-in_default-clause-changed g c).After-claim_path-path in
    let same : c.claim_path-path.new.mtr.latches.now.sizes ≡ sizes = ap (λ m. m.now.sizes) (c.claim_path-path.ensures.still.latches ∙ c.start-mtr.ensures.latches) in
    let then : c.needed.new.mtr.latches.now.sizes ≡ sizes = ap (λ m. m.now.sizes) c.needed.ensures.still.latches ∙ same in
    let pass : c.needed.new.mtr.pass.now ≡ q = ap (λ m. m.now) c.needed.ensures.pass in
    let seated : IsSeated sizes q = subst (λ (s : Sizes). IsSeated s q) same c.facts_of_session.ensures in
    let read : HasRead sizes (IsKeptLog sizes.pages) q place r = subst (λ (u : PassState). HasRead sizes (IsKeptLog sizes.pages) u place r) pass
    (subst (λ (s : Sizes). HasRead s (IsKeptLog s.pages) c.needed.new.mtr.pass.now place r) then c.commit_read-place-in_default.ensures) in
    let missing = sym c.value_in.ensures ∙ no-value c.value_in.result (sym c.is_some.ensures ∙ c.if-is_some.false) in
    let called = called-high sizes key path (tree_pages reached.held) p q reached.went reached.looked reached.growing seated c.args.value place r read missing
    (λ memory bits a. (c.in_default.ensures.needed sizes.pages 1 key memory bits a).0) in
    let changed = changed-read sizes call TooHigh place p q r read (let a = reached.claims in omega arith) (let a = reached.grants in omega arith) called in
    subst (HasChangedTree sizes call (record { call = call; reply = TooHigh; place = place }) p) (search rules) changed

pub returns-in-Err-clause-changed : goal.returns-in-Err-clause-changed
returns-in-Err-clause-changed g c =
    let sizes : Sizes = c.args.latches.now.sizes in let p : PassState = c.args.pass.now in let q : PassState = c.claim_path-path.new.mtr.pass.now in let t : PassState = c.take_fresh.new.mtr.pass.now in let r : PassState = c.commit_read-place-in-Err.new.self.1.0 in
    let key = c.args.key in let path : List ℕ = c.claim_path-path.result in let call : Call = InsertCall key c.args.value in let place = c.commit_read-place-in-Err.result in let free = c.in-Err.free in let need = c.in-Ok.need in
    let reached = came g (goal.at.returns-in-Err-clause-changed g c).After-claim_path-path in
    let then : c.needed.new.mtr.latches.now.sizes ≡ sizes = ap (λ m. m.now.sizes) (c.needed.ensures.still.latches ∙ (c.claim_path-path.ensures.still.latches ∙ c.start-mtr.ensures.latches)) in
    let taken-by : c.take_fresh.new.mtr.latches.now.sizes ≡ sizes = ap (λ m. m.now.sizes) c.take_fresh.ensures.still.latches ∙ then in
    let pass : c.needed.new.mtr.pass.now ≡ q = ap (λ m. m.now) c.needed.ensures.pass in
    let needs : NeedsPages sizes.pages key path need q.work = λ memory bits a. c.in-Ok.ensures.needed sizes.pages 1 key memory bits a in
    let absent = sym c.value_in.ensures ∙ no-value c.value_in.result (sym c.is_some.ensures ∙ c.if-is_some.false) in
    let short : IsShort sizes key path free need q t =
    subst (λ (u : PassState). (key : MapKey) → (p : PassState) → HasClaimedPath sizes key path p u → NeedsPages sizes.pages key path need u.work → IsShort sizes key path free need u t) pass
    (subst (λ (s : Sizes). (key : MapKey) → (p : PassState) → HasClaimedPath s key path p c.needed.new.mtr.pass.now → NeedsPages s.pages key path need c.needed.new.mtr.pass.now.work → IsShort s key path free need c.needed.new.mtr.pass.now t) then c.in-Err.ensures.short)
    key p reached needs in
    let seated : IsSeated sizes t = subst (λ (s : Sizes). IsSeated s t) taken-by c.facts_of_session-in-Err.ensures in
    let missing = value-kept key (last_of path) q.work t.work (short.same (last_of path) reached.growing.leaf) ∙ absent in
    let read : HasRead sizes (IsKeptLog sizes.pages) t place r = subst (λ (s : Sizes). HasRead s (IsKeptLog s.pages) t place r) taken-by c.commit_read-place-in-Err.ensures in
    let called = called-short sizes key path short.held p t (went_both p q t reached.went short.went) (looked_first p q t reached.went short.went reached.looked) short.growing seated c.args.value place r read missing free need short.lacks in
    let changed = changed-read sizes call (SpaceFull free need) place p t r read (let a = short.claims in let b = reached.claims in omega arith) (let a = short.grants in let b = reached.grants in omega arith) called in
    subst (HasChangedTree sizes call (record { call = call; reply = SpaceFull free need; place = place }) p) (search rules) changed

-- what the insert reads and writes is held
ready : (g : Over) (c : After-facts_of_session-2 g)
    → IsReadyToGrow c.args.latches.now.sizes c.args.key c.claim_path-path.result c.in-Ok-take_fresh.fresh c.args.pass.now c.claim_path-path.new.mtr.pass.now c.take_fresh.new.mtr.pass.now
ready g c =
    let sizes : Sizes = c.args.latches.now.sizes in let p : PassState = c.args.pass.now in let q : PassState = c.claim_path-path.new.mtr.pass.now in let t : PassState = c.take_fresh.new.mtr.pass.now in
    let key = c.args.key in let path : List ℕ = c.claim_path-path.result in
    let at = c.claim_path-path.ensures.reached in
    let then : c.needed.new.mtr.latches.now.sizes ≡ sizes = ap (λ m. m.now.sizes) (c.needed.ensures.still.latches ∙ (c.claim_path-path.ensures.still.latches ∙ c.start-mtr.ensures.latches)) in
    ready-to-grow sizes c.needed.new.mtr.latches.now.sizes c.take_fresh.new.mtr.latches.now.sizes key path c.in-Ok-take_fresh.fresh c.in-Ok.need p q c.needed.new.mtr.pass.now t (path-started sizes key path p q (search (rules, at))) then
    (ap (λ m. m.now.sizes) c.take_fresh.ensures.still.latches ∙ then) (ap (λ m. m.now) c.needed.ensures.pass) c.in-Ok-take_fresh.ensures.taken (λ memory bits a. c.in-Ok.ensures.needed sizes.pages 1 key memory bits a) c.facts_of_session-2.ensures
    (sym c.value_in.ensures ∙ no-value c.value_in.result (sym c.is_some.ensures ∙ c.if-is_some.false))

pub plan_in-requires-clause-missing : goal.plan_in-requires-clause-missing
plan_in-requires-clause-missing g c = (ready g (goal.at.plan_in-requires-clause-missing g c).After-facts_of_session-2).missing

pub plan_in-requires-clause-can : goal.plan_in-requires-clause-can
plan_in-requires-clause-can g c =
    let sizes : Sizes = c.args.latches.now.sizes in let p : PassState = c.args.pass.now in let q : PassState = c.claim_path-path.new.mtr.pass.now in let t : PassState = c.take_fresh.new.mtr.pass.now in
    let key = c.args.key in let path : List ℕ = c.claim_path-path.result in let fresh : List ℕ = c.in-Ok-take_fresh.fresh in
    let has = ready g (goal.at.plan_in-requires-clause-can g c).After-facts_of_session-2 in
    can-insert sizes key path fresh p q t has.seated has.reached has.holds (may-tick sizes key path t has.seated has.holds.growing.at)

pub commit-committed-requires-clause-may : goal.commit-committed-requires-clause-may
commit-committed-requires-clause-may g c =
    let sizes : Sizes = c.args.latches.now.sizes in let p : PassState = c.args.pass.now in let q : PassState = c.claim_path-path.new.mtr.pass.now in let t : PassState = c.take_fresh.new.mtr.pass.now in
    let key = c.args.key in let path : List ℕ = c.claim_path-path.result in let fresh : List ℕ = c.in-Ok-take_fresh.fresh in
    let has = ready g (goal.at.commit-committed-requires-clause-may g c).After-facts_of_session-2 in
    let holds = has.holds in
    let planned = c.plan_in.ensures.planned in
    let last : c.plan_in.new.mtr.latches.now.sizes ≡ sizes = ap (λ m. m.now.sizes) (c.plan_in.ensures.still.latches ∙ (c.take_fresh.ensures.still.latches ∙ (c.needed.ensures.still.latches ∙ (c.claim_path-path.ensures.still.latches ∙ c.start-mtr.ensures.latches)))) in
    let few : total t.view.grants < 2 ^ 52 = (let a = holds.grants in let b = has.reached.grants in let room = c.requires.may.room in omega arith) in
    let may = may-grow sizes key path holds.held t holds.growing has.seated few holds.short holds.follow c.args.value fresh holds.fresh_are has.missing planned.0 planned.2 planned.3 planned.4 in
    subst (λ (s : Sizes). MayCommit (IsKeptLog s.pages) c.plan_in.new.mtr.pass.now (Insert key c.args.value)) (sym last)
    (subst (λ (u : PassState). MayCommit (IsKeptLog sizes.pages) u (Insert key c.args.value)) (sym planned.1) may)

pub returns-clause-changed : goal.returns-clause-changed
returns-clause-changed g c =
    let sizes : Sizes = c.args.latches.now.sizes in let p : PassState = c.args.pass.now in let q : PassState = c.claim_path-path.new.mtr.pass.now in let t : PassState = c.take_fresh.new.mtr.pass.now in let r : PassState = c.commit-committed.new.self.1.0 in
    let key = c.args.key in let path : List ℕ = c.claim_path-path.result in let fresh : List ℕ = c.in-Ok-take_fresh.fresh in let call : Call = InsertCall key c.args.value in
    let has = ready g (goal.at.returns-clause-changed g c).After-facts_of_session-2 in
    let reached = has.reached in let holds = has.holds in
    let planned = c.plan_in.ensures.planned in
    let last : c.plan_in.new.mtr.latches.now.sizes ≡ sizes = ap (λ m. m.now.sizes) (c.plan_in.ensures.still.latches ∙ (c.take_fresh.ensures.still.latches ∙ (c.needed.ensures.still.latches ∙ (c.claim_path-path.ensures.still.latches ∙ c.start-mtr.ensures.latches)))) in
    let ends : CommitAnswered sizes (tree_calls sizes) call (Insert key c.args.value) Inserted c.commit-committed.result c.changed.result (with_work planned.0 t) r =
    commit-answered sizes c.plan_in.new.mtr.latches.now.sizes tree_calls call (Insert key c.args.value) Inserted c.commit-committed.result c.changed.result c.place.result (with_work planned.0 t) c.plan_in.new.mtr.pass.now r
    last planned.1 (search rules) c.changed.ensures.made c.changed.ensures.full c.commit-committed.ensures.committed c.commit-committed.ensures.full in
    let called = called-ended sizes key path holds.held p t (went_both p q t reached.went holds.went) (looked_first p q t reached.went holds.went reached.looked) holds.growing has.seated c.commit-committed.result planned.0 c.args.value c.changed.result r has.missing
    (λ memory bits a. let f = holds.fresh_are memory bits a in (f.0, f.1.enough)) ends in
    let changed = changed-ended sizes call (Insert key c.args.value) Inserted c.commit-committed.result c.changed.result planned.0 p t r ends (let a = holds.claims in let b = reached.claims in omega arith)
    (let a = holds.grants in let b = reached.grants in omega arith) called in
    subst (HasChangedTree sizes call c.changed.result p) (search rules) changed
