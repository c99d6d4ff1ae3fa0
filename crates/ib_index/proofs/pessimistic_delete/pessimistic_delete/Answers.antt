-- The call was answered.
use Rattle.std.specs.Prelude.{IsSome, ◌^◌}
use Rattle.std.proofs.Common.{rules, ◌≡◌, ◌∙◌, ◌<◌, ℕ, List, None, refl, ap, sym, subst, arith}
use Rattle.ib_map.specs.declared.call.Call.{Call}
use Rattle.ib_map.specs.declared.call.Call.TheVariants.{Delete as DeleteCall}
use Rattle.ib_map.specs.declared.call.Change.TheVariants.{Delete}
use Rattle.ib_map.specs.declared.call.Reply.TheVariants.{Deleted, Missing}
use Rattle.ib_layout.specs.Geometry.{Sizes}
use Rattle.ib_planned_log.specs.Kept.{IsKeptLog}
use Rattle.ib_rule.specs.Pass.{PassState}
use Rattle.ib_rule.specs.Views.{total}
use Rattle.ib_mtr.specs.Commits.{HasRead, MayCommit}
use Rattle.ib_mtr.specs.Mtr.{with_work}
use Rattle.ib_index.specs.Grows.{HasChangedTree, IsGrowing, tree_pages}
use Rattle.ib_leaf.specs.Calls.{tree_calls}
use Rattle.ib_leaf.specs.Leaf.{IsSeated}
use Rattle.ib_index.specs.Shrinks.{HasClaimedSiblings}
use Rattle.ib_leaf.proofs.CommitLaws.{CommitAnswered, commit-answered}
use Rattle.ib_index.proofs.EndLaws.{changed-ended, changed-read}
use Rattle.ib_index.proofs.ShrinkCalls.{called-missing, called-shrunk}
use Rattle.ib_index.proofs.ShrinkMay.{may-shrink}
use Rattle.ib_index.proofs.ShrinkWhole.{IsReadyToShrink, ready-to-shrink, siblings-started}
use Rattle.ib_index.proofs.pessimistic_delete.pessimistic_delete.Given.{Over}
use Rattle.ib_index.proofs.pessimistic_delete.pessimistic_delete.Goals.{After-facts_of_session-2}
use Rattle.ib_index.proofs.pessimistic_delete.pessimistic_delete.Goals as goal

moved : (P : PassState → Type 0) (r u : PassState) → r ≡ u → P r → P u
moved P r u same h = subst P same h

pub returns-in_default-clause-changed : goal.returns-in_default-clause-changed
returns-in_default-clause-changed g c =
    moved (HasChangedTree c.args.latches.now.sizes (DeleteCall c.args.key) (record { call = DeleteCall c.args.key; reply = Missing; place = c.commit_read-place.result }) c.args.pass.now) c.commit_read-place.new.self.1.0 _ (search rules) (
    let sizes : Sizes = c.args.latches.now.sizes in let p : PassState = c.args.pass.now in let q : PassState = c.claim_siblings-path.new.mtr.pass.now in let r : PassState = c.commit_read-place.new.self.1.0 in
    let key = c.args.key in let path : List ℕ = c.claim_siblings-path.result in let call : Call = DeleteCall key in let place = c.commit_read-place.result in
    let at = c.claim_siblings-path.ensures.reached in
    let reached : HasClaimedSiblings sizes key path p q = siblings-started sizes key path p q (search (rules, at)) in
    let same : c.claim_siblings-path.new.mtr.latches.now.sizes ≡ sizes = ap (λ m. m.now.sizes) (c.claim_siblings-path.ensures.still.latches ∙ c.start-mtr.ensures.latches) in
    let seated : IsSeated sizes q = subst (λ (s : Sizes). IsSeated s q) same c.facts_of_session.ensures in
    let read : HasRead sizes (IsKeptLog sizes.pages) q place r = subst (λ (s : Sizes). HasRead s (IsKeptLog s.pages) q place r) same c.commit_read-place.ensures in
    let none : c.value_in.result ≡ None = search rules in
    let called = called-missing sizes key path (tree_pages reached.held) p q reached.went reached.looked reached.growing seated place r read (sym c.value_in.ensures ∙ none) in
    changed-read sizes call Missing place p q r read (let a = reached.claims in omega arith) (let a = reached.grants in omega arith) called)

pub take_space-requires-clause-ready : goal.take_space-requires-clause-ready
take_space-requires-clause-ready g c =
    let path : List ℕ = c.claim_siblings-path.result in let reached = c.claim_siblings-path.ensures.reached in
    let size : c.claim_siblings-path.new.mtr.latches.now.sizes ≡ c.start-mtr.result.latches.now.sizes = ap (λ m. m.now.sizes) c.claim_siblings-path.ensures.still.latches in
    (c.args.key, path, reached.held, subst (λ (s : Sizes). IsGrowing s c.args.key path (tree_pages reached.held) c.claim_siblings-path.new.mtr.pass.now) (sym size) reached.growing, reached.zero, reached.few)

-- what the delete reads and writes is held
ready : (g : Over) (c : After-facts_of_session-2 g)
    → IsReadyToShrink c.args.latches.now.sizes c.args.key c.claim_siblings-path.result c.in-Some.value c.args.pass.now c.take_space.new.mtr.pass.now
ready g c =
    let sizes : Sizes = c.args.latches.now.sizes in let p : PassState = c.args.pass.now in let q : PassState = c.claim_siblings-path.new.mtr.pass.now in let t : PassState = c.take_space.new.mtr.pass.now in
    let key = c.args.key in let path : List ℕ = c.claim_siblings-path.result in let value : ℕ = c.in-Some.value in
    let at = c.claim_siblings-path.ensures.reached in
    let reached : HasClaimedSiblings sizes key path p q = siblings-started sizes key path p q (search (rules, at)) in
    let old : Sizes = c.claim_siblings-path.new.mtr.latches.now.sizes in
    let same : old ≡ sizes = ap (λ m. m.now.sizes) (c.claim_siblings-path.ensures.still.latches ∙ c.start-mtr.ensures.latches) in
    let then : c.take_space.new.mtr.latches.now.sizes ≡ old = ap (λ m. m.now.sizes) c.take_space.ensures.still.latches in
    ready-to-shrink sizes key path value p q t reached old c.take_space.new.mtr.latches.now.sizes same then (c.take_space.ensures.grown key path reached.held) c.facts_of_session-2.ensures (sym c.value_in.ensures ∙ c.in-Some.is)

pub plan_in-requires-clause-can : goal.plan_in-requires-clause-can
plan_in-requires-clause-can g c = (ready g (goal.at.plan_in-requires-clause-can g c).After-facts_of_session-2).can

pub plan_in-requires-clause-there : goal.plan_in-requires-clause-there
plan_in-requires-clause-there g c = subst IsSome (sym (ready g (goal.at.plan_in-requires-clause-there g c).After-facts_of_session-2).value_is) refl

pub commit-committed-requires-clause-may : goal.commit-committed-requires-clause-may
commit-committed-requires-clause-may g c =
    let sizes : Sizes = c.args.latches.now.sizes in let p : PassState = c.args.pass.now in let t : PassState = c.take_space.new.mtr.pass.now in
    let key = c.args.key in let path : List ℕ = c.claim_siblings-path.result in let value : ℕ = c.in-Some.value in
    let has = ready g (goal.at.commit-committed-requires-clause-may g c).After-facts_of_session-2 in
    let planned = c.plan_in.ensures.planned in
    let last : c.plan_in.new.mtr.latches.now.sizes ≡ sizes = ap (λ m. m.now.sizes) (c.plan_in.ensures.still.latches ∙ (c.take_space.ensures.still.latches ∙ (c.claim_siblings-path.ensures.still.latches ∙ c.start-mtr.ensures.latches))) in
    let few : total t.view.grants < 2 ^ 52 = (let a = has.grants in let room = c.requires.may.room in omega arith) in
    let may = may-shrink sizes key path has.held t has.growing has.seated few has.short has.follow value has.value_is planned.0 planned.2 planned.3 planned.4 in
    subst (λ (s : Sizes). MayCommit (IsKeptLog s.pages) c.plan_in.new.mtr.pass.now (Delete key)) (sym last)
    (subst (λ (u : PassState). MayCommit (IsKeptLog sizes.pages) u (Delete key)) (sym planned.1) may)

pub returns-clause-changed : goal.returns-clause-changed
returns-clause-changed g c =
    let sizes : Sizes = c.args.latches.now.sizes in let p : PassState = c.args.pass.now in let t : PassState = c.take_space.new.mtr.pass.now in
    let key = c.args.key in let path : List ℕ = c.claim_siblings-path.result in let value : ℕ = c.in-Some.value in
    let has = ready g (goal.at.returns-clause-changed g c).After-facts_of_session-2 in
    let planned = c.plan_in.ensures.planned in let r : PassState = c.commit-committed.new.self.1.0 in let call : Call = DeleteCall key in
    let last : c.plan_in.new.mtr.latches.now.sizes ≡ sizes = ap (λ m. m.now.sizes) (c.plan_in.ensures.still.latches ∙ (c.take_space.ensures.still.latches ∙ (c.claim_siblings-path.ensures.still.latches ∙ c.start-mtr.ensures.latches))) in
    let ends : CommitAnswered sizes (tree_calls sizes) call (Delete key) (Deleted value) c.commit-committed.result c.changed.result (with_work planned.0 t) r =
    commit-answered sizes c.plan_in.new.mtr.latches.now.sizes tree_calls call (Delete key) (Deleted value) c.commit-committed.result c.changed.result c.place.result (with_work planned.0 t) c.plan_in.new.mtr.pass.now r
    last planned.1 (search rules) c.changed.ensures.made c.changed.ensures.full c.commit-committed.ensures.committed c.commit-committed.ensures.full in
    let called = called-shrunk sizes key path has.held p t has.went has.looked has.growing has.seated value has.value_is planned.0 c.commit-committed.result c.changed.result r ends in
    let changed = changed-ended sizes call (Delete key) (Deleted value) c.commit-committed.result c.changed.result planned.0 p t r ends (let a = has.claims in omega arith) (let a = has.grants in omega arith) called in
    subst (HasChangedTree sizes call c.changed.result p) (search rules) changed
