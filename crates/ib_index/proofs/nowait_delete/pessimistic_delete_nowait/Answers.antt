-- The call was answered.
use Rattle.std.specs.Prelude.{IsSome, ◌^◌}
use Rattle.std.proofs.Common.{rules, ◌≡◌, ◌∙◌, ◌<◌, ℕ, List, None, refl, ap, sym, subst, arith}
use Rattle.ib_map.specs.declared.call.Call.{Call}
use Rattle.ib_map.specs.declared.call.Call.TheVariants.{Delete as DeleteCall}
use Rattle.ib_map.specs.declared.call.Change.TheVariants.{Delete}
use Rattle.ib_map.specs.declared.call.Reply.TheVariants.{Deleted, Missing}
use Rattle.ib_layout.specs.Geometry.{Sizes}
use Rattle.ib_planned_log.specs.Kept.{IsKeptLog}
use Rattle.ib_rule.specs.Pass.{PassState}
use Rattle.ib_rule.specs.Views.{total}
use Rattle.ib_mtr.specs.Commits.{HasRead, MayCommit}
use Rattle.ib_mtr.specs.Mtr.{with_work}
use Rattle.std.proofs.Common.{inl, inr}
use Rattle.ib_levels.specs.declared.level.Mode.TheVariants.{X}
use Rattle.ib_logrec.specs.Log.{by_place}
use Rattle.ib_tree.specs.TreeLog.{opening}
use Rattle.ib_rule.specs.declared.looks.Grants.{Grants}
use Rattle.ib_mtr.specs.Mtr.{finished}
use Rattle.ib_cursor.specs.declared.fault.NowaitFault.{NowaitFault}
use Rattle.ib_cursor.specs.Contention.{fault_on}
use Rattle.ib_cursor.specs.Refusals.{AreFewGrants, AreFewLooks, IsHeldByDelete, IsVainTry, TakesFor}
use Rattle.ib_cursor.proofs.RefusalLaws.{few_both, refusal_by, without_work}
use Rattle.ib_index.specs.Refusals.{IsContended, TakesToDelete, most_to_delete}
use Rattle.ib_index.proofs.ContendedLaws.{contended-behind, contended-log, contended-search, few-read}
use Rattle.ib_index.proofs.LogEndLaws.{log-refusal, told-few, told-full, told-made}
use Rattle.ib_index.specs.Grows.{HasChangedTree, IsGrowing, tree_pages}
use Rattle.ib_leaf.specs.Calls.{tree_calls}
use Rattle.ib_leaf.specs.Leaf.{IsSeated}
use Rattle.ib_index.specs.Shrinks.{HasClaimedSiblings}
use Rattle.ib_leaf.proofs.CommitLaws.{CommitAnswered, commit-answered}
use Rattle.ib_index.proofs.EndLaws.{changed-ended, changed-read}
use Rattle.ib_index.proofs.ShrinkCalls.{called-missing, called-shrunk}
use Rattle.ib_index.proofs.ShrinkMay.{may-shrink}
use Rattle.ib_index.proofs.ShrinkWhole.{IsReadyToShrink, ready-to-shrink, siblings-started}
use Rattle.ib_index.proofs.nowait_delete.pessimistic_delete_nowait.Given.{Over}
use Rattle.ib_index.proofs.nowait_delete.pessimistic_delete_nowait.Goals.{After-facts_of_session-2, After-give_back}
use Rattle.ib_index.proofs.nowait_delete.pessimistic_delete_nowait.Goals as goal

moved : (P : PassState → Type 0) (r u : PassState) → r ≡ u → P r → P u
moved P r u same h = subst P same h

pub returns-in_default-clause-changed : goal.returns-in_default-clause-changed
returns-in_default-clause-changed g c =
    moved (HasChangedTree c.args.latches.now.sizes (DeleteCall c.args.key) (record { call = DeleteCall c.args.key; reply = Missing; place = c.commit_read-place.result }) c.args.pass.now) c.commit_read-place.new.self.1.0 _ (search rules) (
    let sizes : Sizes = c.args.latches.now.sizes in let p : PassState = c.args.pass.now in let q : PassState = c.try_siblings.new.mtr.pass.now in let r : PassState = c.commit_read-place.new.self.1.0 in
    let key = c.args.key in let path : List ℕ = c.in-Ok.path in let call : Call = DeleteCall key in let place = c.commit_read-place.result in
    let at = c.in-Ok.ensures.reached in
    let reached : HasClaimedSiblings sizes key path p q = siblings-started sizes key path p q (search (rules, at)) in
    let same : c.try_siblings.new.mtr.latches.now.sizes ≡ sizes = ap (λ m. m.now.sizes) (c.try_siblings.ensures.still.latches ∙ c.start-mtr.ensures.latches) in
    let seated : IsSeated sizes q = subst (λ (s : Sizes). IsSeated s q) same c.facts_of_session.ensures in
    let read : HasRead sizes (IsKeptLog sizes.pages) q place r = subst (λ (s : Sizes). HasRead s (IsKeptLog s.pages) q place r) same c.commit_read-place.ensures in
    let none : c.value_in.result ≡ None = search rules in
    let called = called-missing sizes key path (tree_pages reached.held) p q reached.went reached.looked reached.growing seated place r read (sym c.value_in.ensures ∙ none) in
    changed-read sizes call Missing place p q r read (let a = reached.claims in omega arith) (let a = reached.grants in omega arith) called)

pub try_space-requires-clause-ready : goal.try_space-requires-clause-ready
try_space-requires-clause-ready g c =
    let path : List ℕ = c.in-Ok.path in let reached = c.in-Ok.ensures.reached in
    let size : c.try_siblings.new.mtr.latches.now.sizes ≡ c.start-mtr.result.latches.now.sizes = ap (λ m. m.now.sizes) c.try_siblings.ensures.still.latches in
    (c.args.key, path, reached.held, subst (λ (s : Sizes). IsGrowing s c.args.key path (tree_pages reached.held) c.try_siblings.new.mtr.pass.now) (sym size) reached.growing, reached.zero, reached.few)

-- what the delete reads and writes is held
ready : (g : Over) (c : After-facts_of_session-2 g)
    → IsReadyToShrink c.args.latches.now.sizes c.args.key c.in-Ok.path c.in-Some.value c.args.pass.now c.try_space.new.mtr.pass.now
ready g c =
    let sizes : Sizes = c.args.latches.now.sizes in let p : PassState = c.args.pass.now in let q : PassState = c.try_siblings.new.mtr.pass.now in let t : PassState = c.try_space.new.mtr.pass.now in
    let key = c.args.key in let path : List ℕ = c.in-Ok.path in let value : ℕ = c.in-Some.value in
    let at = c.in-Ok.ensures.reached in
    let reached : HasClaimedSiblings sizes key path p q = siblings-started sizes key path p q (search (rules, at)) in
    let old : Sizes = c.try_siblings.new.mtr.latches.now.sizes in
    let same : old ≡ sizes = ap (λ m. m.now.sizes) (c.try_siblings.ensures.still.latches ∙ c.start-mtr.ensures.latches) in
    let then : c.try_space.new.mtr.latches.now.sizes ≡ old = ap (λ m. m.now.sizes) c.try_space.ensures.still.latches in
    ready-to-shrink sizes key path value p q t reached old c.try_space.new.mtr.latches.now.sizes same then (c.in-Ok-try_space.ensures.grown key path reached.held) c.facts_of_session-2.ensures (sym c.value_in.ensures ∙ c.in-Some.is)

pub plan_in-requires-clause-can : goal.plan_in-requires-clause-can
plan_in-requires-clause-can g c = (ready g (goal.at.plan_in-requires-clause-can g c).After-facts_of_session-2).can

pub plan_in-requires-clause-there : goal.plan_in-requires-clause-there
plan_in-requires-clause-there g c = subst IsSome (sym (ready g (goal.at.plan_in-requires-clause-there g c).After-facts_of_session-2).value_is) refl

pub commit_nowait-requires-clause-may : goal.commit_nowait-requires-clause-may
commit_nowait-requires-clause-may g c =
    let sizes : Sizes = c.args.latches.now.sizes in let p : PassState = c.args.pass.now in let t : PassState = c.try_space.new.mtr.pass.now in
    let key = c.args.key in let path : List ℕ = c.in-Ok.path in let value : ℕ = c.in-Some.value in
    let has = ready g (goal.at.commit_nowait-requires-clause-may g c).After-facts_of_session-2 in
    let planned = c.plan_in.ensures.planned in
    let last : c.plan_in.new.mtr.latches.now.sizes ≡ sizes = ap (λ m. m.now.sizes) (c.plan_in.ensures.still.latches ∙ (c.try_space.ensures.still.latches ∙ (c.try_siblings.ensures.still.latches ∙ c.start-mtr.ensures.latches))) in
    let few : total t.view.grants < 2 ^ 52 = (let a = has.grants in let room = c.requires.may.room in omega arith) in
    let may = may-shrink sizes key path has.held t has.growing has.seated few has.short has.follow value has.value_is planned.0 planned.2 planned.3 planned.4 in
    subst (λ (s : Sizes). MayCommit (IsKeptLog s.pages) c.plan_in.new.mtr.pass.now (Delete key)) (sym last)
    (subst (λ (u : PassState). MayCommit (IsKeptLog sizes.pages) u (Delete key)) (sym planned.1) may)

pub returns-in-Ok-at_log-clause-changed : goal.returns-in-Ok-at_log-clause-changed
returns-in-Ok-at_log-clause-changed g c =
    let sizes : Sizes = c.args.latches.now.sizes in let p : PassState = c.args.pass.now in let t : PassState = c.try_space.new.mtr.pass.now in
    let key = c.args.key in let path : List ℕ = c.in-Ok.path in let value : ℕ = c.in-Some.value in
    let has = ready g (goal.at.returns-in-Ok-at_log-clause-changed g c).After-facts_of_session-2 in
    let planned = c.plan_in.ensures.planned in let r : PassState = c.commit_nowait.new.self.1.0 in let call : Call = DeleteCall key in
    let last : c.plan_in.new.mtr.latches.now.sizes ≡ sizes = ap (λ m. m.now.sizes) (c.plan_in.ensures.still.latches ∙ (c.try_space.ensures.still.latches ∙ (c.try_siblings.ensures.still.latches ∙ c.start-mtr.ensures.latches))) in
    let ends : CommitAnswered sizes (tree_calls sizes) call (Delete key) (Deleted value) c.in-Ok-at_log.committed c.changed.result (with_work planned.0 t) r =
    commit-answered sizes c.plan_in.new.mtr.latches.now.sizes tree_calls call (Delete key) (Deleted value) c.in-Ok-at_log.committed c.changed.result c.place.result (with_work planned.0 t) c.plan_in.new.mtr.pass.now r
    last planned.1 (search rules) c.changed.ensures.made c.changed.ensures.full (told-made c.plan_in.new.mtr.latches.now.sizes (Delete key) c.commit_nowait.result c.plan_in.new.mtr.pass.now r c.commit_nowait.ensures.committed c.commit_nowait.ensures.not_committed c.in-Ok-at_log.committed c.in-Ok-at_log.ensures.told) (told-full c.plan_in.new.mtr.latches.now.sizes (Delete key) c.commit_nowait.result c.plan_in.new.mtr.pass.now r c.commit_nowait.ensures.committed c.commit_nowait.ensures.not_committed c.in-Ok-at_log.committed c.in-Ok-at_log.ensures.told) in
    let called = called-shrunk sizes key path has.held p t has.went has.looked has.growing has.seated value has.value_is planned.0 c.in-Ok-at_log.committed c.changed.result r ends in
    let changed = changed-ended sizes call (Delete key) (Deleted value) c.in-Ok-at_log.committed c.changed.result planned.0 p t r ends (let a = has.claims in omega arith) (let a = has.grants in omega arith) called in
    subst (HasChangedTree sizes call c.changed.result p) (search rules) changed

pub returns-in_default-clause-twice : goal.returns-in_default-clause-twice
returns-in_default-clause-twice g c =
    let sizes : Sizes = c.try_siblings.new.mtr.latches.now.sizes in let p : PassState = c.args.pass.now in let q : PassState = c.try_siblings.new.mtr.pass.now in let r : PassState = c.commit_read-place.new.self.1.0 in
    let few = c.in-Ok.ensures.twice in
    let done : AreFewLooks 0 p.view r.view = few-read sizes c.commit_read-place.result p q r c.commit_read-place.ensures (search (rules, few)) in
    search (rules, done)

pub returns-in-Ok-at_log-clause-twice : goal.returns-in-Ok-at_log-clause-twice
returns-in-Ok-at_log-clause-twice g c =
    let p : PassState = c.args.pass.now in let q : PassState = c.try_siblings.new.mtr.pass.now in let t : PassState = c.try_space.new.mtr.pass.now in let r : PassState = c.commit_nowait.new.self.1.0 in
    let planned = c.plan_in.ensures.planned in let few = c.in-Ok.ensures.twice in let few-q : AreFewLooks 0 p.view q.view = search (rules, few) in
    let done : AreFewLooks 0 p.view r.view = told-few c.plan_in.new.mtr.latches.now.sizes (Delete c.args.key) c.commit_nowait.result c.plan_in.new.mtr.pass.now r c.commit_nowait.ensures.committed c.commit_nowait.ensures.not_committed c.in-Ok-at_log.committed c.in-Ok-at_log.ensures.told planned.0 p t planned.1 c.commit_nowait.ensures.most c.commit_nowait.ensures.waits (few_both 0 p.view q.view t.view few-q c.in-Ok-try_space.ensures.twice) in
    search (rules, done)

pub returns-in-Err-clause-contended : goal.returns-in-Err-clause-contended
returns-in-Err-clause-contended g c =
    let sizes : Sizes = c.args.latches.now.sizes in let p : PassState = c.args.pass.now in let q : PassState = c.try_siblings.new.mtr.pass.now in let f = c.in-Err.fault in let key = c.args.key in
    let refused = c.in-Err.ensures.refused in
    let ended : IsContended sizes (TakesToDelete sizes key) most_to_delete f p (finished q) = contended-search sizes (TakesFor (IsHeldByDelete 1 key) (by_place opening sizes.pages) 1 key) (TakesToDelete sizes key) (record { s = 8; sx = 1; x = 23 }) most_to_delete f p q (λ log mode l t. inl t) (omega arith) (omega arith) (omega arith) (search (rules, refused)) in
    subst (IsContended sizes (TakesToDelete sizes key) most_to_delete f p) (search rules) (subst (IsContended sizes (TakesToDelete sizes key) most_to_delete f p) (sym c.finish.ensures.finished) ended)

pub give_back-requires : goal.give_back-requires
give_back-requires g c = without_work c.try_space.new.mtr.latches.now c.try_space.new.mtr.pass.now c.try_space.ensures.still.mtr

-- page 0 was refused, and all was given back
space-refused : (g : Over) (c : After-give_back g) → IsContended c.args.latches.now.sizes (TakesToDelete c.args.latches.now.sizes c.args.key) most_to_delete c.in-Err-try_space.fault c.args.pass.now (finished c.give_back.new.self.pass.now)
space-refused g c =
    let sizes : Sizes = c.args.latches.now.sizes in let p : PassState = c.args.pass.now in let q : PassState = c.try_siblings.new.mtr.pass.now in let t : PassState = c.try_space.new.mtr.pass.now in let u : PassState = c.give_back.new.self.pass.now in
    let key = c.args.key in let f = c.in-Err-try_space.fault in
    let at = c.in-Ok.ensures.reached in
    let reached : HasClaimedSiblings sizes key c.in-Ok.path p q = siblings-started sizes key c.in-Ok.path p q (search (rules, at)) in
    let same : c.try_siblings.new.mtr.latches.now.sizes ≡ sizes = ap (λ m. m.now.sizes) (c.try_siblings.ensures.still.latches ∙ c.start-mtr.ensures.latches) in
    let vain = subst (λ (s : Sizes). IsVainTry s (IsKeptLog s.pages) X 2 f q t) same c.in-Err-try_space.ensures.vain in
    let refused = refusal_by sizes (IsKeptLog sizes.pages) (TakesToDelete sizes key) (record { s = 0; sx = 0; x = 0 }) f X 2 q t vain (inr (refl, inl (record { page = 0; listed = refl; at = refl }))) in
    let few = c.in-Ok.ensures.twice in let took = c.in-Ok.ensures.grants in
    contended-behind sizes (TakesToDelete sizes key) (TakesToDelete sizes key) (record { s = 0; sx = 0; x = 0 }) (record { s = 8; sx = 1; x = 23 }) most_to_delete f p q t u (λ log mode l t. t) (omega arith) (omega arith) (omega arith)
    reached.went (search (rules, few)) (search (rules, took)) refused c.give_back.ensures.given c.give_back.ensures.idle

pub returns-in-Err-try_space-clause-contended : goal.returns-in-Err-try_space-clause-contended
returns-in-Err-try_space-clause-contended g c =
    let ended = space-refused g (goal.at.returns-in-Err-try_space-clause-contended g c).After-give_back in
    subst (IsContended c.args.latches.now.sizes (TakesToDelete c.args.latches.now.sizes c.args.key) most_to_delete c.in-Err-try_space.fault c.args.pass.now) (search rules)
    (subst (IsContended c.args.latches.now.sizes (TakesToDelete c.args.latches.now.sizes c.args.key) most_to_delete c.in-Err-try_space.fault c.args.pass.now) (sym c.finish-in-Err-try_space.ensures.finished) ended)

pub returns-in-Err-at_log-clause-contended : goal.returns-in-Err-at_log-clause-contended
returns-in-Err-at_log-clause-contended g c =
    let sizes : Sizes = c.args.latches.now.sizes in let p : PassState = c.args.pass.now in let q : PassState = c.try_siblings.new.mtr.pass.now in let t : PassState = c.try_space.new.mtr.pass.now in let r : PassState = c.commit_nowait.new.self.1.0 in
    let key = c.args.key in
    let has = ready g (goal.at.returns-in-Err-at_log-clause-contended g c).After-facts_of_session-2 in
    let planned = c.plan_in.ensures.planned in let refused = c.in-Err-at_log.ensures.refused in
    let last : c.plan_in.new.mtr.latches.now.sizes ≡ sizes = ap (λ m. m.now.sizes) (c.plan_in.ensures.still.latches ∙ (c.try_space.ensures.still.latches ∙ (c.try_siblings.ensures.still.latches ∙ c.start-mtr.ensures.latches))) in
    let log = log-refusal c.plan_in.new.mtr.latches.now.sizes (Delete key) c.commit_nowait.result c.plan_in.new.mtr.pass.now r c.commit_nowait.ensures.committed c.commit_nowait.ensures.not_committed sizes (with_work planned.0 t) refused.0 last planned.1 refused.1 in
    let few = c.in-Ok.ensures.twice in let took = c.in-Ok.ensures.grants in let at = c.in-Ok.ensures.reached in
    let few-q : AreFewLooks 0 p.view q.view = search (rules, few) in let took-q : AreFewGrants (record { s = 8; sx = 1; x = 23 }) p.view q.view = search (rules, took) in
    let grown = (c.in-Ok-try_space.ensures.grown key c.in-Ok.path at.held (subst (λ (s : Sizes). IsGrowing s key c.in-Ok.path (tree_pages at.held) q) (sym (ap (λ m. m.now.sizes) c.try_siblings.ensures.still.latches)) at.growing) at.zero).grants in
    let grants : AreFewGrants most_to_delete p.view t.view = (let a = took-q.s in let b = took-q.sx in let d = took-q.x in let i = ap (λ (g : Grants). g.s) grown in let j = ap (λ (g : Grants). g.sx) grown in let k = ap (λ (g : Grants). g.x) grown in record { s = omega arith; sx = omega arith; x = omega arith }) in
    let ended : IsContended sizes (TakesToDelete sizes key) most_to_delete (fault_on (record { 0 = 0 }) refused.0) p r =
    contended-log sizes (TakesToDelete sizes key) most_to_delete refused.0 planned.0 p t r has.went (few_both 0 p.view q.view t.view few-q c.in-Ok-try_space.ensures.twice) grants has.seated.role log (inr (refl, inr refl)) in
    subst (IsContended sizes (TakesToDelete sizes key) most_to_delete c.in-Err-at_log.fault p) (search rules) (subst (λ (f : NowaitFault). IsContended sizes (TakesToDelete sizes key) most_to_delete f p r) (sym refused.2) ended)
