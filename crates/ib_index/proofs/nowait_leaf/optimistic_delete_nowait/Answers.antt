-- The call was answered, or needs more than the leaf.
use Rattle.std.proofs.Common.{rules, ◌≡◌, ◌<◌, ◌≤◌, ◌∙◌, ◌⊎◌, length, None, Some, refl, sym, ap, subst, arith}
use Rattle.std.specs.Prelude.{IsSome}
use Rattle.ib_layout.specs.Geometry.{Sizes}
use Rattle.ib_map.specs.Pairs.{value_at}
use Rattle.ib_map.specs.declared.call.Call.{Call}
use Rattle.ib_map.specs.declared.call.Call.TheVariants.{Delete as DeleteCall}
use Rattle.ib_map.specs.declared.call.Change.TheVariants.{Delete}
use Rattle.ib_map.specs.declared.call.Reply.TheVariants.{Deleted, Missing}
use Rattle.ib_plans.specs.declared.TheConstants.{FEWEST_RECORDS}
use Rattle.ib_planned_log.specs.Kept.{IsKeptLog}
use Rattle.ib_rule.specs.Pass.{PassState}
use Rattle.ib_rule.specs.Space.{SpaceState}
use Rattle.ib_mtr.specs.Commits.{HasRead}
use Rattle.ib_mtr.specs.Mtr.{with_work}
use Rattle.ib_leaf.specs.Calls.{tree_calls}
use Rattle.ib_leaf.specs.Leaf.{IsShortFor, leaf_page}
use Rattle.ib_leaf.proofs.CommitLaws.{CommitAnswered, commit-answered}
use Rattle.ib_leaf.proofs.LeafLaws.{delete-ended, delete-refused, delete-stopped}
use Rattle.ib_logrec.specs.Log.{by_place}
use Rattle.ib_tree.specs.TreeLog.{opening}
use Rattle.ib_mtr.specs.Mtr.{finished}
use Rattle.ib_cursor.specs.declared.fault.NowaitFault.{NowaitFault}
use Rattle.ib_cursor.specs.Contention.{fault_on}
use Rattle.ib_cursor.specs.Refusals.{TakesForLeaf}
use Rattle.ib_index.specs.Refusals.{HasTriedLeafAtOnce, IsContended, TakesOnLeaf, most_on_leaf}
use Rattle.ib_index.proofs.ContendedLaws.{contended-log, contended-search, few-on-leaf, read-at-once}
use Rattle.ib_index.proofs.LogEndLaws.{log-refusal, told-few, told-full, told-made}
use Rattle.std.proofs.Common.{inl, inr}
use Rattle.ib_index.proofs.LeafTries.{HasLookedIn, looked-in, tried}
use Rattle.ib_index.proofs.nowait_leaf.optimistic_delete_nowait.Given.{Over}
use Rattle.ib_index.proofs.nowait_leaf.optimistic_delete_nowait.Goals.{After-look_in-looked}
use Rattle.ib_index.proofs.nowait_leaf.optimistic_delete_nowait.Goals as goal

-- what is known of the key's leaf
looked : (g : Over) (c : After-look_in-looked g)
    → HasLookedIn c.args.latches.now c.args.key c.in-Ok.leaf c.look_in-looked.result.value c.look_in-looked.result.count c.args.pass.now c.try_leaf.new.mtr.pass.now
looked g c =
    let at = c.in-Ok.ensures.reached in
    looked-in c.args.latches.now c.try_leaf.new.mtr.latches.now c.args.key c.in-Ok.leaf c.look_in-looked.result.value c.look_in-looked.result.count c.args.pass.now c.try_leaf.new.mtr.pass.now
    (ap (λ m. m.now) (c.try_leaf.ensures.still.latches ∙ c.start-mtr.ensures.latches)) c.try_leaf.ensures.still.mtr (search (rules, at)) c.look_in-looked.ensures.value c.look_in-looked.ensures.count

pub returns-in_default-clause-tried : goal.returns-in_default-clause-tried
returns-in_default-clause-tried g c =
    let space : SpaceState = c.args.latches.now in let p : PassState = c.args.pass.now in let q : PassState = c.try_leaf.new.mtr.pass.now in let r : PassState = c.commit_read-place.new.self.1.0 in
    let key = c.args.key in let leaf = c.in-Ok.leaf in let call : Call = DeleteCall key in let place = c.commit_read-place.result in
    let has = looked g (goal.at.returns-in_default-clause-tried g c).After-look_in-looked in
    let same : c.try_leaf.new.mtr.latches.now.sizes ≡ space.sizes = ap (λ m. m.now.sizes) (c.try_leaf.ensures.still.latches ∙ c.start-mtr.ensures.latches) in
    let read : HasRead space.sizes (IsKeptLog space.sizes.pages) q place r = subst (λ (s : Sizes). HasRead s (IsKeptLog s.pages) q place r) same c.commit_read-place.ensures in
    let none : c.look_in-looked.result.value ≡ None = search rules in
    let left = delete-refused space key leaf q has.works place r read (sym has.value_is ∙ none) in
    subst (HasTriedLeafAtOnce space.sizes (IsShortFor key) key call (Some (record { call = call; reply = Missing; place = place })) p) (search rules)
    (let few = c.in-Ok.ensures.twice in read-at-once space.sizes (IsShortFor key) key call (Some (record { call = call; reply = Missing; place = place })) place p q r (search (rules, few)) read (tried space (IsShortFor key) key leaf p q has.reached call (Some (record { call = call; reply = Missing; place = place })) r left))

pub returns-then-looked-le-FEWEST_RECORDS-clause-tried : goal.returns-then-looked-le-FEWEST_RECORDS-clause-tried
returns-then-looked-le-FEWEST_RECORDS-clause-tried g c =
    let space : SpaceState = c.args.latches.now in let p : PassState = c.args.pass.now in let q : PassState = c.try_leaf.new.mtr.pass.now in let r : PassState = c.commit_read.new.self.1.0 in
    let key = c.args.key in let leaf = c.in-Ok.leaf in let call : Call = DeleteCall key in let place = c.commit_read.result in
    let has = looked g (goal.at.returns-then-looked-le-FEWEST_RECORDS-clause-tried g c).After-look_in-looked in
    let same : c.try_leaf.new.mtr.latches.now.sizes ≡ space.sizes = ap (λ m. m.now.sizes) (c.try_leaf.ensures.still.latches ∙ c.start-mtr.ensures.latches) in
    let count = has.count_is in
    let read : HasRead space.sizes (IsKeptLog space.sizes.pages) q place r = subst (λ (s : Sizes). HasRead s (IsKeptLog s.pages) q place r) same c.commit_read.ensures in
    let there : IsSome (value_at key (leaf_page space.sizes key q).records) = subst IsSome (sym c.in-Some.is ∙ has.value_is) refl in
    let few : length (leaf_page space.sizes key q).records ≤ FEWEST_RECORDS = (let le = c.if-looked-le-FEWEST_RECORDS.true in omega arith) in
    let left = delete-stopped space key leaf q has.works place r read (there, c.if-leaf-ne-ROOT.true, few) in
    subst (HasTriedLeafAtOnce space.sizes (IsShortFor key) key call None p) (search rules) (let few = c.in-Ok.ensures.twice in read-at-once space.sizes (IsShortFor key) key call None place p q r (search (rules, few)) read (tried space (IsShortFor key) key leaf p q has.reached call None r left))

pub returns-in-Ok-at_log-clause-tried : goal.returns-in-Ok-at_log-clause-tried
returns-in-Ok-at_log-clause-tried g c =
    let space : SpaceState = c.args.latches.now in let p : PassState = c.args.pass.now in let q : PassState = c.try_leaf.new.mtr.pass.now in let r : PassState = c.commit_nowait.new.self.1.0 in
    let key = c.args.key in let leaf = c.in-Ok.leaf in let call : Call = DeleteCall key in
    let has = looked g (goal.at.returns-in-Ok-at_log-clause-tried g c).After-look_in-looked in
    let same : c.try_leaf.new.mtr.latches.now.sizes ≡ space.sizes = ap (λ m. m.now.sizes) (c.try_leaf.ensures.still.latches ∙ c.start-mtr.ensures.latches) in
    let counted : (leaf ≡ 1) ⊎ (FEWEST_RECORDS < c.look_in-looked.result.count) = search rules in
    let enough : (leaf ≡ 1) ⊎ (FEWEST_RECORDS < length (leaf_page space.sizes key q).records) = subst (λ n. (leaf ≡ 1) ⊎ (FEWEST_RECORDS < n)) has.count_is counted in
    let taken = c.take_out.ensures.taken in
    let end : c.take_out.new.mtr.latches.now.sizes ≡ space.sizes = ap (λ m. m.now.sizes) c.take_out.ensures.still.latches ∙ same in
    let ends : CommitAnswered space.sizes (tree_calls space.sizes) call (Delete key) (Deleted c.in-Some.value) c.in-Ok-at_log.committed c.changed.result (with_work taken.0 q) r =
    commit-answered space.sizes c.take_out.new.mtr.latches.now.sizes tree_calls call (Delete key) (Deleted c.in-Some.value) c.in-Ok-at_log.committed c.changed.result c.place.result (with_work taken.0 q) c.take_out.new.mtr.pass.now r
    end taken.1 (search rules) c.changed.ensures.made c.changed.ensures.full (told-made c.take_out.new.mtr.latches.now.sizes (Delete c.args.key) c.commit_nowait.result c.take_out.new.mtr.pass.now c.commit_nowait.new.self.1.0 c.commit_nowait.ensures.committed c.commit_nowait.ensures.not_committed c.in-Ok-at_log.committed c.in-Ok-at_log.ensures.told) (told-full c.take_out.new.mtr.latches.now.sizes (Delete c.args.key) c.commit_nowait.result c.take_out.new.mtr.pass.now c.commit_nowait.new.self.1.0 c.commit_nowait.ensures.committed c.commit_nowait.ensures.not_committed c.in-Ok-at_log.committed c.in-Ok-at_log.ensures.told) in
    let left = delete-ended space key leaf q has.works c.in-Ok-at_log.committed taken.0 c.in-Some.value c.changed.result r (sym has.value_is ∙ c.in-Some.is) enough ends in
    let few = c.in-Ok.ensures.twice in
    let once : HasTriedLeafAtOnce space.sizes (IsShortFor key) key call (Some c.changed.result) p r = record {
      tried = tried space (IsShortFor key) key leaf p q has.reached call (Some c.changed.result) r left;
      few = told-few c.take_out.new.mtr.latches.now.sizes (Delete key) c.commit_nowait.result c.take_out.new.mtr.pass.now r c.commit_nowait.ensures.committed c.commit_nowait.ensures.not_committed c.in-Ok-at_log.committed c.in-Ok-at_log.ensures.told taken.0 p q taken.1 c.commit_nowait.ensures.most c.commit_nowait.ensures.waits (search (rules, few));
    } in
    subst (HasTriedLeafAtOnce space.sizes (IsShortFor key) key call (Some c.changed.result) p) (search rules) once

pub returns-in-Err-clause-contended : goal.returns-in-Err-clause-contended
returns-in-Err-clause-contended g c =
    let sizes : Sizes = c.args.latches.now.sizes in let p : PassState = c.args.pass.now in let q : PassState = c.try_leaf.new.mtr.pass.now in let f = c.in-Err.fault in
    let refused = c.in-Err.ensures.refused in
    let ended : IsContended sizes (TakesOnLeaf sizes c.args.key) most_on_leaf f p (finished q) = contended-search sizes (TakesForLeaf (by_place opening sizes.pages) 1 c.args.key) (TakesOnLeaf sizes c.args.key) (record { s = 9; sx = 0; x = 1 }) most_on_leaf f p q (λ log mode l t. inl t) (omega arith) (omega arith) (omega arith) (search (rules, refused)) in
    subst (IsContended sizes (TakesOnLeaf sizes c.args.key) most_on_leaf f p) (search rules) (subst (IsContended sizes (TakesOnLeaf sizes c.args.key) most_on_leaf f p) (sym c.finish.ensures.finished) ended)

pub returns-in-Err-at_log-clause-contended : goal.returns-in-Err-at_log-clause-contended
returns-in-Err-at_log-clause-contended g c =
    let sizes : Sizes = c.args.latches.now.sizes in let p : PassState = c.args.pass.now in let q : PassState = c.try_leaf.new.mtr.pass.now in let r : PassState = c.commit_nowait.new.self.1.0 in
    let has = looked g (goal.at.returns-in-Err-at_log-clause-contended g c).After-look_in-looked in
    let put = c.take_out.ensures.taken in let refused = c.in-Err-at_log.ensures.refused in let few = c.in-Ok.ensures.twice in
    let size : c.take_out.new.mtr.latches.now.sizes ≡ sizes = ap (λ m. m.now.sizes) (c.take_out.ensures.still.latches ∙ (c.try_leaf.ensures.still.latches ∙ c.start-mtr.ensures.latches)) in
    let log = log-refusal c.take_out.new.mtr.latches.now.sizes (Delete c.args.key) c.commit_nowait.result c.take_out.new.mtr.pass.now r c.commit_nowait.ensures.committed c.commit_nowait.ensures.not_committed sizes (with_work put.0 q) refused.0 size put.1 refused.1 in
    let ended : IsContended sizes (TakesOnLeaf sizes c.args.key) most_on_leaf (fault_on (record { 0 = 0 }) refused.0) p r = contended-log sizes (TakesOnLeaf sizes c.args.key) most_on_leaf refused.0 put.0 p q r has.reached.went (search (rules, few)) (few-on-leaf sizes p q has.reached.takes) has.works.seated.role log (inr (refl, refl)) in
    subst (IsContended sizes (TakesOnLeaf sizes c.args.key) most_on_leaf c.in-Err-at_log.fault p) (search rules) (subst (λ (f : NowaitFault). IsContended sizes (TakesOnLeaf sizes c.args.key) most_on_leaf f p r) (sym refused.2) ended)
