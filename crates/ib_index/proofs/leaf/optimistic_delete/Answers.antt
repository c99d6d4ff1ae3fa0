-- The call was answered, or needs more than the leaf.
use Rattle.std.proofs.Common.{rules, ◌≡◌, ◌<◌, ◌≤◌, ◌∙◌, ◌⊎◌, length, None, Some, refl, sym, ap, subst, arith}
use Rattle.std.specs.Prelude.{IsSome}
use Rattle.ib_layout.specs.Geometry.{Sizes}
use Rattle.ib_map.specs.Pairs.{value_at}
use Rattle.ib_map.specs.declared.call.Call.{Call}
use Rattle.ib_map.specs.declared.call.Call.TheVariants.{Delete as DeleteCall}
use Rattle.ib_map.specs.declared.call.Change.TheVariants.{Delete}
use Rattle.ib_map.specs.declared.call.Reply.TheVariants.{Deleted, Missing}
use Rattle.ib_plans.specs.declared.TheConstants.{FEWEST_RECORDS}
use Rattle.ib_planned_log.specs.Kept.{IsKeptLog}
use Rattle.ib_rule.specs.Pass.{PassState}
use Rattle.ib_rule.specs.Space.{SpaceState}
use Rattle.ib_mtr.specs.Commits.{HasRead}
use Rattle.ib_mtr.specs.Mtr.{with_work}
use Rattle.ib_leaf.specs.Calls.{tree_calls}
use Rattle.ib_leaf.specs.Leaf.{IsShortFor, leaf_page}
use Rattle.ib_leaf.proofs.CommitLaws.{CommitAnswered, commit-answered}
use Rattle.ib_leaf.proofs.LeafLaws.{delete-ended, delete-refused, delete-stopped}
use Rattle.ib_index.specs.Leaf.{HasTriedLeaf}
use Rattle.ib_index.proofs.LeafTries.{HasLookedIn, looked-in, tried}
use Rattle.ib_index.proofs.leaf.optimistic_delete.Given.{Over}
use Rattle.ib_index.proofs.leaf.optimistic_delete.Goals.{After-look_in-looked}
use Rattle.ib_index.proofs.leaf.optimistic_delete.Goals as goal

-- what is known of the key's leaf
looked : (g : Over) (c : After-look_in-looked g)
    → HasLookedIn c.args.latches.now c.args.key c.descend_to_leaf-leaf.result c.look_in-looked.result.value c.look_in-looked.result.count c.args.pass.now c.descend_to_leaf-leaf.new.mtr.pass.now
looked g c =
    let at = c.descend_to_leaf-leaf.ensures.reached in
    looked-in c.args.latches.now c.descend_to_leaf-leaf.new.mtr.latches.now c.args.key c.descend_to_leaf-leaf.result c.look_in-looked.result.value c.look_in-looked.result.count c.args.pass.now c.descend_to_leaf-leaf.new.mtr.pass.now
    (ap (λ m. m.now) (c.descend_to_leaf-leaf.ensures.still.latches ∙ c.start-mtr.ensures.latches)) c.descend_to_leaf-leaf.ensures.still.mtr (search (rules, at)) c.look_in-looked.ensures.value c.look_in-looked.ensures.count

pub returns-in_default-clause-tried : goal.returns-in_default-clause-tried
returns-in_default-clause-tried g c =
    let space : SpaceState = c.args.latches.now in let p : PassState = c.args.pass.now in let q : PassState = c.descend_to_leaf-leaf.new.mtr.pass.now in let r : PassState = c.commit_read-place.new.self.1.0 in
    let key = c.args.key in let leaf = c.descend_to_leaf-leaf.result in let call : Call = DeleteCall key in let place = c.commit_read-place.result in
    let has = looked g (goal.at.returns-in_default-clause-tried g c).After-look_in-looked in
    let same : c.descend_to_leaf-leaf.new.mtr.latches.now.sizes ≡ space.sizes = ap (λ m. m.now.sizes) (c.descend_to_leaf-leaf.ensures.still.latches ∙ c.start-mtr.ensures.latches) in
    let read : HasRead space.sizes (IsKeptLog space.sizes.pages) q place r = subst (λ (s : Sizes). HasRead s (IsKeptLog s.pages) q place r) same c.commit_read-place.ensures in
    let none : c.look_in-looked.result.value ≡ None = search rules in
    let left = delete-refused space key leaf q has.works place r read (sym has.value_is ∙ none) in
    subst (HasTriedLeaf space.sizes (IsShortFor key) key call (Some (record { call = call; reply = Missing; place = place })) p) (search rules)
    (tried space (IsShortFor key) key leaf p q has.reached call (Some (record { call = call; reply = Missing; place = place })) r left)

pub returns-then-looked-le-FEWEST_RECORDS-clause-tried : goal.returns-then-looked-le-FEWEST_RECORDS-clause-tried
returns-then-looked-le-FEWEST_RECORDS-clause-tried g c =
    let space : SpaceState = c.args.latches.now in let p : PassState = c.args.pass.now in let q : PassState = c.descend_to_leaf-leaf.new.mtr.pass.now in let r : PassState = c.commit_read.new.self.1.0 in
    let key = c.args.key in let leaf = c.descend_to_leaf-leaf.result in let call : Call = DeleteCall key in let place = c.commit_read.result in
    let has = looked g (goal.at.returns-then-looked-le-FEWEST_RECORDS-clause-tried g c).After-look_in-looked in
    let same : c.descend_to_leaf-leaf.new.mtr.latches.now.sizes ≡ space.sizes = ap (λ m. m.now.sizes) (c.descend_to_leaf-leaf.ensures.still.latches ∙ c.start-mtr.ensures.latches) in
    let count = has.count_is in
    let read : HasRead space.sizes (IsKeptLog space.sizes.pages) q place r = subst (λ (s : Sizes). HasRead s (IsKeptLog s.pages) q place r) same c.commit_read.ensures in
    let there : IsSome (value_at key (leaf_page space.sizes key q).records) = subst IsSome (sym c.in-Some.is ∙ has.value_is) refl in
    let few : length (leaf_page space.sizes key q).records ≤ FEWEST_RECORDS = (let le = c.if-looked-le-FEWEST_RECORDS.true in omega arith) in
    let left = delete-stopped space key leaf q has.works place r read (there, c.if-leaf-ne-ROOT.true, few) in
    subst (HasTriedLeaf space.sizes (IsShortFor key) key call None p) (search rules) (tried space (IsShortFor key) key leaf p q has.reached call None r left)

pub returns-clause-tried : goal.returns-clause-tried
returns-clause-tried g c =
    let space : SpaceState = c.args.latches.now in let p : PassState = c.args.pass.now in let q : PassState = c.descend_to_leaf-leaf.new.mtr.pass.now in let r : PassState = c.commit-committed.new.self.1.0 in
    let key = c.args.key in let leaf = c.descend_to_leaf-leaf.result in let call : Call = DeleteCall key in
    let has = looked g (goal.at.returns-clause-tried g c).After-look_in-looked in
    let same : c.descend_to_leaf-leaf.new.mtr.latches.now.sizes ≡ space.sizes = ap (λ m. m.now.sizes) (c.descend_to_leaf-leaf.ensures.still.latches ∙ c.start-mtr.ensures.latches) in
    let counted : (leaf ≡ 1) ⊎ (FEWEST_RECORDS < c.look_in-looked.result.count) = search rules in
    let enough : (leaf ≡ 1) ⊎ (FEWEST_RECORDS < length (leaf_page space.sizes key q).records) = subst (λ n. (leaf ≡ 1) ⊎ (FEWEST_RECORDS < n)) has.count_is counted in
    let taken = c.take_out.ensures.taken in
    let end : c.take_out.new.mtr.latches.now.sizes ≡ space.sizes = ap (λ m. m.now.sizes) c.take_out.ensures.still.latches ∙ same in
    let ends : CommitAnswered space.sizes (tree_calls space.sizes) call (Delete key) (Deleted c.in-Some.value) c.commit-committed.result c.changed.result (with_work taken.0 q) r =
    commit-answered space.sizes c.take_out.new.mtr.latches.now.sizes tree_calls call (Delete key) (Deleted c.in-Some.value) c.commit-committed.result c.changed.result c.place.result (with_work taken.0 q) c.take_out.new.mtr.pass.now r
    end taken.1 (search rules) c.changed.ensures.made c.changed.ensures.full c.commit-committed.ensures.committed c.commit-committed.ensures.full in
    let left = delete-ended space key leaf q has.works c.commit-committed.result taken.0 c.in-Some.value c.changed.result r (sym has.value_is ∙ c.in-Some.is) enough ends in
    subst (HasTriedLeaf space.sizes (IsShortFor key) key call (Some c.changed.result) p) (search rules) (tried space (IsShortFor key) key leaf p q has.reached call (Some c.changed.result) r left)
