-- The call was answered, or needs more than the leaf.
use Rattle.std.proofs.Common.{rules, ◌≡◌, ◌<◌, ◌∙◌, length, None, Some, sym, ap, subst, arith}
use Rattle.ib_layout.specs.Geometry.{Sizes}
use Rattle.ib_map.specs.declared.call.Call.{Call}
use Rattle.ib_map.specs.declared.call.Call.TheVariants.{Insert as InsertCall}
use Rattle.ib_map.specs.declared.call.Change.TheVariants.{Insert}
use Rattle.ib_map.specs.declared.call.Reply.TheVariants.{Duplicate, Inserted}
use Rattle.ib_heap.specs.declared.TheConstants.{MOST_RECORDS}
use Rattle.ib_planned_log.specs.Kept.{IsKeptLog}
use Rattle.ib_rule.specs.Pass.{PassState}
use Rattle.ib_rule.specs.Space.{SpaceState}
use Rattle.ib_mtr.specs.Commits.{HasRead}
use Rattle.ib_mtr.specs.Mtr.{with_work}
use Rattle.ib_leaf.specs.Calls.{tree_calls}
use Rattle.ib_leaf.specs.Leaf.{IsFullFor, leaf_page}
use Rattle.ib_leaf.proofs.CommitLaws.{CommitAnswered, commit-answered}
use Rattle.ib_leaf.proofs.LeafLaws.{insert-ended, insert-refused, insert-stopped}
use Rattle.ib_leaf.proofs.OptionLaws.{no-value, some-value}
use Rattle.ib_index.specs.Leaf.{HasTriedLeaf}
use Rattle.ib_index.proofs.LeafTries.{HasLookedIn, looked-in, tried}
use Rattle.ib_index.proofs.leaf.optimistic_insert.Given.{Over}
use Rattle.ib_index.proofs.leaf.optimistic_insert.Goals.{After-look_in-looked}
use Rattle.ib_index.proofs.leaf.optimistic_insert.Goals as goal

-- what is known of the key's leaf
looked : (g : Over) (c : After-look_in-looked g)
    → HasLookedIn c.args.latches.now c.args.key c.descend_to_leaf-leaf.result c.look_in-looked.result.value c.look_in-looked.result.count c.args.pass.now c.descend_to_leaf-leaf.new.mtr.pass.now
looked g c =
    let at = c.descend_to_leaf-leaf.ensures.reached in
    looked-in c.args.latches.now c.descend_to_leaf-leaf.new.mtr.latches.now c.args.key c.descend_to_leaf-leaf.result c.look_in-looked.result.value c.look_in-looked.result.count c.args.pass.now c.descend_to_leaf-leaf.new.mtr.pass.now
    (ap (λ m. m.now) (c.descend_to_leaf-leaf.ensures.still.latches ∙ c.start-mtr.ensures.latches)) c.descend_to_leaf-leaf.ensures.still.mtr (search (rules, at)) c.look_in-looked.ensures.value c.look_in-looked.ensures.count

pub returns-then-is_some-clause-tried : goal.returns-then-is_some-clause-tried
returns-then-is_some-clause-tried g c =
    let space : SpaceState = c.args.latches.now in let p : PassState = c.args.pass.now in let q : PassState = c.descend_to_leaf-leaf.new.mtr.pass.now in let r : PassState = c.commit_read-place.new.self.1.0 in
    let key = c.args.key in let leaf = c.descend_to_leaf-leaf.result in let call : Call = InsertCall key c.args.value in let place = c.commit_read-place.result in
    let has = looked g (goal.at.returns-then-is_some-clause-tried g c).After-look_in-looked in
    let same : c.descend_to_leaf-leaf.new.mtr.latches.now.sizes ≡ space.sizes = ap (λ m. m.now.sizes) (c.descend_to_leaf-leaf.ensures.still.latches ∙ c.start-mtr.ensures.latches) in
    let read : HasRead space.sizes (IsKeptLog space.sizes.pages) q place r = subst (λ (s : Sizes). HasRead s (IsKeptLog s.pages) q place r) same c.commit_read-place.ensures in
    let some = some-value c.look_in-looked.result.value (sym c.is_some.ensures ∙ c.if-is_some.true) in
    let left = insert-refused space key leaf q has.works c.args.value some.0 place r read (sym has.value_is ∙ some.1) in
    subst (HasTriedLeaf space.sizes (IsFullFor key) key call (Some (record { call = call; reply = Duplicate; place = place })) p) (search rules)
    (tried space (IsFullFor key) key leaf p q has.reached call (Some (record { call = call; reply = Duplicate; place = place })) r left)

pub returns-then-looked-eq-MOST_RECORDS-clause-tried : goal.returns-then-looked-eq-MOST_RECORDS-clause-tried
returns-then-looked-eq-MOST_RECORDS-clause-tried g c =
    let space : SpaceState = c.args.latches.now in let p : PassState = c.args.pass.now in let q : PassState = c.descend_to_leaf-leaf.new.mtr.pass.now in let r : PassState = c.commit_read.new.self.1.0 in
    let key = c.args.key in let leaf = c.descend_to_leaf-leaf.result in let call : Call = InsertCall key c.args.value in let place = c.commit_read.result in
    let has = looked g (goal.at.returns-then-looked-eq-MOST_RECORDS-clause-tried g c).After-look_in-looked in
    let same : c.descend_to_leaf-leaf.new.mtr.latches.now.sizes ≡ space.sizes = ap (λ m. m.now.sizes) (c.descend_to_leaf-leaf.ensures.still.latches ∙ c.start-mtr.ensures.latches) in
    let read : HasRead space.sizes (IsKeptLog space.sizes.pages) q place r = subst (λ (s : Sizes). HasRead s (IsKeptLog s.pages) q place r) same c.commit_read.ensures in
    let none = no-value c.look_in-looked.result.value (sym c.is_some.ensures ∙ c.if-is_some.false) in
    let left = insert-stopped space key leaf q has.works c.args.value place r read (sym has.value_is ∙ none, sym has.count_is ∙ c.if-looked-eq-MOST_RECORDS.true) in
    subst (HasTriedLeaf space.sizes (IsFullFor key) key call None p) (search rules) (tried space (IsFullFor key) key leaf p q has.reached call None r left)

pub returns-clause-tried : goal.returns-clause-tried
returns-clause-tried g c =
    let space : SpaceState = c.args.latches.now in let p : PassState = c.args.pass.now in let q : PassState = c.descend_to_leaf-leaf.new.mtr.pass.now in let r : PassState = c.commit-committed.new.self.1.0 in
    let key = c.args.key in let leaf = c.descend_to_leaf-leaf.result in let call : Call = InsertCall key c.args.value in
    let has = looked g (goal.at.returns-clause-tried g c).After-look_in-looked in
    let same : c.descend_to_leaf-leaf.new.mtr.latches.now.sizes ≡ space.sizes = ap (λ m. m.now.sizes) (c.descend_to_leaf-leaf.ensures.still.latches ∙ c.start-mtr.ensures.latches) in
    let count = has.count_is in
    let none = no-value c.look_in-looked.result.value (sym c.is_some.ensures ∙ c.if-is_some.false) in
    let room : length (leaf_page space.sizes key q).records < MOST_RECORDS = (let few = c.look_in-looked.ensures.few in let not = c.if-looked-eq-MOST_RECORDS.false in omega arith) in
    let put = c.put_in.ensures.put in
    let end : c.put_in.new.mtr.latches.now.sizes ≡ space.sizes = ap (λ m. m.now.sizes) c.put_in.ensures.still.latches ∙ same in
    let ends : CommitAnswered space.sizes (tree_calls space.sizes) call (Insert key c.args.value) Inserted c.commit-committed.result c.changed.result (with_work put.0 q) r =
    commit-answered space.sizes c.put_in.new.mtr.latches.now.sizes tree_calls call (Insert key c.args.value) Inserted c.commit-committed.result c.changed.result c.place.result (with_work put.0 q) c.put_in.new.mtr.pass.now r
    end put.1 (search rules) c.changed.ensures.made c.changed.ensures.full c.commit-committed.ensures.committed c.commit-committed.ensures.full in
    let left = insert-ended space key leaf q has.works c.commit-committed.result put.0 c.args.value c.changed.result r (sym has.value_is ∙ none) room ends in
    subst (HasTriedLeaf space.sizes (IsFullFor key) key call (Some c.changed.result) p) (search rules) (tried space (IsFullFor key) key leaf p q has.reached call (Some c.changed.result) r left)
