-- The delete was answered, or needs more than the page, or the guess is wrong.
use Rattle.std.proofs.Common.{rules, ◌≡◌, ◌<◌, ◌≤◌, ◌∙◌, ◌⊎◌, false, length, None, refl, sym, ap, subst, arith}
use Rattle.std.specs.Prelude.{Ok, Err, IsSome}
use Rattle.ib_map.specs.Pairs.{value_at}
use Rattle.ib_map.specs.declared.call.Call.{Call}
use Rattle.ib_map.specs.declared.call.Call.TheVariants.{Delete as DeleteCall}
use Rattle.ib_map.specs.declared.call.Change.TheVariants.{Delete}
use Rattle.ib_map.specs.declared.call.Reply.TheVariants.{Deleted, Missing}
use Rattle.ib_plans.specs.declared.TheConstants.{FEWEST_RECORDS}
use Rattle.ib_layout.specs.Geometry.{Sizes}
use Rattle.ib_logrec.specs.Log.{by_place}
use Rattle.ib_tree.specs.TreeLog.{opening}
use Rattle.ib_planned_log.specs.Kept.{IsKeptLog}
use Rattle.ib_rule.specs.Pass.{PassState}
use Rattle.ib_rule.specs.Space.{SpaceState}
use Rattle.ib_mtr.specs.Commits.{HasRead}
use Rattle.ib_mtr.specs.Mtr.{with_work}
use Rattle.ib_leaf.specs.Calls.{tree_calls}
use Rattle.ib_leaf.specs.Leaf.{IsShortFor, leaf_page}
use Rattle.ib_leaf.proofs.CommitLaws.{CommitAnswered, commit-answered}
use Rattle.ib_leaf.proofs.LeafLaws.{delete-ended, delete-refused, delete-stopped}
use Rattle.ib_hash.specs.declared.miss.Miss.TheVariants.{NeedsTree, Wrong}
use Rattle.ib_hash.specs.Tries.{HasClaimedGuess, TriedBy}
use Rattle.ib_hash.proofs.TryLaws.{HasLookedIn, claimed-then, looked-in, tried-right, tried-short, tried-wrong, works-there}
use Rattle.ib_hash.proofs.change.delete_by_guess.Given.{Over}
use Rattle.ib_hash.proofs.change.delete_by_guess.Goals.{After-look_in-looked}
use Rattle.ib_hash.proofs.change.delete_by_guess.Goals as goal

-- what is known of the leaf
looked : (g : Over) (c : After-look_in-looked g)
    → HasLookedIn c.args.latches.now c.args.key c.args.page c.look_in-looked.result.value c.look_in-looked.result.count c.args.pass.now c.claim_guess.new.mtr.pass.now
looked g c =
    let first = ap (λ m. m.now) c.start-mtr.ensures.latches in
    looked-in c.args.latches.now c.start-mtr.result.latches.now c.claim_guess.new.mtr.latches.now c.args.key c.args.page c.claim_guess.result c.look_in-looked.result.value c.look_in-looked.result.count c.args.pass.now c.start-mtr.result.pass.now c.claim_guess.new.mtr.pass.now
    first (ap (λ m. m.now) c.claim_guess.ensures.still.latches ∙ first) c.start-mtr.ensures.started c.if-not-claim_guess.false c.claim_guess.ensures.still.mtr c.claim_guess.ensures.claimed c.look_in-looked.ensures.value c.look_in-looked.ensures.count

pub returns-then-not-claim_guess-clause-tried : goal.returns-then-not-claim_guess-clause-tried
returns-then-not-claim_guess-clause-tried g c =
    let space : SpaceState = c.args.latches.now in let key = c.args.key in let page = c.args.page in let call : Call = DeleteCall key in
    let p : PassState = c.args.pass.now in let q : PassState = c.claim_guess.new.mtr.pass.now in let r : PassState = c.commit_read.new.self.1.0 in let place = c.commit_read.result in
    let first = ap (λ m. m.now) c.start-mtr.ensures.latches in
    let last : c.claim_guess.new.mtr.latches.now.sizes ≡ space.sizes = ap (λ m. m.now.sizes) (c.claim_guess.ensures.still.latches ∙ c.start-mtr.ensures.latches) in
    let claimed : HasClaimedGuess space.sizes (IsKeptLog space.sizes.pages) (by_place opening space.sizes.pages) key page false p q =
    subst (λ b. HasClaimedGuess space.sizes (IsKeptLog space.sizes.pages) (by_place opening space.sizes.pages) key page b p q) c.if-not-claim_guess.true
    (claimed-then space c.start-mtr.result.latches.now key page c.claim_guess.result p c.start-mtr.result.pass.now q first c.start-mtr.ensures.started c.claim_guess.ensures.claimed) in
    let read : HasRead space.sizes (IsKeptLog space.sizes.pages) q place r = subst (λ (s : Sizes). HasRead s (IsKeptLog s.pages) q place r) last c.commit_read.ensures in
    subst (TriedBy space.sizes (IsKeptLog space.sizes.pages) (by_place opening space.sizes.pages) (IsShortFor key) key call page (Err (Wrong page)) p) (search rules)
    (tried-wrong space.sizes key page c.requires.may.some p q claimed place r read)

pub look_in-looked-requires : goal.look_in-looked-requires
look_in-looked-requires g c = record {
  on = works-there c.start-mtr.result.latches.now c.claim_guess.new.mtr.latches.now c.args.key c.args.page c.claim_guess.result c.start-mtr.result.pass.now c.claim_guess.new.mtr.pass.now
      (ap (λ m. m.now) c.claim_guess.ensures.still.latches) c.if-not-claim_guess.false c.claim_guess.ensures.still.mtr c.claim_guess.ensures.claimed;
}

pub returns-in_default-clause-tried : goal.returns-in_default-clause-tried
returns-in_default-clause-tried g c =
    let space : SpaceState = c.args.latches.now in let key = c.args.key in let page = c.args.page in let call : Call = DeleteCall key in
    let p : PassState = c.args.pass.now in let q : PassState = c.claim_guess.new.mtr.pass.now in let r : PassState = c.commit_read-place.new.self.1.0 in let place = c.commit_read-place.result in
    let has = looked g (goal.at.returns-in_default-clause-tried g c).After-look_in-looked in
    let last : c.claim_guess.new.mtr.latches.now.sizes ≡ space.sizes = ap (λ m. m.now.sizes) (c.claim_guess.ensures.still.latches ∙ c.start-mtr.ensures.latches) in
    let read : HasRead space.sizes (IsKeptLog space.sizes.pages) q place r = subst (λ (s : Sizes). HasRead s (IsKeptLog s.pages) q place r) last c.commit_read-place.ensures in
    let none : c.look_in-looked.result.value ≡ None = search rules in
    let left = delete-refused space key page q has.works place r read (sym has.value_is ∙ none) in
    subst (TriedBy space.sizes (IsKeptLog space.sizes.pages) (by_place opening space.sizes.pages) (IsShortFor key) key call page (Ok (record { call = call; reply = Missing; place = place })) p) (search rules)
    (tried-right space (IsShortFor key) key page c.requires.may.some call p q has.claimed r (record { call = call; reply = Missing; place = place }) left)

pub returns-then-looked-le-FEWEST_RECORDS-clause-tried : goal.returns-then-looked-le-FEWEST_RECORDS-clause-tried
returns-then-looked-le-FEWEST_RECORDS-clause-tried g c =
    let space : SpaceState = c.args.latches.now in let key = c.args.key in let page = c.args.page in let call : Call = DeleteCall key in
    let p : PassState = c.args.pass.now in let q : PassState = c.claim_guess.new.mtr.pass.now in let r : PassState = c.commit_read-then-looked-le-FEWEST_RECORDS.new.self.1.0 in let place = c.commit_read-then-looked-le-FEWEST_RECORDS.result in
    let has = looked g (goal.at.returns-then-looked-le-FEWEST_RECORDS-clause-tried g c).After-look_in-looked in
    let last : c.claim_guess.new.mtr.latches.now.sizes ≡ space.sizes = ap (λ m. m.now.sizes) (c.claim_guess.ensures.still.latches ∙ c.start-mtr.ensures.latches) in
    let read : HasRead space.sizes (IsKeptLog space.sizes.pages) q place r = subst (λ (s : Sizes). HasRead s (IsKeptLog s.pages) q place r) last c.commit_read-then-looked-le-FEWEST_RECORDS.ensures in
    let count = has.count_is in
    let there : IsSome (value_at key (leaf_page space.sizes key q).records) = subst IsSome (sym c.in-Some.is ∙ has.value_is) refl in
    let few : length (leaf_page space.sizes key q).records ≤ FEWEST_RECORDS = (let le = c.if-looked-le-FEWEST_RECORDS.true in omega arith) in
    let left = delete-stopped space key page q has.works place r read (there, c.if-page-ne-ROOT.true, few) in
    subst (TriedBy space.sizes (IsKeptLog space.sizes.pages) (by_place opening space.sizes.pages) (IsShortFor key) key call page (Err (NeedsTree page)) p) (search rules)
    (tried-short space (IsShortFor key) key page c.requires.may.some call p q has.claimed r left)

pub returns-clause-tried : goal.returns-clause-tried
returns-clause-tried g c =
    let space : SpaceState = c.args.latches.now in let key = c.args.key in let page = c.args.page in let call : Call = DeleteCall key in
    let p : PassState = c.args.pass.now in let q : PassState = c.claim_guess.new.mtr.pass.now in let r : PassState = c.commit-committed.new.self.1.0 in
    let has = looked g (goal.at.returns-clause-tried g c).After-look_in-looked in
    let last : c.claim_guess.new.mtr.latches.now.sizes ≡ space.sizes = ap (λ m. m.now.sizes) (c.claim_guess.ensures.still.latches ∙ c.start-mtr.ensures.latches) in
    let counted : (page ≡ 1) ⊎ (FEWEST_RECORDS < c.look_in-looked.result.count) = search rules in
    let enough : (page ≡ 1) ⊎ (FEWEST_RECORDS < length (leaf_page space.sizes key q).records) = subst (λ n. (page ≡ 1) ⊎ (FEWEST_RECORDS < n)) has.count_is counted in
    let taken = c.take_out.ensures.taken in
    let end : c.take_out.new.mtr.latches.now.sizes ≡ space.sizes = ap (λ m. m.now.sizes) c.take_out.ensures.still.latches ∙ last in
    let ends : CommitAnswered space.sizes (tree_calls space.sizes) call (Delete key) (Deleted c.in-Some.value) c.commit-committed.result c.changed.result (with_work taken.0 q) r =
    commit-answered space.sizes c.take_out.new.mtr.latches.now.sizes tree_calls call (Delete key) (Deleted c.in-Some.value) c.commit-committed.result c.changed.result c.place.result (with_work taken.0 q) c.take_out.new.mtr.pass.now r
    end taken.1 (search rules) c.changed.ensures.made c.changed.ensures.full c.commit-committed.ensures.committed c.commit-committed.ensures.full in
    let left = delete-ended space key page q has.works c.commit-committed.result taken.0 c.in-Some.value c.changed.result r (sym has.value_is ∙ c.in-Some.is) enough ends in
    subst (TriedBy space.sizes (IsKeptLog space.sizes.pages) (by_place opening space.sizes.pages) (IsShortFor key) key call page (Ok c.changed.result) p) (search rules)
    (tried-right space (IsShortFor key) key page c.requires.may.some call p q has.claimed r c.changed.result left)
