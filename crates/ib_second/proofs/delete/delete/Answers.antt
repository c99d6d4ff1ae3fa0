-- The delete was answered.
use Rattle.std.proofs.Common.{rules, ◌≡◌, ◌∙◌, ℕ, List, Option, Some, None, ap, sym, subst, arith}
use Rattle.ib_map.specs.Pairs.{value_at}
use Rattle.ib_map.specs.declared.call.Call.TheVariants.{Delete as DeleteCall}
use Rattle.ib_map.specs.declared.call.Change.TheVariants.{Delete}
use Rattle.ib_map.specs.declared.call.Reply.TheVariants.{Deleted, Missing}
use Rattle.ib_layout.specs.Geometry.{Sizes}
use Rattle.ib_plans.specs.Agreement.{path_of}
use Rattle.ib_rule.specs.Pass.{PassState}
use Rattle.ib_mtr.specs.Commits.{HasRead}
use Rattle.ib_mtr.specs.Mtr.{with_work}
use Rattle.ib_cursor.specs.OnPath.{IsOnPath}
use Rattle.ib_cursor.specs.Shapes.{HasIndex}
use Rattle.ib_leaf.specs.Leaf.{IsSeated}
use Rattle.ib_leaf.proofs.CommitLaws.{CommitAnswered, commit-answered}
use Rattle.ib_pair_law.specs.PairKept.{IsPairLog}
use Rattle.ib_second.specs.Calls.{HasCalledPair, pair_calls}
use Rattle.ib_second.specs.PairComes.{HasTakenRowsOfBoth}
use Rattle.ib_second.specs.PairFinds.{HasFoundPair}
use Rattle.ib_second.specs.PairReady.{pages_seen}
use Rattle.ib_second.proofs.DeleteWhole.{delete-ended, delete-grants, missing-ended, missing-grants}
use Rattle.ib_second.proofs.FindPair.{found-started}
use Rattle.ib_second.proofs.delete.delete.Given.{Over}
use Rattle.ib_second.proofs.delete.delete.Goals.{After-changed, After-facts_of_session-2, After-find_pair-found}
use Rattle.ib_second.proofs.delete.delete.Goals as goal

-- the key was looked up after the claim
found : (g : Over) (c : After-find_pair-found g) → HasFoundPair c.args.latches.now.sizes c.args.key c.find_pair-found.result.path.path c.find_pair-found.result.path.leaf c.find_pair-found.result.value c.args.pass.now c.find_pair-found.new.mtr.pass.now
found g c =
    let sizes : Sizes = c.args.latches.now.sizes in let q : PassState = c.find_pair-found.new.mtr.pass.now in let way = c.find_pair-found.result in
    found-started sizes c.args.key way.path.path way.path.leaf way.value c.args.pass.now q (subst (λ (s : PassState). HasFoundPair sizes c.args.key way.path.path way.path.leaf way.value s q) c.start-mtr.ensures.started
    (subst (λ (s : Sizes). HasFoundPair s c.args.key way.path.path way.path.leaf way.value c.start-mtr.result.pass.now q) (ap (λ m. m.now.sizes) c.start-mtr.ensures.latches) c.find_pair-found.ensures.found))

-- what holds of a pass holds of one that is the same
moved : (P : PassState → Type 0) (r u : PassState) → r ≡ u → P r → P u
moved P r u same h = subst P same h

pub find_pair-found-requires-clause-unwatched : goal.find_pair-found-requires-clause-unwatched
find_pair-found-requires-clause-unwatched g c = ap (λ (s : PassState). s.view.memory.since) c.start-mtr.ensures.started ∙ c.is_idle.ensures.unwatched c.requires.may.rest.idle

pub returns-in_default-clause-called : goal.returns-in_default-clause-called
returns-in_default-clause-called g c =
    let sizes : Sizes = c.args.latches.now.sizes in let p : PassState = c.args.pass.now in let q : PassState = c.find_pair-found.new.mtr.pass.now in let way = c.find_pair-found.result in
    let same : c.find_pair-found.new.mtr.latches.now.sizes ≡ sizes = ap (λ m. m.now.sizes) (c.find_pair-found.ensures.still.latches ∙ c.start-mtr.ensures.latches) in
    let seated : IsSeated sizes q = subst (λ (s : Sizes). IsSeated s q) same c.facts_of_session.ensures in
    let none : way.value ≡ None = search rules in
    let h = subst (λ (o : Option ℕ). HasFoundPair sizes c.args.key way.path.path way.path.leaf o p q) none (found g (goal.at.returns-in_default-clause-called g c).After-find_pair-found) in
    let r : PassState = c.commit_read-place.new.self.1.0 in let place = c.commit_read-place.result in
    moved (HasCalledPair sizes (DeleteCall c.args.key) (record { call = DeleteCall c.args.key; reply = Missing; place = place }) p) r _ (search rules)
    (missing-ended h seated place r (subst (λ (s : Sizes). HasRead s (IsPairLog s.pages) q place r) same c.commit_read-place.ensures))

pub returns-in_default-clause-grants : goal.returns-in_default-clause-grants
returns-in_default-clause-grants g c =
    let sizes : Sizes = c.args.latches.now.sizes in let p : PassState = c.args.pass.now in let q : PassState = c.find_pair-found.new.mtr.pass.now in let way = c.find_pair-found.result in
    let same : c.find_pair-found.new.mtr.latches.now.sizes ≡ sizes = ap (λ m. m.now.sizes) (c.find_pair-found.ensures.still.latches ∙ c.start-mtr.ensures.latches) in
    let none : way.value ≡ None = search rules in
    let h = subst (λ (o : Option ℕ). HasFoundPair sizes c.args.key way.path.path way.path.leaf o p q) none (found g (goal.at.returns-in_default-clause-grants g c).After-find_pair-found) in
    let r : PassState = c.commit_read-place.new.self.1.0 in let place = c.commit_read-place.result in
    let few = missing-grants h place r (subst (λ (s : Sizes). HasRead s (IsPairLog s.pages) q place r) same c.commit_read-place.ensures) in search (rules, few)

pub claim_pages-paths-requires-clause-index : goal.claim_pages-paths-requires-clause-index
claim_pages-paths-requires-clause-index g c =
    let q : PassState = c.find_pair-found.new.mtr.pass.now in
    let h = found g (goal.at.claim_pages-paths-requires-clause-index g c).After-find_pair-found in
    let same : c.find_pair-found.new.mtr.latches.now.sizes ≡ c.args.latches.now.sizes = ap (λ m. m.now.sizes) (c.find_pair-found.ensures.still.latches ∙ c.start-mtr.ensures.latches) in
    subst (λ (s : Sizes). HasIndex s (IsPairLog s.pages) q) (sym same) h.index

pub claim_pages-paths-requires-clause-on_path : goal.claim_pages-paths-requires-clause-on_path
claim_pages-paths-requires-clause-on_path g c =
    let q : PassState = c.find_pair-found.new.mtr.pass.now in let path : List ℕ = c.find_pair-found.result.path.path in
    let h = found g (goal.at.claim_pages-paths-requires-clause-on_path g c).After-find_pair-found in
    let same : c.find_pair-found.new.mtr.latches.now.sizes ≡ c.args.latches.now.sizes = ap (λ m. m.now.sizes) (c.find_pair-found.ensures.still.latches ∙ c.start-mtr.ensures.latches) in
    subst (λ (s : Sizes). path ≡ path_of (pages_seen s q) c.args.key 1) (sym same) h.on_path

pub claim_pages-paths-requires-clause-leaf : goal.claim_pages-paths-requires-clause-leaf
claim_pages-paths-requires-clause-leaf g c =
    let q : PassState = c.find_pair-found.new.mtr.pass.now in let leaf = c.find_pair-found.result.path.leaf in
    let h = found g (goal.at.claim_pages-paths-requires-clause-leaf g c).After-find_pair-found in
    let same : c.find_pair-found.new.mtr.latches.now.sizes ≡ c.args.latches.now.sizes = ap (λ m. m.now.sizes) (c.find_pair-found.ensures.still.latches ∙ c.start-mtr.ensures.latches) in
    subst (λ (s : Sizes). IsOnPath (pages_seen s q) 1 c.args.key leaf 0) (sym same) h.leaf_on

pub claim_pages-paths-requires-clause-room : goal.claim_pages-paths-requires-clause-room
claim_pages-paths-requires-clause-room g c =
    let h = found g (goal.at.claim_pages-paths-requires-clause-room g c).After-find_pair-found in
    let few = h.grants in let room = c.requires.may.room in omega arith

-- all is held that the delete may change
ready : (g : Over) (c : After-facts_of_session-2 g) → HasFoundPair c.args.latches.now.sizes c.args.key c.find_pair-found.result.path.path c.find_pair-found.result.path.leaf (Some c.in-Some.value) c.args.pass.now c.find_pair-found.new.mtr.pass.now
    × HasTakenRowsOfBoth c.args.latches.now.sizes c.args.key c.in-Some.value c.claim_pages-paths.result.first c.claim_pages-paths.result.second c.find_pair-found.new.mtr.pass.now c.claim_pages-paths.new.mtr.pass.now
    × (c.claim_pages-paths.new.mtr.latches.now.sizes ≡ c.args.latches.now.sizes) × IsSeated c.args.latches.now.sizes c.claim_pages-paths.new.mtr.pass.now
ready g c =
    let sizes : Sizes = c.args.latches.now.sizes in let p : PassState = c.args.pass.now in let q : PassState = c.find_pair-found.new.mtr.pass.now in let t : PassState = c.claim_pages-paths.new.mtr.pass.now in let way = c.find_pair-found.result in
    let key = c.args.key in let value = c.in-Some.value in let first : List ℕ = c.claim_pages-paths.result.first in let second : List ℕ = c.claim_pages-paths.result.second in
    let old : Sizes = c.find_pair-found.new.mtr.latches.now.sizes in
    let same : old ≡ sizes = ap (λ m. m.now.sizes) (c.find_pair-found.ensures.still.latches ∙ c.start-mtr.ensures.latches) in
    let last : c.claim_pages-paths.new.mtr.latches.now.sizes ≡ sizes = ap (λ m. m.now.sizes) c.claim_pages-paths.ensures.still.latches ∙ same in
    let some : way.value ≡ Some value = c.in-Some.is in
    let f = found-started sizes key way.path.path way.path.leaf way.value p q (subst (λ (s : PassState). HasFoundPair sizes key way.path.path way.path.leaf way.value s q) c.start-mtr.ensures.started
    (subst (λ (s : Sizes). HasFoundPair s key way.path.path way.path.leaf way.value c.start-mtr.result.pass.now q) (ap (λ m. m.now.sizes) c.start-mtr.ensures.latches) c.find_pair-found.ensures.found)) in
    let h = subst (λ (o : Option ℕ). HasFoundPair sizes key way.path.path way.path.leaf o p q) some f in
    let there : value_at key (pages_seen old q way.path.leaf).records ≡ Some value = subst (λ (s : Sizes). value_at key (pages_seen s q way.path.leaf).records ≡ Some value) (sym same) (sym h.found) in
    (h, subst (λ (s : Sizes). HasTakenRowsOfBoth s key value first second q t) same (c.claim_pages-paths.ensures.taken value c.second_key.ensures.key there), last, subst (λ (s : Sizes). IsSeated s t) last c.facts_of_session-2.ensures)

pub plan_delete_in-requires-clause-seated : goal.plan_delete_in-requires-clause-seated
plan_delete_in-requires-clause-seated g c = c.facts_of_session-2.ensures

pub plan_delete_in-requires-clause-room : goal.plan_delete_in-requires-clause-room
plan_delete_in-requires-clause-room g c =
    let r = ready g (goal.at.plan_delete_in-requires-clause-room g c).After-facts_of_session-2 in let h = r.0 in let rows = r.1 in
    let a = h.grants in let b = rows.grants in let room = c.requires.may.room in omega arith

pub plan_delete_in-requires-clause-ready : goal.plan_delete_in-requires-clause-ready
plan_delete_in-requires-clause-ready g c =
    let r = ready g (goal.at.plan_delete_in-requires-clause-ready g c).After-facts_of_session-2 in
    let q : PassState = c.find_pair-found.new.mtr.pass.now in let t : PassState = c.claim_pages-paths.new.mtr.pass.now in
    let first : List ℕ = c.claim_pages-paths.result.first in let second : List ℕ = c.claim_pages-paths.result.second in
    subst (λ (s : Sizes). (before : PassState) × HasTakenRowsOfBoth s c.args.key c.in-Some.value first second before t) (sym r.2) (q, r.1)

-- what the commit was answered
ends : (g : Over) (c : After-changed g) → CommitAnswered c.args.latches.now.sizes (pair_calls c.args.latches.now.sizes) (DeleteCall c.args.key) (Delete c.args.key) (Deleted c.in-Some.value) c.commit-committed.result c.changed.result
    (with_work c.plan_delete_in.ensures.planned.0 c.claim_pages-paths.new.mtr.pass.now) c.commit-committed.new.self.1.0
ends g c =
    let sizes : Sizes = c.args.latches.now.sizes in let t : PassState = c.claim_pages-paths.new.mtr.pass.now in let r : PassState = c.commit-committed.new.self.1.0 in
    let planned = c.plan_delete_in.ensures.planned in
    let last : c.plan_delete_in.new.mtr.latches.now.sizes ≡ sizes = ap (λ m. m.now.sizes) (c.plan_delete_in.ensures.still.latches ∙ (c.claim_pages-paths.ensures.still.latches ∙ (c.find_pair-found.ensures.still.latches ∙ c.start-mtr.ensures.latches))) in
    commit-answered sizes c.plan_delete_in.new.mtr.latches.now.sizes pair_calls (DeleteCall c.args.key) (Delete c.args.key) (Deleted c.in-Some.value) c.commit-committed.result c.changed.result c.place.result (with_work planned.0 t) c.plan_delete_in.new.mtr.pass.now r
    last planned.1 (search rules) c.changed.ensures.made c.changed.ensures.full c.commit-committed.ensures.committed c.commit-committed.ensures.full

pub returns-clause-called : goal.returns-clause-called
returns-clause-called g c =
    let at = goal.at.returns-clause-called g c in let s = ready g at.After-facts_of_session-2 in
    moved (HasCalledPair c.args.latches.now.sizes (DeleteCall c.args.key) c.changed.result c.args.pass.now) c.commit-committed.new.self.1.0 _ (search rules)
    (delete-ended s.0 s.1 c.commit-committed.result c.plan_delete_in.ensures.planned.0 c.changed.result c.commit-committed.new.self.1.0 (ends g at.After-changed) s.3)

pub returns-clause-grants : goal.returns-clause-grants
returns-clause-grants g c =
    let at = goal.at.returns-clause-grants g c in let s = ready g at.After-facts_of_session-2 in
    let few = delete-grants s.0 s.1 c.commit-committed.result c.plan_delete_in.ensures.planned.0 c.changed.result c.commit-committed.new.self.1.0 (ends g at.After-changed) in search (rules, few)
