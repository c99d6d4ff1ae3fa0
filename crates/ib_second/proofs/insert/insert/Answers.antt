-- The insert was answered.
use Rattle.std.proofs.Common.{rules, ◌≡◌, ◌∙◌, List, ap, sym, subst, arith}
use Rattle.ib_map.specs.declared.call.Call.TheVariants.{Insert as InsertCall}
use Rattle.ib_map.specs.declared.call.Change.TheVariants.{Insert}
use Rattle.ib_map.specs.declared.call.Reply.TheVariants.{Inserted}
use Rattle.ib_layout.specs.Geometry.{Sizes}
use Rattle.ib_page.specs.Work.{WorkPage}
use Rattle.ib_rule.specs.Pass.{PassState}
use Rattle.ib_rule.specs.Views.{is_watched}
use Rattle.ib_mtr.specs.Commits.{HasRead}
use Rattle.ib_mtr.specs.Mtr.{with_work}
use Rattle.ib_pair_law.specs.PairKept.{IsPairLog}
use Rattle.ib_leaf.specs.Leaf.{IsSeated}
use Rattle.ib_leaf.proofs.CommitLaws.{CommitAnswered, commit-answered}
use Rattle.ib_second.specs.Calls.{HasCalledPair, pair_calls}
use Rattle.ib_second.specs.PairComes.{HasRefused, HasTakenAll, HasTakenFresh}
use Rattle.ib_second.proofs.InsertTakes.{few-as, few-ended, few-read, refused-started, restated, taken-started}
use Rattle.ib_second.proofs.InsertCalls.{called-refused, called-taken}
use Rattle.ib_second.proofs.insert.insert.Given.{Over}
use Rattle.ib_second.proofs.insert.insert.Goals.{After-changed, After-commit_read-place, In-Err, In-Ok}
use Rattle.ib_second.proofs.insert.insert.Goals as goal

-- all is held that the insert reads and writes
taken : (g : Over) (c : In-Ok g)
    → HasTakenAll c.args.latches.now.sizes c.args.key c.args.value c.in-Ok.pages.paths.first c.in-Ok.pages.paths.second c.in-Ok.pages.fresh.first c.in-Ok.pages.fresh.second c.args.pass.now c.take_pages.new.mtr.pass.now
taken g c =
    let p : PassState = c.args.pass.now in let q : PassState = c.take_pages.new.mtr.pass.now in
    let all = c.in-Ok.pages in
    taken-started c.args.latches.now.sizes c.args.key c.args.value all.paths.first all.paths.second all.fresh.first all.fresh.second p q
    (restated (λ s v. HasTakenAll s c.args.key c.args.value all.paths.first all.paths.second all.fresh.first all.fresh.second v q) c.args.latches.now.sizes c.start-mtr.result.latches.now.sizes _ c.start-mtr.result.pass.now
    (ap (λ m. m.now.sizes) c.start-mtr.ensures.latches) c.start-mtr.ensures.started c.in-Ok.ensures.taken)

-- the insert is refused
refused : (g : Over) (c : In-Err g) → HasRefused c.args.latches.now.sizes c.args.key c.args.value c.in-Err.reply c.args.pass.now c.take_pages.new.mtr.pass.now
refused g c =
    let p : PassState = c.args.pass.now in let q : PassState = c.take_pages.new.mtr.pass.now in
    refused-started c.args.latches.now.sizes c.args.key c.args.value c.in-Err.reply p q
    (restated (λ s v. HasRefused s c.args.key c.args.value c.in-Err.reply v q) c.args.latches.now.sizes c.start-mtr.result.latches.now.sizes _ c.start-mtr.result.pass.now
    (ap (λ m. m.now.sizes) c.start-mtr.ensures.latches) c.start-mtr.ensures.started c.in-Err.ensures.refused)

-- the change was committed, or the log was full, and the answer says so
ended : (g : Over) (c : After-changed g) → (work : List WorkPage)
    × CommitAnswered c.args.latches.now.sizes (pair_calls c.args.latches.now.sizes) (InsertCall c.args.key c.args.value) (Insert c.args.key c.args.value) Inserted c.commit-committed.result c.changed.result
    (with_work work c.take_pages.new.mtr.pass.now) c.commit-committed.new.self.1.0
ended g c =
    let sizes : Sizes = c.args.latches.now.sizes in let t : PassState = c.take_pages.new.mtr.pass.now in let r : PassState = c.commit-committed.new.self.1.0 in
    let planned = c.plan_insert_in.ensures.planned in
    let last : c.plan_insert_in.new.mtr.latches.now.sizes ≡ sizes = ap (λ m. m.now.sizes) (c.plan_insert_in.ensures.still.latches ∙ (c.take_pages.ensures.still.latches ∙ c.start-mtr.ensures.latches)) in (
      planned.0,
      commit-answered sizes c.plan_insert_in.new.mtr.latches.now.sizes pair_calls (InsertCall c.args.key c.args.value) (Insert c.args.key c.args.value) Inserted c.commit-committed.result c.changed.result c.place.result
          (with_work planned.0 t) c.plan_insert_in.new.mtr.pass.now r last planned.1 (search rules) c.changed.ensures.made c.changed.ensures.full c.commit-committed.ensures.committed c.commit-committed.ensures.full,
    )

-- the mini-transaction ended without a change
read : (g : Over) (c : After-commit_read-place g) → HasRead c.args.latches.now.sizes (IsPairLog c.args.latches.now.sizes.pages) c.take_pages.new.mtr.pass.now c.commit_read-place.result c.commit_read-place.new.self.1.0
read g c =
    let q : PassState = c.take_pages.new.mtr.pass.now in let r : PassState = c.commit_read-place.new.self.1.0 in
    subst (λ (s : Sizes). HasRead s (IsPairLog s.pages) q c.commit_read-place.result r) (ap (λ m. m.now.sizes) (c.take_pages.ensures.still.latches ∙ c.start-mtr.ensures.latches)) c.commit_read-place.ensures

pub take_pages-requires-clause-unwatched : goal.take_pages-requires-clause-unwatched
take_pages-requires-clause-unwatched g c = ap (is_watched 1) (ap (λ (s : PassState). s.view.memory.since) c.start-mtr.ensures.started ∙ c.is_idle.ensures.unwatched c.requires.may.rest.idle)

pub plan_insert_in-requires-clause-seated : goal.plan_insert_in-requires-clause-seated
plan_insert_in-requires-clause-seated g c = c.facts_of_session-2.ensures

pub plan_insert_in-requires-clause-room : goal.plan_insert_in-requires-clause-room
plan_insert_in-requires-clause-room g c =
    let all = taken g (goal.at.plan_insert_in-requires-clause-room g c).In-Ok in
    let room = c.requires.may.room in let a = all.grants in omega arith

pub plan_insert_in-requires-clause-ready : goal.plan_insert_in-requires-clause-ready
plan_insert_in-requires-clause-ready g c =
    let q : PassState = c.take_pages.new.mtr.pass.now in let all = taken g (goal.at.plan_insert_in-requires-clause-ready g c).In-Ok in
    let pages = c.in-Ok.pages in (
      all.before,
      subst (λ (s : Sizes). HasTakenFresh s c.args.key c.args.value pages.paths.first pages.paths.second pages.fresh.first pages.fresh.second all.before q)
          (sym (ap (λ m. m.now.sizes) (c.take_pages.ensures.still.latches ∙ c.start-mtr.ensures.latches))) all.taken,
    )

pub returns-clause-called : goal.returns-clause-called
returns-clause-called g c =
    let all = goal.at.returns-clause-called g c in let pages = c.in-Ok.pages in
    let q : PassState = c.take_pages.new.mtr.pass.now in
    let seated = subst (λ (s : Sizes). IsSeated s q) (ap (λ m. m.now.sizes) (c.take_pages.ensures.still.latches ∙ c.start-mtr.ensures.latches)) c.facts_of_session-2.ensures in
    let ends = ended g all.After-changed in
    subst (HasCalledPair c.args.latches.now.sizes (InsertCall c.args.key c.args.value) c.changed.result c.args.pass.now) (search rules)
    (called-taken c.args.latches.now.sizes c.args.key c.args.value pages.paths.first pages.paths.second pages.fresh.first pages.fresh.second c.args.pass.now q (taken g all.In-Ok) seated
    c.commit-committed.result ends.0 c.changed.result c.commit-committed.new.self.1.0 ends.1)

pub returns-clause-grants : goal.returns-clause-grants
returns-clause-grants g c =
    let all = goal.at.returns-clause-grants g c in let ends = ended g all.After-changed in let held = taken g all.In-Ok in
    few-as c.args.latches.now.sizes (InsertCall c.args.key c.args.value) c.changed.result 31 c.args.pass.now c.commit-committed.new.self.1.0 _ (returns-clause-called g c) (search rules)
    (few-ended c.args.latches.now.sizes (pair_calls c.args.latches.now.sizes) (InsertCall c.args.key c.args.value) (Insert c.args.key c.args.value) Inserted c.commit-committed.result c.changed.result ends.0 31 c.args.pass.now c.take_pages.new.mtr.pass.now
    c.commit-committed.new.self.1.0 ends.1 held.claims (let few = held.grants in omega arith))

pub returns-in-Err-clause-called : goal.returns-in-Err-clause-called
returns-in-Err-clause-called g c =
    let all = goal.at.returns-in-Err-clause-called g c in
    let q : PassState = c.take_pages.new.mtr.pass.now in
    let seated = subst (λ (s : Sizes). IsSeated s q) (ap (λ m. m.now.sizes) (c.take_pages.ensures.still.latches ∙ c.start-mtr.ensures.latches)) c.facts_of_session.ensures in
    subst (HasCalledPair c.args.latches.now.sizes (InsertCall c.args.key c.args.value) (record { call = InsertCall c.args.key c.args.value; reply = c.in-Err.reply; place = c.commit_read-place.result }) c.args.pass.now) (search rules)
    (called-refused c.args.latches.now.sizes c.args.key c.args.value c.in-Err.reply c.args.pass.now q (refused g all.In-Err) seated c.commit_read-place.result c.commit_read-place.new.self.1.0 (read g all.After-commit_read-place))

pub returns-in-Err-clause-grants : goal.returns-in-Err-clause-grants
returns-in-Err-clause-grants g c =
    let all = goal.at.returns-in-Err-clause-grants g c in let held = refused g all.In-Err in
    few-as c.args.latches.now.sizes (InsertCall c.args.key c.args.value) (record { call = InsertCall c.args.key c.args.value; reply = c.in-Err.reply; place = c.commit_read-place.result }) 31 c.args.pass.now c.commit_read-place.new.self.1.0 _ (returns-in-Err-clause-called g c) (search rules)
    (few-read c.args.latches.now.sizes (IsPairLog c.args.latches.now.sizes.pages) 31 c.commit_read-place.result c.args.pass.now c.take_pages.new.mtr.pass.now c.commit_read-place.new.self.1.0 (read g all.After-commit_read-place) held.claims (let few = held.grants in omega arith))
