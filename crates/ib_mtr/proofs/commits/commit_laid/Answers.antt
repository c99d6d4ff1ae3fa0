-- X on the log latch, a look, the append, and the end.
use Rattle.std.proofs.Common.{rules, ◌≡◌, ◌+◌, ◌<◌, ◌≤◌, ℕ, List, [], length, Bor, refl, ap, sym, ◌∙◌, subst, arith}
use Rattle.std.specs.Prelude.{None, Result, Ok, Err, IfOk, IfErr}
use Rattle.ib_core.specs.Sessions.{idle}
use Rattle.ib_levels.specs.declared.latch.Latch.{Latch}
use Rattle.ib_layout.specs.Geometry.{Sizes}
use Rattle.ib_levels.specs.declared.level.Level.TheVariants.{Log}
use Rattle.ib_levels.specs.declared.level.Mode.{Mode}
use Rattle.ib_logrec.specs.Log.{by_place, used}
use Rattle.ib_frames.specs.declared.appends.LogFull.{LogFull}
use Rattle.ib_frames.specs.Appends.{MayAppend, entry_for}
use Rattle.ib_rule.specs.declared.pass.TheConstants.{ENTRY_WORDS}
use Rattle.ib_rule.specs.Pass.{PassState, with_view}
use Rattle.ib_rule.specs.Stores.{appending}
use Rattle.ib_rule.specs.Space.{SpaceState}
use Rattle.ib_rule.specs.Views.{KnowsHeld}
use Rattle.ib_mtr.specs.Commits.{HasEnded}
use Rattle.ib_mtr.specs.Loads.{HasLooked}
use Rattle.ib_mtr.specs.Mtr.{IsReleasedTo, finished, with_work}
use Rattle.ib_mtr.proofs.Committing.{committed, full, laid_after, may_append}
use Rattle.ib_mtr.proofs.Ending.{ended_by}
use Rattle.ib_mtr.proofs.Keeping.{may_take_more}
use Rattle.ib_mtr.proofs.commits.commit_laid.Goals as goal

pub x_latch-requires-clause-may : goal.x_latch-requires-clause-may
x_latch-requires-clause-may g c = may_take_more c.args.latches.now 0 Log c.args.pass.now (record {
  own = c.requires.mtr.own;
  latch = omega arith;
  grows = c.requires.may.grows;
  may = c.requires.may.log;
})

pub append_entry-result-requires-clause-may : goal.append_entry-result-requires-clause-may
append_entry-result-requires-clause-may g c room =
    let p = c.args.pass.now in let p1 = c.x_latch.new.self.pass.now in let p2 = c.log_end.new.self.pass.now in
    let x = c.x_latch.ensures in let l = c.log_end.ensures in
    let memo1 = x.granted.pass ∙ ap (λ (m : List (Latch × Mode)). record p { view = p1.view; memo = m }) (sym (ap (λ (q : PassState). q.memo) x.granted.pass)) in
    let looked = subst (λ (s : Bor SpaceState). HasLooked s.now.sizes (g.L.Law.lawful s.now.sizes.pages) (by_place g.L.Law.opening s.now.sizes.pages) p1 p2) x.still.latches l.looked in
    subst (λ (s : Bor SpaceState). MayAppend (g.L.Law.lawful s.now.sizes.pages) p2 c.args.change p2.work) (sym (l.still.latches ∙ x.still.latches))
    (may_append c.args.latches.now.sizes (g.L.Law.lawful c.args.latches.now.sizes.pages) (by_place g.L.Law.opening c.args.latches.now.sizes.pages) c.args.change p p1 p2
    c.requires.mtr.proper c.number.ensures.session c.number-2.ensures.session memo1 x.granted.taken x.granted.looks looked.looked looked.pass c.requires.may)

pub append_entry-result-requires-clause-laid : goal.append_entry-result-requires-clause-laid
append_entry-result-requires-clause-laid g c =
    let p = c.args.pass.now in let p1 = c.x_latch.new.self.pass.now in let p2 = c.log_end.new.self.pass.now in
    let x = c.x_latch.ensures in let l = c.log_end.ensures in
    let memo1 = x.granted.pass ∙ ap (λ (m : List (Latch × Mode)). record p { view = p1.view; memo = m }) (sym (ap (λ (q : PassState). q.memo) x.granted.pass)) in
    let looked = subst (λ (s : Bor SpaceState). HasLooked s.now.sizes (g.L.Law.lawful s.now.sizes.pages) (by_place g.L.Law.opening s.now.sizes.pages) p1 p2) x.still.latches l.looked in
    laid_after c.args.latches.now.sizes (g.L.Law.lawful c.args.latches.now.sizes.pages) (by_place g.L.Law.opening c.args.latches.now.sizes.pages) c.args.change p p1 p2
    c.requires.mtr.proper c.number.ensures.session c.number-2.ensures.session memo1 x.granted.taken x.granted.looks looked.looked looked.pass c.args.laid c.requires.laid

-- what follows from a result of either kind
of_ok : {A B : Type 0} {P : A → Type 0} (r : Result A B) → ((x : A) → r ≡ Ok x → P x) → IfOk r P
of_ok (Ok x) so = so x refl
of_ok (Err e) so = tt

of_err : {A B : Type 0} {P : B → Type 0} (r : Result A B) → ((e : B) → r ≡ Err e → P e) → IfErr r P
of_err (Ok x) so = tt
of_err (Err e) so = so e refl

-- the end, after what the append left
ended_after : (o p q r s : PassState) → o ≡ p → IsReleasedTo 0 (with_work [] o) q → r ≡ finished q → KnowsHeld r.view → r.view.session ≡ idle → o.view.memory.append ≡ None → s ≡ r
    → HasEnded p p.view.grants p.view.memory.seen p.view.memory.own p.view.memory.ends s
ended_after o p q r s is given ended known rests closed same =
    subst (λ (p : PassState). HasEnded p p.view.grants p.view.memory.seen p.view.memory.own p.view.memory.ends s) is
    (subst (HasEnded o o.view.grants o.view.memory.seen o.view.memory.own o.view.memory.ends) (sym same) (ended_by o q r given ended known rests closed))

pub returns-clause-committed : goal.returns-clause-committed
returns-clause-committed g c = of_ok c.append_entry-result.result (λ place is.
    let p = c.args.pass.now in let p1 = c.x_latch.new.self.pass.now in let p2 = c.log_end.new.self.pass.now in let p3 = c.append_entry-result.new.self.pass.now in
    let x = c.x_latch.ensures in let l = c.log_end.ensures in let a = c.append_entry-result.ensures in let b = c.give_back.ensures in let e = c.finish.ensures in
    let memo1 = x.granted.pass ∙ ap (λ (m : List (Latch × Mode)). record p { view = p1.view; memo = m }) (sym (ap (λ (q : PassState). q.memo) x.granted.pass)) in
    let looked = subst (λ (s : Bor SpaceState). HasLooked s.now.sizes (g.L.Law.lawful s.now.sizes.pages) (by_place g.L.Law.opening s.now.sizes.pages) p1 p2) x.still.latches l.looked in
    let ok = subst (λ (r : Result ℕ LogFull). IfOk r (λ place. p3 ≡ record (with_view p2 (appending (entry_for p2 c.args.change p2.work) p2.view)) { words = p3.words })) is a.ok in
    let at = subst (λ (r : Result ℕ LogFull). IfOk r (λ place. place ≡ length p2.view.memory.seen)) is a.place in
    let sizes : p3.sizes ≡ c.args.latches.now.sizes = ap (λ (q : PassState). q.sizes) ok ∙ (l.still.mtr.own.sizes ∙ ap (λ (s : Bor SpaceState). s.now.sizes) (l.still.latches ∙ x.still.latches)) in
    let room : used p3.view.memory.seen ≤ c.args.latches.now.sizes.log_words = let u = c.used.ensures.used in let r = c.used.ensures.room in let w = ap (λ (s : Sizes). s.log_words) sizes in omega arith in
    let most = subst (λ (r : Result ℕ LogFull). IfOk r (λ _. used p2.view.memory.seen + ENTRY_WORDS ≤ c.log_end.new.self.latches.now.sizes.log_words)) is a.wide in
    let cap : c.log_end.new.self.latches.now.sizes.log_words ≡ c.args.latches.now.sizes.log_words = ap (λ (s : Bor SpaceState). s.now.sizes.log_words) (l.still.latches ∙ x.still.latches) in
    let wide : used p2.view.memory.seen + ENTRY_WORDS ≤ c.args.latches.now.sizes.log_words = omega arith in
    committed c.args.latches.now.sizes (g.L.Law.lawful c.args.latches.now.sizes.pages) (by_place g.L.Law.opening c.args.latches.now.sizes.pages) c.args.change p p1 p2
    c.requires.mtr.proper c.number.ensures.session c.number-2.ensures.session memo1 x.granted.taken x.granted.looks looked.looked looked.pass l.still.mtr.read looked.right a.work p3 _ place c.requires.may ok at room wide
    (ended_after p3 p3 c.give_back.new.self.pass.now c.finish.new.self.1.0 _ refl b.given e.finished e.known e.idle (ap (λ (q : PassState). q.view.memory.append) ok) (search rules)))

pub returns-clause-full : goal.returns-clause-full
returns-clause-full g c = of_err c.append_entry-result.result (λ f is.
    let p = c.args.pass.now in let p1 = c.x_latch.new.self.pass.now in let p2 = c.log_end.new.self.pass.now in let p3 = c.append_entry-result.new.self.pass.now in
    let x = c.x_latch.ensures in let l = c.log_end.ensures in let a = c.append_entry-result.ensures in let b = c.give_back.ensures in let e = c.finish.ensures in
    let memo1 = x.granted.pass ∙ ap (λ (m : List (Latch × Mode)). record p { view = p1.view; memo = m }) (sym (ap (λ (q : PassState). q.memo) x.granted.pass)) in
    let looked = subst (λ (s : Bor SpaceState). HasLooked s.now.sizes (g.L.Law.lawful s.now.sizes.pages) (by_place g.L.Law.opening s.now.sizes.pages) p1 p2) x.still.latches l.looked in
    let err = subst (λ (r : Result ℕ LogFull). IfErr r (λ full. (full.used ≡ used p2.view.memory.seen) × (full.cap ≡ c.log_end.new.self.latches.now.sizes.log_words) × (c.log_end.new.self.latches.now.sizes.log_words < used p2.view.memory.seen + ENTRY_WORDS) × (p3 ≡ p2))) is a.err in
    let cap : c.log_end.new.self.latches.now.sizes.log_words ≡ c.args.latches.now.sizes.log_words = ap (λ (s : Bor SpaceState). s.now.sizes.log_words) (l.still.latches ∙ x.still.latches) in
    let short : c.args.latches.now.sizes.log_words < used p2.view.memory.seen + ENTRY_WORDS = let s = err.2 in omega arith in
    full c.args.latches.now.sizes (g.L.Law.lawful c.args.latches.now.sizes.pages) (by_place g.L.Law.opening c.args.latches.now.sizes.pages) c.args.change p p1 p2
    c.requires.mtr.proper c.number.ensures.session c.number-2.ensures.session memo1 x.granted.taken x.granted.looks looked.looked looked.pass _ f err.0 (err.1 ∙ cap) short
    (ended_after p3 p2 c.give_back.new.self.pass.now c.finish.new.self.1.0 _ err.3 b.given e.finished e.known e.idle (ap (λ (q : PassState). q.view.memory.append) err.3 ∙ l.still.mtr.own.closed) (search rules)))
