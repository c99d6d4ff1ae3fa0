-- X on the log latch by a try, a look, the append, and the end; where it is refused, the look and the end.
use Rattle.std.proofs.Common.{rules, ◌≡◌, ◌+◌, ◌<◌, ◌≤◌, ℕ, List, length, Bor, refl, ap, sym, ◌∙◌, subst, arith}
use Rattle.std.specs.Prelude.{Result, IfOk, IfErr}
use Rattle.ib_levels.specs.declared.latch.Latch.{Latch}
use Rattle.ib_levels.specs.declared.level.Level.TheVariants.{Log}
use Rattle.ib_levels.specs.declared.level.Mode.{Mode}
use Rattle.ib_levels.specs.declared.level.Mode.TheVariants.{X}
use Rattle.ib_levels.proofs.Counts.{on-none}
use Rattle.ib_layout.specs.Geometry.{Sizes}
use Rattle.ib_logrec.specs.Log.{by_place, used}
use Rattle.ib_frames.specs.declared.appends.LogFull.{LogFull}
use Rattle.ib_frames.specs.Appends.{MayAppend, entry_for}
use Rattle.ib_rule.specs.declared.pass.TheConstants.{ENTRY_WORDS}
use Rattle.ib_rule.specs.Pass.{PassState, with_view}
use Rattle.ib_rule.specs.Stores.{appending}
use Rattle.ib_rule.specs.Space.{SpaceState}
use Rattle.ib_latch.specs.Tries.{looks_of}
use Rattle.ib_latch.proofs.RefusalLaws.{looks_few, refused_looks, won_looks, won_waits}
use Rattle.ib_mtr.specs.Commits.{HasCommitted, HasEnded, IsFull}
use Rattle.ib_mtr.specs.Loads.{HasLooked}
use Rattle.ib_mtr.specs.Mtr.{with_memo}
use Rattle.ib_mtr.specs.NowaitCommits.{IsRefusedByLog}
use Rattle.ib_mtr.proofs.Committing.{committed, full, laid_after, may_append}
use Rattle.ib_mtr.proofs.Ending.{ended_by, ended_looks, ended_waits}
use Rattle.ib_mtr.proofs.NowaitCommitting.{ended_all, refused_by_log}
use Rattle.ib_mtr.proofs.Keeping.{may_take_more}
use Rattle.ib_mtr.proofs.commit_nowait.commit_laid_nowait.Goals as goal

pub try_x_latch-requires-clause-may : goal.try_x_latch-requires-clause-may
try_x_latch-requires-clause-may g c = may_take_more c.args.latches.now 0 Log c.args.pass.now (record {
  own = c.requires.mtr.own;
  latch = omega arith;
  grows = c.requires.may.grows;
  may = c.requires.may.log;
})

pub try_x_latch-requires-clause-no_upgrade : goal.try_x_latch-requires-clause-no_upgrade
try_x_latch-requires-clause-no_upgrade g c = λ some. let none = on-none 0 (λ h. h.sx) c.args.pass.now.view.session.held c.requires.may.log.none in absurd (omega arith)

pub returns-in-Err-clause-not_committed : goal.returns-in-Err-clause-not_committed
returns-in-Err-clause-not_committed g c =
    let p = c.args.pass.now in let p1 = c.try_x_latch.new.self.pass.now in let p2 = c.log_end.new.self.pass.now in
    let t = c.in-Err.ensures in let l = c.log_end.ensures in let b = c.give_back.ensures in let e = c.finish.ensures in
    let looked = subst (λ (s : Bor SpaceState). HasLooked s.now.sizes (g.L.Law.lawful s.now.sizes.pages) (by_place g.L.Law.opening s.now.sizes.pages) p1 p2) c.try_x_latch.ensures.still.latches l.looked in
    let role = c.number-in-Err.ensures.session ∙ ap Rattle.ib_rule.specs.declared.view.Role.TheVariants.Session (ap (λ (q : PassState). q.number) t.not_granted) ∙ sym c.number.ensures.session in
    let ended = ended_by p2 c.give_back.new.self.pass.now c.finish.new.self.1.0 b.given e.finished e.known e.idle l.still.mtr.own.closed in
    subst (IsRefusedByLog c.args.latches.now.sizes (g.L.Law.lawful c.args.latches.now.sizes.pages) p c.in-Err.fault) (search rules)
    (refused_by_log c.args.latches.now.sizes (g.L.Law.lawful c.args.latches.now.sizes.pages) p p1 p2 c.finish.new.self.1.0 c.in-Err.fault role t.not_granted t.refused
    (refused_looks X 0 Log c.in-Err.fault p (with_memo p.memo p1) c.requires.may.log.none (t.first (on-none 0 (λ h. h.sx + h.x) p.view.session.held c.requires.may.log.none)))
    looked.looked looked.pass ended
    (ended_all p2 c.give_back.new.self.pass.now c.finish.new.self.1.0 b.given e.finished) (ended_looks p2 c.give_back.new.self.pass.now c.finish.new.self.1.0 b.given e.finished) (ended_waits p2 c.give_back.new.self.pass.now c.finish.new.self.1.0 b.given e.finished))

pub append_entry-result-requires-clause-may : goal.append_entry-result-requires-clause-may
append_entry-result-requires-clause-may g c room =
    let p = c.args.pass.now in let p1 = c.try_x_latch.new.self.pass.now in let p2 = c.log_end-2.new.self.pass.now in
    let x = c.in-Ok.ensures in let l = c.log_end-2.ensures in
    let memo1 = x.granted ∙ ap (λ (m : List (Latch × Mode)). record p { view = p1.view; memo = m }) (sym (ap (λ (q : PassState). q.memo) x.granted)) in
    let looked = subst (λ (s : Bor SpaceState). HasLooked s.now.sizes (g.L.Law.lawful s.now.sizes.pages) (by_place g.L.Law.opening s.now.sizes.pages) p1 p2) c.try_x_latch.ensures.still.latches l.looked in
    let won = won_looks X 0 Log p (with_memo p.memo p1) (x.first (on-none 0 (λ h. h.sx + h.x) p.view.session.held c.requires.may.log.none)) in
    subst (λ (s : Bor SpaceState). MayAppend (g.L.Law.lawful s.now.sizes.pages) p2 c.args.change p2.work) (sym (l.still.latches ∙ c.try_x_latch.ensures.still.latches))
    (may_append c.args.latches.now.sizes (g.L.Law.lawful c.args.latches.now.sizes.pages) (by_place g.L.Law.opening c.args.latches.now.sizes.pages) c.args.change p p1 p2
    c.requires.mtr.proper c.number.ensures.session c.number-2.ensures.session memo1 (x.taken refl) (omega arith) looked.looked looked.pass c.requires.may)

pub append_entry-result-requires-clause-laid : goal.append_entry-result-requires-clause-laid
append_entry-result-requires-clause-laid g c =
    let p = c.args.pass.now in let p1 = c.try_x_latch.new.self.pass.now in let p2 = c.log_end-2.new.self.pass.now in
    let x = c.in-Ok.ensures in let l = c.log_end-2.ensures in
    let memo1 = x.granted ∙ ap (λ (m : List (Latch × Mode)). record p { view = p1.view; memo = m }) (sym (ap (λ (q : PassState). q.memo) x.granted)) in
    let looked = subst (λ (s : Bor SpaceState). HasLooked s.now.sizes (g.L.Law.lawful s.now.sizes.pages) (by_place g.L.Law.opening s.now.sizes.pages) p1 p2) c.try_x_latch.ensures.still.latches l.looked in
    let won = won_looks X 0 Log p (with_memo p.memo p1) (x.first (on-none 0 (λ h. h.sx + h.x) p.view.session.held c.requires.may.log.none)) in
    laid_after c.args.latches.now.sizes (g.L.Law.lawful c.args.latches.now.sizes.pages) (by_place g.L.Law.opening c.args.latches.now.sizes.pages) c.args.change p p1 p2
    c.requires.mtr.proper c.number.ensures.session c.number-2.ensures.session memo1 (x.taken refl) (omega arith) looked.looked looked.pass c.args.laid c.requires.laid

pub returns-in-Ok-result-clause-committed : goal.returns-in-Ok-result-clause-committed
returns-in-Ok-result-clause-committed g c =
    let p = c.args.pass.now in let p1 = c.try_x_latch.new.self.pass.now in let p2 = c.log_end-2.new.self.pass.now in let p3 = c.append_entry-result.new.self.pass.now in
    let x = c.in-Ok.ensures in let l = c.log_end-2.ensures in let a = c.append_entry-result.ensures in let b = c.give_back-2.ensures in let e = c.finish-2.ensures in
    let is = c.in-Ok-result.is in
    let memo1 = x.granted ∙ ap (λ (m : List (Latch × Mode)). record p { view = p1.view; memo = m }) (sym (ap (λ (q : PassState). q.memo) x.granted)) in
    let looked = subst (λ (s : Bor SpaceState). HasLooked s.now.sizes (g.L.Law.lawful s.now.sizes.pages) (by_place g.L.Law.opening s.now.sizes.pages) p1 p2) c.try_x_latch.ensures.still.latches l.looked in
    let won = won_looks X 0 Log p (with_memo p.memo p1) (x.first (on-none 0 (λ h. h.sx + h.x) p.view.session.held c.requires.may.log.none)) in
    let ok = subst (λ (r : Result ℕ LogFull). IfOk r (λ place. p3 ≡ record (with_view p2 (appending (entry_for p2 c.args.change p2.work) p2.view)) { words = p3.words })) is a.ok in
    let at = subst (λ (r : Result ℕ LogFull). IfOk r (λ place. place ≡ length p2.view.memory.seen)) is a.place in
    let sizes : p3.sizes ≡ c.args.latches.now.sizes = ap (λ (q : PassState). q.sizes) ok ∙ (l.still.mtr.own.sizes ∙ ap (λ (s : Bor SpaceState). s.now.sizes) (l.still.latches ∙ c.try_x_latch.ensures.still.latches)) in
    let room : used p3.view.memory.seen ≤ c.args.latches.now.sizes.log_words = let u = c.used.ensures.used in let r = c.used.ensures.room in let w = ap (λ (s : Sizes). s.log_words) sizes in omega arith in
    let most = subst (λ (r : Result ℕ LogFull). IfOk r (λ _. used p2.view.memory.seen + ENTRY_WORDS ≤ c.log_end-2.new.self.latches.now.sizes.log_words)) is a.wide in
    let cap : c.log_end-2.new.self.latches.now.sizes.log_words ≡ c.args.latches.now.sizes.log_words = ap (λ (s : Bor SpaceState). s.now.sizes.log_words) (l.still.latches ∙ c.try_x_latch.ensures.still.latches) in
    let wide : used p2.view.memory.seen + ENTRY_WORDS ≤ c.args.latches.now.sizes.log_words = omega arith in
    let ended = ended_by p3 c.give_back-2.new.self.pass.now c.finish-2.new.self.1.0 b.given e.finished e.known e.idle (ap (λ (q : PassState). q.view.memory.append) ok) in
    subst (HasCommitted c.args.latches.now.sizes (g.L.Law.lawful c.args.latches.now.sizes.pages) (by_place g.L.Law.opening c.args.latches.now.sizes.pages) c.args.change p c.in-Ok-result.place) (search rules)
    (committed c.args.latches.now.sizes (g.L.Law.lawful c.args.latches.now.sizes.pages) (by_place g.L.Law.opening c.args.latches.now.sizes.pages) c.args.change p p1 p2
    c.requires.mtr.proper c.number.ensures.session c.number-2.ensures.session memo1 (x.taken refl) (omega arith) looked.looked looked.pass l.still.mtr.read looked.right a.work p3 c.finish-2.new.self.1.0 c.in-Ok-result.place c.requires.may ok at room wide ended)

pub returns-in-Ok-result-clause-looks : goal.returns-in-Ok-result-clause-looks
returns-in-Ok-result-clause-looks g c =
    let p = c.args.pass.now in let p1 = c.try_x_latch.new.self.pass.now in let p2 = c.log_end-2.new.self.pass.now in let p3 = c.append_entry-result.new.self.pass.now in
    let x = c.in-Ok.ensures in let l = c.log_end-2.ensures in let a = c.append_entry-result.ensures in let b = c.give_back-2.ensures in let e = c.finish-2.ensures in
    let won = won_looks X 0 Log p (with_memo p.memo p1) (x.first (on-none 0 (λ h. h.sx + h.x) p.view.session.held c.requires.may.log.none)) in
    let looked = ap (λ (q : PassState). q.view.looks.count) l.looked.pass in
    let ok = subst (λ (r : Result ℕ LogFull). IfOk r (λ place. p3 ≡ record (with_view p2 (appending (entry_for p2 c.args.change p2.work) p2.view)) { words = p3.words })) c.in-Ok-result.is a.ok in
    let appended = ap (λ (q : PassState). q.view.looks.count) ok in
    let ended = ended_looks p3 c.give_back-2.new.self.pass.now c.finish-2.new.self.1.0 b.given e.finished in
    let all : c.finish-2.new.self.1.0.view.looks.count ≡ p.view.looks.count + 2 = ended ∙ (appended ∙ (looked ∙ won)) in search rules

pub returns-in-Err-result-clause-not_committed : goal.returns-in-Err-result-clause-not_committed
returns-in-Err-result-clause-not_committed g c =
    let p = c.args.pass.now in let p1 = c.try_x_latch.new.self.pass.now in let p2 = c.log_end-2.new.self.pass.now in let p3 = c.append_entry-result.new.self.pass.now in
    let x = c.in-Ok.ensures in let l = c.log_end-2.ensures in let a = c.append_entry-result.ensures in let b = c.give_back-2.ensures in let e = c.finish-2.ensures in
    let is = c.in-Err-result.is in
    let memo1 = x.granted ∙ ap (λ (m : List (Latch × Mode)). record p { view = p1.view; memo = m }) (sym (ap (λ (q : PassState). q.memo) x.granted)) in
    let looked = subst (λ (s : Bor SpaceState). HasLooked s.now.sizes (g.L.Law.lawful s.now.sizes.pages) (by_place g.L.Law.opening s.now.sizes.pages) p1 p2) c.try_x_latch.ensures.still.latches l.looked in
    let won = won_looks X 0 Log p (with_memo p.memo p1) (x.first (on-none 0 (λ h. h.sx + h.x) p.view.session.held c.requires.may.log.none)) in
    let err = subst (λ (r : Result ℕ LogFull). IfErr r (λ full. (full.used ≡ used p2.view.memory.seen) × (full.cap ≡ c.log_end-2.new.self.latches.now.sizes.log_words) × (c.log_end-2.new.self.latches.now.sizes.log_words < used p2.view.memory.seen + ENTRY_WORDS) × (p3 ≡ p2))) is a.err in
    let cap : c.log_end-2.new.self.latches.now.sizes.log_words ≡ c.args.latches.now.sizes.log_words = ap (λ (s : Bor SpaceState). s.now.sizes.log_words) (l.still.latches ∙ c.try_x_latch.ensures.still.latches) in
    let short : c.args.latches.now.sizes.log_words < used p2.view.memory.seen + ENTRY_WORDS = let s = err.2 in omega arith in
    let ended = ended_by p3 c.give_back-2.new.self.pass.now c.finish-2.new.self.1.0 b.given e.finished e.known e.idle (ap (λ (q : PassState). q.view.memory.append) err.3 ∙ l.still.mtr.own.closed) in
    subst (IsFull c.args.latches.now.sizes (g.L.Law.lawful c.args.latches.now.sizes.pages) p c.in-Err-result.full) (search rules)
    (full c.args.latches.now.sizes (g.L.Law.lawful c.args.latches.now.sizes.pages) (by_place g.L.Law.opening c.args.latches.now.sizes.pages) c.args.change p p1 p2
    c.requires.mtr.proper c.number.ensures.session c.number-2.ensures.session memo1 (x.taken refl) (omega arith) looked.looked looked.pass c.finish-2.new.self.1.0 c.in-Err-result.full err.0 (err.1 ∙ cap) short
    (subst (λ (r : PassState). HasEnded r r.view.grants r.view.memory.seen r.view.memory.own r.view.memory.ends c.finish-2.new.self.1.0) err.3 ended))

pub returns-in-Err-clause-most : goal.returns-in-Err-clause-most
returns-in-Err-clause-most g c =
    let p = c.args.pass.now in let p1 = c.try_x_latch.new.self.pass.now in let p2 = c.log_end.new.self.pass.now in
    let t = c.in-Err.ensures in let l = c.log_end.ensures in let b = c.give_back.ensures in let e = c.finish.ensures in
    let tried : p1.view.looks.count ≡ p.view.looks.count + looks_of c.in-Err.fault = t.refused.looks in
    let few = looks_few c.in-Err.fault in
    let looked = ap (λ (q : PassState). q.view.looks.count) l.looked.pass in
    let ended = ended_looks p2 c.give_back.new.self.pass.now c.finish.new.self.1.0 b.given e.finished in
    let all : c.finish.new.self.1.0.view.looks.count ≤ p.view.looks.count + 2 = omega arith in search rules

pub returns-in-Ok-result-clause-most : goal.returns-in-Ok-result-clause-most
returns-in-Ok-result-clause-most g c =
    let p = c.args.pass.now in let p1 = c.try_x_latch.new.self.pass.now in let p2 = c.log_end-2.new.self.pass.now in let p3 = c.append_entry-result.new.self.pass.now in
    let x = c.in-Ok.ensures in let l = c.log_end-2.ensures in let a = c.append_entry-result.ensures in let b = c.give_back-2.ensures in let e = c.finish-2.ensures in
    let won = won_looks X 0 Log p (with_memo p.memo p1) (x.first (on-none 0 (λ h. h.sx + h.x) p.view.session.held c.requires.may.log.none)) in
    let looked = ap (λ (q : PassState). q.view.looks.count) l.looked.pass in
    let ok = subst (λ (r : Result ℕ LogFull). IfOk r (λ place. p3 ≡ record (with_view p2 (appending (entry_for p2 c.args.change p2.work) p2.view)) { words = p3.words })) c.in-Ok-result.is a.ok in
    let appended = ap (λ (q : PassState). q.view.looks.count) ok in
    let ended = ended_looks p3 c.give_back-2.new.self.pass.now c.finish-2.new.self.1.0 b.given e.finished in
    let all : c.finish-2.new.self.1.0.view.looks.count ≡ p.view.looks.count + 2 = ended ∙ (appended ∙ (looked ∙ won)) in
    let most : c.finish-2.new.self.1.0.view.looks.count ≤ p.view.looks.count + 2 = omega arith in search rules

pub returns-in-Err-result-clause-most : goal.returns-in-Err-result-clause-most
returns-in-Err-result-clause-most g c =
    let p = c.args.pass.now in let p1 = c.try_x_latch.new.self.pass.now in let p2 = c.log_end-2.new.self.pass.now in let p3 = c.append_entry-result.new.self.pass.now in
    let x = c.in-Ok.ensures in let l = c.log_end-2.ensures in let a = c.append_entry-result.ensures in let b = c.give_back-2.ensures in let e = c.finish-2.ensures in
    let won = won_looks X 0 Log p (with_memo p.memo p1) (x.first (on-none 0 (λ h. h.sx + h.x) p.view.session.held c.requires.may.log.none)) in
    let looked = ap (λ (q : PassState). q.view.looks.count) l.looked.pass in
    let err = subst (λ (r : Result ℕ LogFull). IfErr r (λ full. (full.used ≡ used p2.view.memory.seen) × (full.cap ≡ c.log_end-2.new.self.latches.now.sizes.log_words) × (c.log_end-2.new.self.latches.now.sizes.log_words < used p2.view.memory.seen + ENTRY_WORDS) × (p3 ≡ p2))) c.in-Err-result.is a.err in
    let same = ap (λ (q : PassState). q.view.looks.count) err.3 in
    let ended = ended_looks p3 c.give_back-2.new.self.pass.now c.finish-2.new.self.1.0 b.given e.finished in
    let all : c.finish-2.new.self.1.0.view.looks.count ≡ p.view.looks.count + 2 = ended ∙ (same ∙ (looked ∙ won)) in
    let most : c.finish-2.new.self.1.0.view.looks.count ≤ p.view.looks.count + 2 = omega arith in search rules

pub returns-in-Err-clause-waits : goal.returns-in-Err-clause-waits
returns-in-Err-clause-waits g c =
    let p = c.args.pass.now in let p1 = c.try_x_latch.new.self.pass.now in let p2 = c.log_end.new.self.pass.now in
    let t = c.in-Err.ensures in let l = c.log_end.ensures in let b = c.give_back.ensures in let e = c.finish.ensures in
    let looked = ap (λ (q : PassState). q.view.looks.waits) l.looked.pass in
    let ended = ended_waits p2 c.give_back.new.self.pass.now c.finish.new.self.1.0 b.given e.finished in
    let all : c.finish.new.self.1.0.view.looks.waits ≡ p.view.looks.waits = ended ∙ (looked ∙ t.refused.waits) in search rules

pub returns-in-Ok-result-clause-waits : goal.returns-in-Ok-result-clause-waits
returns-in-Ok-result-clause-waits g c =
    let p = c.args.pass.now in let p1 = c.try_x_latch.new.self.pass.now in let p2 = c.log_end-2.new.self.pass.now in let p3 = c.append_entry-result.new.self.pass.now in
    let x = c.in-Ok.ensures in let l = c.log_end-2.ensures in let a = c.append_entry-result.ensures in let b = c.give_back-2.ensures in let e = c.finish-2.ensures in
    let won = won_waits X 0 Log p (with_memo p.memo p1) (x.first (on-none 0 (λ h. h.sx + h.x) p.view.session.held c.requires.may.log.none)) in
    let looked = ap (λ (q : PassState). q.view.looks.waits) l.looked.pass in
    let ok = subst (λ (r : Result ℕ LogFull). IfOk r (λ place. p3 ≡ record (with_view p2 (appending (entry_for p2 c.args.change p2.work) p2.view)) { words = p3.words })) c.in-Ok-result.is a.ok in
    let appended = ap (λ (q : PassState). q.view.looks.waits) ok in
    let ended = ended_waits p3 c.give_back-2.new.self.pass.now c.finish-2.new.self.1.0 b.given e.finished in
    let all : c.finish-2.new.self.1.0.view.looks.waits ≡ p.view.looks.waits = ended ∙ (appended ∙ (looked ∙ won)) in search rules

pub returns-in-Err-result-clause-waits : goal.returns-in-Err-result-clause-waits
returns-in-Err-result-clause-waits g c =
    let p = c.args.pass.now in let p1 = c.try_x_latch.new.self.pass.now in let p2 = c.log_end-2.new.self.pass.now in let p3 = c.append_entry-result.new.self.pass.now in
    let x = c.in-Ok.ensures in let l = c.log_end-2.ensures in let a = c.append_entry-result.ensures in let b = c.give_back-2.ensures in let e = c.finish-2.ensures in
    let won = won_waits X 0 Log p (with_memo p.memo p1) (x.first (on-none 0 (λ h. h.sx + h.x) p.view.session.held c.requires.may.log.none)) in
    let looked = ap (λ (q : PassState). q.view.looks.waits) l.looked.pass in
    let err = subst (λ (r : Result ℕ LogFull). IfErr r (λ full. (full.used ≡ used p2.view.memory.seen) × (full.cap ≡ c.log_end-2.new.self.latches.now.sizes.log_words) × (c.log_end-2.new.self.latches.now.sizes.log_words < used p2.view.memory.seen + ENTRY_WORDS) × (p3 ≡ p2))) c.in-Err-result.is a.err in
    let same = ap (λ (q : PassState). q.view.looks.waits) err.3 in
    let ended = ended_waits p3 c.give_back-2.new.self.pass.now c.finish-2.new.self.1.0 b.given e.finished in
    let all : c.finish-2.new.self.1.0.view.looks.waits ≡ p.view.looks.waits = ended ∙ (same ∙ (looked ∙ won)) in search rules
