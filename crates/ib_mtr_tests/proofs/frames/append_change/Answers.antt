-- The one page may be written, and the entry is in the grammar.
use Rattle.std.proofs.Common.{◌≡◌, ◌<◌, ◌≤◌, true, false, List, length, sym, ap, ◌∙◌, subst, arith}
use Rattle.ib_map.specs.declared.call.Change.TheVariants.{Insert}
use Rattle.ib_map.specs.Writes.{spans_pages}
use Rattle.ib_page.specs.Work.{WorkPage}
use Rattle.ib_page.specs.Writes.{writes_of}
use Rattle.ib_core.specs.declared.session.Session.{Session}
use Rattle.ib_core.specs.Sessions.{x_grants}
use Rattle.ib_logrec.specs.Law.{AreInGrammar}
use Rattle.ib_rule.specs.declared.view.View.{View}
use Rattle.ib_rule.specs.Pass.{PassState}
use Rattle.ib_rule.specs.Views.{is_watched}
use Rattle.ib_rule.proofs.Watching.{watched_after}
use Rattle.ib_frames.specs.Appends.{MayAppend}
use Rattle.ib_frames.proofs.Trying.{held_by_x, may_append_one}
use Rattle.ib_mtr_tests.proofs.frames.append_change.Goals as goal

pub append-requires-clause-may : goal.append-requires-clause-may
append-requires-clause-may c = λ room.
    let viewed = ap (λ (p : PassState). p.view) c.log_end.ensures.view in
    let session = ap (λ (v : View). v.session) viewed in
    let own = ap (λ (v : View). v.memory.own) viewed in
    let p : WorkPage = record { page = 3; before = c.args.before.now; changed = c.args.changed.now } in
    subst (λ (ps : List WorkPage). MayAppend (AreInGrammar c.args.space.now.sizes.pages) c.log_end.new.pass (Insert c.of_number-key.result 7) ps) (sym c.requires.work)
    (may_append_one (record { page = 3; before = c.args.before.now; changed = c.args.changed.now }) c.args.space.now.sizes.pages c.log_end.new.pass c.of_number-key.result 7 c.requires.page
    (let n = c.number.ensures.number in let a = c.number.ensures.least in let b = c.number.ensures.most in (omega arith, omega arith))
    (let n = ap length own in let m = c.requires.made in omega arith)
    (subst (λ (ps : List WorkPage). 0 < length (writes_of ps)) c.requires.work c.requires.some)
    (subst (λ (ps : List WorkPage). length (writes_of ps) ≤ 160) c.requires.work c.requires.few)
    (ap (λ (a : Session). a.phase) session ∙ c.requires.free)
    (subst (λ a. 0 < x_grants 0 a) (sym session) c.requires.log)
    (subst (λ (v : View). is_watched 0 v.memory.since ≡ true) (sym viewed) (watched_after c.log_end.new.pass.view.memory.seen c.args.pass.now.view 0 (held_by_x 0 c.args.pass.now.view.session c.requires.log)))
    (subst (λ a. 0 < x_grants 5 a) (sym session) c.requires.frame)
    (subst (λ (ps : List WorkPage). spans_pages (writes_of ps) ≡ false) c.requires.work c.requires.whole)
    c.log_end.ensures.looked.legal)
