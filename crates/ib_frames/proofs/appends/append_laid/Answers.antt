-- The entry that was laid out may be stored, and its append is the one that is owed.
use Rattle.std.proofs.Common.{◌≡◌, ◌+◌, ◌≤◌, true, length, arith, ap, sym, ◌∙◌, subst}
use Rattle.std.proofs.lemmas.Bool.Decides.{nat_tests}
use Rattle.ib_map.specs.Space.{has_pages}
use Rattle.ib_layout.specs.Geometry.{Sizes}
use Rattle.ib_logrec.specs.declared.entry.Entry.{Entry}
use Rattle.ib_logrec.specs.Log.{used}
use Rattle.ib_rule.specs.declared.pass.TheConstants.{ENTRY_WORDS}
use Rattle.ib_rule.specs.Pass.{PassState}
use Rattle.ib_rule.specs.Writing.{MayStore}
use Rattle.ib_frames.specs.Appends.{entry_for}
use Rattle.ib_frames.proofs.LaidOut.{may_store, appended}
use Rattle.ib_frames.proofs.appends.append_laid.Goals as goal

pub append_words-requires-clause-ready : goal.append_words-requires-clause-ready
append_words-requires-clause-ready g c =
    let has : has_pages c.args.space.now.sizes.pages ≡ true = subst (λ n. has_pages n ≡ true) (c.pages.ensures.pages ∙ ap (λ (s : Sizes). s.pages) c.geometry-geometry.ensures) c.pages.ensures.in_range in
    let cap = c.log_words-cap.ensures.words ∙ ap (λ (s : Sizes). s.log_words) c.geometry-geometry.ensures in
    let room : used c.args.pass.now.view.memory.seen + ENTRY_WORDS ≤ c.args.space.now.sizes.log_words = let u = c.used-used.ensures.used in let f = c.if-cap-used.false in omega arith in
    subst (λ (p : PassState). MayStore c.args.space.now.sizes (g.L.Law.lawful c.args.space.now.sizes.pages) p) (sym c.lay_out_once-writes.ensures.same)
    (may_store c.args.space.now.sizes (g.L.Law.lawful c.args.space.now.sizes.pages) c.args.pass.now c.args.change c.args.work.now (c.requires.may room) (λ log legal. g.met.L.Law.grammar c.args.space.now.sizes.pages log has legal)
    c.lay_out_once-writes.new.pass.words c.lay_out_once-writes.ensures.session c.requires.own.closed room c.lay_out_once-writes.ensures.spelled)

pub append_words-requires-clause-room : goal.append_words-requires-clause-room
append_words-requires-clause-room g c =
    let f = c.if-cap-used.false in let few = c.log_words-cap.ensures.in_range in
    let small : c.log_words-cap.result ≤ 16777216 = grind (arith, nat_tests) in omega arith

pub append_words-requires-clause-writes : goal.append_words-requires-clause-writes
append_words-requires-clause-writes g c = c.lay_out_once-writes.ensures.count ∙ sym (ap (λ (e : Entry). length e.writes) c.lay_out_once-writes.ensures.entry)

pub returns-clause-ok : goal.returns-clause-ok
returns-clause-ok g c = appended c.args.pass.now c.lay_out_once-writes.new.pass c.append_words.new.pass (entry_for c.args.pass.now c.args.change c.args.work.now) c.lay_out_once-writes.ensures.same c.lay_out_once-writes.ensures.entry c.append_words.ensures
