-- Each old entry takes the log one further, and a fault is the first one behind what was reached.
use Rattle.std.proofs.Common.{◌≡◌, ◌∙◌, ◌++◌, ap, sym, subst, refl, arith}
use Rattle.std.proofs.Math.ListN.{set}
use Rattle.std.proofs.lemmas.Result.{err_from_is_err_and}
use Rattle.ib_map.specs.declared.call.LoggedChange.{LoggedChange}
use Rattle.ib_logrec.specs.Words.{words_of_entry}
use Rattle.ib_old_log.specs.OldHeads.{brought_head}
use Rattle.ib_old_log.proofs.OldEntryLaws.{length-old_words}
use Rattle.ib_upgrade.specs.declared.upgrade.TheConstants.{COUNTS}
use Rattle.ib_upgrade.specs.Upgrades.{entry_of}
use Rattle.ib_upgrade.proofs.UpgradeLaws.{IsReached, behind-reached, fault-change, fault-words, few-writes, found-fault, number-some, reached-more, reached-none, session-in, upgraded-all}
use Rattle.ib_upgrade.proofs.upgrade.put_entries.Goals as goal

pub loop-place-init : goal.loop-place-init
loop-place-init c = reached-none c.args.pages c.args.words.now c.args.images.now c.args.log.now.items COUNTS c.requires.size c.requires.opening c.requires.none refl

pub returns-in_err-head-clause-fault : goal.returns-in_err-head-clause-fault
returns-in_err-head-clause-fault c =
    let p = err_from_is_err_and c.from_residual.result c.from_residual.ensures.1 in
    rw (p.1, p.2) (found-fault c.args.pages c.args.words.now c.in_err-head.field-0.0
    (fault-words c.args.pages c.args.words.now c.loop-place.place c.loop-place.images c.loop-place.counts c.loop-place.log.items c.loop-place.invariant c.in_err-head.field-0.0 c.loop-place-test.true c.in_err-head.ensures.fault))

pub put_change-requires-clause-some : goal.put_change-requires-clause-some
put_change-requires-clause-some c =
    let r = c.loop-place.invariant in
    (r.log, behind-reached c.args.pages c.args.words.now c.loop-place.place c.loop-place.images c.loop-place.counts c.loop-place.log.items r c.requires.pages c.requires.few_words)

pub put_change-requires-clause-session : goal.put_change-requires-clause-session
put_change-requires-clause-session c =
    session-in c.args.pages c.args.words.now c.loop-place.place c.loop-place.images c.loop-place.counts c.loop-place.log.items c.loop-place.invariant c.requires.pages c.requires.few_words c.in_ok-head.next c.in_ok-head.head c.in_ok-head.ensures.found

pub put_change-requires-clause-number : goal.put_change-requires-clause-number
put_change-requires-clause-number c =
    number-some c.args.pages c.args.words.now c.loop-place.place c.loop-place.images c.loop-place.counts c.loop-place.log.items c.loop-place.invariant c.requires.pages c.requires.few_words c.in_ok-head.next c.in_ok-head.head c.in_ok-head.ensures.found

pub returns-in_err-logged-clause-fault : goal.returns-in_err-logged-clause-fault
returns-in_err-logged-clause-fault c =
    let p = err_from_is_err_and c.from_residual-in_err-logged.result c.from_residual-in_err-logged.ensures.1 in
    let r = c.loop-place.invariant in
    let b = behind-reached c.args.pages c.args.words.now c.loop-place.place c.loop-place.images c.loop-place.counts c.loop-place.log.items r c.requires.pages c.requires.few_words in
    rw (p.1, p.2) (found-fault c.args.pages c.args.words.now c.in_err-logged.field-0.0
    (fault-change c.args.pages c.args.words.now c.loop-place.place c.loop-place.images c.loop-place.counts c.loop-place.log.items r c.requires.pages c.requires.few_words c.in_ok-head.next c.in_ok-head.head c.in_ok-head.ensures.found
    c.in_err-logged.field-0.0 c.loop-place-test.true (c.in_err-logged.ensures.fault r.log b)))

pub append_entry-requires-clause-few : goal.append_entry-requires-clause-few
append_entry-requires-clause-few c =
    let put = c.in_ok-logged.ensures in
    few-writes c.args.pages c.args.words.now c.loop-place.place c.loop-place.images c.loop-place.counts c.loop-place.log.items c.loop-place.invariant c.requires.pages c.requires.few_words c.in_ok-head.next c.in_ok-head.head c.in_ok-head.ensures.found
    put.numbered c.put_change.new.work c.put_change.new.images put.made

pub bounds-counts-logged : goal.bounds-counts-logged
bounds-counts-logged c =
    let e = ap (λ (l : LoggedChange). l.session) c.in_ok-logged.ensures.logged in
    let s = session-in c.args.pages c.args.words.now c.loop-place.place c.loop-place.images c.loop-place.counts c.loop-place.log.items c.loop-place.invariant c.requires.pages c.requires.few_words c.in_ok-head.next c.in_ok-head.head c.in_ok-head.ensures.found in
    omega arith

pub loop-place-smaller : goal.loop-place-smaller
loop-place-smaller c = omega (arith, c.in_ok-head.ensures.found.stands.ends, c.in_ok-head.ensures.found.stands.within, length-old_words c.in_ok-head.ensures.found.entry, c.loop-place-test.true)

pub loop-place-preserved : goal.loop-place-preserved
loop-place-preserved c =
    let put = c.in_ok-logged.ensures in
    let same = put.logged in
    let appended : c.append_entry.new.log.items ≡ c.loop-place.log.items ++ words_of_entry (entry_of (brought_head c.in_ok-head.head) c.put_change.new.work) =
    c.in_ok-append_entry.ensures ∙ ap (λ (l : LoggedChange). c.loop-place.log.items ++ words_of_entry (entry_of l c.put_change.new.work)) same in
    subst (λ (l : LoggedChange). IsReached c.args.pages c.args.words.now c.in_ok-head.next c.put_change.new.images (set c.loop-place.counts l.session l.number) c.append_entry.new.log.items) (sym same)
    (reached-more c.args.pages c.args.words.now c.loop-place.place c.loop-place.images c.loop-place.counts c.loop-place.log.items c.loop-place.invariant c.requires.pages c.requires.few_words
    c.in_ok-head.next c.in_ok-head.head c.in_ok-head.ensures.found put.numbered c.put_change.new.work c.put_change.new.images put.made c.append_entry.new.log.items appended)

pub returns-clause-upgraded : goal.returns-clause-upgraded
returns-clause-upgraded c =
    let ge = c.loop-place-test.false in
    upgraded-all c.args.pages c.args.words.now c.loop-place.place c.loop-place.images c.loop-place.counts c.loop-place.log.items c.loop-place.invariant (omega arith)
