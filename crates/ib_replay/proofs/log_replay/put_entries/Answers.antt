-- Each entry takes the replay one further, and a fault is the first one behind what was reached.
use Rattle.std.proofs.Common.{arith, refl}
use Rattle.std.proofs.lemmas.Result.{err_from_is_err_and}
use Rattle.ib_logrec.proofs.EntryLaws.{length-words_of_entry}
use Rattle.ib_replay.specs.declared.log_replay.TheConstants.{COUNTS}
use Rattle.ib_replay.proofs.ReplayLaws.{places_in, IsReached-none, IsReached-more, IsNext-here, fault-change, fault-tree, IsReplayFault-found}
use Rattle.ib_replay.proofs.log_replay.put_entries.Goals as goal

pub loop-place-init : goal.loop-place-init
loop-place-init c =
    rw (c.new-map.ensures, c.new-entries.ensures.items) (IsReached-none c.args.pages c.args.words.now c.in_ok-tree.tree COUNTS c.requires.pages c.in_ok-tree.ensures.settled c.in_ok-tree.ensures.images c.in_ok-tree.ensures.positions refl)

pub put_writes-requires-clause-places : goal.put_writes-requires-clause-places
put_writes-requires-clause-places c =
    places_in c.args.pages c.args.words.now c.loop-place.place c.loop-place.entries.items c.loop-place.tree c.loop-place.map c.loop-place.counts c.loop-place.invariant c.in_ok-entry.entry c.in_ok-entry.ensures.found.grammar

pub returns-in_err-put_change-clause-fault : goal.returns-in_err-put_change-clause-fault
returns-in_err-put_change-clause-fault c =
    let p = err_from_is_err_and c.from_residual-in_err-put_change.result c.from_residual-in_err-put_change.ensures.1 in
    rw (p.1, p.2) (IsReplayFault-found c.args.pages c.args.words.now _ c.in_err-put_change.field-0.0 c.in_err-put_change.ensures.fault
    (λ is. fault-change c.args.pages c.args.words.now c.loop-place.place c.loop-place.entries.items c.loop-place.tree c.loop-place.map c.loop-place.counts c.loop-place.invariant
    c.in_ok-entry.entry c.in_ok-entry.next c.in_ok-entry.ensures.found.grammar c.in_ok-entry.ensures.found.spelled c.in_err-put_change.field-0.0 c.loop-place-test.true is))

pub returns-then-not-put_writes-clause-fault : goal.returns-then-not-put_writes-clause-fault
returns-then-not-put_writes-clause-fault c =
    let read = c.in_ok-entry.ensures.found in
    let put = c.in_ok-put_change.ensures in
    let next = IsNext-here c.args.pages c.args.words.now c.loop-place.place c.loop-place.entries.items c.loop-place.tree c.loop-place.map c.loop-place.counts c.loop-place.invariant
    c.in_ok-entry.entry c.in_ok-entry.next read.grammar read.spelled put.numbered put.made c.put_change.new.map c.requires.pages put.map in
    fault-tree c.args.pages c.args.words.now c.loop-place.place c.loop-place.entries.items c.loop-place.tree c.loop-place.map c.loop-place.counts c.loop-place.invariant
    c.in_ok-entry.entry c.in_ok-entry.next read.grammar read.spelled put.numbered put.made c.loop-place-test.true
    (λ entry. let yes = c.put_writes.ensures.complete c.args.pages c.loop-place.entries.items next entry in let no = c.if-not-put_writes.true in cc)

pub loop-place-smaller : goal.loop-place-smaller
loop-place-smaller c = omega (arith, c.in_ok-entry.ensures.found.ends, c.in_ok-entry.ensures.found.within, length-words_of_entry c.in_ok-entry.entry, c.loop-place-test.true)

pub loop-place-preserved : goal.loop-place-preserved
loop-place-preserved c =
    let read = c.in_ok-entry.ensures.found in
    let put = c.in_ok-put_change.ensures in
    let next = IsNext-here c.args.pages c.args.words.now c.loop-place.place c.loop-place.entries.items c.loop-place.tree c.loop-place.map c.loop-place.counts c.loop-place.invariant
    c.in_ok-entry.entry c.in_ok-entry.next read.grammar read.spelled put.numbered put.made c.put_change.new.map c.requires.pages put.map in
    let entry = c.put_writes.ensures.sound c.args.pages c.loop-place.entries.items next c.if-not-put_writes.false in
    rw (c.in_ok-push.ensures.items, put.counts) (IsReached-more c.args.pages c.args.words.now c.loop-place.place c.loop-place.entries.items c.loop-place.tree c.loop-place.map c.loop-place.counts c.loop-place.invariant
    c.in_ok-entry.entry c.in_ok-entry.next read.grammar read.spelled put.numbered put.made c.put_writes.new.tree c.put_change.new.map c.requires.pages read.ends read.within put.map entry)
