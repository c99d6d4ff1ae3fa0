-- The faults of the head come first, then those of the places, then that of the pages.
use Rattle.std.proofs.Common.{Some, sym, ap, ◌∙◌}
use Rattle.std.proofs.lemmas.Bool.{not-true, not-false}
use Rattle.std.proofs.lemmas.List.{take_rest}
use Rattle.std.proofs.lemmas.Result.{err_from_is_err_and}
use Rattle.ib_old_log.specs.declared.TheConstants.{OLD_HEAD_WORDS}
use Rattle.ib_logrec.specs.declared.fault.LogFault.{LogFault}
use Rattle.ib_old_log.proofs.OldEntryLaws.{old_fault_at-head, old_fault_at-places, old_fault_at-spans, old_fault_at-none}
use Rattle.ib_old_log.proofs.decode.tested_head.Goals as goal

pub returns-in_err-head-clause-fault : goal.returns-in_err-head-clause-fault
returns-in_err-head-clause-fault c =
    let p = err_from_is_err_and c.from_residual.result c.from_residual.ensures.1 in
    rw (p.1, p.2) (old_fault_at-head c.args.pages c.args.place c.args.words.now c.in_err-head.field-0.0 c.in_err-head.ensures.fault)

pub returns-in_err-test_places-clause-fault : goal.returns-in_err-test_places-clause-fault
returns-in_err-test_places-clause-fault c =
    let p = err_from_is_err_and c.from_residual-in_err-test_places.result c.from_residual-in_err-test_places.ensures.1 in
    rw (p.1, p.2) (old_fault_at-places c.args.pages c.args.place c.args.words.now c.in_ok-head.head _ c.in_ok-head.ensures.no_fault c.in_ok-head.ensures.head (take_rest c.args.words.now OLD_HEAD_WORDS)
    c.in_err-test_places.field-0.0 c.in_err-test_places.ensures.fault)

pub returns-then-head-spans_pages-clause-fault : goal.returns-then-head-spans_pages-clause-fault
returns-then-head-spans_pages-clause-fault c =
    let differs = rw c.spans_pages.ensures at (not-true _ c.if-head-spans_pages.true) in
    old_fault_at-spans c.args.pages c.args.place c.args.words.now c.in_ok-head.head _ c.in_ok-head.ensures.no_fault c.in_ok-head.ensures.head (take_rest c.args.words.now OLD_HEAD_WORDS)
    c.in_ok-test_places.ensures.no_fault differs
    ∙ ap (λ (fault : LogFault). Some fault) (sym c.bad_head.ensures)

pub returns-clause-no_fault : goal.returns-clause-no_fault
returns-clause-no_fault c =
    let same = rw c.spans_pages.ensures at (not-false _ c.if-head-spans_pages.false) in
    old_fault_at-none c.args.pages c.args.place c.args.words.now c.in_ok-head.head _ c.in_ok-head.ensures.no_fault c.in_ok-head.ensures.head (take_rest c.args.words.now OLD_HEAD_WORDS)
    c.in_ok-test_places.ensures.no_fault same
