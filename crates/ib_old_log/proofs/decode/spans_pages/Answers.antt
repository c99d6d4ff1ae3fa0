-- A write that is looked at is the next of those that the words spell.
use Rattle.std.proofs.Common.{◌*◌, get_or, arith}
use Rattle.std.proofs.lemmas.Bool.{ne_eqb, eq-eqb}
use Rattle.ib_old_log.specs.OldEntries.{old_page_at}
use Rattle.ib_logrec.proofs.Spelled.{writes_in-more}
use Rattle.ib_old_log.proofs.OldSpelled.{spans_old_pages-first}
use Rattle.ib_old_log.proofs.decode.spans_pages.Goals as goal

pub loop-i-init : goal.loop-i-init
loop-i-init c = spans_old_pages-first c.args.count c.args.words.now c.requires

pub returns-then-words-i : goal.returns-then-words-i
returns-then-words-i c =
    let more = writes_in-more c.args.count c.loop-i.i c.args.words.now (omega arith) c.requires in
    let differs = ne_eqb (old_page_at (get_or c.args.words.now (2 * c.loop-i.i) 0)) (old_page_at (get_or c.args.words.now 0 0)) c.if-words-i.true in
    rw (more, differs) at c.loop-i.invariant

pub loop-i-preserved : goal.loop-i-preserved
loop-i-preserved c =
    let more = writes_in-more c.args.count c.loop-i.i c.args.words.now (omega arith) c.requires in
    let same = eq-eqb (old_page_at (get_or c.args.words.now (2 * c.loop-i.i) 0)) (old_page_at (get_or c.args.words.now 0 0)) c.if-words-i.false in
    rw (more, same) at c.loop-i.invariant
