-- A write that is read is the next of those that the words spell.
use Rattle.std.proofs.Common.{◌*◌, ap, arith, append_assoc}
use Rattle.ib_map.specs.declared.TheConstants.{PAGE_WORDS}
use Rattle.ib_map.specs.declared.write.Write.{Write}
use Rattle.ib_map.proofs.WriteLaws.{PlacesRise-get}
use Rattle.ib_logrec.specs.Words.{writes_in}
use Rattle.ib_logrec.proofs.Spelled.{writes_in-more, writes_in-get}
use Rattle.ib_logrec.proofs.WriteLaws.{length-writes_in}
use Rattle.ib_logrec.proofs.decode.writes_of.Goals as goal

pub overflow_cast-words : goal.overflow_cast-words
overflow_cast-words c =
    let d : Write = record { place = 0; value = 0 } in
    let count = length-writes_in c.args.count c.args.words.now c.requires.long in
    let within = PlacesRise-get 0 (writes_in c.args.count c.args.words.now) (c.args.pages * PAGE_WORDS) c.loop-i.i d c.requires.rise (omega arith) in
    let place = ap (λ (w : Write). w.place) (writes_in-get c.args.count c.loop-i.i c.args.words.now d (omega arith) c.requires.long) in
    omega (arith, within.1, c.requires.few_pages)

pub loop-i-preserved : goal.loop-i-preserved
loop-i-preserved c =
    let more = writes_in-more c.args.count c.loop-i.i c.args.words.now (omega arith) (omega arith) in
    rw (c.in_ok-push.ensures.items, append_assoc) (rw more at c.loop-i.invariant)
