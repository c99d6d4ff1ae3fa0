-- A place that is tested is that of the next write that the words spell.
use Rattle.std.proofs.Common.{ℕ, List, ◌+◌, ◌-◌, ◌*◌, get_or, drop, sym, ◌∙◌, arith}
use Rattle.ib_map.specs.declared.write.Write.{Write}
use Rattle.ib_logrec.specs.Words.{writes_in}
use Rattle.ib_logrec.proofs.Spelled.{writes_in-more}
use Rattle.ib_old_log.proofs.OldSpelled.{old_place_fault-outside, old_place_fault-below, old_place_fault-more}
use Rattle.ib_old_log.proofs.decode.test_places.Goals as goal

-- the write at a number, and those behind it
abbrev write_at : List ℕ → ℕ → Write
write_at words i = record { place = get_or words (2 * i) 0; value = get_or words (2 * i + 1) 0 }

abbrev behind : ℕ → List ℕ → ℕ → List Write
behind count words i = writes_in (count - (i + 1)) (drop (2 * (i + 1)) words)

pub returns-then-place-end-clause-fault : goal.returns-then-place-end-clause-fault
returns-then-place-end-clause-fault c =
    let more = writes_in-more c.args.count c.loop-i.i c.args.words.now (omega arith) (omega arith) in
    sym (rw more at c.loop-i.invariant.faults) ∙ old_place_fault-outside c.args.pages c.args.entry c.loop-i.low (write_at c.args.words.now c.loop-i.i) (behind c.args.count c.args.words.now c.loop-i.i) (omega arith)

pub returns-then-place-low-clause-fault : goal.returns-then-place-low-clause-fault
returns-then-place-low-clause-fault c =
    let more = writes_in-more c.args.count c.loop-i.i c.args.words.now (omega arith) (omega arith) in
    sym (rw more at c.loop-i.invariant.faults) ∙ old_place_fault-below c.args.pages c.args.entry c.loop-i.low (write_at c.args.words.now c.loop-i.i) (behind c.args.count c.args.words.now c.loop-i.i) (omega arith) (omega arith)

pub loop-i-preserved : goal.loop-i-preserved
loop-i-preserved c =
    let more = writes_in-more c.args.count c.loop-i.i c.args.words.now (omega arith) (omega arith) in
    record {
      faults = sym (old_place_fault-more c.args.pages c.args.entry c.loop-i.low (write_at c.args.words.now c.loop-i.i) (behind c.args.count c.args.words.now c.loop-i.i) (omega arith) (omega arith)) ∙ rw more at c.loop-i.invariant.faults;
      low = omega arith;
    }
