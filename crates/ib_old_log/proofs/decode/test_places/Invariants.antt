use Rattle.std.proofs.Common.{◌≡◌, ◌-◌, ◌*◌, ◌≤◌, drop}
use Rattle.ib_old_log.specs.declared.TheConstants.{OLD_PAGE_WORDS}
use Rattle.ib_logrec.specs.Words.{writes_in}
use Rattle.ib_old_log.specs.OldGrammar.{old_place_fault}
use Rattle.ib_old_log.proofs.decode.test_places.Given as goal

abbrev pub invariant-loop-i : goal.invariant-loop-i
invariant-loop-i l = record {
  faults : old_place_fault l.pages l.entry l.low (writes_in (l.count - l.i) (drop (2 * l.i) l.words)) ≡ old_place_fault l.pages l.entry 0 (writes_in l.count l.words);
  low : l.low ≤ l.pages * OLD_PAGE_WORDS;
}
