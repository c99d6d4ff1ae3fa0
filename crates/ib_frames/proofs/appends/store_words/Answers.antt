-- A word more of the entry is stored in the log.
use Rattle.std.proofs.Common.{◌≡◌, ◌-◌, ◌+◌, arith, ap, ◌∙◌}
use Rattle.ib_logrec.specs.declared.entry.Entry.{Entry}
use Rattle.ib_logrec.specs.Log.{used}
use Rattle.ib_rule.specs.Pass.{PassState, with_view}
use Rattle.ib_rule.specs.Stores.{storing_word}
use Rattle.ib_rule.specs.Writing.{entry_of}
use Rattle.ib_frames.proofs.Storing.{during_entry, kept_word}
use Rattle.ib_frames.proofs.appends.store_words.Goals as goal

pub loop-i-preserved : goal.loop-i-preserved
loop-i-preserved g c =
    let e : Entry = entry_of c.args.pass.now in
    let is = during_entry (entry_of c.args.pass.now) c.args.pass.now c.loop-i.pass c.loop-i.invariant.during in
    let number : ((c.args.first + c.loop-i.i) - used c.loop-i.pass.view.memory.seen) ≡ c.loop-i.i =
    let a = c.requires.first in let b = ap (λ (p : PassState). used p.view.memory.seen) c.loop-i.invariant.during.same in omega arith in
    let k = kept_word (entry_of c.args.pass.now) c.args.pass.now c.loop-i.pass c.store_log_word.new.pass c.loop-i.i c.loop-i.invariant.during c.loop-i.invariant.done
    (c.store_log_word.ensures ∙ (λ j. with_view c.loop-i.pass (storing_word (is j) (number j) c.loop-i.pass.view))) in
    record { during = k.0; done = k.1 }
