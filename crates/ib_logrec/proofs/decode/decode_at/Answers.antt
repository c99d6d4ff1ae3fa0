-- The entry that is read is what stands at the place, and what stands there is what is read.
use Rattle.std.proofs.Common.{◌+◌, ◌≤◌, length, drop, sym, ap, ◌∙◌, rules}
use Rattle.ib_logrec.specs.declared.entry.TheConstants.{HEAD_WORDS}
use Rattle.ib_logrec.specs.Words.{entry_in}
use Rattle.ib_logrec.proofs.EntryLaws.{entry_in-words}
use Rattle.ib_logrec.proofs.ReadLaws.{head_fits, writes_fit, writes_rise, StandsAt-with}
use Rattle.ib_logrec.proofs.decode.decode_at.Goals as goal

pub slice_bounds-behind-count : goal.slice_bounds-behind-count
slice_bounds-behind-count c = head_fits c.args.pages c.args.place c.in_ok-head.next c.args.words.now c.in_ok-head.head c.in_ok-head.ensures.found

pub slice_bounds-behind-start : goal.slice_bounds-behind-start
slice_bounds-behind-start c = let fits : c.args.place + HEAD_WORDS ≤ length c.args.words.now = slice_bounds-behind-count c in search rules

pub writes_of-requires-clause-long : goal.writes_of-requires-clause-long
writes_of-requires-clause-long c = writes_fit c.args.pages c.args.place c.in_ok-head.next c.args.words.now c.in_ok-head.head c.in_ok-head.ensures.found

pub writes_of-requires-clause-rise : goal.writes_of-requires-clause-rise
writes_of-requires-clause-rise c = writes_rise c.args.pages c.args.place c.in_ok-head.next c.args.words.now c.in_ok-head.head c.in_ok-head.ensures.found

pub returns-clause-found : goal.returns-clause-found
returns-clause-found c =
    StandsAt-with c.args.pages c.args.place c.in_ok-head.next c.args.words.now c.in_ok-head.head c.in_ok-head.ensures.found c.from_vec.result (c.from_vec.ensures ∙ c.in_ok-writes.ensures)

pub returns-clause-only : goal.returns-clause-only
returns-clause-only c e rest is spelled =
    let there = returns-clause-found c in
    sym (entry_in-words _ (drop c.in_ok-head.next c.args.words.now) there.grammar.most_writes) ∙ ap entry_in (sym there.spelled ∙ spelled) ∙ entry_in-words e rest is.most_writes
