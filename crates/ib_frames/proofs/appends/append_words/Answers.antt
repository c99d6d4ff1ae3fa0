-- All words of the entry are stored, and then the log's end.
use Rattle.std.proofs.Common.{◌+◌, ◌*◌, length, arith, ap}
use Rattle.ib_logrec.specs.declared.entry.TheConstants.{HEAD_WORDS}
use Rattle.ib_logrec.specs.declared.entry.Entry.{Entry}
use Rattle.ib_logrec.specs.Words.{words_of_entry}
use Rattle.ib_logrec.proofs.EntryLaws.{length-words_of_entry}
use Rattle.ib_rule.specs.Writing.{entry_of}
use Rattle.ib_frames.proofs.Storing.{during_entry, during_may, stored_whole, ends_so}
use Rattle.ib_frames.proofs.appends.append_words.Goals as goal

pub overflow_mul-writes : goal.overflow_mul-writes
overflow_mul-writes g c = let n = c.requires.writes in let most = c.requires.ready.ready.fits.grammar.most_writes in omega arith

pub overflow_add-writes : goal.overflow_add-writes
overflow_add-writes g c = let n = c.requires.writes in let most = c.requires.ready.ready.fits.grammar.most_writes in omega arith

pub store_words-requires-clause-ready : goal.store_words-requires-clause-ready
store_words-requires-clause-ready g c = during_may c.args.space.now.sizes (g.L.Law.lawful c.args.space.now.sizes.pages) c.args.pass.now c.store_pages.new.pass c.store_pages.ensures.during c.requires.ready

pub store_words-requires-clause-count : goal.store_words-requires-clause-count
store_words-requires-clause-count g c =
    let same = during_entry (entry_of c.args.pass.now) c.args.pass.now c.store_pages.new.pass c.store_pages.ensures.during in
    let n = c.requires.writes in let l = length-words_of_entry (entry_of c.args.pass.now) in let s = ap (λ (e : Entry). length (words_of_entry e)) same in omega arith

pub store_words-requires-clause-room : goal.store_words-requires-clause-room
store_words-requires-clause-room g c = let n = c.requires.writes in let most = c.requires.ready.ready.fits.grammar.most_writes in let r = c.requires.room in omega arith

pub store_end-requires-clause-ready : goal.store_end-requires-clause-ready
store_end-requires-clause-ready g c =
    let n = c.requires.writes in let l = length-words_of_entry (entry_of c.args.pass.now) in
    let whole = stored_whole c.args.pass.now c.store_pages.new.pass c.store_words.new.pass c.args.writes (HEAD_WORDS + 2 * c.args.writes) c.store_pages.ensures.during c.store_pages.ensures.stored c.store_words.ensures.during c.store_words.ensures.stored c.requires.writes (omega arith) (omega arith) in
    during_may c.args.space.now.sizes (g.L.Law.lawful c.args.space.now.sizes.pages) c.args.pass.now c.store_words.new.pass whole.0 c.requires.ready

pub store_end-requires-clause-stored : goal.store_end-requires-clause-stored
store_end-requires-clause-stored g c =
    let n = c.requires.writes in let l = length-words_of_entry (entry_of c.args.pass.now) in
    (stored_whole c.args.pass.now c.store_pages.new.pass c.store_words.new.pass c.args.writes (HEAD_WORDS + 2 * c.args.writes) c.store_pages.ensures.during c.store_pages.ensures.stored c.store_words.ensures.during c.store_words.ensures.stored c.requires.writes (omega arith) (omega arith)).1

pub returns : goal.returns
returns g c =
    let n = c.requires.writes in let l = length-words_of_entry (entry_of c.args.pass.now) in
    let whole = stored_whole c.args.pass.now c.store_pages.new.pass c.store_words.new.pass c.args.writes (HEAD_WORDS + 2 * c.args.writes) c.store_pages.ensures.during c.store_pages.ensures.stored c.store_words.ensures.during c.store_words.ensures.stored c.requires.writes (omega arith) (omega arith) in
    ends_so c.args.pass.now c.store_words.new.pass c.store_end.new.pass whole.0 c.store_end.ensures
