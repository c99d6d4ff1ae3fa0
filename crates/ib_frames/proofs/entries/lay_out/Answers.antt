-- The words of the entry stand at the front of those that the pass lent.
use Rattle.std.proofs.Common.{◌+◌, ◌*◌, ◌++◌, drop, length, arith, ◌∙◌}
use Rattle.ib_logrec.specs.declared.entry.TheConstants.{HEAD_WORDS}
use Rattle.ib_logrec.specs.Words.{words_of_entry}
use Rattle.ib_page.specs.Writes.{writes_of}
use Rattle.ib_frames.specs.Appends.{entry_by, entry_for}
use Rattle.ib_frames.proofs.LaidOut.{laid_out, spelled_entry}
use Rattle.ib_frames.proofs.entries.lay_out.Goals as goal

pub returns-clause-spelled : goal.returns-clause-spelled
returns-clause-spelled c =
    laid_out (entry_for c.args.pass.now c.args.change c.args.work.now) c.write_entry.new.out c.entry_words.result.now (drop (length c.write_entry.new.out) c.args.pass.now.words)
    (c.write_entry.ensures.words ∙ (λ j. words_of_entry (entry_by (c.number-session.ensures.number j) (c.made-number.ensures.made j + 1) c.args.change c.args.work.now) ++ drop (HEAD_WORDS + 2 * length (writes_of c.args.work.now)) c.entry_words.result.now))
    c.entry_words.ensures.size (let few = c.requires.few in omega arith)

pub returns-clause-entry : goal.returns-clause-entry
returns-clause-entry c =
    spelled_entry (entry_for c.args.pass.now c.args.change c.args.work.now) _ c.requires.few
    (laid_out (entry_for c.args.pass.now c.args.change c.args.work.now) c.write_entry.new.out c.entry_words.result.now (drop (length c.write_entry.new.out) c.args.pass.now.words)
    (c.write_entry.ensures.words ∙ (λ j. words_of_entry (entry_by (c.number-session.ensures.number j) (c.made-number.ensures.made j + 1) c.args.change c.args.work.now) ++ drop (HEAD_WORDS + 2 * length (writes_of c.args.work.now)) c.entry_words.result.now))
    c.entry_words.ensures.size (let few = c.requires.few in omega arith))
