-- What is appended are the words of the entry.
use Rattle.std.proofs.Common.{◌≡◌, ◌+◌, ◌*◌, ◌++◌, ◌∙◌, ap, drop, length, take}
use Rattle.ib_logrec.specs.declared.entry.TheConstants.{HEAD_WORDS}
use Rattle.ib_logrec.specs.Words.{words_of_entry}
use Rattle.ib_logrec.proofs.WordLaws.{take-words_of_entry}
use Rattle.ib_page.specs.Writes.{writes_of}
use Rattle.ib_upgrade.specs.Upgrades.{entry_of}
use Rattle.ib_upgrade.proofs.append.append_entry.Goals as goal

pub returns : goal.returns
returns c =
    let e = entry_of c.args.logged c.args.work.now in
    let many = HEAD_WORDS + 2 * length (writes_of c.args.work.now) in
    let front : take c.write_entry-count.result c.write_entry-count.new.out ≡ words_of_entry e =
    ap (λ n. take n c.write_entry-count.new.out) c.write_entry-count.ensures.count ∙ ap (take many) c.write_entry-count.ensures.words ∙ take-words_of_entry e (drop many c.args.room.now) in
    c.in_ok-extend_from_slice.ensures.items ∙ ap (λ ws. c.args.log.now.items ++ ws) front
