-- The file of an old log has its words, and these are brought over.
use Rattle.std.proofs.Common.{ap, length, arith, sym, subst}
use Rattle.ib_upgrade.specs.Upgrades.{IsUpgraded}
use Rattle.ib_replay.specs.declared.file.TheConstants.{OLD_FILE_FORM}
use Rattle.ib_replay.specs.Files.{LogFile}
use Rattle.ib_replay.specs.OldLogs.{IsBroughtOver}
use Rattle.ib_replay.proofs.FileLaws.{length-file_with}
use Rattle.ib_replay.proofs.old_log.bring_bytes.Goals as goal

pub plan_anew-requires-clause-few_words : goal.plan_anew-requires-clause-few_words
plan_anew-requires-clause-few_words c =
    let log = c.in_ok-old in
    omega (arith, c.requires.small, ap length log.ensures.found, length-file_with OLD_FILE_FORM (omega arith) log.old.pages log.old.words, ap length c.words.ensures)

pub returns-clause-brought : goal.returns-clause-brought
returns-clause-brought c =
    let log = c.in_ok-old.old in
    let new = c.in_ok-words.words.items in
    let upgraded : IsUpgraded log.pages log.words new =
    subst (λ pages. IsUpgraded pages log.words new) c.pages.ensures (subst (λ words. IsUpgraded c.pages.result words new) c.words.ensures c.in_ok-words.ensures.upgraded) in
    let brought : IsBroughtOver c.args.bytes.now log.pages new = record {
      words = log.words;
      space = c.in_ok-old.ensures.pages;
      fits = c.in_ok-old.ensures.fits;
      file = c.in_ok-old.ensures.found;
      upgraded = upgraded;
      new_fits = c.new.ensures.fits;
    } in
    subst (λ (r : LogFile). IsBroughtOver c.args.bytes.now r.pages r.words) (sym c.new.ensures.log) (subst (λ pages. IsBroughtOver c.args.bytes.now pages new) (sym c.pages-2.ensures) brought)
