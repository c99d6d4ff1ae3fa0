-- What it answered is all that the commit asks, as the law allows every entry in the grammar.
use Rattle.std.proofs.Common.{rules}
use Rattle.ib_map.specs.declared.call.Change.TheVariants.{Insert}
use Rattle.ib_rule.proofs.Storing.{grammar_push}
use Rattle.ib_mtr.specs.Commits.{MayCommitAny}
use Rattle.ib_example.proofs.transactions.count.Goals as goal

pub commit-requires-clause-may : goal.commit-requires-clause-may
commit-requires-clause-may g c =
    let asked = c.may_commit_any.ensures in
    let may : MayCommitAny c.add_one.new.mtr.pass.now = asked.exact.0 (search rules) in
    asked.enough (Insert c.of_number-key.result c.args.round) (grammar_push c.add_one.new.mtr.latches.now.sizes.pages) may
