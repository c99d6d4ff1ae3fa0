-- What it answered is all that the commit asks, as the law allows every entry in the grammar.
use Rattle.std.proofs.Common.{rules}
use Rattle.ib_map.specs.declared.call.Change.TheVariants.{Insert}
use Rattle.ib_rule.proofs.Storing.{grammar_push}
use Rattle.ib_mtr.specs.Commits.{MayCommitAny}
use Rattle.ib_mtr_tests.proofs.commits.may_commit.Goals as goal

pub returns : goal.returns
returns g c =
    let asked = c.may_commit_any.ensures in
    let may : MayCommitAny c.args.mtr.now.pass.now = asked.exact.0 (search rules) in
    asked.enough (Insert c.args.key c.args.value) (grammar_push c.args.mtr.now.latches.now.sizes.pages) may
