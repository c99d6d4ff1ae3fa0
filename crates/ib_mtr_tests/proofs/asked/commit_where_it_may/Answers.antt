-- What it answered is all that the commit asks, as the law allows every entry in the grammar.
use Rattle.ib_map.specs.declared.call.Change.TheVariants.{Insert}
use Rattle.ib_rule.proofs.Storing.{grammar_push}
use Rattle.ib_mtr_tests.proofs.asked.commit_where_it_may.Goals as goal

pub commit-requires-clause-may : goal.commit-requires-clause-may
commit-requires-clause-may g c =
    let asked = c.may_commit_any.ensures in
    asked.enough (Insert c.args.key c.args.value) (grammar_push c.args.mtr.latches.now.sizes.pages) (asked.exact.0 c.if-may_commit_any.true)
