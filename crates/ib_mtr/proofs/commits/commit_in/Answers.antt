-- The commit of a pass whose entry may be laid out already is that of the pass as it was.
use Rattle.std.proofs.Common.{subst, sym}
use Rattle.ib_logrec.specs.Log.{by_place}
use Rattle.ib_rule.specs.Pass.{PassState}
use Rattle.ib_mtr.specs.Commits.{HasCommitted, IsFull, MayCommit}
use Rattle.ib_mtr.proofs.Committing.{committed_laid, each_err, each_ok, full_laid, may_commit_laid, mtr_laid}
use Rattle.ib_mtr.proofs.commits.commit_in.Goals as goal

pub commit_laid-requires-clause-mtr : goal.commit_laid-requires-clause-mtr
commit_laid-requires-clause-mtr g c = mtr_laid c.args.latches.now c.args.pass.now c.lay_out_early-laid.new.pass c.lay_out_early-laid.ensures.same c.requires.mtr

pub commit_laid-requires-clause-may : goal.commit_laid-requires-clause-may
commit_laid-requires-clause-may g c =
    let lawful = g.L.Law.lawful c.args.latches.now.sizes.pages in
    subst (λ (p : PassState). MayCommit lawful p c.args.change) (sym c.lay_out_early-laid.ensures.same)
    (may_commit_laid lawful c.args.pass.now c.lay_out_early-laid.new.pass.words c.args.change c.requires.may)

pub returns-clause-committed : goal.returns-clause-committed
returns-clause-committed g c =
    let sizes = c.args.latches.now.sizes in let lawful = g.L.Law.lawful sizes.pages in let opening = by_place g.L.Law.opening sizes.pages in
    let p = c.args.pass.now in let laid = c.lay_out_early-laid.new.pass in let q = c.commit_laid.new.pass in
    each_ok {P = λ place. HasCommitted sizes lawful opening c.args.change laid place q} {Q = λ place. HasCommitted sizes lawful opening c.args.change p place q} c.commit_laid.result
    (λ place h. committed_laid sizes lawful opening c.args.change p laid.words place q
    (subst (λ (r : PassState). HasCommitted sizes lawful opening c.args.change r place q) c.lay_out_early-laid.ensures.same h)) c.commit_laid.ensures.committed

pub returns-clause-full : goal.returns-clause-full
returns-clause-full g c =
    let sizes = c.args.latches.now.sizes in let lawful = g.L.Law.lawful sizes.pages in
    let p = c.args.pass.now in let laid = c.lay_out_early-laid.new.pass in let q = c.commit_laid.new.pass in
    each_err {P = λ full. IsFull sizes lawful laid full q} {Q = λ full. IsFull sizes lawful p full q} c.commit_laid.result
    (λ full h. full_laid sizes lawful p laid.words full q
    (subst (λ (r : PassState). IsFull sizes lawful r full q) c.lay_out_early-laid.ensures.same h)) c.commit_laid.ensures.full
