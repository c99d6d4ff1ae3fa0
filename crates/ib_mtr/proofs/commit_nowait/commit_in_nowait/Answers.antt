-- The commit of a pass whose entry may be laid out already is that of the pass as it was.
use Rattle.std.proofs.Common.{◌≡◌, ◌+◌, ◌≤◌, ◌∙◌, ℕ, ap, subst, sym}
use Rattle.std.specs.Prelude.{OnOk}
use Rattle.ib_logrec.specs.Log.{by_place}
use Rattle.ib_rule.specs.Pass.{PassState}
use Rattle.ib_mtr.specs.Commits.{HasCommitted, MayCommit}
use Rattle.ib_mtr.specs.NowaitCommits.{HasNotCommitted}
use Rattle.ib_mtr.proofs.Committing.{committed_laid, each_err, each_ok, may_commit_laid, mtr_laid}
use Rattle.ib_mtr.proofs.NowaitCommitting.{not_committed_laid}
use Rattle.ib_mtr.proofs.commit_nowait.commit_in_nowait.Goals as goal

pub commit_laid_nowait-requires-clause-mtr : goal.commit_laid_nowait-requires-clause-mtr
commit_laid_nowait-requires-clause-mtr g c = mtr_laid c.args.latches.now c.args.pass.now c.lay_out_early-laid.new.pass c.lay_out_early-laid.ensures.same c.requires.mtr

pub commit_laid_nowait-requires-clause-may : goal.commit_laid_nowait-requires-clause-may
commit_laid_nowait-requires-clause-may g c =
    let lawful = g.L.Law.lawful c.args.latches.now.sizes.pages in
    subst (λ (p : PassState). MayCommit lawful p c.args.change) (sym c.lay_out_early-laid.ensures.same)
    (may_commit_laid lawful c.args.pass.now c.lay_out_early-laid.new.pass.words c.args.change c.requires.may)

pub returns-clause-committed : goal.returns-clause-committed
returns-clause-committed g c =
    let sizes = c.args.latches.now.sizes in let lawful = g.L.Law.lawful sizes.pages in let opening = by_place g.L.Law.opening sizes.pages in
    let p = c.args.pass.now in let laid = c.lay_out_early-laid.new.pass in let q = c.commit_laid_nowait.new.pass in
    each_ok {P = λ place. HasCommitted sizes lawful opening c.args.change laid place q} {Q = λ place. HasCommitted sizes lawful opening c.args.change p place q} c.commit_laid_nowait.result
    (λ place h. committed_laid sizes lawful opening c.args.change p laid.words place q
    (subst (λ (r : PassState). HasCommitted sizes lawful opening c.args.change r place q) c.lay_out_early-laid.ensures.same h)) c.commit_laid_nowait.ensures.committed

pub returns-clause-not_committed : goal.returns-clause-not_committed
returns-clause-not_committed g c =
    let sizes = c.args.latches.now.sizes in let lawful = g.L.Law.lawful sizes.pages in
    let p = c.args.pass.now in let laid = c.lay_out_early-laid.new.pass in let q = c.commit_laid_nowait.new.pass in
    each_err {P = λ fault. HasNotCommitted sizes lawful laid fault q} {Q = λ fault. HasNotCommitted sizes lawful p fault q} c.commit_laid_nowait.result
    (λ fault h. not_committed_laid sizes lawful p laid.words fault q
    (subst (λ (r : PassState). HasNotCommitted sizes lawful r fault q) c.lay_out_early-laid.ensures.same h)) c.commit_laid_nowait.ensures.not_committed

pub returns-clause-looks : goal.returns-clause-looks
returns-clause-looks g c =
    subst (λ (n : ℕ). OnOk c.commit_laid_nowait.result (c.commit_laid_nowait.new.pass.view.looks.count ≡ n + 2)) (ap (λ (p : PassState). p.view.looks.count) c.lay_out_early-laid.ensures.same) c.commit_laid_nowait.ensures.looks

pub returns-clause-most : goal.returns-clause-most
returns-clause-most g c =
    subst (λ (n : ℕ). c.commit_laid_nowait.new.pass.view.looks.count ≤ n + 2) (ap (λ (p : PassState). p.view.looks.count) c.lay_out_early-laid.ensures.same) c.commit_laid_nowait.ensures.most

pub returns-clause-waits : goal.returns-clause-waits
returns-clause-waits g c = c.commit_laid_nowait.ensures.waits ∙ ap (λ (p : PassState). p.view.looks.waits) c.lay_out_early-laid.ensures.same
