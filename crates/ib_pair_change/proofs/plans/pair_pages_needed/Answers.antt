-- Each tree tells what it needs, or that it cannot grow higher.
use Rattle.std.proofs.Common.{◌≡◌, inl, inr, arith}
use Rattle.std.proofs.lemmas.Result.{err_from_is_err_and}
use Rattle.ib_plans.specs.declared.fault.TreeFault.TheVariants.{TooHigh}
use Rattle.ib_pair_change.specs.PairPlans.{TooHighForPair}
use Rattle.ib_pair_change.proofs.NeedLaws.{need-most}
use Rattle.ib_pair_change.proofs.plans.pair_pages_needed.Goals as goal

pub returns-clause-needed : goal.returns-clause-needed
returns-clause-needed c pages key key2 memory bits one two =
    let a = c.in_ok-first.ensures.needed pages 1 key memory bits one in
    let b = c.in_ok-second.ensures.needed pages 2 key2 memory bits two in
    let f = need-most pages 1 key c.args.paths.now.first c.args.work.now memory bits one c.requires.there.0 a.0 in
    let g = need-most pages 2 key2 c.args.paths.now.second c.args.work.now memory bits two c.requires.there.1 b.0 in
    (a.0, b.0, a.1, b.1, (let x = a.1 in let y = b.1 in omega arith))

pub returns-in_err-first-clause-needed : goal.returns-in_err-first-clause-needed
returns-in_err-first-clause-needed c pages key key2 memory bits one two =
    let a = c.in_err-first.ensures.needed pages 1 key memory bits one in
    let p = err_from_is_err_and c.from_residual.result c.from_residual.ensures.1 in
    let both : TooHighForPair memory key key2 × (c.in_err-first.field-0.0 ≡ TooHigh) = (inl a.0, a.1) in
    rw (p.1, p.2) both

pub returns-in_err-second-clause-needed : goal.returns-in_err-second-clause-needed
returns-in_err-second-clause-needed c pages key key2 memory bits one two =
    let b = c.in_err-second.ensures.needed pages 2 key2 memory bits two in
    let p = err_from_is_err_and c.from_residual-in_err-second.result c.from_residual-in_err-second.ensures.1 in
    let both : TooHighForPair memory key key2 × (c.in_err-second.field-0.0 ≡ TooHigh) = (inr b.0, b.1) in
    rw (p.1, p.2) both
