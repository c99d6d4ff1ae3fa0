use Rattle.std.proofs.Common.{◌≤◌, ◌+◌, ◌∙◌, sym, ap, arith, subst, Option, Some, None}
use Rattle.ib_map.specs.Keys.{MapKey, rank, greatest}
use Rattle.ib_map.proofs.KeyLaws.{rank-greatest}
use Rattle.std.specs.Option.{unwrap_or}
use Rattle.ib_validate.specs.Contents.{pairs_inside}
use Rattle.ib_validate.specs.Positions.{end_of}
use Rattle.ib_validate.proofs.ContentLaws.{pairs_inside-cut}
use Rattle.ib_validate.proofs.content.has_content.Goals as goal

up-to : (high : Option MapKey) → end_of high ≤ rank (unwrap_or high greatest) + 1
up-to None = let e = rank-greatest in omega arith
up-to (Some key) = omega arith

pub returns-clause-same : goal.returns-clause-same
returns-clause-same c =
    let e = ap (pairs_inside (end_of c.args.high)) c.range.ensures.pairs ∙ pairs_inside-cut c.args.map.now c.args.low c.unwrap_or.result (end_of c.args.high)
    (subst (λ (k : MapKey). end_of c.args.high ≤ rank k + 1) (sym (rw c.greatest.ensures at c.unwrap_or.ensures)) (up-to c.args.high)) in
    (λ t. c.has_pairs.ensures.same.0 t ∙ e, λ h. c.has_pairs.ensures.same.1 (h ∙ sym e))
