-- Both parts are whole.
use Rattle.std.proofs.Common.{◌≡◌, ◌∙◌, length, length-append, ap, arith}
use Rattle.ib_pair_change.proofs.PartLaws.{parts-same, take-whole}
use Rattle.ib_pair_change.proofs.plans.parted.Goals as goal

pub returns : goal.returns
returns c front back is count =
    let inv = c.loop-at.invariant in
    let at : c.loop-at.at ≡ length c.args.path.now = let a = ap length c.pages-pages.ensures.pages in let e = c.loop-at-test.false in let f = inv.within in omega arith in
    let long = ap length is in let both = length-append front back in
    let size = inv.all (omega arith) in
    parts-same c.loop-at.first c.loop-at.second front back (inv.both ∙ (take-whole c.args.path.now c.loop-at.at at ∙ is)) (omega arith)
