-- The lowest free pages for both are those of the first, and behind them those of the second.
use Rattle.std.proofs.Common.{◌∙◌, ℕ, List, ap, sym, arith}
use Rattle.ib_walk.specs.Full.{chosen}
use Rattle.ib_plans.specs.Agreement.{bits_in, with_bits}
use Rattle.ib_plans.proofs.ChosenLaws.{chosen-length}
use Rattle.ib_pair_plans.proofs.TakenLaws.{chosen-both}
use Rattle.ib_pair_change.proofs.plans.choose_pair_pages.Goals as goal

pub returns-clause-chosen : goal.returns-clause-chosen
returns-clause-chosen c image there =
    let pages = c.args.pages in let need = c.args.need.first in let other = c.args.need.second in
    let bits : ℕ → ℕ = bits_in pages image in
    let n = c.in_ok-all.ensures.chosen image there in
    let r = c.parted.ensures (chosen bits pages need) (chosen (with_bits (chosen bits pages need) 1 bits) pages other) (n.0 ∙ chosen-both bits pages need other) (chosen-length bits pages need (let e = n.1 in omega arith)) in
    (r.0, r.1 ∙ ap (λ (xs : List ℕ). chosen (with_bits xs 1 bits) pages other) (sym r.0), n.1)
