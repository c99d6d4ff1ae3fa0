-- One page more is given back.
use Rattle.std.proofs.Common.{◌≡◌, ◌∙◌, ℕ, ◌+◌, ◌<◌, List, ◌∷◌, suc, arith, ap, drop, drop-cons, get_or, length, subst}
use Rattle.ib_plans.specs.Agreement.{taken_bits, with_bits}
use Rattle.ib_merge.specs.Deletes.{AreTaken}
use Rattle.ib_merge.proofs.GiveLaws.{SameBits, give-first, taken-set}
use Rattle.ib_merge.proofs.edits.give_all.Goals as goal

rest-of : (xs : List ℕ) (i : ℕ) → i < length xs → drop i xs ≡ get_or xs i 0 ∷ drop (i + 1) xs
rest-of xs i lt = drop-cons xs i 0 lt ∙ (let e : suc i ≡ i + 1 = omega arith in ap (λ k. get_or xs i 0 ∷ drop k xs) e)

pub give-requires-clause-in_range : goal.give-requires-clause-in_range
give-requires-clause-in_range c =
    (subst (AreTaken (taken_bits c.loop-page.space)) (rest-of c.args.pages.now c.loop-page.page-index c.loop-page-test.true) c.loop-page.invariant.0).1

pub give-requires-clause-taken : goal.give-requires-clause-taken
give-requires-clause-taken c =
    taken-set c.loop-page.space _ (subst (AreTaken (taken_bits c.loop-page.space)) (rest-of c.args.pages.now c.loop-page.page-index c.loop-page-test.true) c.loop-page.invariant.0).0

pub loop-page-preserved : goal.loop-page-preserved
loop-page-preserved c =
    let rest = rest-of c.args.pages.now c.loop-page.page-index c.loop-page-test.true in
    let i = c.loop-page.invariant in
    let t = give-first (get_or c.args.pages.now c.loop-page.page-index 0) (drop (c.loop-page.page-index + 1) c.args.pages.now) c.loop-page.space c.give.new.self (with_bits c.args.pages.now 0 (taken_bits c.args.space.now))
    c.give.ensures (subst (AreTaken (taken_bits c.loop-page.space)) rest i.0) (subst (λ xs. SameBits (with_bits xs 0 (taken_bits c.loop-page.space)) (with_bits c.args.pages.now 0 (taken_bits c.args.space.now))) rest i.1) in
    (t.0, t.1, λ j le. c.give.ensures.behind j le ∙ i.2 j le, c.give.ensures.size ∙ i.3)
